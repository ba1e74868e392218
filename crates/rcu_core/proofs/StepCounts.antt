-- Each step of an awaited processor changes the number of remaining steps by one.
use Rattle.std.proofs.Common.{◌≡◌, ◌≢◌, ℕ, ◌+◌, ◌<◌, Bool, true, false}
use Rattle.std.proofs.Common.{◌∷◌, refl, sym, ap}
use Rattle.std.proofs.Common.{arith, cond, eqb, ne_eqb}
use Rattle.std.proofs.lemmas.Bool.Decides.{nat_tests}
use Rattle.rcu_core.specs.History.{History, awaits, depth}
use Rattle.rcu_core.specs.History.{is_idle}
use Rattle.rcu_core.specs.Progress.{steps_left}
use Rattle.rcu_core.specs.Progress.{steps_of}
use Rattle.rcu_core.specs.Replies.{Size, AreAccepted}
use Rattle.rcu_core.specs.declared.event.Event.TheVariants.{Enter, Exit}
use Rattle.rcu_core.specs.declared.event.Event.TheVariants.{Scan, Idle, Wake}
use Rattle.rcu_core.proofs.Facts.{facts}
use Rattle.rcu_core.proofs.Kept.{enter_counts, exits_le}
use Rattle.rcu_core.proofs.Lost.{sums_are}
use Rattle.rcu_core.proofs.Once.{sums}
use Rattle.rcu_core.proofs.Sections.{one_deeper}
use Rattle.rcu_core.proofs.Writes.{eqb_self}
use Rattle.rcu_core.proofs.Ending.{exit_elsewhere, exit_less, idle_elsewhere, idle_fewer, idle_less}
use Rattle.rcu_core.proofs.Ending.{scan_elsewhere, scan_less}

-- if one processor's part changes, the number of remaining steps changes with it
pub way_is : (s : Size) (h g : History) (c : ℕ) → c < s.cpus
    → ((d : ℕ) → d ≢ c → steps_of g d ≡ steps_of h d)
    → steps_left s g + steps_of h c ≡ steps_left s h + steps_of g c
way_is s h g c l o =
    let sum = sums s.cpus (steps_of h) (steps_of g) c l o in
    let a = sums_are s.cpus (steps_of h) (steps_of h) (λ c. refl) in
    let b = sums_are s.cpus (steps_of g) (steps_of g) (λ c. refl) in
    omega (arith, sum, a, b)

-- if one processor's part gets smaller, so does the number of remaining steps, by as much
one_step : (s : Size) (h g : History) (c : ℕ) → c < s.cpus
    → ((d : ℕ) → d ≢ c → steps_of g d ≡ steps_of h d)
    → steps_of g c + 1 ≡ steps_of h c
    → steps_left s g + 1 ≡ steps_left s h
one_step s h g c l others less = let w = way_is s h g c l others in omega (arith, w, less)

pub exit_counts_one : (s : Size) (h : History) (c : ℕ) → AreAccepted s (Exit c ∷ h)
    → awaits c h ≡ true → steps_left s (Exit c ∷ h) + 1 ≡ steps_left s h
exit_counts_one s h c p a =
    let q = p.0 in
    let l : c < s.cpus = grind (arith, nat_tests) in
    let d : 0 < depth c h = grind (arith, nat_tests) in
    one_step s h (Exit c ∷ h) c l (exit_elsewhere h c) (exit_less h c a d)

pub idle_counts_one : (s : Size) (h : History) (c : ℕ) → AreAccepted s (Idle c ∷ h)
    → awaits c h ≡ true → steps_left s (Idle c ∷ h) + 1 ≡ steps_left s h
idle_counts_one s h c p a =
    let q = p.0 in
    let l : c < s.cpus = grind (arith, nat_tests) in
    let i : is_idle c h ≡ false = grind (arith, nat_tests) in
    one_step s h (Idle c ∷ h) c l (idle_elsewhere h c) (idle_less h c a i)

pub scan_counts_one : (s : Size) (h : History) (c : ℕ) → AreAccepted s (Scan c ∷ h)
    → awaits c h ≡ true → steps_left s (Scan c ∷ h) + 1 ≡ steps_left s h
scan_counts_one s h c p a =
    let q = p.0 in
    let l : c < s.cpus = grind (arith, nat_tests) in
    let i : is_idle c h ≡ true = grind (arith, nat_tests) in
    let d = (facts s c h p.1).at_idle i in
    one_step s h (Scan c ∷ h) c l (scan_elsewhere h c) (scan_less h c a d i)

pub enter_counts_one : (s : Size) (h : History) (c : ℕ) → AreAccepted s (Enter c ∷ h)
    → awaits c h ≡ true → steps_left s (Enter c ∷ h) ≡ steps_left s h + 1
enter_counts_one s h c p a =
    let q = p.0 in
    let l : c < s.cpus = grind (arith, nat_tests) in
    let w = way_is s h (Enter c ∷ h) c l (λ d n. entered_elsewhere d n) in
    let m = enter_more (awaits c h) (is_idle c h) (depth c (Enter c ∷ h)) (depth c h) a
    (one_deeper c h (exits_le s c h p.1)) in
    omega (arith, w, m)
  where
    enter_more : (b i : Bool) (m n : ℕ) → b ≡ true → m ≡ n + 1
        → cond b (m + cond i 1 2) 0 ≡ cond b (n + cond i 1 2) 0 + 1
    enter_more true i m n j e = omega (arith, e)
    enter_more false i m n j e = absurd (cc)

    entered_elsewhere : (d : ℕ) → d ≢ c → steps_of (Enter c ∷ h) d ≡ steps_of h d
    entered_elsewhere d n =
        let counts = enter_counts d c h in
        let none : cond {A = ℕ} (eqb c d) 1 0 ≡ 0 =
        ap (λ b. cond {A = ℕ} b 1 0) (ne_eqb c d (λ i. n (sym i))) in
        let same : depth d (Enter c ∷ h) ≡ depth d h = omega (arith, counts, none) in
        ap (λ k. cond (awaits d h) (k + cond (is_idle d h) 1 2) 0) same

pub wake_counts_one : (s : Size) (h : History) (c : ℕ) → AreAccepted s (Wake c ∷ h)
    → awaits c h ≡ true → steps_left s (Wake c ∷ h) ≡ steps_left s h + 1
wake_counts_one s h c p a =
    let q = p.0 in
    let l : c < s.cpus = grind (arith, nat_tests) in
    let i : is_idle c h ≡ true = grind (arith, nat_tests) in
    let w = way_is s h (Wake c ∷ h) c l
    (λ d n.
    ap (λ b. cond (awaits d h) (depth d h + cond (cond b false (is_idle d h)) 1 2) 0)
    (ne_eqb c d (λ i. n (sym i)))) in
    let m = idle_fewer (awaits c h) (is_idle c (Wake c ∷ h)) (is_idle c h) (depth c h) a
    (ap (λ b. cond b false (is_idle c h)) (eqb_self c)) i in
    omega (arith, w, m)
