-- The effect of each event on a read section.
use Rattle.std.proofs.Common.{◌≡◌, ◌≢◌, ℕ, ◌+◌, ◌<◌, ◌≤◌, Bool, true, false, ◌&&◌, ◌∷◌, Some, None}
use Rattle.std.proofs.Common.{refl, sym, ap, ap₂, ◌∙◌, arith, cond, eqb, ltb, ne_eqb}
use Rattle.std.proofs.lemmas.Bool.Decides.{nat_tests}
use Rattle.rcu_core.specs.History.{History, depth, enter_count, exit_count, is_old, opening}
use Rattle.rcu_core.specs.History.{running, section}
use Rattle.rcu_core.specs.Replies.{Size, AreAccepted}
use Rattle.rcu_core.specs.declared.event.Event.{Event}
use Rattle.rcu_core.specs.declared.event.Event.TheVariants.{Enter, Exit, Begin}
use Rattle.std.specs.Prelude.{nat_lt}
use Rattle.rcu_core.proofs.Clocks.{before_ticks, clock, opening_accepted}
use Rattle.rcu_core.proofs.Facts.{facts}
use Rattle.rcu_core.proofs.Kept.{Turns, begin_counts, enter_counts, exit_counts, exits_le, turns}
use Rattle.rcu_core.proofs.Readers.{open_from}
use Rattle.rcu_core.proofs.Writes.{eqb_self}

deep_section : (c n : ℕ) (h x : History) → depth c h ≡ n + 1 → opening c h ≡ x
    → section c h ≡ Some x
deep_section c n h x d o =
    ap₂ (λ (b : Bool) (y : History). cond b (Some y) None) (above (depth c h) n d) o
  where
    above : (m n : ℕ) → m ≡ n + 1 → ltb 0 m ≡ true
    above m n e = grind (arith, nat_tests)

no_section : (c : ℕ) (h : History) → depth c h ≡ 0 → section c h ≡ None
no_section c h d = ap (λ (b : Bool). cond b (Some (opening c h)) None) (none (depth c h) d)
  where
    none : (m : ℕ) → m ≡ 0 → ltb 0 m ≡ false
    none m e = grind (arith, nat_tests)

same_section : (c : ℕ) (g h : History) → depth c g ≡ depth c h → opening c g ≡ opening c h
    → section c g ≡ section c h
same_section c g h d o = ap₂ (λ (n : ℕ) (y : History). cond (ltb 0 n) (Some y) None) d o

pub one_deeper : (c : ℕ) (h : History) → exit_count c h ≤ enter_count c h
    → depth c (Enter c ∷ h) ≡ depth c h + 1
one_deeper c h le = let n = enter_counts c c h in let i = eqb_self c in grind (arith, nat_tests)

pub one_less : (c : ℕ) (h : History) → 0 < depth c h → depth c h ≡ depth c (Exit c ∷ h) + 1
one_less c h l = let n = exit_counts c c h in let i = eqb_self c in grind (arith, nat_tests)

opens : (a b : Bool) (x y : History) → a ≡ true → b ≡ true → cond (a && b) x y ≡ x
opens a b x y i j = rw (i, j) refl

stays_open : (a b : Bool) (x y : History) → b ≡ false → cond (a && b) x y ≡ y
stays_open true b x y j = rw j refl
stays_open false b x y j = refl

elsewhere : (a b : Bool) (x y : History) → a ≡ false → cond (a && b) x y ≡ y
elsewhere a b x y i = rw i refl

-- an enter at depth 0 opens one, and names it
pub opened_by_enter : (s : Size) (h : History) (c : ℕ) → AreAccepted s h → depth c h ≡ 0
    → section c (Enter c ∷ h) ≡ Some (Enter c ∷ h)
opened_by_enter s h c p d =
    deep_section c (depth c h) (Enter c ∷ h) (Enter c ∷ h) (one_deeper c h (exits_le s c h p))
    (opens (eqb c c) (eqb (depth c h) 0) (Enter c ∷ h) (opening c h) (eqb_self c)
    (zero_is (depth c h) d))
  where
    zero_is : (n : ℕ) → n ≡ 0 → eqb n 0 ≡ true
    zero_is n e = grind (arith, nat_tests)

not_zero : (n : ℕ) → 0 < n → eqb n 0 ≡ false
not_zero n l = grind (arith, nat_tests)

open_is : (c : ℕ) (h : History) → 0 < depth c h → section c h ≡ Some (opening c h)
open_is c h l = ap (λ (b : Bool). cond b (Some (opening c h)) None) (above (depth c h) l)
  where
    above : (n : ℕ) → 0 < n → ltb 0 n ≡ true
    above n l = grind (arith, nat_tests)

-- a nested enter keeps it
pub kept_by_enter : (s : Size) (h : History) (c : ℕ) → AreAccepted s h → 0 < depth c h
    → section c (Enter c ∷ h) ≡ section c h
kept_by_enter s h c p l =
    deep_section c (depth c h) (Enter c ∷ h) (opening c h) (one_deeper c h (exits_le s c h p))
    (stays_open (eqb c c) (eqb (depth c h) 0) (Enter c ∷ h) (opening c h) (not_zero (depth c h) l))
    ∙ sym (open_is c h l)

-- an inner exit keeps it
pub kept_by_exit : (h : History) (c : ℕ) → 1 < depth c h → section c (Exit c ∷ h) ≡ section c h
kept_by_exit h c l =
    let one = one_less c h (omega (arith, l)) in
    open_is c (Exit c ∷ h) (omega (arith, l, one)) ∙ sym (open_is c h (omega (arith, l)))

-- an exit to depth 0 ends it
pub ended_by_exit : (h : History) (c : ℕ) → depth c h ≡ 1 → section c (Exit c ∷ h) ≡ None
ended_by_exit h c d =
    let one = one_less c h (omega (arith, d)) in no_section c (Exit c ∷ h) (omega (arith, d, one))

-- no other event changes it
pub kept_by_others : (h : History) (c : ℕ) (e : Event) → e ≢ Enter c → e ≢ Exit c
    → section c (e ∷ h) ≡ section c h
kept_by_others h c (Enter d) n m =
    let i : eqb d c ≡ false = ne_eqb d c (λ e. n (ap (λ k. Enter k) e)) in
    let counts = enter_counts c d h in
    let none : cond {A = ℕ} (eqb d c) 1 0 ≡ 0 = ap (λ (b : Bool). cond b 1 0) i in
    same_section c (Enter d ∷ h) h (omega (arith, counts, none))
    (elsewhere (eqb d c) (eqb (depth c h) 0) (Enter d ∷ h) (opening c h) i)
kept_by_others h c (Exit d) n m =
    let i : eqb d c ≡ false = ne_eqb d c (λ e. m (ap (λ k. Exit k) e)) in
    let counts = exit_counts c d h in
    let none : cond {A = ℕ} (eqb d c) 1 0 ≡ 0 = ap (λ (b : Bool). cond b 1 0) i in
    same_section c (Exit d ∷ h) h (omega (arith, counts, none)) refl
kept_by_others h c _ n m = refl

old_at_begin : (s : Size) (c : ℕ) (h : History) → AreAccepted s (Begin ∷ h) → Turns h
    → clock (opening c h) ≤ clock h → 0 < depth c h → is_old c (Begin ∷ h) ≡ true
old_at_begin s c h p t o l =
    let n = begin_counts h in let a = t.ends_le in let b = t.begins_le in let q = p.0 in
    let runs : running (Begin ∷ h) ≡ true = grind (arith, nat_tests) in
    let higher : nat_lt (clock (opening c h)) (clock (Begin ∷ h)) ≡ true =
    grind (arith, nat_tests) in
    let deep : nat_lt 0 (depth c h) ≡ true = grind (arith, nat_tests) in
    let told = before_ticks s (opening c h) (Begin ∷ h) (opening_accepted s c h p.1) p runs in
    all_three (running (Begin ∷ h)) (nat_lt 0 (depth c h)) _ runs deep (told ∙ higher)
  where
    all_three : (a b d : Bool) → a ≡ true → b ≡ true → d ≡ true → (a && (b && d)) ≡ true
    all_three a b d i j k = rw (i, j, k) refl

-- one that is open at a begin is old after it
pub old_after_begin : (s : Size) (h opened : History) (c : ℕ)
    → AreAccepted s (Begin ∷ h) → section c h ≡ Some opened → is_old c (Begin ∷ h) ≡ true
old_after_begin s h opened c p i =
    old_at_begin s c h p (turns s h p.1) (facts s c h p.1).opening_le (open_from c h opened i).deep
