-- While no grace period begins, no processor comes to be awaited.
use Rattle.std.proofs.Common.{◌≡◌, ◌≢◌, ℕ, ◌≤◌, Bool, true, false, not, ◌&&◌, ◌||◌, List, [], ◌∷◌}
use Rattle.std.proofs.Common.{◌++◌, None, refl, arith, cond}
use Rattle.std.specs.Prelude.{sum_by}
use Rattle.std.specs.List.{list_any, range_with_len}
use Rattle.std.proofs.lemmas.Bool.{or_parts}
use Rattle.std.proofs.lemmas.Bool.Decides.{nat_tests}
use Rattle.std.proofs.lemmas.List.Sums.{sum_by-cons}
use Rattle.rcu_seq.specs.Histories.{latest}
use Rattle.rcu_core.specs.History.{History, awaits, begins, hears, is_heard, online, running}
use Rattle.rcu_core.specs.History.{tag_now}
use Rattle.rcu_core.specs.Replies.{Size, fault_in, how_many, AreAccepted}
use Rattle.rcu_core.specs.Situation.{situation}
use Rattle.rcu_core.specs.declared.event.Event.{Event}
use Rattle.rcu_core.specs.declared.event.Event.TheVariants.{Begin, End, Renumber}
use Rattle.rcu_core.proofs.Kept.{Turns, end_counts, turns}

pub still_awaited : (r o a b : Bool) → (r && (o && not (a || b))) ≡ true
    → (r && (o && not b)) ≡ true
still_awaited true true false b i = i
still_awaited true true true b i = absurd (cc)
still_awaited true false a b i = absurd (cc)
still_awaited false o a b i = absurd (cc)

pub shrinks_step : (s : Size) (c : ℕ) (e : Event) (h : History) → fault_in s (situation h) e ≡ None
    → Turns h → e ≢ Begin → awaits c (e ∷ h) ≡ true → awaits c h ≡ true
shrinks_step s c Begin h p t n i = absurd (n refl)
shrinks_step s c End h p t n i =
    let u = end_counts h in let b = t.begins_le in absurd (grind (arith, nat_tests))
shrinks_step s c Renumber h p t n i = absurd (grind (arith, nat_tests))
shrinks_step s c e h p t n i =
    still_awaited (running h) (online c (latest begins h)) (hears c (tag_now h) e h)
    (is_heard c (tag_now h) h) i

pub shrinks_one : (s : Size) (h : History) (e : Event) (c : ℕ) → AreAccepted s (e ∷ h) → e ≢ Begin
    → awaits c (e ∷ h) ≡ true → awaits c h ≡ true
shrinks_one s h e c p n i = shrinks_step s c e h p.0 (turns s h p.1) n i

no_begin : (e : Event) → begins e ≡ false → e ≢ Begin
no_begin Begin i = absurd (cc)
no_begin e i = λ n. absurd (cc)

pub shrinks : (s : Size) (later h : History) (c : ℕ) → AreAccepted s (later ++ h)
    → list_any begins later ≡ false → awaits c (later ++ h) ≡ true → awaits c h ≡ true
shrinks s [] h c p n i = i
shrinks s (e ∷ later) h c p n i =
    let q = or_parts (begins e) (list_any begins later) n in
    shrinks s later h c p.1 q.1 (shrinks_one s (later ++ h) e c p (no_begin e q.0) i)

-- a sum of numbers that are no greater is no greater
pub sums_le : (f g : ℕ → ℕ) (xs : List ℕ) → ((c : ℕ) → f c ≤ g c) → sum_by f xs ≤ sum_by g xs
sums_le f g [] h = omega arith
sums_le f g (x ∷ xs) h =
    let a = sum_by-cons f x xs in
    let b = sum_by-cons g x xs in
    let i = sums_le f g xs h in
    let j = h x in omega (arith, a, b, i, j)

one_le : (a b : Bool) → (a ≡ true → b ≡ true) → cond {A = ℕ} a 1 0 ≤ cond b 1 0
one_le false b k = omega arith
one_le true true k = omega arith
one_le true false k = absurd (let x = k refl in cc)

pub counts_shrink : (s : Size) (later h : History) → AreAccepted s (later ++ h)
    → list_any begins later ≡ false
    → how_many s (λ c. awaits c (later ++ h)) ≤ how_many s (λ c. awaits c h)
counts_shrink s later h p n =
    sums_le (λ c. cond (awaits c (later ++ h)) 1 0) (λ c. cond (awaits c h) 1 0)
    (range_with_len 0 s.cpus)
    (λ c. one_le (awaits c (later ++ h)) (awaits c h) (shrinks s later h c p n))
