-- Marks that two batches show.
use Rattle.std.proofs.Common.{◌≡◌, ℕ, zero, suc, false, true, ◌+◌, ◌-◌, ◌<◌, ◌≤◌, nat_le, Some}
use Rattle.std.proofs.Common.{List, [], ◌++◌, drop, length-append, replicate, refl, ap, sym, ◌∙◌}
use Rattle.std.proofs.Common.{append_assoc, arith}
use Rattle.std.proofs.lemmas.List.{append-nil, drop_all, length-replicate}
use Rattle.std.proofs.lemmas.List.{replicate-append-replicate}
use Rattle.std.proofs.lemmas.Bool.Decides.{nat_tests}
use Rattle.rcu_seq.specs.Numbers.{Number, snapshot}
use Rattle.rcu_defer.specs.declared.marks.Batch.{Batch}
use Rattle.rcu_defer.specs.Marks.{Marking, after_advance, after_mark, due, last_from, last_number}
use Rattle.rcu_defer.specs.Marks.{shown}

-- a number that is reached, and one that is not
is_due : (n until : ℕ) → until ≤ n → nat_le until n ≡ true
is_due n until h = grind (arith, nat_tests)

not_due : (n until : ℕ) → n < until → nat_le until n ≡ false
not_due n until h = grind (arith, nat_tests)

-- a batch whose number is reached is due, and then those due behind it
due_front : (n until count : ℕ) (others : List Number) → until ≤ n →
    due n (replicate count until ++ others) ≡ due n others + count
due_front n until zero others h = omega arith
due_front n until (suc count) others h =
    let rest = due_front n until count others h in rw (is_due n until h) (omega arith)

-- no deferral of a batch is due if its number is not reached
due_none : (n until count : ℕ) → n < until → due n (replicate count until) ≡ 0
due_none n until zero h = refl
due_none n until (suc count) h = rw (not_due n until h) refl

-- the rest behind a batch
drop_front : (until count : ℕ) (others : List Number)
    → drop count (replicate count until ++ others) ≡ others
drop_front until zero others = refl
drop_front until (suc count) others = drop_front until count others

-- marks that have the same parts
same_marks : (taken d e : ℕ) (w v : List Number) (f g : ℕ) (seen : Number) → d ≡ e → w ≡ v → f ≡ g →
    let m : Marking = record { taken = taken; done = d; waiting = w; fresh = f; seen = seen } in
    m ≡ record { taken = taken; done = e; waiting = v; fresh = g; seen = seen }
same_marks taken d e w v f g seen p q r =
    λ i. record { taken = taken; done = p i; waiting = q i; fresh = r i; seen = seen }

-- an advance that reaches the first number alone
pub advanced_one : (taken done : ℕ) (first second none : Batch) (deferred seen n : ℕ)
    → none.count ≡ 0
    → first.until ≤ n
    → n < second.until
    → shown taken (done + first.count) second none deferred n
    ≡ after_advance (shown taken done first second deferred seen) n
advanced_one taken done first second none deferred seen n empty h k =
    let behind = replicate second.count second.until in
    let front = due_front n first.until first.count behind h in
    let none_behind = due_none n second.until second.count k in
    let many : due n (replicate first.count first.until ++ behind) ≡ first.count = omega arith in
    same_marks taken _ _ _ _ _ _ n (omega arith)
    (rw (many, empty) (append-nil behind ∙ sym (drop_front first.until first.count behind)))
    (omega arith)

-- one that reaches both
pub advanced_both : (taken done : ℕ) (first second none other : Batch) (deferred seen n : ℕ)
    → none.count ≡ 0
    → other.count ≡ 0
    → first.until ≤ n
    → second.until ≤ n
    → shown taken (done + first.count + second.count) none other deferred n
    ≡ after_advance (shown taken done first second deferred seen) n
advanced_both taken done first second none other deferred seen n empty bare h k =
    let front = replicate first.count first.until in
    let behind = replicate second.count second.until in
    let last : due n behind ≡ 0 + second.count =
    ap (due n) (sym (append-nil behind)) ∙ due_front n second.until second.count [] k in
    let both = due_front n first.until first.count behind h in
    let many : due n (front ++ behind) ≡ second.count + first.count = omega arith in
    same_marks taken _ _ _ _ _ _ n (omega arith) (rw (many, empty, bare) (sym (drop_all
    (second.count + first.count) (front ++ behind) (omega (
      arith,
      length-append front behind,
      length-replicate first.count first.until,
      length-replicate second.count second.until,
    ))))) (omega arith)

-- a mark if deferrals wait for the same number
pub marked_same : (taken done : ℕ) (first second now : Batch) (deferred seen : ℕ)
    → second.count ≡ 0
    → first.until ≡ snapshot seen
    → now.until ≡ first.until
    → now.count ≡ deferred - done
    → done + first.count ≤ deferred
    → shown taken done now second deferred seen
    ≡ after_mark (shown taken done first second deferred seen)
marked_same taken done first second now deferred seen bare until same all inside =
    let n = snapshot seen in
    let fresh = deferred - done - first.count - 0 in
    let count : first.count + fresh ≡ now.count = omega arith in
    same_marks taken _ _ _ _ _ _ seen refl
    (rw (bare, same, until)
    (append-nil (replicate now.count n)
    ∙ sym
    (ap (λ l. l ++ replicate fresh n) (append-nil (replicate first.count n)) ∙
    (replicate-append-replicate first.count fresh n ∙ ap (λ k. replicate k n) count))))
    (omega arith)

-- two batches for one number
joined : (count until n fresh : ℕ) → (0 < count → until ≡ n) →
    replicate count until ++ replicate fresh n ≡ replicate (count + fresh) n
joined zero until n fresh same = ap (λ k. replicate k n) (omega arith)
joined (suc count) until n fresh same =
    rw (same (omega arith)) (replicate-append-replicate (suc count) fresh n)

-- one if deferrals wait for another number
pub marked_second : (taken done : ℕ) (first second now : Batch) (deferred seen : ℕ)
    → (0 < second.count → second.until ≡ snapshot seen)
    → now.until ≡ snapshot seen
    → now.count ≡ deferred - done - first.count
    → done + first.count + second.count ≤ deferred
    → shown taken done first now deferred seen
    ≡ after_mark (shown taken done first second deferred seen)
marked_second taken done first second now deferred seen same until all inside =
    let n = snapshot seen in
    let front = replicate first.count first.until in
    let fresh = deferred - done - first.count - second.count in
    let count : second.count + fresh ≡ now.count = omega arith in
    same_marks taken _ _ _ _ _ _ seen refl
    (rw until
    (sym
    (append_assoc front (replicate second.count second.until) (replicate fresh n)
    ∙ ap (λ l. front ++ l)
    (joined second.count second.until n fresh same ∙ ap (λ k. replicate k n) count))))
    (omega arith)

-- the last number of a batch, behind one of it
last_for : (until count : ℕ) → last_from until (replicate count until) ≡ until
last_for until zero = refl
last_for until (suc count) = last_for until count

-- behind others
last_behind : (from until next a b : ℕ) → 0 < b
    → last_from from (replicate a until ++ replicate b next) ≡ next
last_behind from until next zero zero some = absurd (omega arith)
last_behind from until next zero (suc b) some = last_for next b
last_behind from until next (suc a) b some = last_behind until until next a b some

-- of two batches, if the second one has any
pub last_of_two : (until next a b : ℕ) → 0 < b →
    last_number (replicate a until ++ replicate b next) ≡ Some next
last_of_two until next zero zero some = absurd (omega arith)
last_of_two until next zero (suc b) some = ap (λ n. Some n) (last_for next b)
last_of_two until next (suc a) b some = ap (λ n. Some n) (last_behind until until next a b some)

-- of one
pub last_of_one : (until next a : ℕ) → 0 < a
    → last_number (replicate a until ++ replicate 0 next) ≡ Some until
last_of_one until next zero some = absurd (omega arith)
last_of_one until next (suc a) some =
    ap (λ n. Some n) (ap (last_from until) (append-nil (replicate a until)) ∙ last_for until a)
