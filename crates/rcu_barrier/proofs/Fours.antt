-- Numbers stay multiples of 4, and an advance leaves at most one of them below the snapshot.
use Rattle.std.proofs.Common.{◌≡◌, ℕ, zero, suc, ◌+◌, ◌-◌, ◌%◌, ◌<◌, ◌≤◌, Bool, true, false, nat_le}
use Rattle.std.proofs.Common.{nat_lt, inl, inr, List, [], ◌∷◌, ◌++◌, map, set, get_or, refl, ap}
use Rattle.std.proofs.Common.{sym, subst, ◌∙◌, arith}
use Rattle.std.specs.Prelude.{◌≢◌, if◌then◌else◌, All, Some, filter, replicate, slice_get}
use Rattle.std.proofs.lemmas.Bool.{true≢false}
use Rattle.std.proofs.lemmas.Option.{none-some, same_Some}
use Rattle.std.proofs.lemmas.Bool.{cases_Bool, cases_eq}
use Rattle.std.proofs.lemmas.List.Elements.{All-nil, All-head, All-tail, All-append, All-filter}
use Rattle.std.proofs.lemmas.List.Elements.{All-replicate, All-set, filter_passes}
use borrow.Author.Tests.{ltb-true}
use Rattle.rcu_seq.specs.Numbers.{Number, snapshot}
use Rattle.rcu_cblist.specs.declared.items.Queued.{Queued}
use Rattle.rcu_cblist.specs.SegList.{Item, Of, Marker, Unmarked, Until, Done, IsAtMost}
use Rattle.rcu_cblist.specs.SegList.{after_accelerate, after_advance, after_migrate, after_take}
use Rattle.rcu_cblist.specs.SegList.{as_it_leaves, has_other, has_two, mark_given, numbers}
use Rattle.rcu_cblist.specs.SegList.{remarked}
use Rattle.rcu_cblist.proofs.SegListLemmas.{no_two, numbers_advanced, numbers_append}
use Rattle.rcu_cblist.proofs.SegListLemmas.{numbers_entrained, numbers_given, numbers_moved}
use Rattle.rcu_cblist.proofs.SegListLemmas.{numbers_untaken, other_above, other_same}
use Rattle.rcu_barrier.specs.Tending.{AreFours, MayWait, mark_after_tend, after_tend}
use Rattle.rcu_barrier.specs.Lists.{AllFours}

-- a number is a multiple of 4
abbrev IsFour : Number → Type 0
IsFour n = n % 4 ≡ 0

-- a multiple of 4 above the number and below its snapshot is the one before the snapshot
before_snapshot : (number n : ℕ) → number % 4 ≤ 1 → n % 4 ≡ 0 → number < n → n < snapshot number →
    n + 4 ≡ snapshot number
before_snapshot number n state four over below = omega arith

-- of multiples of 4 above the number, no other one than that before the snapshot is below it
other_none : (number : ℕ) (ns : List Number)
    → number % 4 ≤ 1 → All IsFour ns → All (λ n. nat_lt number n ≡ true) ns
    → has_other (snapshot number) (snapshot number - 4) ns ≡ false
other_none number [] state fours above = refl
other_none number (n ∷ ns) state fours above =
    let s = snapshot number in
    let rest = other_none number ns state (All-tail IsFour n ns fours)
    (All-tail (λ k. nat_lt number k ≡ true) n ns above) in
    elim (cases_eq n (s - 4)) [
      | inl same ↦
          subst (λ k. has_other s k (n ∷ ns) ≡ false) same
          (other_same s n ns ∙ subst (λ k. has_other s k ns ≡ false) (sym same) rest)
      | inr differ ↦ other_above s (s - 4) n ns (not_under differ) ∙ rest
    ]
  where
    not_under : (n ≡ snapshot number - 4 → ⊥) → nat_lt n (snapshot number) ≡ false
    not_under differ = elim (cases_Bool (nat_lt n (snapshot number))) [
      | inl below ↦
          let over = ltb-true _ _ (All-head (λ k. nat_lt number k ≡ true) n ns above) in
          let before =
          before_snapshot number n state (All-head IsFour n ns fours) over (ltb-true _ _ below) in
          absurd (differ (omega arith))
      | inr over ↦ over
    ]

-- after an advance no two numbers below the snapshot differ
two_none : {X : Type 0} (number : ℕ) (xs : List (Item X)) → number % 4 ≤ 1 → AreFours xs →
    has_two (snapshot number) (numbers (after_advance xs number)) ≡ false
two_none number xs state fours =
    let left = filter (nat_lt number) (numbers xs) in
    let none = other_none number left state (All-filter (nat_lt number) IsFour (numbers xs) fours)
    (filter_passes (nat_lt number) (numbers xs)) in
    ap (has_two (snapshot number)) (numbers_advanced number xs) ∙
    no_two (snapshot number) (snapshot number - 4) left none

-- the marks of an advance and of an acceleration, one after the other
given_all : {X : Type 0} (number : ℕ) (xs : List (Item X)) →
    map (remarked (mark_given (snapshot number))) (after_advance xs number) ≡ after_tend xs number
given_all number [] = refl
given_all number (Of call mark ∷ xs) =
    ap (λ l. Of call (mark_after_tend number mark) ∷ l) (given_all number xs)
given_all number (Marker ∷ xs) = ap (λ l. Marker ∷ l) (given_all number xs)

-- an advance and an acceleration are a tend
pub tend_is : {X : Type 0} (number : ℕ) (xs : List (Item X)) → number % 4 ≤ 1 → AreFours xs →
    after_accelerate (after_advance xs number) (snapshot number) ≡ after_tend xs number
tend_is number xs state fours = rw (two_none number xs state fours) (given_all number xs)

-- an advance keeps a property of each number
advanced : {X : Type 0} (P : Number → Type 0) (number : ℕ) (xs : List (Item X)) → All P (numbers xs)
    → All P (numbers (after_advance xs number))
advanced P number xs each =
    subst (All P) (sym (numbers_advanced number xs))
    (All-filter (nat_lt number) P (numbers xs) each)

-- an advance leaves numbers within a bound
pub most_advanced : {X : Type 0} (number snap : ℕ) (xs : List (Item X)) → IsAtMost snap xs →
    IsAtMost snap (after_advance xs number)
most_advanced number snap xs within = advanced (λ n. n ≤ snap) number xs within

-- an advance leaves numbers that a callback may wait for
pub left_may_wait : {X : Type 0} (number : ℕ) (xs : List (Item X))
    → AreFours xs → IsAtMost (snapshot number) xs
    → All (MayWait number) (numbers (after_advance xs number))
left_may_wait number xs fours within =
    let above = subst (All (λ n. nat_lt number n ≡ true)) (sym (numbers_advanced number xs))
    (filter_passes (nat_lt number) (numbers xs)) in
    let most = most_advanced number (snapshot number) xs within in
    let state = advanced IsFour number xs fours in
    λ k default inside. record {
      above = ltb-true _ _ (above k default inside);
      within = most k default inside;
      state = state k default inside;
    }

-- the item is a callback without a mark
abbrev is_unmarked : {X : Type 0} → Item X → Bool
is_unmarked (Of call Unmarked) = true
is_unmarked (Of call (Until n)) = false
is_unmarked (Of call Done) = false
is_unmarked Marker = false

marked_at : {X : Type 0} (call : Queued X) (snap n : ℕ) (reached : Bool) →
    is_unmarked (Of call (mark_given snap (if reached then Done else Until n))) ≡ false
marked_at call snap n true = refl
marked_at call snap n false = refl

tended_is_marked : {X : Type 0} (number : ℕ) (item : Item X) →
    is_unmarked (remarked (mark_after_tend number) item) ≡ false
tended_is_marked number (Of call Unmarked) = refl
tended_is_marked number (Of call (Until n)) = marked_at call (snapshot number) n (nat_le n number)
tended_is_marked number (Of call Done) = refl
tended_is_marked number Marker = refl

-- a tend leaves no callback without a mark
pub none_unmarked : {X : Type 0} (number : ℕ) (xs : List (Item X)) (at : ℕ) (call : Queued X) →
    slice_get (after_tend xs number) at ≢ Some (Of call Unmarked)
none_unmarked number [] at call e = none-some _ e
none_unmarked number (item ∷ xs) zero call e =
    true≢false (sym (ap is_unmarked (same_Some _ _ e)) ∙ tended_is_marked number item)
none_unmarked number (item ∷ xs) (suc at) call e = none_unmarked number xs at call e

-- each call leaves multiples of 4: a tend
pub fours_tended : {X : Type 0} (number : ℕ) (xs : List (Item X)) → AreFours xs
    → AreFours (after_tend xs number)
fours_tended number xs fours =
    subst (λ l. AreFours l) (given_all number xs)
    (numbers_given IsFour (snapshot number) (after_advance xs number) (omega arith)
    (advanced IsFour number xs fours))

-- a list behind another
pub fours_append : {X : Type 0} (xs ys : List (Item X)) → AreFours xs → AreFours ys
    → AreFours (xs ++ ys)
fours_append xs ys fours others =
    subst (All IsFour) (sym (numbers_append xs ys))
    (All-append IsFour (numbers xs) (numbers ys) fours others)

-- a take
pub fours_untaken : {X : Type 0} (most : ℕ) (xs : List (Item X)) → AreFours xs
    → AreFours (after_take xs most)
fours_untaken most xs fours = numbers_untaken IsFour most xs fours

-- a marker, if one is owed
pub fours_leaving : {X : Type 0} (owed : Bool) (xs : List (Item X)) → AreFours xs
    → AreFours (as_it_leaves xs owed)
fours_leaving true xs fours = subst (All IsFour) (sym (numbers_entrained xs)) fours
fours_leaving false xs fours = fours

-- a migration
pub fours_moved : {X : Type 0} (xs ys : List (Item X)) → AreFours ys
    → AreFours (after_migrate ys xs)
fours_moved xs ys fours = subst (All IsFour) (sym (numbers_moved xs ys)) fours

-- each of the lists has multiples of 4
pub fours_get : {X : Type 0} (lists : List (List (Item X))) (cpu : ℕ) → AllFours lists
    → AreFours (get_or lists cpu [])
fours_get [] cpu fours = All-nil IsFour
fours_get (xs ∷ lists) zero fours = All-head (λ l. AreFours l) xs lists fours
fours_get (xs ∷ lists) (suc cpu) fours =
    fours_get lists cpu (All-tail (λ l. AreFours l) xs lists fours)

-- and another in its place too
pub fours_set : {X : Type 0} (lists : List (List (Item X))) (cpu : ℕ) (xs : List (Item X))
    → AllFours lists → AreFours xs → AllFours (set lists cpu xs)
fours_set lists cpu xs fours new = All-set (λ l. AreFours l) lists cpu xs new fours

-- empty lists have no number
pub fours_none : (X : Type 0) (n : ℕ) → AllFours {X = X} (replicate n [])
fours_none X n = All-replicate (λ l. AreFours l) n [] (All-nil IsFour)
