-- For callers: lemmas on the markers, the numbers and the items of lists.
use Rattle.std.proofs.Common.{◌≡◌, ℕ, zero, suc, ◌+◌, ◌≤◌, Bool, true, false, not, ◌&&◌, ◌||◌, ◌==◌}
use Rattle.std.proofs.Common.{nat_le, nat_lt, inl, inr, List, [], ◌∷◌, ◌++◌, length, map, refl, ap}
use Rattle.std.proofs.Common.{sym, subst, ◌∙◌, arith}
use Rattle.std.specs.Prelude.{if◌then◌else◌, All, filter}
use Rattle.std.specs.List.{list_any}
use Rattle.std.proofs.lemmas.Bool.{cases_eq, or_parts}
use Rattle.std.proofs.lemmas.Bool.Decides.{nat_tests}
use Rattle.std.proofs.lemmas.List.{append-nil}
use Rattle.std.proofs.lemmas.List.Elements.{All-nil, All-cons, All-head, All-tail, All-append}
use Rattle.std.proofs.lemmas.List.Elements.{All-push, All-map, All-weaker, filter_map-append}
use Rattle.std.proofs.lemmas.List.Sums.{sum_by-append, sum_by-cons}
use Rattle.rcu_seq.specs.Numbers.{Number}
use Rattle.rcu_cblist.specs.declared.items.Queued.{Queued}
use Rattle.rcu_cblist.specs.SegList.{begins_with_marker, Item, Mark, Of, Marker, Unmarked, Until}
use Rattle.rcu_cblist.specs.SegList.{Done, after_advance, after_entrain, after_migrate}
use Rattle.rcu_cblist.specs.SegList.{after_renumber, after_take, behind, from_callback, front}
use Rattle.rcu_cblist.specs.SegList.{has_other, has_two, is_empty, is_marker, mark_given}
use Rattle.rcu_cblist.specs.SegList.{mark_renumbered, markers, markers_passed, number_carried}
use Rattle.rcu_cblist.specs.SegList.{numbers, remarked, take_answer, without_mark}

-- a marker in front is one more
pub marker_more : {X : Type 0} (xs : List (Item X)) → markers (Marker ∷ xs) ≡ 1 + markers xs
marker_more xs = sum_by-cons (λ x. if is_marker x then 1 else 0) Marker xs

-- the markers of two lists together
pub markers_append : {X : Type 0} (xs ys : List (Item X))
    → markers (xs ++ ys) ≡ markers xs + markers ys
markers_append xs ys = sum_by-append (λ x. if is_marker x then 1 else 0) xs ys

-- a change of marks keeps the markers
pub markers_remarked : {X : Type 0} (change : Mark → Mark) (xs : List (Item X)) →
    markers (map (remarked change) xs) ≡ markers xs
markers_remarked change [] = refl
markers_remarked change (Of call mark ∷ xs) = markers_remarked change xs
markers_remarked change (Marker ∷ xs) =
    omega
    (arith, markers_remarked change xs, marker_more (map (remarked change) xs), marker_more xs)

-- from a callback on there are no more markers
markers_from : {X : Type 0} (n : ℕ) (xs : List (Item X)) → markers (from_callback n xs) ≤ markers xs
markers_from n [] = omega arith
markers_from n (Marker ∷ xs) = omega (arith, markers_from n xs, marker_more xs)
markers_from zero (Of call mark ∷ xs) = omega arith
markers_from (suc n) (Of call mark ∷ xs) = markers_from n xs

-- the markers that a take passes, and those that it leaves
pub markers_untaken : {X : Type 0} (most : ℕ) (xs : List (Item X)) →
    markers_passed xs most + markers (after_take xs most) ≡ markers xs
markers_untaken most xs = let fewer = markers_from (length (take_answer xs most)) xs in omega arith

-- a list that is not empty gets a marker
pub markers_entrained : {X : Type 0} (xs : List (Item X)) → is_empty xs ≡ false →
    markers (after_entrain xs) ≡ markers xs + 1
markers_entrained [] some = cc
markers_entrained (x ∷ xs) some = markers_append (x ∷ xs) (Marker ∷ [])

-- an empty one gets none
pub entrained_empty : {X : Type 0} (xs : List (Item X)) → is_empty xs ≡ true → after_entrain xs ≡ xs
entrained_empty [] none = refl
entrained_empty (x ∷ xs) none = cc

-- a list that got a marker is not empty
pub marked_some : {X : Type 0} (xs : List (Item X)) (marked : Bool)
    → marked ≡ not (is_empty xs) → marked ≡ true → is_empty xs ≡ false
marked_some [] marked is passes = let fails = sym passes ∙ is in cc
marked_some (x ∷ xs) marked is passes = refl

-- one that got none is empty
pub unmarked_none : {X : Type 0} (xs : List (Item X)) (marked : Bool)
    → marked ≡ not (is_empty xs) → marked ≡ false → is_empty xs ≡ true
unmarked_none [] marked is fails = refl
unmarked_none (x ∷ xs) marked is fails = let passes = sym fails ∙ is in cc

-- the markers of the done part and of the part behind it
pub markers_parts : {X : Type 0} (xs : List (Item X))
    → markers (front xs) + markers (behind xs) ≡ markers xs
markers_parts [] = refl
markers_parts (Marker ∷ xs) =
    omega (arith, markers_parts xs, marker_more (front xs), marker_more xs)
markers_parts (Of call Done ∷ xs) = markers_parts xs
markers_parts (Of call Unmarked ∷ xs) = omega arith
markers_parts (Of call (Until n) ∷ xs) = omega arith

-- after a migration the target has the markers of both
pub markers_moved : {X : Type 0} (xs ys : List (Item X))
    → markers (after_migrate ys xs) ≡ markers xs + markers ys
markers_moved xs ys =
    let all = markers_append (front xs ++ ys) (map without_mark (behind xs)) in
    let first = markers_append (front xs) ys in
    let rest = markers_remarked (λ _. Unmarked) (behind xs) in
    let parts = markers_parts xs in
    omega arith

-- the numbers of two lists together
pub numbers_append : {X : Type 0} (xs ys : List (Item X))
    → numbers (xs ++ ys) ≡ numbers xs ++ numbers ys
numbers_append xs ys = filter_map-append number_carried xs ys

-- a done part carries none
pub numbers_front : {X : Type 0} (xs : List (Item X)) → numbers (front xs) ≡ []
numbers_front [] = refl
numbers_front (Marker ∷ xs) = numbers_front xs
numbers_front (Of call Done ∷ xs) = numbers_front xs
numbers_front (Of call Unmarked ∷ xs) = refl
numbers_front (Of call (Until n) ∷ xs) = refl

-- nor does a list without its marks
pub numbers_unmarked : {X : Type 0} (xs : List (Item X)) → numbers (map without_mark xs) ≡ []
numbers_unmarked [] = refl
numbers_unmarked (Marker ∷ xs) = numbers_unmarked xs
numbers_unmarked (Of call mark ∷ xs) = numbers_unmarked xs

-- a marker behind a list carries none
pub numbers_entrained : {X : Type 0} (xs : List (Item X)) → numbers (after_entrain xs) ≡ numbers xs
numbers_entrained [] = refl
numbers_entrained (x ∷ xs) = numbers_append (x ∷ xs) (Marker ∷ []) ∙ append-nil (numbers (x ∷ xs))

-- after a migration the target carries its own
pub numbers_moved : {X : Type 0} (xs ys : List (Item X))
    → numbers (after_migrate ys xs) ≡ numbers ys
numbers_moved xs ys =
    rw (
      numbers_append (front xs ++ ys) (map without_mark (behind xs)),
      numbers_append (front xs) ys,
      numbers_front xs,
      numbers_unmarked (behind xs),
    ) (append-nil (numbers ys))

-- an advance leaves the numbers above it
pub numbers_advanced : {X : Type 0} (number : Number) (xs : List (Item X)) →
    numbers (after_advance xs number) ≡ filter (nat_lt number) (numbers xs)
numbers_advanced number [] = refl
numbers_advanced number (Marker ∷ xs) = numbers_advanced number xs
numbers_advanced number (Of call Unmarked ∷ xs) = numbers_advanced number xs
numbers_advanced number (Of call Done ∷ xs) = numbers_advanced number xs
numbers_advanced number (Of call (Until n) ∷ xs) =
    advanced_at call n (after_advance xs number) (nat_le n number) (nat_lt number n)
    (filter (nat_lt number) (numbers xs)) later (numbers_advanced number xs)
  where
    later : nat_lt number n ≡ not (nat_le n number)
    later = grind (arith, nat_tests)

    advanced_at : {X : Type 0} (call : Queued X) (n : Number) (xs : List (Item X))
        (reached above : Bool) (rest : List Number)
        → above ≡ not reached
        → numbers xs ≡ rest
        → numbers (Of call (if reached then Done else Until n) ∷ xs)
        ≡ (if above then n ∷ rest else rest)
    advanced_at call n xs true true rest is same = cc
    advanced_at call n xs true false rest is same = same
    advanced_at call n xs false true rest is same = ap (λ l. n ∷ l) same
    advanced_at call n xs false false rest is same = cc

-- a property of each number and of the snapshot stays one of each once the unmarked callbacks are
-- given the snapshot
pub numbers_given : {X : Type 0} (P : Number → Type 0) (snap : Number) (xs : List (Item X))
    → P snap → All P (numbers xs) → All P (numbers (map (remarked (mark_given snap)) xs))
numbers_given P snap [] new each = each
numbers_given P snap (Marker ∷ xs) new each = numbers_given P snap xs new each
numbers_given P snap (Of call Done ∷ xs) new each = numbers_given P snap xs new each
numbers_given P snap (Of call Unmarked ∷ xs) new each =
    All-cons P snap (numbers (map (remarked (mark_given snap)) xs)) new
    (numbers_given P snap xs new each)
numbers_given P snap (Of call (Until n) ∷ xs) new each =
    All-cons P n (numbers (map (remarked (mark_given snap)) xs)) (All-head P n (numbers xs) each)
    (numbers_given P snap xs new (All-tail P n (numbers xs) each))

-- if each number has a property, each has it from a callback on
numbers_from : {X : Type 0} (P : Number → Type 0) (k : ℕ) (xs : List (Item X)) → All P (numbers xs)
    → All P (numbers (from_callback k xs))
numbers_from P k [] each = each
numbers_from P k (Marker ∷ xs) each = numbers_from P k xs each
numbers_from P zero (Of call mark ∷ xs) each = each
numbers_from P (suc k) (Of call Unmarked ∷ xs) each = numbers_from P k xs each
numbers_from P (suc k) (Of call Done ∷ xs) each = numbers_from P k xs each
numbers_from P (suc k) (Of call (Until n) ∷ xs) each =
    numbers_from P k xs (All-tail P n (numbers xs) each)

-- and after a take
pub numbers_untaken : {X : Type 0} (P : Number → Type 0) (most : ℕ) (xs : List (Item X))
    → All P (numbers xs) → All P (numbers (after_take xs most))
numbers_untaken P most xs each = numbers_from P (length (take_answer xs most)) xs each

-- a number is no other than itself
pub other_same : (snap n : Number) (ns : List Number)
    → has_other snap n (n ∷ ns) ≡ has_other snap n ns
other_same snap n ns = itself (has_other snap n ns)
  where
    itself : (rest : Bool) → ((nat_lt n snap && not (n == n)) || rest) ≡ rest
    itself rest = grind (arith, nat_tests)

-- a number that is not below the snapshot is not another one either
pub other_above : (snap n k : Number) (ns : List Number) → nat_lt k snap ≡ false →
    has_other snap n (k ∷ ns) ≡ has_other snap n ns
other_above snap n k ns over = ap (λ below. (below && not (k == n)) || has_other snap n ns) over

-- if no number but n is below the snapshot, none below it has another one
pub none_other : (snap n : Number) (all some : List Number)
    → has_other snap n all ≡ false → has_other snap n some ≡ false
    → list_any (λ k. nat_lt k snap && has_other snap k all) some ≡ false
none_other snap n all [] no_other none = refl
none_other snap n all (k ∷ some) no_other none =
    let rest = none_other snap n all some no_other ((or_parts _ _ none).1) in
    elim (cases_eq k n) [
      | inl same ↦
          second_fails _ _ _ (subst (λ m. has_other snap m all ≡ false) (sym same) no_other) rest
      | inr differ ↦ first_fails _ _ _ (not_below _ differ none) rest
    ]
  where
    second_fails : (a b c : Bool) → b ≡ false → c ≡ false → ((a && b) || c) ≡ false
    second_fails true b c second others = ap (λ t. t || c) second ∙ others
    second_fails false b c second others = others

    first_fails : (a b c : Bool) → a ≡ false → c ≡ false → ((a && b) || c) ≡ false
    first_fails a b c first others = ap (λ t. (t && b) || c) first ∙ others

    not_below : (rest : Bool) → (k ≡ n → ⊥) → ((nat_lt k snap && not (k == n)) || rest) ≡ false
        → nat_lt k snap ≡ false
    not_below rest differ none = grind (arith, nat_tests)

-- so no two below it differ
pub no_two : (snap n : Number) (ns : List Number) → has_other snap n ns ≡ false
    → has_two snap ns ≡ false
no_two snap n ns none = none_other snap n ns ns none none

module _ {X : Type 0} (P : Item X → Type 0) where
  -- if each item has a property, each has it from a callback on
  each_from : (k : ℕ) (xs : List (Item X)) → All P xs → All P (from_callback k xs)
  each_from k [] each = each
  each_from k (Marker ∷ xs) each = each_from k xs (All-tail P Marker xs each)
  each_from zero (Of call mark ∷ xs) each = each
  each_from (suc k) (Of call mark ∷ xs) each = each_from k xs (All-tail P (Of call mark) xs each)

  -- after a take
  pub each_untaken : (most : ℕ) (xs : List (Item X)) → All P xs → All P (after_take xs most)
  each_untaken most xs each = each_from (length (take_answer xs most)) xs each

  -- in the done part
  pub each_front : (xs : List (Item X)) → All P xs → All P (front xs)
  each_front [] each = each
  each_front (Marker ∷ xs) each =
      All-cons P Marker (front xs) (All-head P Marker xs each)
      (each_front xs (All-tail P Marker xs each))
  each_front (Of call Done ∷ xs) each =
      All-cons P (Of call Done) (front xs) (All-head P (Of call Done) xs each)
      (each_front xs (All-tail P (Of call Done) xs each))
  each_front (Of call Unmarked ∷ xs) each = All-nil P
  each_front (Of call (Until n) ∷ xs) each = All-nil P

  -- behind it
  pub each_behind : (xs : List (Item X)) → All P xs → All P (behind xs)
  each_behind [] each = each
  each_behind (Marker ∷ xs) each = each_behind xs (All-tail P Marker xs each)
  each_behind (Of call Done ∷ xs) each = each_behind xs (All-tail P (Of call Done) xs each)
  each_behind (Of call Unmarked ∷ xs) each = each
  each_behind (Of call (Until n) ∷ xs) each = each

  -- with a marker behind the list
  pub each_entrained : (xs : List (Item X)) → P Marker → All P xs → All P (after_entrain xs)
  each_entrained [] marker each = each
  each_entrained (x ∷ xs) marker each = All-push P (x ∷ xs) Marker each marker

  -- and after a migration, if an item has it without its mark too
  pub each_moved : (xs ys : List (Item X))
      → ((x : Item X) → P x → P (without_mark x)) → All P xs → All P ys
      → All P (after_migrate ys xs)
  each_moved xs ys keeps each others =
      All-append P (front xs ++ ys) (map without_mark (behind xs))
      (All-append P (front xs) ys (each_front xs each) others)
      (All-map P without_mark (behind xs)
      (All-weaker P (λ x. P (without_mark x)) keeps (behind xs) (each_behind xs each)))

-- ---- no list begins with a marker

-- a callback at the end of a list that does not begin with a marker
pub first_queued : {X : Type 0} (xs : List (Item X)) (call : Queued X) (mark : Mark)
    → begins_with_marker xs ≡ false → begins_with_marker (xs ++ Of call mark ∷ []) ≡ false
first_queued [] call mark none = refl
first_queued (first ∷ xs) call mark none = none

-- a change of marks keeps what the first item is
pub first_remarked : {X : Type 0} (change : Mark → Mark) (xs : List (Item X)) →
    begins_with_marker (map (remarked change) xs) ≡ begins_with_marker xs
first_remarked change [] = refl
first_remarked change (Marker ∷ xs) = refl
first_remarked change (Of call mark ∷ xs) = refl

-- a list from a callback on does not begin with a marker
pub first_from : {X : Type 0} (n : ℕ) (xs : List (Item X))
    → begins_with_marker (from_callback n xs) ≡ false
first_from n [] = refl
first_from n (Marker ∷ xs) = first_from n xs
first_from zero (Of call mark ∷ xs) = refl
first_from (suc n) (Of call mark ∷ xs) = first_from n xs

-- the part behind a done part does not either once its marks are gone
first_behind : {X : Type 0} (xs : List (Item X))
    → begins_with_marker (map without_mark (behind xs)) ≡ false
first_behind [] = refl
first_behind (Marker ∷ xs) = first_behind xs
first_behind (Of call Done ∷ xs) = first_behind xs
first_behind (Of call Unmarked ∷ xs) = refl
first_behind (Of call (Until n) ∷ xs) = refl

-- a list behind another does not, if neither does
first_append : {X : Type 0} (xs ys : List (Item X))
    → begins_with_marker xs ≡ false → begins_with_marker ys ≡ false
    → begins_with_marker (xs ++ ys) ≡ false
first_append [] ys none others = others
first_append (first ∷ xs) ys none others = none

-- nor does a done part
first_front : {X : Type 0} (xs : List (Item X)) → begins_with_marker xs ≡ false
    → begins_with_marker (front xs) ≡ false
first_front [] none = refl
first_front (Marker ∷ xs) none = cc
first_front (Of call Done ∷ xs) none = refl
first_front (Of call Unmarked ∷ xs) none = refl
first_front (Of call (Until n) ∷ xs) none = refl

-- nor does a target to which a list moved
pub first_moved : {X : Type 0} (xs ys : List (Item X))
    → begins_with_marker xs ≡ false → begins_with_marker ys ≡ false
    → begins_with_marker (after_migrate ys xs) ≡ false
first_moved xs ys none others =
    first_append (front xs ++ ys) (map without_mark (behind xs))
    (first_append (front xs) ys (first_front xs none) others)
    (first_behind xs)

-- no callback carries a number after a renumbering
pub numbers_renumbered : {X : Type 0} (xs : List (Item X)) → numbers (after_renumber xs) ≡ []
numbers_renumbered [] = refl
numbers_renumbered (Marker ∷ xs) = numbers_renumbered xs
numbers_renumbered (Of call Unmarked ∷ xs) = numbers_renumbered xs
numbers_renumbered (Of call (Until n) ∷ xs) = numbers_renumbered xs
numbers_renumbered (Of call Done ∷ xs) = numbers_renumbered xs

-- and the markers stay
pub markers_renumbered : {X : Type 0} (xs : List (Item X))
    → markers (after_renumber xs) ≡ markers xs
markers_renumbered xs = markers_remarked mark_renumbered xs
