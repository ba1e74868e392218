-- Segments: the list of their items, before and after the calls.
use Rattle.std.proofs.Common.{◌≡◌, ◌==◌, ℕ, Bool, true, false, not, ◌<◌, ◌≤◌, max, nat_lt, nat_le}
use Rattle.std.proofs.Common.{◌&&◌, ◌||◌, if◌then◌else◌, inl, inr, Some, None, List, [], ◌∷◌, ◌++◌}
use Rattle.std.proofs.Common.{length, map, drop, refl, ap, sym, subst, ◌∙◌, append_assoc, arith}
use Rattle.std.specs.Prelude.{All, fold}
use Rattle.std.proofs.lemmas.List.{append-nil, drop_at, length-map, map-append}
use Rattle.std.proofs.lemmas.List.Elements.{All-nil, All-cons, All-head, All-tail, All-append}
use Rattle.std.proofs.lemmas.Bool.Decides.{nat_tests}
use Rattle.std.proofs.lemmas.Bool.{cases_Bool}
use Rattle.rcu_seq.specs.Numbers.{Number}
use Rattle.rcu_cblist.specs.declared.items.Entry.{Entry}
use Rattle.rcu_cblist.specs.declared.items.Entry.TheVariants as entry
use Rattle.rcu_cblist.specs.SegList.{Item, Mark, Of, Marker, Unmarked, Until, Done, IsAtMost}
use Rattle.rcu_cblist.specs.SegList.{after_accelerate, after_advance, after_renumber, behind}
use Rattle.rcu_cblist.specs.SegList.{begins_with_marker, front, front_with, greatest, has_other}
use Rattle.rcu_cblist.specs.SegList.{has_two, mark_advanced, mark_given, mark_renumbered, numbered}
use Rattle.rcu_cblist.specs.SegList.{numbers, past_numbered, remarked, segments, without_mark}
use Rattle.rcu_cblist.specs.Entries.{item_of, marked, unmarked}
use Rattle.rcu_cblist.specs.Cuts.{AreSegments}
use Rattle.rcu_cblist.specs.Segments.{joined}
use Rattle.rcu_cblist.proofs.SegListLemmas.{no_two, numbers_append}

-- a number that is reached, and one that is not
reached : (v n : ℕ) → n ≤ v → mark_advanced v (Until n) ≡ Done
reached v n least = ap (λ test. if test then Done else Until n) is
  where
    is : nat_le n v ≡ true
    is = grind (arith, nat_tests)

unreached : (v n : ℕ) → v < n → mark_advanced v (Until n) ≡ Until n
unreached v n most = ap (λ test. if test then Done else Until n) is
  where
    is : nat_le n v ≡ false
    is = grind (arith, nat_tests)

-- the result of a test of a place and a number
pub test_true : (i j m n : ℕ) (test : Bool) → test ≡ (nat_lt i j && nat_le m n) → test ≡ true
    → (i < j) × (m ≤ n)
test_true i j m n test is passes = (grind (arith, nat_tests), grind (arith, nat_tests))

pub test_false : (i j m n : ℕ) (test : Bool)
    → test ≡ (nat_lt i j && nat_le m n) → test ≡ false → i < j → n < m
test_false i j m n test is fails some = grind (arith, nat_tests)

pub below_true : (i j m n : ℕ) (test : Bool) → test ≡ (nat_lt i j && nat_lt m n) → test ≡ true
    → (i < j) × (m < n)
below_true i j m n test is passes = (grind (arith, nat_tests), grind (arith, nat_tests))

pub below_false : (i j m n : ℕ) (test : Bool)
    → test ≡ (nat_lt i j && nat_lt m n) → test ≡ false → i < j → n ≤ m
below_false i j m n test is fails some = grind (arith, nat_tests)

-- if each number below the snapshot is this one, none differs
no_other : (snap n : Number) (ns : List Number) → All (λ k. k < snap → k ≡ n) ns
    → has_other snap n ns ≡ false
no_other snap n [] each = refl
no_other snap n (k ∷ ns) each =
    let rest = no_other snap n ns (All-tail (λ k. k < snap → k ≡ n) k ns each) in
    let this : k < snap → k ≡ n = All-head (λ k. k < snap → k ≡ n) k ns each in
    elim (cases_Bool (nat_lt k snap)) [
      | inl under ↦ let same = this (grind (arith, nat_tests)) in at k (nat_lt k snap) same rest
      | inr over ↦ ap (λ t. (t && not (k == n)) || has_other snap n ns) over ∙ rest
    ]
  where
    at : (k : Number) (test : Bool) → k ≡ n → has_other snap n ns ≡ false
        → ((test && not (k == n)) || has_other snap n ns) ≡ false
    at k test same rest = grind (arith, nat_tests)

-- a number below it that is not this one does
other_found : (snap n k : Number) (ms ns : List Number) → k < snap → n < k
    → has_other snap n (ms ++ (k ∷ ns)) ≡ true
other_found snap n k [] ns under above = found (has_other snap n ns)
  where
    found : (rest : Bool) → ((nat_lt k snap && not (k == n)) || rest) ≡ true
    found rest = grind (arith, nat_tests)
other_found snap n k (m ∷ ms) ns under above =
    ap (λ rest. (nat_lt m snap && not (m == n)) || rest) (other_found snap n k ms ns under above)
    ∙ last (nat_lt m snap && not (m == n))
  where
    last : (first : Bool) → (first || true) ≡ true
    last true = refl
    last false = refl

-- a fold over two lists goes over one after the other
fold_joined : (most : Number) (ms ns : List Number)
    → fold max most (ms ++ ns) ≡ fold max (fold max most ms) ns
fold_joined most [] ns = refl
fold_joined most (m ∷ ms) ns = fold_joined (max most m) ms ns

module _ {X : Type 0} where
  -- four lists one behind another, each under its mark
  abbrev pub each_under : Mark
      → Mark → Mark → Mark → List (Entry X) → List (Entry X) → List (Entry X) → List (Entry X)
      → List (Item X)
  each_under m n o p D W R N = marked m D ++ (marked n W ++ (marked o R ++ marked p N))

  -- a change of marks, list by list
  pub marked_remarked : (change : Mark → Mark) (m : Mark) (xs : List (Entry X)) →
      map (remarked change) (marked m xs) ≡ marked (change m) xs
  marked_remarked change m [] = refl
  marked_remarked change m (entry.Call call ∷ xs) =
      ap (λ l. Of call (change m) ∷ l) (marked_remarked change m xs)
  marked_remarked change m (entry.Marker ∷ xs) = ap (λ l. Marker ∷ l) (marked_remarked change m xs)

  pub under_remarked : (change : Mark → Mark) (m n o p : Mark) (D W R N : List (Entry X)) →
      map (remarked change) (each_under m n o p D W R N)
      ≡ each_under (change m) (change n) (change o) (change p) D W R N
  under_remarked change m n o p D W R N =
      rw (
        map-append (remarked change) (marked m D) (marked n W ++ (marked o R ++ marked p N)),
        map-append (remarked change) (marked n W) (marked o R ++ marked p N),
        map-append (remarked change) (marked o R) (marked p N),
        marked_remarked change m D,
        marked_remarked change n W,
        marked_remarked change o R,
        marked_remarked change p N,
      ) refl

  -- the mark of an empty list means nothing
  marked_same : (m n : Mark) (xs : List (Entry X)) → (0 < length xs → m ≡ n)
      → marked m xs ≡ marked n xs
  marked_same m n [] same = refl
  marked_same m n (x ∷ xs) same = ap (λ k. marked k (x ∷ xs)) (same (omega arith))

  -- the two in the middle, under other marks if they have items
  pub under_same : (n o n' o' p : Mark) (D W R N : List (Entry X))
      → (0 < length W → n ≡ n') → (0 < length R → o ≡ o')
      → each_under Done n o p D W R N ≡ each_under Done n' o' p D W R N
  under_same n o n' o' p D W R N first second =
      ap (λ l. marked Done D ++ (l ++ (marked o R ++ marked p N))) (marked_same n n' W first) ∙
      ap (λ l. marked Done D ++ (marked n' W ++ (l ++ marked p N))) (marked_same o o' R second)

  -- the first two under one mark
  pub first_two : (m o p : Mark) (D W R N : List (Entry X)) →
      each_under m m o p D W R N ≡ each_under m o Unmarked p (D ++ W) R [] N
  first_two m o p D W R N =
      sym (append_assoc (marked m D) (marked m W) (marked o R ++ marked p N)) ∙
      ap (λ l. l ++ (marked o R ++ marked p N)) (sym (map-append (item_of m) D W))

  -- the list without marks is that of all items
  pub stripped : (a b : Number) (D W R N : List (Entry X)) →
      map without_mark (joined a b D W R N) ≡ unmarked (D ++ (W ++ (R ++ N)))
  stripped a b D W R N =
      under_remarked (λ _. Unmarked) Done (Until a) (Until b) Unmarked D W R N ∙
      (ap (λ l. unmarked D ++ (unmarked W ++ l)) (sym (map-append (item_of Unmarked) R N)) ∙
      (ap (λ l. unmarked D ++ l) (sym (map-append (item_of Unmarked) W (R ++ N))) ∙
      sym (map-append (item_of Unmarked) D (W ++ (R ++ N)))))

  -- an advance that reaches no number
  pub advanced_none : (v a b : Number) (D W R N : List (Entry X))
      → AreSegments a b D W R N → (0 < length W → v < a)
      → joined a b D W R N ≡ after_advance (joined a b D W R N) v
  advanced_none v a b D W R N h before =
      sym (under_remarked (mark_advanced v) Done (Until a) (Until b) Unmarked D W R N
      ∙ under_same (mark_advanced v (Until a)) (mark_advanced v (Until b)) (Until a) (Until b)
      Unmarked D W R N (λ some. unreached v a (before some)) (λ some. unreached v b (later some)))
    where
      later : 0 < length R → v < b
      later some = let lower = before (h.filled some) in let order = h.ascending some in omega arith

  -- an advance that reaches the first number alone
  pub advanced_one : (v a b : Number) (D W R N : List (Entry X)) → a ≤ v → (0 < length R → v < b) →
      joined b b (D ++ W) R [] N ≡ after_advance (joined a b D W R N) v
  advanced_one v a b D W R N least before =
      sym (under_remarked (mark_advanced v) Done (Until a) (Until b) Unmarked D W R N
      ∙ (under_same (mark_advanced v (Until a)) (mark_advanced v (Until b)) Done (Until b) Unmarked
      D W R N (λ some. reached v a least) (λ some. unreached v b (before some))
      ∙ first_two Done (Until b) Unmarked D W R N))

  -- an advance that reaches both
  pub advanced_both : (v a b : Number) (D W R N : List (Entry X)) → a ≤ v → b ≤ v →
      joined a b (D ++ (W ++ R)) [] [] N ≡ after_advance (joined a b D W R N) v
  advanced_both v a b D W R N least least_too =
      sym (under_remarked (mark_advanced v) Done (Until a) (Until b) Unmarked D W R N ∙
      (under_same (mark_advanced v (Until a)) (mark_advanced v (Until b)) Done Done Unmarked D W R N
      (λ some. reached v a least) (λ some. reached v b least_too) ∙
      (first_two Done Done Unmarked D W R N ∙ (first_two Done Unmarked Unmarked (D ++ W) R [] N ∙
      ap (λ l. marked Done l ++ unmarked N) (append_assoc D W R)))))

  -- behind the done part comes a callback that waits, or nothing
  waits_behind : (a b : Number) (D W R N : List (Entry X)) → AreSegments a b D W R N →
      (front (marked (Until a) W ++ (marked (Until b) R ++ unmarked N)) ≡ [])
      × (behind (marked (Until a) W ++ (marked (Until b) R ++ unmarked N))
      ≡ marked (Until a) W ++ (marked (Until b) R ++ unmarked N))
  waits_behind a b D (entry.Call call ∷ W) R N h = (refl, refl)
  waits_behind a b D (entry.Marker ∷ W) R N h = let first = h.wait_first in absurd cc
  waits_behind a b D [] (x ∷ R) N h = absurd (let some = h.filled (omega arith) in omega arith)
  waits_behind a b D [] [] [] h = (refl, refl)
  waits_behind a b D [] [] (entry.Call call ∷ N) h = (refl, refl)
  waits_behind a b D [] [] (entry.Marker ∷ N) h = let first = h.next_first in absurd cc

  front_done : (D : List (Entry X)) (ys : List (Item X))
      → front (marked Done D ++ ys) ≡ marked Done D ++ front ys
  front_done [] ys = refl
  front_done (entry.Call call ∷ D) ys = ap (λ l. Of call Done ∷ l) (front_done D ys)
  front_done (entry.Marker ∷ D) ys = ap (λ l. Marker ∷ l) (front_done D ys)

  behind_done : (D : List (Entry X)) (ys : List (Item X)) → behind (marked Done D ++ ys) ≡ behind ys
  behind_done [] ys = refl
  behind_done (entry.Call call ∷ D) ys = behind_done D ys
  behind_done (entry.Marker ∷ D) ys = behind_done D ys

  -- the done part is the first list
  pub front_joined : (a b : Number) (D W R N : List (Entry X)) → AreSegments a b D W R N →
      front (joined a b D W R N) ≡ marked Done D
  front_joined a b D W R N h =
      front_done D (marked (Until a) W ++ (marked (Until b) R ++ unmarked N)) ∙
      (ap (λ l. marked Done D ++ l) (waits_behind a b D W R N h).0 ∙ append-nil (marked Done D))

  -- and the part behind it is the others
  pub behind_joined : (a b : Number) (D W R N : List (Entry X)) → AreSegments a b D W R N →
      behind (joined a b D W R N) ≡ marked (Until a) W ++ (marked (Until b) R ++ unmarked N)
  behind_joined a b D W R N h =
      behind_done D (marked (Until a) W ++ (marked (Until b) R ++ unmarked N))
      ∙ (waits_behind a b D W R N h).1

  -- without marks, they are one list
  pub behind_stripped : (a b : Number) (D W R N : List (Entry X)) → AreSegments a b D W R N →
      map without_mark (behind (joined a b D W R N)) ≡ unmarked (W ++ (R ++ N))
  behind_stripped a b D W R N h =
      ap (map without_mark) (behind_joined a b D W R N h) ∙ stripped a b [] W R N

  -- a list that lost its numbers
  pub lost : (a b : Number) (D W R N : List (Entry X))
      → AreSegments a b D W R N
      → joined a b D [] [] (W ++ (R ++ N))
      ≡ front (joined a b D W R N) ++ map without_mark (behind (joined a b D W R N))
  lost a b D W R N h = rw (front_joined a b D W R N h, behind_stripped a b D W R N h) refl

  -- that is the list with each number taken away
  pub renumbered : (a b : Number) (D W R N : List (Entry X)) →
      joined a b D [] [] (W ++ (R ++ N)) ≡ after_renumber (joined a b D W R N)
  renumbered a b D W R N =
      ap (λ l. marked Done D ++ l)
      (map-append (item_of Unmarked) W (R ++ N)
      ∙ ap (λ l. unmarked W ++ l) (map-append (item_of Unmarked) R N))
      ∙ sym (under_remarked mark_renumbered Done (Until a) (Until b) Unmarked D W R N)

  -- the numbers of a list under one mark
  pub numbers_joined : (a b : Number) (D W R N : List (Entry X)) →
      numbers (joined a b D W R N) ≡ numbers (marked (Until a) W) ++ numbers (marked (Until b) R)
  numbers_joined a b D W R N =
      rw (
        numbers_append (marked Done D) (marked (Until a) W ++ (marked (Until b) R ++ unmarked N)),
        numbers_append (marked (Until a) W) (marked (Until b) R ++ unmarked N),
        numbers_append (marked (Until b) R) (unmarked N),
        numbers_done D,
        numbers_next N,
        append-nil (numbers (marked (Until b) R)),
      ) refl
    where
      numbers_done : (D : List (Entry X)) → numbers (marked Done D) ≡ []
      numbers_done [] = refl
      numbers_done (entry.Call call ∷ D) = numbers_done D
      numbers_done (entry.Marker ∷ D) = numbers_done D

      numbers_next : (N : List (Entry X)) → numbers (unmarked N) ≡ []
      numbers_next [] = refl
      numbers_next (entry.Call call ∷ N) = numbers_next N
      numbers_next (entry.Marker ∷ N) = numbers_next N

  -- if a segment has items, its number comes first, and then nothing but it
  pub numbers_led : (a : Number) (W : List (Entry X))
      → 0 < length W → begins_with_marker (unmarked W) ≡ false
      → numbers (marked (Until a) W) ≡ a ∷ numbers (marked (Until a) (drop 1 W))
  numbers_led a [] some none = absurd (omega arith)
  numbers_led a (entry.Call call ∷ W) some none = refl
  numbers_led a (entry.Marker ∷ W) some none = absurd cc

  -- a segment has its number alone
  pub numbers_same : (P : Number → Type 0) (a : Number) (W : List (Entry X))
      → (0 < length W → P a) → All P (numbers (marked (Until a) W))
  numbers_same P a [] holds = All-nil P
  numbers_same P a (entry.Call call ∷ W) holds =
      All-cons P a (numbers (marked (Until a) W)) (holds (omega arith))
      (numbers_same P a W (λ some. holds (omega arith)))
  numbers_same P a (entry.Marker ∷ W) holds = numbers_same P a W (λ some. holds (omega arith))

  -- if the numbers are at most the snapshot, those of segments with items are
  pub most_wait : (snap a b : Number) (D W R N : List (Entry X)) → AreSegments a b D W R N →
      IsAtMost snap (joined a b D W R N) → 0 < length W → a ≤ snap
  most_wait snap a b D W R N h most some =
      let all : All (λ n. n ≤ snap) (numbers (marked (Until a) W) ++ numbers (marked (Until b) R)) =
      subst (All (λ n. n ≤ snap)) (numbers_joined a b D W R N) most in
      let led : All (λ n. n ≤ snap)
      ((a ∷ numbers (marked (Until a) (drop 1 W))) ++ numbers (marked (Until b) R)) =
      subst (λ l. All (λ n. n ≤ snap) (l ++ numbers (marked (Until b) R)))
      (numbers_led a W some h.wait_first) all in
      All-head (λ n. n ≤ snap) a
      (numbers (marked (Until a) (drop 1 W)) ++ numbers (marked (Until b) R)) led

  pub most_ready : (snap a b : Number) (D W R N : List (Entry X)) → AreSegments a b D W R N →
      IsAtMost snap (joined a b D W R N) → 0 < length R → b ≤ snap
  most_ready snap a b D W R N h most some =
      let all : All (λ n. n ≤ snap) (numbers (marked (Until a) W) ++ numbers (marked (Until b) R)) =
      subst (All (λ n. n ≤ snap)) (numbers_joined a b D W R N) most in
      let led : All (λ n. n ≤ snap)
      (numbers (marked (Until a) W) ++ (b ∷ numbers (marked (Until b) (drop 1 R)))) =
      subst (λ l. All (λ n. n ≤ snap) (numbers (marked (Until a) W) ++ l))
      (numbers_led b R some h.ready_first) all in
      All-head (λ n. n ≤ snap) b (numbers (marked (Until b) (drop 1 R)))
      (All-behind (λ n. n ≤ snap) (numbers (marked (Until a) W))
      (b ∷ numbers (marked (Until b) (drop 1 R))) led)
    where
      All-behind : (P : Number → Type 0) (ms ns : List Number) → All P (ms ++ ns) → All P ns
      All-behind P [] ns each = each
      All-behind P (m ∷ ms) ns each = All-behind P ms ns (All-tail P m (ms ++ ns) each)

  -- if each number below the snapshot is the first one, no two differ
  numbers_two : (snap a b : Number) (D W R N : List (Entry X)) → (0 < length W → a < snap → a ≡ a) →
      (0 < length R → b < snap → b ≡ a) → has_two snap (numbers (joined a b D W R N)) ≡ false
  numbers_two snap a b D W R N first second =
      let one : Number → Type 0 = λ k. k < snap → k ≡ a in
      rw (numbers_joined a b D W R N)
      (no_two snap a (numbers (marked (Until a) W) ++ numbers (marked (Until b) R))
      (no_other snap a (numbers (marked (Until a) W) ++ numbers (marked (Until b) R))
      (All-append one (numbers (marked (Until a) W)) (numbers (marked (Until b) R))
      (numbers_same one a W first) (numbers_same one b R second))))

  -- if both have items and numbers below it, two differ
  two_found : (snap a b : Number) (D W R N : List (Entry X)) →
      numbers (marked (Until a) W) ≡ a ∷ numbers (marked (Until a) (drop 1 W)) →
      numbers (marked (Until b) R) ≡ b ∷ numbers (marked (Until b) (drop 1 R)) → a < b → b < snap →
      has_two snap (numbers (joined a b D W R N)) ≡ true
  two_found snap a b D W R N first second order under =
      rw (numbers_joined a b D W R N, first, second)
      (found _ _
      (other_found snap a b (a ∷ numbers (marked (Until a) (drop 1 W)))
      (numbers (marked (Until b) (drop 1 R))) under order))
    where
      found : (other rest : Bool) → other ≡ true → ((nat_lt a snap && other) || rest) ≡ true
      found other rest is = grind (arith, nat_tests)

  -- an acceleration that gives the snapshot to the last list, and puts it behind the third one
  pub accelerated_late : (snap a b : Number) (D W R N : List (Entry X)) → AreSegments a b D W R N →
      IsAtMost snap (joined a b D W R N) → (0 < length R → snap ≤ b) →
      joined a snap D W (R ++ N) [] ≡ after_accelerate (joined a b D W R N) snap
  accelerated_late snap a b D W R N h most above =
      let same : 0 < length R → b ≡ snap =
      λ some.
      (let least = above some in
      let least_too = most_ready snap a b D W R N h most some in omega arith) in
      let alone =
      numbers_two snap a b D W R N (λ some under. refl)
      (λ some under. absurd (let is = same some in omega arith)) in
      let given =
      under_remarked (mark_given snap) Done (Until a) (Until b) Unmarked D W R N
      ∙ (under_same (Until a) (Until b) (Until a) (Until snap) (Until snap) D W R N (λ some. refl)
      (λ some. ap Until (same some))
      ∙ ap (λ l. marked Done D ++ (marked (Until a) W ++ l))
      (sym (map-append (item_of (Until snap)) R N)
      ∙ sym (append-nil (marked (Until snap) (R ++ N))))) in
      rw alone (sym given)

  -- one that gives it to the last list, and puts all behind the first one together
  pub accelerated_early : (snap a b : Number) (D W R N : List (Entry X)) → AreSegments a b D W R N →
      IsAtMost snap (joined a b D W R N) → (0 < length W → snap ≤ a) →
      joined snap b D (W ++ (R ++ N)) [] [] ≡ after_accelerate (joined a b D W R N) snap
  accelerated_early snap a b D W R N h most above =
      let same : 0 < length W → a ≡ snap =
      λ some.
      (let least = above some in
      let least_too = most_wait snap a b D W R N h most some in omega arith) in
      let none : 0 < length R → ⊥ =
      λ some. (let is = same (h.filled some) in let order = h.ascending some in
      let least = most_ready snap a b D W R N h most some in omega arith) in
      let alone =
      numbers_two snap a b D W R N (λ some under. refl) (λ some under. absurd (none some)) in
      let given =
      under_remarked (mark_given snap) Done (Until a) (Until b) Unmarked D W R N
      ∙ (under_same (Until a) (Until b) (Until snap) (Until snap) (Until snap) D W R N
      (λ some. ap Until (same some)) (λ some. absurd (none some))
      ∙ ap (λ l. marked Done D ++ l)
      (ap (λ l. marked (Until snap) W ++ l) (sym (map-append (item_of (Until snap)) R N))
      ∙ (sym (map-append (item_of (Until snap)) W (R ++ N))
      ∙ sym (append-nil (marked (Until snap) (W ++ (R ++ N))))))) in
      rw alone (sym given)

  -- one that changes nothing
  pub accelerated_none : (snap a b : Number) (D W R N : List (Entry X))
      → AreSegments a b D W R N → 0 < length R → b < snap
      → joined a b D W R N ≡ after_accelerate (joined a b D W R N) snap
  accelerated_none snap a b D W R N h some below =
      rw
      (two_found snap a b D W R N (numbers_led a W (h.filled some) h.wait_first)
      (numbers_led b R some h.ready_first) (h.ascending some) below)
      refl

  -- a fold of the greatest over numbers that are no greater
  fold_same : (most a : Number) (W : List (Entry X)) → a ≤ most
      → fold max most (numbers (marked (Until a) W)) ≡ most
  fold_same most a [] within = refl
  fold_same most a (entry.Call call ∷ W) within =
      ap (λ n. fold max n (numbers (marked (Until a) W))) (omega arith) ∙ fold_same most a W within
  fold_same most a (entry.Marker ∷ W) within = fold_same most a W within

  -- the greatest number if both segments have items, if the first one has, and if none has
  pub greatest_ready : (a b : Number) (D W R N : List (Entry X))
      → AreSegments a b D W R N → 0 < length R → Some b ≡ greatest (numbers (joined a b D W R N))
  greatest_ready a b D W R N h some =
      let ms = numbers (marked (Until a) (drop 1 W)) in
      let ns = numbers (marked (Until b) (drop 1 R)) in
      let order = h.ascending some in
      let all : numbers (joined a b D W R N) ≡ (a ∷ ms) ++ (b ∷ ns) =
      numbers_joined a b D W R N ∙
      (ap (λ l. l ++ numbers (marked (Until b) R)) (numbers_led a W (h.filled some) h.wait_first) ∙
      ap (λ l. (a ∷ ms) ++ l) (numbers_led b R some h.ready_first)) in
      let first : fold max a ms ≡ a = fold_same a a (drop 1 W) (omega arith) in
      let most : fold max a (ms ++ (b ∷ ns)) ≡ b =
      fold_joined a ms (b ∷ ns) ∙ (ap (λ n. fold max (max n b) ns) first ∙
      (ap (λ n. fold max n ns) (omega arith) ∙ fold_same b b (drop 1 R) (omega arith))) in
      sym (ap greatest all ∙ ap Some most)

  pub greatest_wait : (a b : Number) (D W R N : List (Entry X))
      → AreSegments a b D W R N → 0 < length W → length R ≡ 0
      → Some a ≡ greatest (numbers (joined a b D W R N))
  greatest_wait a b D W (x ∷ R) N h some none = absurd (omega arith)
  greatest_wait a b D W [] N h some none =
      let ms = numbers (marked (Until a) (drop 1 W)) in
      let all : numbers (joined a b D W [] N) ≡ a ∷ ms =
      numbers_joined a b D W [] N ∙
      (append-nil (numbers (marked (Until a) W)) ∙ numbers_led a W some h.wait_first) in
      sym (ap greatest all ∙ ap Some (fold_same a a (drop 1 W) (omega arith)))

  pub greatest_none : (a b : Number) (D W R N : List (Entry X)) → length W ≡ 0 → length R ≡ 0 →
      None ≡ greatest (numbers (joined a b D W R N))
  greatest_none a b D (x ∷ W) R N none none_too = absurd (omega arith)
  greatest_none a b D [] (x ∷ R) N none none_too = absurd (omega arith)
  greatest_none a b D [] [] N none none_too = sym (ap greatest (numbers_joined a b D [] [] N))

  -- items with a number go to the front with it
  front_with_same : (n : Number) (W : List (Entry X)) (ys : List (Item X)) → front_with n ys ≡ [] →
      front_with n (marked (Until n) W ++ ys) ≡ marked (Until n) W
  front_with_same n [] ys none = none
  front_with_same n (entry.Call call ∷ W) ys none =
      ap (λ test. if test then Of call (Until n) ∷ front_with n (marked (Until n) W ++ ys) else [])
      is
      ∙ ap (λ l. Of call (Until n) ∷ l) (front_with_same n W ys none)
    where
      is : (n == n) ≡ true
      is = grind (arith, nat_tests)
  front_with_same n (entry.Marker ∷ W) ys none = ap (λ l. Marker ∷ l) (front_with_same n W ys none)

  -- a list that begins with no marker, and with another mark, has no front with the number
  front_with_none : (n b : Number) (R N : List (Entry X)) → (0 < length R → n < b) →
      begins_with_marker (unmarked R) ≡ false → begins_with_marker (unmarked N) ≡ false →
      front_with n (marked (Until b) R ++ unmarked N) ≡ []
  front_with_none n b (entry.Call call ∷ R) N above first second =
      ap (λ test.
      if test then Of call (Until b) ∷ front_with n (marked (Until b) R ++ unmarked N) else [])
      (differ (above (omega arith)))
    where
      differ : n < b → (b == n) ≡ false
      differ order = grind (arith, nat_tests)
  front_with_none n b (entry.Marker ∷ R) N above first second = absurd cc
  front_with_none n b [] [] above first second = refl
  front_with_none n b [] (entry.Call call ∷ N) above first second = refl
  front_with_none n b [] (entry.Marker ∷ N) above first second = absurd cc

  -- a segment with a number is the front with that number
  numbered_is : (n : Number) (W : List (Entry X)) (ys : List (Item X))
      → begins_with_marker (unmarked W) ≡ false
      → front_with n ys ≡ []
      → (length W ≡ 0 → numbered ys ≡ [])
      → numbered (marked (Until n) W ++ ys) ≡ marked (Until n) W
  numbered_is n [] ys first none nothing = nothing refl
  numbered_is n (entry.Call call ∷ W) ys first none nothing =
      ap (λ l. Of call (Until n) ∷ l) (front_with_same n W ys none)
  numbered_is n (entry.Marker ∷ W) ys first none nothing = absurd cc

  -- and the others are behind it
  past_is : (n : Number) (W : List (Entry X)) (ys : List (Item X))
      → numbered (marked (Until n) W ++ ys) ≡ marked (Until n) W →
      past_numbered (marked (Until n) W ++ ys) ≡ ys
  past_is n W ys is =
      ap (λ l. drop (length l) (marked (Until n) W ++ ys)) is ∙
      drop_at (marked (Until n) W) ys (length (marked (Until n) W)) refl

  numbered_next : (N : List (Entry X)) → begins_with_marker (unmarked N) ≡ false
      → numbered (unmarked N) ≡ []
  numbered_next [] first = refl
  numbered_next (entry.Call call ∷ N) first = refl
  numbered_next (entry.Marker ∷ N) first = absurd cc

  -- the lengths of the lists are those of the segments
  pub lengths_joined : (a b : Number) (D W R N : List (Entry X)) → AreSegments a b D W R N →
      length D ∷ length W ∷ length R ∷ length N ∷ [] ≡ segments (joined a b D W R N)
  lengths_joined a b D W R N h =
      let others = marked (Until b) R ++ unmarked N in
      let next = numbered_next N h.next_first in
      let second = numbered_is b R (unmarked N) h.ready_first
      (front_with_none b b [] N (λ some. absurd (omega arith)) refl h.next_first) (λ none. next) in
      let first = numbered_is a W others h.wait_first
      (front_with_none a b R N h.ascending h.ready_first h.next_first)
      (λ none. second ∙ empty R (no_ready none)) in
      let waiting = behind_joined a b D W R N h in
      let past : past_numbered (behind (joined a b D W R N)) ≡ others =
      ap past_numbered waiting ∙ past_is a W others first in
      sym (rw (
        front_joined a b D W R N h,
        past,
        past_is b R (unmarked N) second,
        second,
        waiting,
        first,
        length-map D (item_of Done),
        length-map W (item_of (Until a)),
        length-map R (item_of (Until b)),
        length-map N (item_of Unmarked),
      ) refl)
    where
      no_ready : length W ≡ 0 → length R ≡ 0
      no_ready none = at R h.filled
        where
          at : (R : List (Entry X)) → (0 < length R → 0 < length W) → length R ≡ 0
          at [] filled = refl
          at (x ∷ R) filled = absurd (let some = filled (omega arith) in omega arith)

      empty : (R : List (Entry X)) → length R ≡ 0 → marked (Until b) R ≡ []
      empty [] none = refl
      empty (x ∷ R) none = absurd (omega arith)
