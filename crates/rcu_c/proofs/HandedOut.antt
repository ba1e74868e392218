-- Values that are taken from a list of deferred ones, one after another, into a buffer.
use Rattle.std.proofs.Common.{◌≡◌, ℕ, ◌+◌, ◌<◌, Some, List, [], ◌∷◌, ◌++◌, length, drop, take}
use Rattle.std.proofs.Common.{get_or, refl, sym, ap, ◌∙◌, arith, add-zero, length-drop}
use Rattle.std.specs.Prelude.{min, slice_get, slice_set}
use Rattle.std.proofs.lemmas.List.{drop-drop, drop-set-lt, get_or-drop, take_more, take_more_set}
use Rattle.std.proofs.lemmas.Option.{get_or_from_slice_get, slice_get_within}
use Rattle.rcu_defer.specs.Marks.{Marking, after_take, ready_of}
use Rattle.rcu_defer.specs.DeferList.{Deferring, list_after_take, taken_values}

-- after this number of takes one more is left to take
one_ready : (m : Marking) (i : ℕ) → i < ready_of m → min 1 (ready_of (after_take m i)) ≡ 1
one_ready m i inside = omega arith

-- one take more
pub took_more : (s t u : Deferring ℕ) (i : ℕ)
    → i < ready_of s.marks → t ≡ list_after_take s i → u ≡ list_after_take t 1
    → u ≡ list_after_take s (i + 1)
took_more s t u i inside so_far one =
    let a : min i (ready_of s.marks) ≡ i = omega arith in
    let b : min (i + 1) (ready_of s.marks) ≡ i + 1 = omega arith in
    let c : min 1 (ready_of (after_take s.marks i)) ≡ 1 = one_ready s.marks i inside in
    let values : drop (min 1 (ready_of (after_take s.marks i)))
    (drop (min i (ready_of s.marks)) s.values)
    ≡ drop (min (i + 1) (ready_of s.marks)) s.values =
    ap (λ k. drop k (drop (min i (ready_of s.marks)) s.values)) c
    ∙ ap (λ k. drop 1 (drop k s.values)) a
    ∙ drop-drop 1 i s.values
    ∙ ap (λ k. drop k s.values) (sym b) in
    let taken : s.marks.taken + min i (ready_of s.marks) + min 1 (ready_of (after_take s.marks i))
    ≡ s.marks.taken + min (i + 1) (ready_of s.marks) = omega (arith, a, b, c) in
    one
    ∙ ap (λ l. list_after_take l 1) so_far
    ∙ ap (λ (v : List ℕ). record s {
      values = v;
      marks = record s.marks {
        taken =
            s.marks.taken + min i (ready_of s.marks) + min 1 (ready_of (after_take s.marks i));
      };
    })
    values
    ∙ ap (λ (k : ℕ). record s {
      values = drop (min (i + 1) (ready_of s.marks)) s.values;
      marks = record s.marks { taken = k };
    })
    taken

-- the first of one is the first
first_of_one : (xs : List ℕ) → slice_get (take 1 xs) 0 ≡ slice_get xs 0
first_of_one [] = refl
first_of_one (x ∷ xs) = refl

-- the next take returns the value at its place
next_is : (s t : Deferring ℕ) (i : ℕ) → i < ready_of s.marks → t ≡ list_after_take s i
    → slice_get (taken_values t 1) 0 ≡ slice_get (drop i s.values) 0
next_is s t i inside so_far =
    let a : min i (ready_of s.marks) ≡ i = omega arith in
    let c : min 1 (ready_of (after_take s.marks i)) ≡ 1 = one_ready s.marks i inside in
    ap (λ (l : Deferring ℕ). slice_get (taken_values l 1) 0) so_far
    ∙ ap (λ k. slice_get (take k (drop (min i (ready_of s.marks)) s.values)) 0) c
    ∙ first_of_one (drop (min i (ready_of s.marks)) s.values)
    ∙ ap (λ k. slice_get (drop k s.values) 0) a

-- the values so far, and the one that comes next
took_next : (i : ℕ) (xs : List ℕ) (x : ℕ) → slice_get (drop i xs) 0 ≡ Some x
    → take (i + 1) xs ≡ take i xs ++ x ∷ []
took_next i xs x is =
    let there = slice_get_within (drop i xs) 0 x is in
    let inside : i < length xs = omega (arith, length-drop i xs) in
    let value : get_or xs i x ≡ x =
    ap (λ k. get_or xs k x) (sym (add-zero i))
    ∙ (sym (get_or-drop i xs 0 x) ∙ get_or_from_slice_get (drop i xs) 0 x x is) in
    take_more xs i x inside ∙ ap (λ y. take i xs ++ y ∷ []) value

-- it is written behind them
pub wrote_more : (i x : ℕ) (now : List ℕ) (s t : Deferring ℕ)
    → i < ready_of s.marks
    → t ≡ list_after_take s i
    → Some x ≡ slice_get (taken_values t 1) 0
    → i < length now
    → take i now ≡ take i s.values
    → take (i + 1) (slice_set now i x) ≡ take (i + 1) s.values
wrote_more i x now s t ready so_far next inside same =
    take_more_set now i x inside ∙ (ap (λ l. l ++ x ∷ []) same
    ∙ sym (took_next i s.values x (sym (next ∙ next_is s t i ready so_far))))

-- and the rest of the buffer stays
pub rest_more : (i x : ℕ) (before now : List ℕ) → drop i now ≡ drop i before →
    drop (i + 1) (slice_set now i x) ≡ drop (i + 1) before
rest_more i x before now same =
    drop-set-lt (i + 1) now i x (omega arith)
    ∙ (sym (drop-drop 1 i now) ∙ (ap (drop 1) same ∙ drop-drop 1 i before))
