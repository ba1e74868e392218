-- Takes one after another: the callbacks that several hand out, and the list after them.
use Rattle.std.proofs.Common.{◌≡◌, ℕ, zero, suc, ◌+◌, ◌<◌, ◌≤◌, false, true, List, [], ◌∷◌, ◌++◌}
use Rattle.std.proofs.Common.{length, take, drop, min, refl, ap, sym, ◌∙◌, arith, length-drop}
use Rattle.std.specs.Prelude.{None, Some, option_map, slice_get}
use Rattle.std.proofs.lemmas.List.{drop_min}
use Rattle.std.proofs.Math.Seq.{take-add}
use Rattle.rcu_cblist.specs.SegList.{Item, Of, Marker, Unmarked, Until, Done, after_take}
use Rattle.rcu_cblist.specs.SegList.{begins_with_callback, begins_with_marker, callbacks}
use Rattle.rcu_cblist.specs.SegList.{from_callback, front, markers_passed, pop_answer, take_answer}
use Rattle.rcu_cblist.specs.declared.items.Queued.{Queued}
use Rattle.rcu_cblist.proofs.Lists.{length_taken}

module _ {X : Type 0} where
  -- a list that does not begin with a marker is left as it is from its first callback on
  from_first : (xs : List (Item X)) → begins_with_marker xs ≡ false → from_callback 0 xs ≡ xs
  from_first [] none = refl
  from_first (Marker ∷ xs) none = absurd cc
  from_first (Of call mark ∷ xs) none = refl

  -- a list that has a callback and does not begin with a marker begins with a callback
  pub begins_some : (xs : List (Item X)) → 0 < length (callbacks xs)
      → begins_with_marker xs ≡ false → begins_with_callback xs ≡ true
  begins_some [] some first = absurd (omega arith)
  begins_some (Marker ∷ xs) some first = absurd cc
  begins_some (Of call mark ∷ xs) some first = refl

  -- if no callback is done, a take leaves the list as it is
  pub untaken_none : (most : ℕ) (xs : List (Item X)) → begins_with_marker xs ≡ false →
      length (callbacks (front xs)) ≡ 0 → after_take xs most ≡ xs
  untaken_none most xs first none =
      let taken : length (take_answer xs most) ≡ 0 = omega (arith, length_taken most xs) in
      ap (λ n. from_callback n xs) taken ∙ from_first xs first

  -- a take of none does not change it either
  pub untaken_first : (xs : List (Item X)) → begins_with_marker xs ≡ false → after_take xs 0 ≡ xs
  untaken_first xs first =
      let taken : length (take_answer xs 0) ≡ 0 = omega (arith, length_taken 0 xs) in
      ap (λ n. from_callback n xs) taken ∙ from_first xs first

  -- a take of one hands out this callback, and passes this number of markers
  pub popped : (xs : List (Item X)) (call : Queued X) (n : ℕ) → call ∷ [] ≡ take_answer xs 1 →
      n ≡ markers_passed xs 1 → Some (call, n) ≡ pop_answer xs
  popped xs call n is count =
      ap (λ k. Some (call, k)) count
      ∙ ap (λ l. option_map (λ c. (c, markers_passed xs 1)) (slice_get l 0)) is

  -- it hands out none if none is done
  pub popped_none : (xs : List (Item X)) → length (callbacks (front xs)) ≡ 0 → None ≡ pop_answer xs
  popped_none xs none = at (callbacks (front xs)) none
    where
      counted : Queued X → Queued X × ℕ
      counted call = (call, markers_passed xs 1)

      at : (calls : List (Queued X)) → length calls ≡ 0 →
          None ≡ option_map counted (slice_get (take 1 calls) 0)
      at [] none = refl
      at (call ∷ calls) none = absurd (omega arith)

  -- from one of its callbacks on, and from one of these on
  from_both : (m n : ℕ) (xs : List (Item X))
      → from_callback m (from_callback n xs) ≡ from_callback (n + m) xs
  from_both m n [] = refl
  from_both m n (Marker ∷ xs) = from_both m n xs
  from_both m zero (Of call mark ∷ xs) =
      let none : m ≡ 0 + m = omega arith in ap (λ k. from_callback k (Of call mark ∷ xs)) none
  from_both m (suc n) (Of call mark ∷ xs) =
      let more : suc (n + m) ≡ suc n + m = omega arith in
      from_both m n xs ∙ ap (λ k. from_callback k (Of call mark ∷ xs)) more

  -- the done part of a list from one of its done callbacks on
  done_from : (n : ℕ) (xs : List (Item X)) → n ≤ length (callbacks (front xs)) →
      callbacks (front (from_callback n xs)) ≡ drop n (callbacks (front xs))
  done_from zero [] few = refl
  done_from (suc n) [] few = absurd (omega arith)
  done_from n (Marker ∷ xs) few = done_from n xs few
  done_from zero (Of call mark ∷ xs) few = refl
  done_from (suc n) (Of call Done ∷ xs) few = done_from n xs (omega arith)
  done_from (suc n) (Of call Unmarked ∷ xs) few = absurd (omega arith)
  done_from (suc n) (Of call (Until k) ∷ xs) few = absurd (omega arith)

  -- the done part of the list after a take
  pub done_left : (most : ℕ) (xs : List (Item X)) →
      callbacks (front (after_take xs most)) ≡ drop most (callbacks (front xs))
  done_left most xs =
      let done = callbacks (front xs) in
      let least : length (take_answer xs most) ≡ min most (length done) =
      omega (arith, length_taken most xs) in
      done_from (length (take_answer xs most)) xs (omega arith)
      ∙ (ap (λ n. drop n done) least ∙ drop_min most done)

  -- two takes hand out what one take of both limits does
  pub taken_both : (a b : ℕ) (xs : List (Item X)) →
      take_answer xs (a + b) ≡ take_answer xs a ++ take_answer (after_take xs a) b
  taken_both a b xs =
      take-add a b (callbacks (front xs))
      ∙ ap (λ l. take_answer xs a ++ take b l) (sym (done_left a xs))

  -- and leave the same list
  pub left_both : (a b : ℕ) (xs : List (Item X))
      → after_take xs (a + b) ≡ after_take (after_take xs a) b
  left_both a b xs =
      let first = length_taken a xs in
      let second = length_taken b (after_take xs a) in
      let both = length_taken (a + b) xs in
      let left = ap length (done_left a xs) in
      let rest = length-drop a (callbacks (front xs)) in
      let same : length (take_answer xs (a + b))
      ≡ length (take_answer xs a) + length (take_answer (after_take xs a) b) = omega arith in
      ap (λ n. from_callback n xs) same
      ∙ sym (from_both (length (take_answer (after_take xs a) b)) (length (take_answer xs a)) xs)
