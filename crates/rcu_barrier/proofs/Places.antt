-- For callers: how often the callback of a place is in a list.
use Rattle.std.proofs.Common.{◌≡◌, ℕ, zero, suc, ◌+◌, Bool, true, false, List, [], ◌∷◌, ◌++◌, refl}
use Rattle.std.proofs.Common.{ap, ◌∙◌, arith, cond, eqb, map}
use Rattle.std.proofs.lemmas.List.Sums.{sum_by-cons}
use Rattle.rcu_cblist.specs.declared.items.Queued.{Queued}
use Rattle.rcu_cblist.specs.SegList.{Item, Of, Marker, Mark, Unmarked, Until, Done, behind}
use Rattle.rcu_cblist.specs.SegList.{callbacks, front, after_migrate, remarked, take_answer}
use Rattle.rcu_cblist.specs.SegList.{without_mark, after_take, as_it_leaves}
use Rattle.rcu_barrier.specs.Runs.{copies}

module _ {X : Type 0} where
  abbrev pub lies : ℕ → List (Item X) → ℕ
  lies j [] = 0
  lies j (Marker ∷ xs) = lies j xs
  lies j (Of call mark ∷ xs) = cond (eqb call.ord j) 1 0 + lies j xs

  pub copies_are : (j : ℕ) (xs : List (Item X)) → copies j (callbacks xs) ≡ lies j xs
  copies_are j [] = refl
  copies_are j (Marker ∷ xs) = copies_are j xs
  copies_are j (Of call mark ∷ xs) =
      sum_by-cons (λ (q : Queued X). cond (eqb q.ord j) 1 0) call (callbacks xs) ∙ ap
      (λ n. cond (eqb call.ord j) 1 0 + n) (copies_are j xs)

  pub lies-append : (j : ℕ) (xs ys : List (Item X)) → lies j (xs ++ ys) ≡ lies j xs + lies j ys
  lies-append j [] ys = omega arith
  lies-append j (Marker ∷ xs) ys = lies-append j xs ys
  lies-append j (Of call mark ∷ xs) ys = let i = lies-append j xs ys in omega (arith, i)

  pub lies-remarked : (j : ℕ) (f : Mark → Mark) (xs : List (Item X))
      → lies j (map (remarked f) xs) ≡ lies j xs
  lies-remarked j f [] = refl
  lies-remarked j f (Marker ∷ xs) = lies-remarked j f xs
  lies-remarked j f (Of call mark ∷ xs) =
      ap (λ n. cond (eqb call.ord j) 1 0 + n) (lies-remarked j f xs)

  -- the callbacks that a take hands out, and those that it leaves
  pub lies-cut : (j m : ℕ) (xs : List (Item X))
      → copies j (take_answer xs m) + lies j (after_take xs m) ≡ lies j xs
  lies-cut j zero [] = refl
  lies-cut j (suc m) [] = refl
  lies-cut j m (Marker ∷ xs) = lies-cut j m xs
  lies-cut j zero (Of call mark ∷ xs) = omega arith
  lies-cut j (suc m) (Of call Unmarked ∷ xs) = omega arith
  lies-cut j (suc m) (Of call (Until n) ∷ xs) = omega arith
  lies-cut j (suc m) (Of call Done ∷ xs) =
      let i = lies-cut j m xs in
      let c = sum_by-cons (λ (q : Queued X). cond (eqb q.ord j) 1 0) call (take_answer xs m) in
      omega (arith, i, c)

  -- the callbacks in the done part and behind it
  pub lies-parts : (j : ℕ) (xs : List (Item X)) → lies j (front xs) + lies j (behind xs) ≡ lies j xs
  lies-parts j [] = refl
  lies-parts j (Marker ∷ xs) = lies-parts j xs
  lies-parts j (Of call Unmarked ∷ xs) = omega arith
  lies-parts j (Of call (Until n) ∷ xs) = omega arith
  lies-parts j (Of call Done ∷ xs) = let i = lies-parts j xs in omega (arith, i)

  pub lies-leaving : (j : ℕ) (b : Bool) (xs : List (Item X))
      → lies j (as_it_leaves xs b) ≡ lies j xs
  lies-leaving j false xs = refl
  lies-leaving j true [] = refl
  lies-leaving j true (x ∷ xs) = lies-append j (x ∷ xs) (Marker ∷ []) ∙ omega arith

  pub lies-moved : (j : ℕ) (xs ys : List (Item X))
      → lies j (after_migrate ys xs) ≡ lies j xs + lies j ys
  lies-moved j xs ys =
      let q = lies-append j (front xs ++ ys) (map without_mark (behind xs)) in
      let r = lies-append j (front xs) ys in
      let t = lies-remarked j (λ _. Unmarked) (behind xs) in let u = lies-parts j xs in
      omega (arith, q, r, t, u)
