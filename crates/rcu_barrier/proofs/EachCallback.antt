-- For callers: a fact of each callback of a list.
use Rattle.std.proofs.Common.{◌≡◌, ◌≢◌, ℕ, zero, suc, Bool, true, false, List, [], ◌∷◌, ◌++◌, Some}
use Rattle.std.proofs.Common.{refl, subst, arith, map, set, get_or}
use Rattle.std.specs.Prelude.{slice_get}
use Rattle.rcu_cblist.specs.declared.items.Queued.{Queued}
use Rattle.rcu_cblist.specs.SegList.{Item, Of, Marker, Mark, Unmarked, Until, Done, after_migrate}
use Rattle.rcu_cblist.specs.SegList.{after_renumber, as_it_leaves, behind, from_callback, front}
use Rattle.rcu_cblist.specs.SegList.{remarked, take_answer, without_mark}

-- a fact of the one at a place, once one of them is another
pub at_set : {Y : Type 0} (P : Y → Type 0) (xs : List Y) (i c : ℕ) (y d : Y) → P d → (c ≡ i → P y)
    → (c ≢ i → P (get_or xs c d)) → P (get_or (set xs i y) c d)
at_set P [] i c y d none same other = none
at_set P (x ∷ xs) zero zero y d none same other = same refl
at_set P (x ∷ xs) zero (suc c) y d none same other = other (λ e. absurd (omega arith))
at_set P (x ∷ xs) (suc i) zero y d none same other = other (λ e. absurd (omega arith))
at_set P (x ∷ xs) (suc i) (suc c) y d none same other =
    at_set P xs i c y d none (λ e. same (omega (arith, e))) (λ n. other (λ e. n (omega (arith, e))))

module _ {X : Type 0} where
  -- one of the lists, after a renumbering
  pub renumbered_at : (lists : List (List (Item X))) (c : ℕ)
      → get_or (map after_renumber lists) c [] ≡ after_renumber (get_or lists c [])
  renumbered_at [] c = refl
  renumbered_at (xs ∷ lists) zero = refl
  renumbered_at (xs ∷ lists) (suc c) = renumbered_at lists c

  -- a fact of each callback of a list
  abbrev pub Each : (Queued X → Type 0) → List (Item X) → Type 0
  Each P [] = Unit {0}
  Each P (Marker ∷ xs) = Each P xs
  Each P (Of call mark ∷ xs) = P call × Each P xs

  pub each-append : (P : Queued X → Type 0) (xs ys : List (Item X)) → Each P xs → Each P ys
      → Each P (xs ++ ys)
  each-append P [] ys a b = b
  each-append P (Marker ∷ xs) ys a b = each-append P xs ys a b
  each-append P (Of call mark ∷ xs) ys a b = (a.0, each-append P xs ys a.1 b)

  pub each-remarked : (P : Queued X → Type 0) (f : Mark → Mark) (xs : List (Item X)) → Each P xs
      → Each P (map (remarked f) xs)
  each-remarked P f [] a = tt
  each-remarked P f (Marker ∷ xs) a = each-remarked P f xs a
  each-remarked P f (Of call mark ∷ xs) a = (a.0, each-remarked P f xs a.1)

  pub each-from : (P : Queued X → Type 0) (n : ℕ) (xs : List (Item X)) → Each P xs
      → Each P (from_callback n xs)
  each-from P n [] a = a
  each-from P n (Marker ∷ xs) a = each-from P n xs a
  each-from P zero (Of call mark ∷ xs) a = a
  each-from P (suc n) (Of call mark ∷ xs) a = each-from P n xs a.1

  pub each-front : (P : Queued X → Type 0) (xs : List (Item X)) → Each P xs → Each P (front xs)
  each-front P [] a = tt
  each-front P (Marker ∷ xs) a = each-front P xs a
  each-front P (Of call Unmarked ∷ xs) a = tt
  each-front P (Of call (Until n) ∷ xs) a = tt
  each-front P (Of call Done ∷ xs) a = (a.0, each-front P xs a.1)

  pub each-behind : (P : Queued X → Type 0) (xs : List (Item X)) → Each P xs → Each P (behind xs)
  each-behind P [] a = tt
  each-behind P (Marker ∷ xs) a = each-behind P xs a
  each-behind P (Of call Unmarked ∷ xs) a = a
  each-behind P (Of call (Until n) ∷ xs) a = a
  each-behind P (Of call Done ∷ xs) a = each-behind P xs a.1

  pub each-leaving : (P : Queued X → Type 0) (b : Bool) (xs : List (Item X)) → Each P xs
      → Each P (as_it_leaves xs b)
  each-leaving P false xs a = a
  each-leaving P true [] a = a
  each-leaving P true (x ∷ xs) a = each-append P (x ∷ xs) (Marker ∷ []) a tt

  pub each-moved : (P : Queued X → Type 0) (xs ys : List (Item X)) → Each P xs → Each P ys
      → Each P (after_migrate ys xs)
  each-moved P xs ys a b =
      each-append P (front xs ++ ys) (map without_mark (behind xs))
      (each-append P (front xs) ys (each-front P xs a) b)
      (each-remarked P (λ _. Unmarked) (behind xs) (each-behind P xs a))

  pub each-weaker : (P Q : Queued X → Type 0)
      → ((callback : Queued X) → P callback → Q callback) → (xs : List (Item X)) → Each P xs
      → Each Q xs
  each-weaker P Q f [] a = tt
  each-weaker P Q f (Marker ∷ xs) a = each-weaker P Q f xs a
  each-weaker P Q f (Of call mark ∷ xs) a = (f call a.0, each-weaker P Q f xs a.1)

  -- and so of each that a take hands out
  pub each-taken : (P : Queued X → Type 0) (xs : List (Item X)) (most at : ℕ) (call : Queued X)
      → Each P xs → slice_get (take_answer xs most) at ≡ Some call → P call
  each-taken P [] zero at call a is = absurd (cc)
  each-taken P [] (suc most) at call a is = absurd (cc)
  each-taken P (Marker ∷ xs) most at call a is = each-taken P xs most at call a is
  each-taken P (Of c mark ∷ xs) zero at call a is = absurd (cc)
  each-taken P (Of c Unmarked ∷ xs) (suc most) at call a is = absurd (cc)
  each-taken P (Of c (Until n) ∷ xs) (suc most) at call a is = absurd (cc)
  each-taken P (Of c Done ∷ xs) (suc most) zero call a is =
      let same : c ≡ call = cc in subst P same a.0
  each-taken P (Of c Done ∷ xs) (suc most) (suc at) call a is = each-taken P xs most at call a.1 is
