-- For callers: lists in which each marker is behind a callback of at most some place. If no such
-- callback is left, no marker is.
use Rattle.std.proofs.Common.{◌≡◌, ℕ, zero, suc, ◌+◌, ◌≤◌, Bool, true, false, List, [], ◌∷◌}
use Rattle.std.proofs.Common.{◌++◌, refl, ◌∙◌, subst, arith, cond, eqb, leb, map}
use Rattle.std.proofs.lemmas.Bool.Decides.{nat_tests}
use Rattle.std.proofs.lemmas.List.Sums.{sum_by-cons}
use borrow.Author.Tests.{leb-true}
use Rattle.rcu_cblist.specs.declared.items.Queued.{Queued}
use Rattle.rcu_cblist.specs.SegList.{Item, Of, Marker, Mark, Unmarked, Until, Done, after_migrate}
use Rattle.rcu_cblist.specs.SegList.{as_it_leaves, behind, from_callback, front, is_marker}
use Rattle.rcu_cblist.specs.SegList.{markers, remarked, without_mark}
use Rattle.rcu_barrier.proofs.EachCallback.{Each}
use Rattle.rcu_barrier.proofs.Places.{lies}

-- a callback is of at most this place
abbrev pub AtMost : {X : Type 0} → ℕ → Queued X → Type 0
AtMost q call = call.ord ≤ q

is_at_most : (n q : ℕ) → n ≤ q → leb n q ≡ true
is_at_most n q l = grind (arith, nat_tests)

module _ {X : Type 0} where
  -- the callback before each marker, other markers apart, is of a place at most q; and so was the
  -- callback before the list, if b is true
  abbrev pub Led : ℕ → Bool → List (Item X) → Type 0
  Led q b [] = Unit {0}
  Led q b (Marker ∷ xs) = (b ≡ true) × Led q b xs
  Led q b (Of call mark ∷ xs) = Led q (leb call.ord q) xs

  -- so no marker comes first, and the items before the list do not matter
  led_any : (q : ℕ) (b : Bool) (xs : List (Item X)) → Led q false xs → Led q b xs
  led_any q b [] l = tt
  led_any q b (Marker ∷ xs) l = absurd (let x = l.0 in cc)
  led_any q b (Of call mark ∷ xs) l = l

  pub led-append : (q : ℕ) (b : Bool) (xs ys : List (Item X)) → Led q b xs → Led q false ys
      → Led q b (xs ++ ys)
  led-append q b [] ys l m = led_any q b ys m
  led-append q b (Marker ∷ xs) ys l m = (l.0, led-append q b xs ys l.1 m)
  led-append q b (Of call mark ∷ xs) ys l m = led-append q (leb call.ord q) xs ys l m

  pub led-remarked : (q : ℕ) (b : Bool) (f : Mark → Mark) (xs : List (Item X)) → Led q b xs
      → Led q b (map (remarked f) xs)
  led-remarked q b f [] l = tt
  led-remarked q b f (Marker ∷ xs) l = (l.0, led-remarked q b f xs l.1)
  led-remarked q b f (Of call mark ∷ xs) l = led-remarked q (leb call.ord q) f xs l

  led_front : (q : ℕ) (b : Bool) (xs : List (Item X)) → Led q b xs → Led q b (front xs)
  led_front q b [] l = tt
  led_front q b (Marker ∷ xs) l = (l.0, led_front q b xs l.1)
  led_front q b (Of call Unmarked ∷ xs) l = tt
  led_front q b (Of call (Until n) ∷ xs) l = tt
  led_front q b (Of call Done ∷ xs) l = led_front q (leb call.ord q) xs l

  led_behind : (q : ℕ) (b : Bool) (xs : List (Item X)) → Led q b xs → Led q false (behind xs)
  led_behind q b [] l = tt
  led_behind q b (Marker ∷ xs) l = led_behind q b xs l.1
  led_behind q b (Of call Unmarked ∷ xs) l = l
  led_behind q b (Of call (Until n) ∷ xs) l = l
  led_behind q b (Of call Done ∷ xs) l = led_behind q (leb call.ord q) xs l

  pub led-from : (q : ℕ) (b : Bool) (k : ℕ) (xs : List (Item X)) → Led q b xs
      → Led q false (from_callback k xs)
  led-from q b k [] l = tt
  led-from q b k (Marker ∷ xs) l = led-from q b k xs l.1
  led-from q b zero (Of call mark ∷ xs) l = l
  led-from q b (suc k) (Of call mark ∷ xs) l = led-from q (leb call.ord q) k xs l

  pub led-moved : (q : ℕ) (xs ys : List (Item X)) → Led q false xs → Led q false ys
      → Led q false (after_migrate ys xs)
  led-moved q xs ys l m =
      led-append q false (front xs ++ ys) (map without_mark (behind xs))
      (led-append q false (front xs) ys (led_front q false xs l) m)
      (led-remarked q false (λ _. Unmarked) (behind xs) (led_behind q false xs l))

  -- a greater bound
  pub led-more : (q p : ℕ) (b d : Bool) (xs : List (Item X)) → q ≤ p → (b ≡ true → d ≡ true)
      → Led q b xs → Led p d xs
  led-more q p b d [] m f l = tt
  led-more q p b d (Marker ∷ xs) m f l = (f l.0, led-more q p b d xs m f l.1)
  led-more q p b d (Of call mark ∷ xs) m f l =
      led-more q p (leb call.ord q) (leb call.ord p) xs m (further call.ord q p m) l
    where
      further : (n q p : ℕ) → q ≤ p → leb n q ≡ true → leb n p ≡ true
      further n q p m i = grind (arith, nat_tests)

  -- a marker behind callbacks of places at most q
  led_marked : (q : ℕ) (b : Bool) (xs : List (Item X)) → Each (AtMost q) xs → b ≡ true
      → Led q b xs → Led q b (xs ++ Marker ∷ [])
  led_marked q b [] a i l = (i, tt)
  led_marked q b (Marker ∷ xs) a i l = (l.0, led_marked q b xs a i l.1)
  led_marked q b (Of call mark ∷ xs) a i l =
      led_marked q (leb call.ord q) xs a.1 (is_at_most call.ord q a.0) l

  pub led-leaving : (q : ℕ) (wanted : Bool) (xs : List (Item X)) → Each (AtMost q) xs
      → Led q false xs → Led q false (as_it_leaves xs wanted)
  led-leaving q false xs a l = l
  led-leaving q true [] a l = l
  led-leaving q true (Marker ∷ xs) a l = absurd (let x = l.0 in cc)
  led-leaving q true (Of call mark ∷ xs) a l =
      led_marked q (leb call.ord q) xs a.1 (is_at_most call.ord q a.0) l

  -- a list that is owed no marker
  pub led-unowed : (q : ℕ) (b : Bool) (xs : List (Item X)) → b ≡ false → Led q false xs
      → Led q false (as_it_leaves xs b)
  led-unowed q true xs i l = absurd (cc)
  led-unowed q false xs i l = l

  -- if no callback of a place at most q is left, no marker is
  pub no_marker : (q : ℕ) (xs : List (Item X)) → ((j : ℕ) → j ≤ q → lies j xs ≡ 0)
      → Led q false xs → markers xs ≡ 0
  no_marker q [] f l = refl
  no_marker q (Marker ∷ xs) f l = absurd (let x = l.0 in cc)
  no_marker q (Of call mark ∷ xs) f l =
      let i : markers xs ≡ 0 =
      no_marker q xs (λ j m. let z = f j m in omega (arith, z))
      (subst (λ b. Led q b xs) (later_one (leb call.ord q) refl) l) in
      sum_by-cons (λ x. cond {A = ℕ} (is_marker x) 1 0) (Of call mark) xs ∙ omega (arith, i)
    where
      here : (n m : ℕ) → cond {A = ℕ} (eqb n n) 1 0 + m ≡ 0 → ⊥
      here n m e = grind (arith, nat_tests)

      later_one : (b : Bool) → leb call.ord q ≡ b → leb call.ord q ≡ false
      later_one true i =
          absurd (here call.ord (lies call.ord xs) (f call.ord (leb-true call.ord q i)))
      later_one false i = i
