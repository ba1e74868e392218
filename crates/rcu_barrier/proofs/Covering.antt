-- For callers: the callbacks of a list, up to a place, that have a marker behind them.
use Rattle.std.proofs.Common.{◌≡◌, ℕ, zero, suc, ◌<◌, ◌≤◌, Bool, true, false, not, ◌&&◌, List, []}
use Rattle.std.proofs.Common.{◌∷◌, ◌++◌, refl, arith, map}
use Rattle.std.proofs.lemmas.Bool.Decides.{nat_tests}
use Rattle.rcu_cblist.specs.SegList.{Item, Of, Marker, Mark, Unmarked, Until, Done, after_entrain}
use Rattle.rcu_cblist.specs.SegList.{after_migrate, as_it_leaves, from_callback, markers, remarked}
use Rattle.rcu_cblist.specs.SegList.{without_mark}
use Rattle.rcu_cblist.proofs.SegListLemmas.{marker_more, markers_append, markers_moved}
use Rattle.rcu_cblist.proofs.SegListLemmas.{markers_remarked}
use Rattle.rcu_barrier.proofs.Places.{lies}

module _ {X : Type 0} where
  -- each callback up to this place has a marker behind it
  abbrev pub Covered : ℕ → List (Item X) → Type 0
  Covered place [] = Unit {0}
  Covered place (Marker ∷ xs) = Covered place xs
  Covered place (Of call mark ∷ xs) = (call.ord ≤ place → 0 < markers xs) × Covered place xs

  pub covered-append : (b : ℕ) (xs ys : List (Item X)) → Covered b xs → Covered b ys
      → Covered b (xs ++ ys)
  covered-append b [] ys p q = q
  covered-append b (Marker ∷ xs) ys p q = covered-append b xs ys p q
  covered-append b (Of call mark ∷ xs) ys p q = (
    (λ l. let i = markers_append xs ys in let k = p.0 l in omega (arith, i, k)),
    covered-append b xs ys p.1 q,
  )

  covered-marked : (b : ℕ) (xs : List (Item X)) → Covered b (xs ++ Marker ∷ [])
  covered-marked b [] = tt
  covered-marked b (Marker ∷ xs) = covered-marked b xs
  covered-marked b (Of call mark ∷ xs) =
      ((λ l. let i = markers_append xs (Marker ∷ []) in omega (arith, i)), covered-marked b xs)

  pub covered-entrained : (b : ℕ) (xs : List (Item X)) → Covered b (after_entrain xs)
  covered-entrained b [] = tt
  covered-entrained b (x ∷ xs) = covered-marked b (x ∷ xs)

  pub covered-remarked : (b : ℕ) (f : Mark → Mark) (xs : List (Item X)) → Covered b xs
      → Covered b (map (remarked f) xs)
  covered-remarked b f [] p = tt
  covered-remarked b f (Marker ∷ xs) p = covered-remarked b f xs p
  covered-remarked b f (Of call mark ∷ xs) p = (
    (λ l. let i = markers_remarked f xs in let k = p.0 l in omega (arith, i, k)),
    covered-remarked b f xs p.1,
  )

  pub covered-from : (b n : ℕ) (xs : List (Item X)) → Covered b xs → Covered b (from_callback n xs)
  covered-from b n [] p = p
  covered-from b n (Marker ∷ xs) p = covered-from b n xs p
  covered-from b zero (Of call mark ∷ xs) p = p
  covered-from b (suc n) (Of call mark ∷ xs) p = covered-from b n xs p.1

  -- a list that is split at a place and takes in another there
  pub covered-moved : (b : ℕ) (xs ys : List (Item X)) → Covered b xs → Covered b ys
      → Covered b (after_migrate ys xs)
  covered-moved b [] ys p q = covered-append b ys [] q tt
  covered-moved b (Marker ∷ xs) ys p q = covered-moved b xs ys p q
  covered-moved b (Of call Unmarked ∷ xs) ys p q =
      covered-append b ys (map without_mark (Of call Unmarked ∷ xs)) q
      (covered-remarked b (λ _. Unmarked) (Of call Unmarked ∷ xs) p)
  covered-moved b (Of call (Until n) ∷ xs) ys p q =
      covered-append b ys (map without_mark (Of call (Until n) ∷ xs)) q
      (covered-remarked b (λ _. Unmarked) (Of call (Until n) ∷ xs) p)
  covered-moved b (Of call Done ∷ xs) ys p q = (
    (λ l. let i = markers_moved xs ys in let k = p.0 l in omega (arith, i, k)),
    covered-moved b xs ys p.1 q,
  )

  -- a list that is visited now, or was already
  pub covered-leaving : (b : ℕ) (r v : Bool) (xs : List (Item X))
      → r ≡ true → (v ≡ true → Covered b xs) → Covered b (as_it_leaves xs (r && not v))
  covered-leaving b true true xs e f = f refl
  covered-leaving b true false xs e f = covered-entrained b xs
  covered-leaving b false v xs e f = absurd (cc)

  -- if no marker is left, no such callback is
  pub none_left : (b j : ℕ) (xs : List (Item X)) → Covered b xs → markers xs ≡ 0 → j ≤ b
      → lies j xs ≡ 0
  none_left b j [] p e l = refl
  none_left b j (Marker ∷ xs) p e l = absurd (let m = marker_more xs in omega (arith, e, m))
  none_left b j (Of call mark ∷ xs) p e l =
      let i = none_left b j xs p.1 e l in
      let k : call.ord ≤ b → ⊥ = λ m. let q = p.0 m in omega (arith, q, e) in
      grind (arith, nat_tests)
