-- Lists that are renumbered, one after another.
use Rattle.std.proofs.Common.{◌≡◌, ℕ, zero, suc, ◌+◌, ◌<◌, ◌≤◌, List, [], ◌∷◌, length, map, set}
use Rattle.std.proofs.Common.{get_or, refl, ap, sym, ◌∙◌, subst, arith}
use Rattle.std.specs.Prelude.{All, ◌%◌}
use Rattle.std.proofs.lemmas.List.{length-map}
use Rattle.std.proofs.lemmas.List.Elements.{All-nil, All-map, All-weaker}
use Rattle.std.proofs.lemmas.List.Sums.{sum_by-cons}
use Rattle.rcu_cblist.specs.SegList.{Item, Segmented, after_renumber, markers}
use Rattle.rcu_cblist.proofs.SegListLemmas.{markers_renumbered, numbers_renumbered}
use Rattle.rcu_barrier.specs.Tending.{AreFours}
use Rattle.rcu_barrier.specs.Lists.{AllFours, AllLists, IsSound, items_in, list_at, markers_in}
use Rattle.rcu_barrier.proofs.Rooms.{changed_items}

module _ {X : Type 0} where
  -- the lists once the first ones have lost their numbers
  abbrev pub renumbered_to : ℕ → List (List (Item X)) → List (List (Item X))
  renumbered_to n [] = []
  renumbered_to zero (xs ∷ lists) = xs ∷ lists
  renumbered_to (suc n) (xs ∷ lists) = after_renumber xs ∷ renumbered_to n lists

  pub renumbered_none : (lists : List (List (Item X))) → lists ≡ renumbered_to 0 lists
  renumbered_none [] = refl
  renumbered_none (xs ∷ lists) = refl

  pub renumbered_all : (n : ℕ) (lists : List (List (Item X))) → length lists ≤ n
      → renumbered_to n lists ≡ map after_renumber lists
  renumbered_all n [] le = refl
  renumbered_all zero (xs ∷ lists) le = absurd (omega (arith, le))
  renumbered_all (suc n) (xs ∷ lists) le =
      ap (λ l. after_renumber xs ∷ l) (renumbered_all n lists (omega (arith, le)))

  pub long_renumbered : (n : ℕ) (lists : List (List (Item X)))
      → length (renumbered_to n lists) ≡ length lists
  long_renumbered n [] = refl
  long_renumbered zero (xs ∷ lists) = refl
  long_renumbered (suc n) (xs ∷ lists) = let rest = long_renumbered n lists in omega (arith, rest)

  one_more : (n : ℕ) (lists : List (List (Item X)))
      → n < length lists
      → set (renumbered_to n lists) n (after_renumber (list_at (renumbered_to n lists) n))
      ≡ renumbered_to (suc n) lists
  one_more n [] l = absurd (omega (arith, l))
  one_more zero (xs ∷ lists) l =
      ap (λ (ls : List (List (Item X))). after_renumber xs ∷ ls) (renumbered_none lists)
  one_more (suc n) (xs ∷ lists) l =
      ap (λ (ls : List (List (Item X))). after_renumber xs ∷ ls)
      (one_more n lists (omega (arith, l)))

  -- one list more
  pub renumbered_more : (lists : List (List (Item X))) (now : List (Segmented X)) (n : ℕ)
      (old new : Segmented X)
      → items_in now ≡ renumbered_to n lists
      → n < length lists
      → old ≡ get_or now n old
      → new.items ≡ after_renumber old.items
      → items_in (set now n new) ≡ renumbered_to (n + 1) lists
  renumbered_more lists now n old new is l read after =
      let long = ap (λ (ls : List (List (Item X))). length ls) is in
      let all = long_renumbered n lists in
      changed_items after_renumber now n old new (omega (arith, long, all, l)) read after
      ∙ ap (λ (ls : List (List (Item X))). set ls n (after_renumber (list_at ls n))) is
      ∙ one_more n lists l
      ∙ ap (λ k. renumbered_to k lists) (next n)
    where
      next : (n : ℕ) → suc n ≡ n + 1
      next n = omega arith

  -- they have as many markers
  markers_in-renumbered : (lists : List (List (Item X)))
      → markers_in (map after_renumber lists) ≡ markers_in lists
  markers_in-renumbered [] = refl
  markers_in-renumbered (xs ∷ lists) =
      let rest = markers_in-renumbered lists in
      let first = sum_by-cons markers (after_renumber xs) (map after_renumber lists) in
      let second = sum_by-cons markers xs lists in
      let same = markers_renumbered xs in omega (arith, rest, first, second, same)

  fours-renumbered : (lists : List (List (Item X))) → AllFours lists
      → AllFours (map after_renumber lists)
  fours-renumbered lists fours =
      All-map AreFours after_renumber lists
      (All-weaker AreFours (λ xs. AreFours (after_renumber xs))
      (λ xs _.
      subst (All (λ n. n % 4 ≡ 0)) (sym (numbers_renumbered xs)) (All-nil (λ n. n % 4 ≡ 0)))
      lists fours)

  -- the invariant is kept
  pub kept-renumbered : (all : AllLists X) (m : ℕ) (lists : List (List (Item X)))
      → (m ≡ markers_in all.lists) × IsSound all → lists ≡ map after_renumber all.lists
      → (m ≡ markers_in lists) × IsSound (record all { lists = lists })
  kept-renumbered all m lists k is =
      let s = k.1 in
      let count = ap markers_in is ∙ markers_in-renumbered all.lists in
      let long =
      ap (λ (ls : List (List (Item X))). length ls) is ∙ length-map all.lists after_renumber in
      let some = s.some in let few = s.few in let within = s.within in let idle = s.idle in (
        k.0 ∙ sym count,
        record {
          some = omega (arith, long, some);
          few = omega (arith, long, few);
          sized = s.sized ∙ sym long;
          within = omega (arith, long, count, within);
          idle = λ off. let none = idle off in omega (arith, count, none);
          counted = s.counted;
          most_some = s.most_some;
          most_few = s.most_few;
          fours = subst AllFours (sym is) (fours-renumbered all.lists s.fours);
        },
      )
