-- Counts and lists of the processors that pass a test.
use Rattle.std.proofs.Common.{◌≡◌, ℕ, ◌+◌, ◌<◌, ◌≤◌, Bool, true, false, not, cond, List, [], ◌∷◌}
use Rattle.std.proofs.Common.{◌++◌, length, get_or, zero, suc, inl, inr, refl, sym, ap, ◌∙◌}
use Rattle.std.proofs.Common.{append-nil, arith}
use Rattle.std.proofs.Math.Nat.{eq-or-lt_of_le}
use Rattle.std.proofs.lemmas.List.{length-append}
use Rattle.std.specs.Prelude.{filter, count_by, sum_by}
use Rattle.std.specs.List.{range_with_len}
use Rattle.std.proofs.lemmas.List.FromFn.{fill_by_all, length-range_with_len, get_or-range_with_len}
use Rattle.std.proofs.lemmas.List.Sums.{get_or-le-sum_by, length-filter}
use Rattle.rcu_node.specs.CpuSet.{is_in, size_of}
use Rattle.rcu_node.proofs.CpuSetLemmas.{count_by-is_in}
use Rattle.rcu_node.proofs.RangeLemmas.{filter-range_more, sum_by-map}
use Rattle.rcu_cblist.specs.SegList.{Item, markers}
use Rattle.rcu_barrier.specs.Lists.{markers_in, unvisited}

-- the lists have as many markers as the lists of the processors together
pub markers_of_each : (lists : List (List (Item ℕ))) (n : ℕ) → n ≡ length lists
    → sum_by (λ c. markers (get_or lists c [])) (range_with_len 0 n) ≡ markers_in lists
markers_of_each lists n e =
    sym
    (sum_by-map (λ (xs : List (Item ℕ)). markers xs) (λ c. get_or lists c []) (range_with_len 0 n))
    ∙ ap (λ (ls : List (List (Item ℕ))). sum_by (λ (xs : List (Item ℕ)). markers xs) ls)
    (sym (fill_by_all (λ c. get_or lists c []) lists n [] (sym e) (λ k lt. refl)))

-- as many processors are unvisited as fail the test of a visit
pub unvisited_of_each : (flags : List Bool) (n : ℕ) → n ≡ length flags
    → count_by (λ c. not (is_in flags c)) (range_with_len 0 n) ≡ unvisited flags
unvisited_of_each flags n e =
    sym (sum_by-map (λ flag. cond (not flag) 1 0) (is_in flags) (range_with_len 0 n))
    ∙ ap (λ (fs : List Bool). count_by (λ flag. not flag) fs)
    (sym (fill_by_all (is_in flags) flags n false (sym e) (λ k lt. refl)))

at_most_none : (b : Bool) (n : ℕ) → cond b 1 0 ≤ n → n ≡ 0 → b ≡ false
at_most_none true n le e = absurd (omega arith)
at_most_none false n le e = refl

-- if no processor passes a test, each of them fails it
pub none_passes : (n : ℕ) (p : ℕ → Bool) → count_by p (range_with_len 0 n) ≡ 0 → (c : ℕ) → c < n
    → p c ≡ false
none_passes n p e c lt =
    let here : c < length (range_with_len 0 n) = omega (arith, length-range_with_len 0 n) in
    let le : cond (p (get_or (range_with_len 0 n) c 0)) 1 0 ≤ count_by p (range_with_len 0 n) =
    get_or-le-sum_by (λ k. cond (p k) 1 0) (range_with_len 0 n) c 0 here in
    let at : get_or (range_with_len 0 n) c 0 ≡ c = get_or-range_with_len 0 n c 0 lt ∙ omega arith in
    at_most_none (p c) _ (rw at at le) e

-- one processor more, which passes
pub which_yes : (p : ℕ → Bool) (n : ℕ) (old new : List ℕ)
    → p n ≡ true → old ≡ filter p (range_with_len 0 n) → new ≡ old ++ n ∷ []
    → new ≡ filter p (range_with_len 0 (n + 1))
which_yes p n old new passes so_far grown = grown ∙ ap (λ (l : List ℕ). l ++ n ∷ []) so_far
    ∙ sym (filter-range_more p n ∙ rw passes refl)

-- one processor more, which fails
pub which_no : (p : ℕ → Bool) (n : ℕ) (old new : List ℕ)
    → p n ≡ false → old ≡ filter p (range_with_len 0 n) → new ≡ old
    → new ≡ filter p (range_with_len 0 (n + 1))
which_no p n old new fails so_far same = same ∙ so_far
    ∙ sym (filter-range_more p n ∙ rw fails (append-nil (filter p (range_with_len 0 n))))

-- as many of one number more pass, and that one if it does
one_more : (p : ℕ → Bool) (n : ℕ) → length (filter p (range_with_len 0 (n + 1)))
    ≡ length (filter p (range_with_len 0 n)) + cond (p n) 1 0
one_more p n =
    ap (λ (l : List ℕ). length l) (filter-range_more p n)
    ∙ length-append (filter p (range_with_len 0 n)) (cond (p n) (n ∷ []) [])
    ∙ ap (λ k. length (filter p (range_with_len 0 n)) + k) (of_one (p n))
  where
    of_one : (b : Bool) → length (cond b (n ∷ []) []) ≡ cond b 1 0
    of_one true = refl
    of_one false = refl

-- before a number that passes there are fewer that pass than in all
fewer_before : (p : ℕ → Bool) (c n : ℕ) → c < n → p c ≡ true
    → length (filter p (range_with_len 0 c)) < length (filter p (range_with_len 0 n))
fewer_before p c zero l i = absurd (omega (arith, l))
fewer_before p c (suc n) l i =
    let more = one_more p n in
    let next : suc n ≡ n + 1 = omega arith in
    let longer = ap (λ k. length (filter p (range_with_len 0 k))) next in
    elim (eq-or-lt_of_le {n = c} {m = n} (omega (arith, l))) [
      | inl at ↦
          let one : cond {A = ℕ} (p n) 1 0 ≡ 1 = rw (← at, i) refl in
          let here = ap (λ k. length (filter p (range_with_len 0 k))) at in
          omega (arith, more, one, here, longer)
      | inr before ↦ let fewer = fewer_before p c n before i in omega (arith, more, fewer, longer)
    ]

-- the list of the processors of a set has room for one more before each of them
pub has_room : (set : List Bool) (c room : ℕ) (list : List ℕ) → c < length set → is_in set c ≡ true
    → list ≡ filter (is_in set) (range_with_len 0 c) → size_of set ≤ room → length list < room
has_room set c room list l i is le =
    let all = length-filter (is_in set) (range_with_len 0 (length set)) in
    let counted = count_by-is_in set (length set) refl in
    let fewer = fewer_before (is_in set) c (length set) l i in
    let same = ap (λ (xs : List ℕ). length xs) is in
    omega (arith, all, counted, fewer, same, le)
