-- The sets of a pair's replicas: listed, read off and compared processor by processor.
use Rattle.std.proofs.Common.{◌≡◌, ℕ, zero, suc, ◌+◌, ◌<◌, ◌==◌, ◌||◌, Bool, true, false, cond}
use Rattle.std.proofs.Common.{List, [], ◌∷◌, ◌++◌, length, take, get_or, slice_set, replicate, refl}
use Rattle.std.proofs.Common.{sym, ap, ◌∙◌, append-nil, append_assoc, arith, inl, inr}
use Rattle.std.specs.List.{list_any, range_with_len}
use Rattle.std.specs.Prelude.{filter, flat_map}
use Rattle.std.proofs.lemmas.Bool.{cases_eq}
use Rattle.std.proofs.lemmas.Bool.Decides.{nat_tests}
use Rattle.std.proofs.lemmas.Grind.{flat_map-append}
use Rattle.std.proofs.lemmas.List.{ext_get_or, get_or-set_same, get_or-set_other, get_or-replicate}
use Rattle.std.proofs.lemmas.List.{length-replicate, length-set, take_more}
use Rattle.std.proofs.lemmas.List.Folds.{list_any-append}
use Rattle.std.proofs.lemmas.List.FromFn.{fill_by_all}
use Rattle.std.proofs.lemmas.List.Sums.{length-filter}
use Rattle.rcu_node.specs.CpuSet.{is_in, size_of}
use Rattle.rcu_node.proofs.CpuSetLemmas.{is_in-listed, length-listed}
use Rattle.rcu_node.proofs.RangeLemmas.{count_by-map, filter-range_more}
use Rattle.rcu_script.specs.PairState.{set_of}
use Rattle.rcu_script.specs.PairTexts.{members_of}

-- ---- a set of listed processors

-- no processor is listed
pub set_none : (n : ℕ) → replicate n false ≡ set_of n []
set_none n =
    ext_get_or false (replicate n false) (set_of n []) (length-replicate {A = Bool} n false
    ∙ sym (length-listed n (λ cpu. false)))
    (λ cpu l. let low : cpu < n = omega (arith, l, length-replicate {A = Bool} n false) in
    get_or-replicate n cpu false false low ∙ sym (is_in-listed n (λ c. false) cpu low))

one_more : (p : Bool) (q : Bool) → q ≡ true → (p || (q || false)) ≡ true
one_more true q e = refl
one_more false q e = rw e refl

none_more : (p : Bool) (q : Bool) → q ≡ false → (p || (q || false)) ≡ p
none_more true q e = refl
none_more false q e = rw e refl

-- one processor more is listed
pub set_push : (n : ℕ) (cpus : List ℕ) (c : ℕ) → c < n
    → slice_set (set_of n cpus) c true ≡ set_of n (cpus ++ c ∷ [])
set_push n cpus c low =
    let old = set_of n cpus in
    let new = set_of n (cpus ++ c ∷ []) in
    let sized : length old ≡ n = length-listed n (λ cpu. list_any (λ k. k == cpu) cpus) in
    let here : c < length old = omega arith in
    ext_get_or false (slice_set old c true) new
    (length-set old c true
    ∙ sized
    ∙ sym (length-listed n (λ cpu. list_any (λ k. k == cpu) (cpus ++ c ∷ []))))
    (λ cpu l.
    let below : cpu < n = omega (arith, l, length-set old c true) in
    let after = is_in-listed n (λ k. list_any (λ j. j == k) (cpus ++ c ∷ [])) cpu below
    ∙ list_any-append (λ j. j == cpu) cpus (c ∷ []) in
    elim (cases_eq cpu c) [
      | inl e ↦
          rw e (get_or-set_same old c true false here)
          ∙ sym
          (after ∙ one_more (list_any (λ j. j == cpu) cpus) (c == cpu) (grind (arith, nat_tests)))
      | inr differ ↦
          get_or-set_other old c cpu true false differ
          ∙ is_in-listed n (λ k. list_any (λ j. j == k) cpus) cpu below
          ∙ sym
          (after ∙ none_more (list_any (λ j. j == cpu) cpus) (c == cpu) (grind (arith, nat_tests)))
    ])

-- the processor of a place is listed behind those before it
pub set_more : (n : ℕ) (cpus : List ℕ) (i : ℕ) (old new : List Bool)
    → i < length cpus
    → get_or cpus i 0 < n
    → old ≡ set_of n (take i cpus)
    → new ≡ slice_set old (get_or cpus i 0) true
    → new ≡ set_of n (take (i + 1) cpus)
set_more n cpus i old new l low so_far grown =
    grown ∙ ap (λ (s : List Bool). slice_set s (get_or cpus i 0) true) so_far
    ∙ set_push n (take i cpus) (get_or cpus i 0) low
    ∙ ap (set_of n) (sym (take_more cpus i 0 l))

-- ---- the members of a set

-- a set has as many processors as members
pub members_are_size : (set : List Bool) → length (members_of set) ≡ size_of set
members_are_size set =
    length-filter (is_in set) (range_with_len 0 (length set))
    ∙ sym (count_by-map (λ flag. flag) (is_in set) (range_with_len 0 (length set)))
    ∙ ap (λ (flags : List Bool). size_of flags)
    (sym (fill_by_all (is_in set) set (length set) false refl (λ k lt. refl)))

-- the texts of one processor more, which is a member
pub texts_yes : (text : ℕ → List ℕ) (p : ℕ → Bool) (n : ℕ)
    → p n ≡ true
    → flat_map text (filter p (range_with_len 0 (n + 1)))
    ≡ flat_map text (filter p (range_with_len 0 n)) ++ text n
texts_yes text p n passes =
    ap (flat_map text) (filter-range_more p n ∙ rw passes refl)
    ∙ flat_map-append text (filter p (range_with_len 0 n)) (n ∷ [])
    ∙ ap (λ (l : List ℕ). flat_map text (filter p (range_with_len 0 n)) ++ l) (append-nil (text n))

-- the texts of one processor more, which is none
pub texts_no : (text : ℕ → List ℕ) (p : ℕ → Bool) (n : ℕ)
    → p n ≡ false
    → flat_map text (filter p (range_with_len 0 (n + 1)))
    ≡ flat_map text (filter p (range_with_len 0 n))
texts_no text p n fails = ap (flat_map text) (filter-range_more p n
    ∙ rw fails (append-nil (filter p (range_with_len 0 n))))

-- the texts of the processors below a number come before those of all
pub texts_front : (text : ℕ → List ℕ) (p : ℕ → Bool) (n more : ℕ)
    → (later : List ℕ)
    × (flat_map text (filter p (range_with_len 0 (n + more)))
    ≡ flat_map text (filter p (range_with_len 0 n)) ++ later)
texts_front text p n zero =
    let same : n + 0 ≡ n = omega arith in (
      [],
      ap (λ (k : ℕ). flat_map text (filter p (range_with_len 0 k))) same
          ∙ sym (append-nil (flat_map text (filter p (range_with_len 0 n)))),
    )
texts_front text p n (suc more) =
    let ih = texts_front text p n more in
    let last = flat_map text (cond (p (n + more)) ((n + more) ∷ []) []) in
    let on : n + suc more ≡ (n + more) + 1 = omega arith in (
      ih.0 ++ last,
      ap (λ (k : ℕ). flat_map text (filter p (range_with_len 0 k))) on
          ∙ ap (flat_map text) (filter-range_more p (n + more))
          ∙ flat_map-append text (filter p (range_with_len 0 (n + more)))
          (cond (p (n + more)) ((n + more) ∷ []) [])
          ∙ ap (λ (l : List ℕ). l ++ last) ih.1
          ∙ append_assoc (flat_map text (filter p (range_with_len 0 n))) ih.0 last,
    )
