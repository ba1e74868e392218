-- A step that a client's rule allows on its part is allowed by the rule of the whole.
use Rattle.std.proofs.Common.{◌≡◌, ℕ, ◌+◌, List, Option, Some, get_or, map}
use Rattle.std.proofs.Common.{set, refl, sym, ap, ◌∙◌, subst, arith}
use mathlib.Core.Option.{some}
use Rattle.atomic_table.proofs.Lists.{at_map}
use Rattle.rcu_seq.specs.Numbers.{Number}
use Rattle.rcu_live.specs.Client.{AllowsAt, AllowsNumber, AllowsWord, AreLone, AreOpen, Views}
use Rattle.rcu_live.specs.Several.{IsPart, IsWordOf, Lens, number_of_part, of_part}
use Rattle.rcu_live.specs.Several.{shown_part, word_of_part}
use Rattle.rcu_live.proofs.ClientLemmas.{at_map_back}

module _ {D C : Type 0} (lens : Lens D C) where
  -- sections open in the whole are open in a part, and a processor has one seat there, too
  still_open : (number : Number) (xs : Views D) → AreOpen number xs
      → AreOpen number (map (shown_part lens) xs)
  still_open number xs are id at cpu c e =
      let t = at_map_back (shown_part lens) xs id (cpu, Some at, c) e in
      are id at cpu t.0.2
      (t.1 ∙ ap some (λ i. ((t.2 i).0, (t.2 i).1, t.0.2)))

  still_lone : (xs : Views D) → AreLone xs → AreLone (map (shown_part lens) xs)
  still_lone xs lone i j cpu o p c d e f =
      let s = at_map_back (shown_part lens) xs i (Some cpu, o, c) e in
      let t = at_map_back (shown_part lens) xs j (Some cpu, p, d) f in
      lone i j cpu o p s.0.2 t.0.2
      (s.1 ∙ ap some (λ k. ((s.2 k).0, (s.2 k).1, s.0.2)))
      (t.1 ∙ ap some (λ k. ((t.2 k).0, (t.2 k).1, t.0.2)))

  module _ (whole : List ℕ → Views D → Type 0) (rule : List ℕ → Views C → Type 0)
      (own : List ℕ → List ℕ) (base : ℕ) (idle : C → C) (idle_whole : D → D)
      (is : IsPart lens whole rule own base idle idle_whole)
      (got : (d : D) (c : C) → lens.get (lens.set d c) ≡ c) (cpu section : Option ℕ) (d : D) where
    pub allows_word : (p place : ℕ) (change seen : ℕ → ℕ) (tells : ℕ → C → ℕ → C → Type 0)
        → place ≡ base + p
        → IsWordOf rule p
        → AllowsWord rule cpu section (lens.get d) p change (λ n. tells p (lens.get d) (seen n))
        → AllowsWord whole cpu section d place change
        (λ n. word_of_part lens tells place d (seen n))
    allows_word p place change seen tells there has allowed number words xs id h are lone at =
        let kept = is.holds words xs h in
        let low = has (own words) (map (shown_part lens) xs) kept in
        let u = allowed number (own words) (map (shown_part lens) xs) id kept
        (still_open number xs are) (still_lone xs lone)
        (at_map (shown_part lens) xs id (cpu, section, d) at) in
        let told : lens.begins 0 d ≡ base = is.told words xs id (cpu, section, d) h at in
        let found : get_or (own words) p 0 ≡ get_or words place 0 =
        is.placed words xs p h low ∙ ap (λ (q : ℕ). get_or words q 0) (sym there) in
        let same : lens.get (lens.set d u.0) ≡ u.0 = got d u.0 in (
          lens.set d u.0,
          subst (λ (y : ℕ × ℕ). whole (set words y.0 (change y.1))
              (set xs id (cpu, section, lens.set d u.0)))
              (λ i. (sym there i, found i))
              (is.stores words xs id p (change (get_or (own words) p 0)) cpu section d u.0 h at low
              u.1),
          (
            ap (lens.set d) (sym same),
            λ q e.
                let next : p ≡ q = omega (arith, there, told, e) in
                subst (λ (y : ℕ × ℕ × C). tells y.0 (lens.get d) (seen y.1) y.2)
                (λ i. (next i, found i, sym same i)) u.2,
          ),
        )

    -- the same by the index in the table, if the words of the whole and those of the part begin
    -- further on
    pub allows_at : (p start from index : ℕ) (change seen : ℕ → ℕ) (tells : ℕ → C → ℕ → C → Type 0)
        → from ≡ start + base
        → index ≡ from + p
        → IsWordOf rule p
        → AllowsWord rule cpu section (lens.get d) p change (λ n. tells p (lens.get d) (seen n))
        → AllowsAt whole cpu section d start index change
        (λ place n. word_of_part lens tells place d (seen n))
    allows_at p start from index change seen tells behind there has allowed = (
      base + p,
      omega (arith, behind, there),
      allows_word p (base + p) change seen tells refl has allowed,
    )

    pub allows_number : (tells : C → Number → C → Type 0)
        → AllowsNumber rule cpu section (lens.get d) (tells (lens.get d))
        → AllowsNumber whole cpu section d (number_of_part lens tells d)
    allows_number tells allowed number words xs id h are lone at =
        let u = allowed number (own words) (map (shown_part lens) xs) id (is.holds words xs h)
        (still_open number xs are) (still_lone xs lone)
        (at_map (shown_part lens) xs id (cpu, section, d) at) in
        let same : lens.get (lens.set d u.0) ≡ u.0 = got d u.0 in (
          lens.set d u.0,
          is.knows words xs id cpu section d u.0 h at u.1,
          (ap (lens.set d) (sym same), subst (tells (lens.get d) number) (sym same) u.2),
        )

  -- the relation of a step on a part's word, by that on the word at a place
  pub told_word : ((base : ℕ) (d : D) → lens.begins base d ≡ base + lens.begins 0 d)
      → (tells : ℕ → C → ℕ → C → Type 0) (was : D) (x : ℕ) (now : D) (from start index word : ℕ)
      → lens.begins from was ≡ start
      → index ≡ start + word
      → ((q : ℕ) → index ≡ from + q → word_of_part lens tells q was x now)
      → of_part lens (λ c e. tells word c x e) was now
  told_word behind tells was x now from start index word seat there told =
      let far = behind from was in
      let t = told (lens.begins 0 was + word) (omega (arith, far, seat, there)) in
      (t.0, t.1 word refl)
