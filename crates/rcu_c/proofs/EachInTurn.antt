-- Lists that are changed one after another: the lists of all processors, as they are tended and run
-- in turn.
use Rattle.std.proofs.Common.{◌≡◌, ℕ, zero, suc, ◌<◌, ◌≤◌, List, [], ◌∷◌, refl, sym, ap, ap₂, ◌∙◌}
use Rattle.std.proofs.Common.{arith, get_or, inl, inr, set, length, subst}
use Rattle.std.proofs.Math.Nat.{eq-or-lt_of_le}
use Rattle.std.proofs.lemmas.List.{get_or-set_other, get_or-set_same, length-set}
use Rattle.std.proofs.lemmas.List.Elements.{All-head, All-tail, All-weaker}
use Rattle.rcu_seq.specs.Seq.{Periods, number_of}
use Rattle.rcu_cblist.specs.SegList.{IsAtMost, Item, after_take, numbers}
use Rattle.rcu_cblist.proofs.Numbers.{at_most_some}
use Rattle.rcu_barrier.specs.Lists.{list_of}
use Rattle.rcu_barrier.specs.Tending.{after_tend}
use Rattle.rcu_state.specs.Periods.{greatest_from}
use Rattle.rcu_live.specs.Engine.{Locked}
use Rattle.rcu_live.specs.Runs.{Tend, after_call, engine_after}
use Rattle.rcu_c.specs.BarrierSteps.{tends}
use Rattle.rcu_c.specs.Progress.{runs}

module _ {Y : Type 0} (none : Y) (change : ℕ → Y → Y) where
  -- this number of first ones is changed, one after another
  abbrev in_turn : List Y → ℕ → List Y
  in_turn ys zero = ys
  in_turn ys (suc n) =
      set (in_turn ys n) n (change n (get_or (in_turn ys n) n none))

  in_turn_length : (ys : List Y) (n : ℕ) → length (in_turn ys n) ≡ length ys
  in_turn_length ys zero = refl
  in_turn_length ys (suc n) =
      length-set (in_turn ys n) n (change n (get_or (in_turn ys n) n none)) ∙ in_turn_length ys n

  in_turn_later : (ys : List Y) (n c : ℕ) → n ≤ c → get_or (in_turn ys n) c none ≡ get_or ys c none
  in_turn_later ys zero c l = refl
  in_turn_later ys (suc n) c l =
      get_or-set_other (in_turn ys n) n c (change n (get_or (in_turn ys n) n none)) none
      (λ e. absurd (omega (arith, l, e)))
      ∙ in_turn_later ys n c (omega (arith, l))

  in_turn_at : (ys : List Y) (n c : ℕ) → n ≤ length ys → c < n
      → get_or (in_turn ys n) c none ≡ change c (get_or ys c none)
  in_turn_at ys zero c few l = absurd (omega (arith, l))
  in_turn_at ys (suc n) c few l =
      let new = change n (get_or (in_turn ys n) n none) in
      let long = in_turn_length ys n in
      elim (eq-or-lt_of_le {n = c} {m = n} (omega (arith, l))) [
        | inl i ↦
            ap (λ k. get_or (set (in_turn ys n) n new) k none) i
            ∙ get_or-set_same (in_turn ys n) n new none (omega (arith, few, long))
            ∙ ap (λ y. change n y) (in_turn_later ys n n (omega arith))
            ∙ sym (ap (λ k. change k (get_or ys k none)) i)
        | inr i ↦
            get_or-set_other (in_turn ys n) n c new none (λ e. absurd (omega (arith, i, e)))
            ∙ in_turn_at ys n c (omega (arith, few)) i
      ]

module _ {C X : Type 0} where
  pub number_tended : (e : Locked C X) (n : ℕ) → (engine_after e (tends n)).grace.seq ≡ e.grace.seq
  number_tended e zero = refl
  number_tended e (suc n) = number_tended e n

  tended : Locked C X → ℕ → List (Item X) → List (Item X)
  tended e c xs = after_tend xs (number_of e.grace.seq)

  tends_in_turn : (e : Locked C X) (n : ℕ)
      → (engine_after e (tends n)).grace.lists.lists
      ≡ in_turn [] (tended e) e.grace.lists.lists n
  unfolding tended
  tends_in_turn e zero = refl
  tends_in_turn e (suc n) =
      ap₂ (λ (ys : List (List (Item X))) (p : Periods).
      set ys n (after_tend (get_or ys n []) (number_of p)))
      (tends_in_turn e n) (number_tended e n)

  -- each list is tended
  pub each_tended : (e : Locked C X) (n c : ℕ) → n ≤ length e.grace.lists.lists → c < n
      → list_of (engine_after e (tends n)).grace.lists c
      ≡ after_tend (list_of e.grace.lists c) (number_of e.grace.seq)
  unfolding tended
  each_tended e n c few l =
      ap (λ (ys : List (List (Item X))). get_or ys c []) (tends_in_turn e n)
      ∙ in_turn_at [] (tended e) e.grace.lists.lists n c few l

  -- a tend requests the number that its list waits for, and no less than was requested before
  pub tend_needs : (e : Locked C X) (c : ℕ)
      → (e.grace.needed ≤ (after_call e (Tend c)).grace.needed)
      × IsAtMost (after_call e (Tend c)).grace.needed
      (list_of (after_call e (Tend c)).grace.lists c)
  tend_needs e c =
      let xs = list_of (after_call e (Tend c)).grace.lists c in
      let most = greatest_from e.grace.needed (numbers xs) in
      let all = at_most_some most most (e.grace.needed ∷ numbers xs) refl (omega arith) in (
        All-head (λ k. k ≤ most) e.grace.needed (numbers xs) all,
        All-tail (λ k. k ≤ most) e.grace.needed (numbers xs) all,
      )

  -- so the number that each list waits for is needed
  pub each_needed : (e : Locked C X) (n c : ℕ) → n ≤ length e.grace.lists.lists → c < n
      → IsAtMost (engine_after e (tends n)).grace.needed
      (list_of (engine_after e (tends n)).grace.lists c)
  each_needed e zero c few l = absurd (omega (arith, l))
  each_needed e (suc n) c few l =
      let f = engine_after e (tends n) in
      let now = engine_after e (tends (suc n)) in
      let new = after_tend (list_of f.grace.lists n) (number_of f.grace.seq) in
      let needs = tend_needs f n in
      elim (eq-or-lt_of_le {n = c} {m = n} (omega (arith, l))) [
        | inl i ↦
            subst (λ k. IsAtMost now.grace.needed (list_of now.grace.lists k)) (sym i) needs.1
        | inr i ↦
            subst (λ xs. IsAtMost now.grace.needed xs)
            (sym (get_or-set_other f.grace.lists.lists n c new []
            (λ e. absurd (omega (arith, i, e)))))
            (All-weaker (λ k. k ≤ f.grace.needed) (λ k. k ≤ now.grace.needed)
            (λ k m. omega (arith, m, needs.0)) (numbers (list_of f.grace.lists c))
            (each_needed e n c (omega (arith, few)) i))
      ]

  runs_in_turn : (e : Locked C X) (most : ℕ → ℕ) (n : ℕ)
      → (engine_after e (runs most n)).grace.lists.lists
      ≡ in_turn [] (λ c xs. after_take xs (most c)) e.grace.lists.lists n
  runs_in_turn e most zero = refl
  runs_in_turn e most (suc n) =
      ap (λ (ys : List (List (Item X))). set ys n (after_take (get_or ys n []) (most n)))
      (runs_in_turn e most n)

  -- of each list callbacks are handed out
  pub each_run : (e : Locked C X) (most : ℕ → ℕ) (n c : ℕ) → n ≤ length e.grace.lists.lists → c < n
      → list_of (engine_after e (runs most n)).grace.lists c
      ≡ after_take (list_of e.grace.lists c) (most c)
  each_run e most n c few l =
      ap (λ (ys : List (List (Item X))). get_or ys c []) (runs_in_turn e most n)
      ∙ in_turn_at [] (λ c xs. after_take xs (most c)) e.grace.lists.lists n c few l
