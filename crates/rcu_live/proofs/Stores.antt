-- A store of the own word keeps the rule.
use Rattle.std.proofs.Common.{◌≡◌, ◌≢◌, ◌⊎◌, ℕ, zero, suc, ◌<◌, ◌≤◌, Bool, List, Some, None}
use Rattle.std.proofs.Common.{length, get_or, set, true, false, inl, inr, ⊎_elim}
use Rattle.std.proofs.Common.{refl, sym, ap, ◌∙◌, subst, arith, length-set}
use Rattle.std.proofs.Common.{◌%◌}
use Rattle.std.proofs.lemmas.Bool.{cases_Bool, true≢false}
use Rattle.std.proofs.lemmas.List.{drop-set-lt, get_or-set_other, get_or-set_same}
use mathlib.Core.Logic.{dite}
use native.Mathlib.Decide.{ℕ_discrete}
use Rattle.atomic_table.specs.Table.{State, Me, keeps, Allows}
use Rattle.rcu_node.specs.Words.{has_bit}
use Rattle.rcu_live.specs.Client.{Views}
use Rattle.rcu_live.specs.Numbers.{is_own_word}
use Rattle.rcu_live.specs.Rule.{Fits, IsKept, IsSound}
use Rattle.rcu_live.specs.View.{after_arrive_store, after_store}
use Rattle.rcu_live.specs.Words.{base_of, own_word_index, mask_index}
use Rattle.rcu_live.specs.declared.view.Role.TheVariants.{Cpu}
use Rattle.rcu_live.specs.declared.view.View.{View}
use Rattle.rcu_live.proofs.Frames.{changed, unseen}
use Rattle.rcu_live.proofs.Numbers.{number_apart, own_words_apart, mask_apart}

-- a processor without a bit in its online mask stores 0
here0 : (word found : ℕ) (here : Bool) → found ≡ word → (0 < word → here ≡ true) → here ≡ false
    → found ≡ 0
here0 zero found here is on gone = is
here0 (suc n) found here is on gone = absurd (true≢false (sym (on (omega arith)) ∙ gone))

module _ {C : Type 0} (holds : List ℕ → Views C → Type 0) where
  -- another seat fits as before, since its processor is another
  others_fit : (cpus : ℕ) (s : State (Unit {0}) (View C)) (k : IsKept holds cpus s) (id c word : ℕ)
      → k.owner c ≡ id
      → (j : ℕ) (u : View C)
      → j ≢ id
      → Fits cpus s.words k.owner k.engine k.own_word_loads j u
      → Fits cpus (set s.words (own_word_index c) word) k.owner k.engine k.own_word_loads j u
  others_fit cpus s k id c word mine j u other f =
      let words : List ℕ = set s.words (own_word_index c) word in
      let number : get_or words 0 0 ≡ get_or s.words 0 0 =
      get_or-set_other s.words (own_word_index c) 0 word 0 (λ e. number_apart c (sym e)) in
      let mask : (d : ℕ) → get_or words (mask_index d) 0 ≡ get_or s.words (mask_index d) 0 =
      λ d. get_or-set_other s.words (own_word_index c) (mask_index d) word 0
      (λ e. mask_apart c d (sym e)) in
      let same : (d : ℕ) → d ≢ c
      → get_or words (own_word_index d) 0 ≡ get_or s.words (own_word_index d) 0 =
      λ d apart. get_or-set_other s.words (own_word_index c) (own_word_index d) word 0
      (own_words_apart d c apart) in
      record {
        seen = rw number f.seen;
        base = f.base;
        inside = f.inside;
        own = f.own;
        sound = λ r.
            let apart : u.cpu ≢ c = λ e. other (sym (f.own r) ∙ ap k.owner e ∙ mine) in
            subst (λ (y : ℕ × ℕ). IsSound y.0 y.1 k.own_word_loads u)
            (λ i. (sym number i, sym (same u.cpu apart) i)) (f.sound r);
        announced = λ r e. subst (λ (x : ℕ). has_bit x (u.cpu % 64) ≡ true) (sym (mask u.cpu))
            (f.announced r e);
        lone = f.lone;
        number = λ r. f.number r ∙ sym number;
        found = f.found;
        undealt = λ r d low high.
            let t = f.undealt r d low high in
            let apart : d ≢ c = λ e. other (sym t.0 ∙ ap k.owner e ∙ mine) in
            (t.0, same d apart ∙ t.1);
      }

  -- a processor whose own word is not 0 has a bit in its online mask
  enrolled : (cpus : ℕ) (s : State (Unit {0}) (View C)) (k : IsKept holds cpus s) (c : ℕ) → c < cpus
      → 0 < get_or s.words (own_word_index c) 0
      → has_bit (get_or s.words (mask_index c) 0) (c % 64) ≡ true
  enrolled cpus s k c inside online =
      let word : ℕ = get_or s.words (own_word_index c) 0 in
      elim (cases_Bool (has_bit (get_or s.words (mask_index c) 0) (c % 64))) [
        | inl here ↦ here
        | inr gone ↦
            let none : word ≡ 0 = k.absent c inside gone in absurd (omega (arith, none, online))
      ]

  -- own-word store, by a seat that is to know this of the reach
  stores_own : (cpus slots id word : ℕ) (announced : Bool) (me : Me (Unit {0}) (View C))
      → me.0.role ≡ Cpu
      → me.0.section ≡ None
      → is_own_word me.0.seen word ≡ true
      → (me.0.cpu ≡ 0 → 0 < word)
      → (0 < word → (0 < me.0.own_word) ⊎ (me.0.announced ≡ true))
      → (announced ≡ true → me.0.announced ≡ true)
      → Allows (IsKept holds cpus) slots id me (own_word_index me.0.cpu) (λ _. word)
      (λ _ m. (m.0 ≡ record (after_store me.0 word) { announced = announced }) × (m.1 ≡ me.1))
  stores_own cpus slots id word announced me cpu shut own boot reaches knew s k _ at _ =
      let v : View C = me.0 in
      let c : ℕ = v.cpu in
      let f : Fits cpus s.words k.owner k.engine k.own_word_loads id v = k.fits id v at in
      let w : View C = record (after_store v word) { announced = announced } in
      let inside : c < cpus = f.inside cpu in
      let room : base_of cpus ≤ length s.words = k.room in
      let words : List ℕ = set s.words (own_word_index c) word in
      let number : get_or words 0 0 ≡ get_or s.words 0 0 =
      get_or-set_other s.words (own_word_index c) 0 word 0 (λ e. number_apart c (sym e)) in
      let mask : (d : ℕ) → get_or words (mask_index d) 0 ≡ get_or s.words (mask_index d) 0 =
      λ d. get_or-set_other s.words (own_word_index c) (mask_index d) word 0
      (λ e. mask_apart c d (sym e)) in
      let on_mask : 0 < word → has_bit (get_or s.words (mask_index c) 0) (c % 64) ≡ true =
      λ some. ⊎_elim
      (λ (online : 0 < v.own_word). enrolled cpus s k c inside
      (subst (λ (x : ℕ). 0 < x) (sym (f.sound cpu).own_word) online))
      (λ (e : v.announced ≡ true). f.announced cpu e)
      (reaches some) in
      let absent : (d : ℕ) → d < cpus
      → has_bit (get_or words (mask_index d) 0) (d % 64) ≡ false
      → get_or words (own_word_index d) 0 ≡ 0 =
      λ d low none. let gone : has_bit (get_or s.words (mask_index d) 0) (d % 64) ≡ false =
      subst (λ (x : ℕ). has_bit x (d % 64) ≡ false) (mask d) none in
      dite (ℕ_discrete d c)
      (λ (e : d ≡ c).
      subst (λ (i : ℕ). get_or words (own_word_index i) 0 ≡ 0) (sym e)
      (here0 word (get_or words (own_word_index c) 0)
      (has_bit (get_or s.words (mask_index c) 0) (c % 64))
      (get_or-set_same s.words (own_word_index c) word 0 (omega arith)) on_mask
      (subst (λ (i : ℕ). has_bit (get_or s.words (mask_index i) 0) (i % 64) ≡ false) e gone)))
      (λ (apart : d ≢ c).
      get_or-set_other s.words (own_word_index c) (own_word_index d) word 0
      (own_words_apart d c apart)
      ∙ k.absent d low gone) in
      let here : get_or words (own_word_index c) 0 ≡ word =
      get_or-set_same s.words (own_word_index c) word 0 (omega arith) in
      let booted : 0 < get_or words (own_word_index 0) 0 =
      dite (ℕ_discrete c 0)
      (λ (e : c ≡ 0).
      let b = boot e in
      subst (λ (d : ℕ). 0 < get_or words (own_word_index d) 0) e
      (subst (λ (x : ℕ). 0 < x) (sym here) b))
      (λ (apart : c ≢ 0). subst (λ (x : ℕ). 0 < x)
      (sym (get_or-set_other s.words (own_word_index c) (own_word_index 0) word 0
      (own_words_apart 0 c (λ e. apart (sym e)))))
      k.boot) in
      let none : (p : ℕ) → v.section ≡ Some p → ⊥ = λ p o. cc in
      let mine : Fits cpus words k.owner k.engine k.own_word_loads id w = record {
        seen = rw number f.seen;
        base = f.base;
        inside = f.inside;
        own = f.own;
        sound = λ r. record {
          own_word = here;
          bounded = own;
          boot = boot;
          online = λ p o. absurd (none p o);
          from_own_word = λ p o. absurd (none p o);
          to_seen = λ p o. absurd (none p o);
          current = λ p o. absurd (none p o);
          cleared = λ p o. absurd (none p o);
        };
        announced = λ r e. subst (λ (x : ℕ). has_bit x (c % 64) ≡ true) (sym (mask c))
            (f.announced cpu (knew e));
        lone = f.lone;
        number = λ r. f.number r ∙ sym number;
        found = f.found;
        undealt = λ r. absurd (cc);
      } in (
        w,
        keeps,
        tt,
        changed holds cpus s k id w words k.own_word_loads
            (rw (length-set s.words (own_word_index c) word) room) (rw number k.number) booted
            absent
            (others_fit cpus s k id c word (f.own cpu)) mine
            (unseen holds cpus s k id v w words at refl
            (drop-set-lt (base_of cpus) s.words (own_word_index c) word (omega arith))),
        (refl, refl),
      )

  -- the same at a place that is the one of the seat's processor
  pub stores : (cpus slots id word c at : ℕ) (me : Me (Unit {0}) (View C))
      → me.0.role ≡ Cpu
      → me.0.cpu ≡ c
      → at ≡ own_word_index c
      → me.0.section ≡ None
      → is_own_word me.0.seen word ≡ true
      → (c ≡ 0 → 0 < word)
      → (0 < word → 0 < me.0.own_word)
      → Allows (IsKept holds cpus) slots id me at (λ _. word)
      (λ _ m. (m.0 ≡ after_store me.0 word) × (m.1 ≡ me.1))
  stores cpus slots id word c at me cpu is there shut own boot still =
      subst (λ (i : ℕ). Allows (IsKept holds cpus) slots id me i (λ _. word)
      (λ _ m. (m.0 ≡ after_store me.0 word) × (m.1 ≡ me.1)))
      (ap own_word_index is ∙ sym there)
      (stores_own cpus slots id word me.0.announced me cpu shut own (λ z. boot (sym is ∙ z))
      (λ some. inl (still some)) (λ e. e))

  -- the store by which the processor arrives
  pub arrives : (cpus slots id word c at : ℕ) (me : Me (Unit {0}) (View C))
      → me.0.role ≡ Cpu
      → me.0.cpu ≡ c
      → at ≡ own_word_index c
      → me.0.section ≡ None
      → is_own_word me.0.seen word ≡ true
      → 0 < word
      → me.0.announced ≡ true
      → Allows (IsKept holds cpus) slots id me at (λ _. word)
      (λ _ m. (m.0 ≡ after_arrive_store me.0 word) × (m.1 ≡ me.1))
  arrives cpus slots id word c at me cpu is there shut own online announced =
      subst (λ (i : ℕ). Allows (IsKept holds cpus) slots id me i (λ _. word)
      (λ _ m. (m.0 ≡ after_arrive_store me.0 word) × (m.1 ≡ me.1)))
      (ap own_word_index is ∙ sym there)
      (stores_own cpus slots id word false me cpu shut own (λ _. online)
      (λ _. inr announced) (λ e. absurd (cc)))
