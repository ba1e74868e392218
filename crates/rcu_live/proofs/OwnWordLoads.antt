-- The engine's load of a processor's own word keeps the rule.
use Rattle.std.proofs.Common.{◌≡◌, ◌≢◌, ℕ, ◌+◌, ◌<◌, ◌≤◌, ◌==◌, ◌&&◌, List, ◌∷◌, get_or, set, true}
use Rattle.std.proofs.Common.{refl, sym, ap, ◌∙◌, subst, arith, ⊎_elim}
use Rattle.std.proofs.lemmas.Bool.{and_parts, or_cases}
use Rattle.std.proofs.lemmas.Bool.Decides.{Decides-eqb, nat_tests}
use Rattle.std.proofs.lemmas.List.{set-get_or}
use Rattle.atomic_table.specs.Table.{Me, keeps, Allows}
use Rattle.rcu_live.specs.Client.{Views}
use Rattle.rcu_live.specs.Numbers.{may_open, reports_quiescence}
use Rattle.rcu_live.specs.Rule.{Fits, IsKept, is_cleared}
use Rattle.rcu_live.specs.View.{OwnWordLoaded, after_own_word_load}
use Rattle.rcu_live.specs.Words.{own_word_index}
use Rattle.rcu_live.specs.declared.view.Role.TheVariants.{Engine}
use Rattle.rcu_live.specs.declared.view.View.{View}
use Rattle.rcu_live.proofs.Frames.{changed, unseen}

-- an own word that reports a quiescent state of its processor, and is not 0, is above the number
reported_later : (n word : ℕ) → reports_quiescence n word ≡ true → 0 < word → n < word
reported_later n word told more = grind (arith, nat_tests)

pub online_some : (own_word : ℕ) → may_open own_word ≡ true → 0 < own_word
online_some own_word online = grind (arith, nat_tests)

-- a section of a cleared processor is no older than the grace period, whichever word was found last
still_young : (n at word : ℕ) (own_word_loads : List (ℕ × ℕ)) (cpu own_word p own : ℕ)
    → (at ≡ own_word_index cpu → word ≡ own)
    → own ≡ own_word
    → 0 < own_word
    → own_word ≤ p + 1
    → (is_cleared n cpu own_word_loads ≡ true → n ≤ p)
    → is_cleared n cpu ((at, word) ∷ own_word_loads) ≡ true
    → n ≤ p
still_young n at word own_word_loads cpu own_word p own found is any from old cleared = ⊎_elim
    (λ (now : ((at == own_word_index cpu) && reports_quiescence n word) ≡ true).
    let parts = and_parts (at == own_word_index cpu) (reports_quiescence n word) now in
    let same : word ≡ own = found ((Decides-eqb at (own_word_index cpu)).0 parts.0) in
    let more : n < word = reported_later n word parts.1 (omega arith) in omega arith)
    old
    (or_cases _ _ cleared)

module _ {C : Type 0} (holds : List ℕ → Views C → Type 0) where
  -- processor-word load
  pub loads_own_word : (cpus slots id cpu : ℕ) (me : Me (Unit {0}) (View C))
      → me.0.role ≡ Engine
      → Allows (IsKept holds cpus) slots id me (own_word_index cpu) (λ n. n)
      (λ n m. OwnWordLoaded (own_word_index cpu) me.0 n m.0 × (m.1 ≡ me.1))
  loads_own_word cpus slots id cpu me engine s k _ at _ =
      let v : View C = me.0 in
      let f : Fits cpus s.words k.owner k.engine k.own_word_loads id v = k.fits id v at in
      let word : ℕ = get_or s.words (own_word_index cpu) 0 in
      let n : ℕ = get_or s.words 0 0 in
      let w : View C = after_own_word_load v (own_word_index cpu) word in
      let now : List (ℕ × ℕ) = (own_word_index cpu, word) ∷ k.own_word_loads in
      let mine : Fits cpus s.words k.owner k.engine now id w = record {
        seen = f.seen;
        base = f.base;
        inside = λ r. absurd (cc);
        own = λ r. absurd (cc);
        sound = λ r. absurd (cc);
        announced = λ r. absurd (cc);
        lone = f.lone;
        number = f.number;
        found = λ r. ap (λ (l : List (ℕ × ℕ)). (own_word_index cpu, word) ∷ l) (f.found r);
        undealt = f.undealt;
      } in
      let others : (j : ℕ) (u : View C)
      → j ≢ id → Fits cpus s.words k.owner k.engine k.own_word_loads j u
      → Fits cpus s.words k.owner k.engine now j u =
      λ j u apart h. record {
        seen = h.seen;
        base = h.base;
        inside = h.inside;
        own = h.own;
        sound = λ r.
            let t = h.sound r in
            record {
              own_word = t.own_word;
              bounded = t.bounded;
              boot = t.boot;
              online = t.online;
              from_own_word = t.from_own_word;
              to_seen = t.to_seen;
              current = t.current;
              cleared = λ p o runs told.
                  still_young n (own_word_index cpu) word k.own_word_loads u.cpu u.own_word p
                  (get_or s.words (own_word_index u.cpu) 0)
                  (λ e. ap (λ (i : ℕ). get_or s.words i 0) e) t.own_word
                  (online_some u.own_word (t.online p o)) (t.from_own_word p o) (t.cleared p o runs)
                  told;
            };
        announced = h.announced;
        lone = h.lone;
        number = h.number;
        found = λ r. absurd (apart (sym (h.lone r) ∙ f.lone engine));
        undealt = h.undealt;
      } in (
        w,
        keeps,
        tt,
        subst (λ (words : List ℕ).
            IsKept holds cpus record { words = words; homes = s.homes; views = set s.views id w })
            (sym (set-get_or s.words (own_word_index cpu) 0))
            (changed holds cpus s k id w s.words now k.room k.number k.boot k.absent others mine
            (unseen holds cpus s k id v w s.words at refl refl)),
        (
          record {
            view = refl;
            boot = λ e. subst (λ (i : ℕ). 0 < get_or s.words i 0) (sym e) k.boot;
          },
          refl,
        ),
      )

  -- the same at a place that is the processor's
  pub loads_own_word_at : (cpus slots id cpu at : ℕ) (me : Me (Unit {0}) (View C))
      → me.0.role ≡ Engine
      → at ≡ own_word_index cpu
      → Allows (IsKept holds cpus) slots id me at (λ n. n)
      (λ n m. OwnWordLoaded at me.0 n m.0 × (m.1 ≡ me.1))
  loads_own_word_at cpus slots id cpu at me engine is =
      subst (λ (i : ℕ). Allows (IsKept holds cpus) slots id me i (λ n. n)
      (λ n m. OwnWordLoaded i me.0 n m.0 × (m.1 ≡ me.1)))
      (sym is) (loads_own_word cpus slots id cpu me engine)
