-- The begin store and the end store keep the rule.
use Rattle.std.proofs.Common.{◌≡◌, ◌≢◌, ℕ, ◌+◌, ◌%◌, ◌^◌, ◌<◌, ◌≤◌, List, [], length, get_or}
use Rattle.std.proofs.Common.{set}
use Rattle.std.proofs.Common.{true}
use Rattle.std.proofs.Common.{false, refl, sym, ◌∙◌, subst, arith, length-set}
use Rattle.std.proofs.lemmas.Bool.Decides.{nat_tests}
use Rattle.std.proofs.lemmas.List.{drop-set-lt, get_or-set_other, get_or-set_same}
use mathlib.Core.Option.{some}
use lib.ListN.{get_elem?}
use Rattle.atomic_table.specs.Table.{State, Me, keeps, Allows}
use Rattle.rcu_seq.specs.Numbers.{Number, is_running}
use Rattle.rcu_node.specs.Words.{has_bit}
use Rattle.rcu_live.specs.Client.{Views}
use Rattle.rcu_live.specs.Numbers.{is_number_word, is_past}
use Rattle.rcu_live.specs.Rule.{AreCleared, Fits, IsKept, IsSound, is_cleared}
use Rattle.rcu_live.specs.View.{after_begin_store, after_end_store}
use Rattle.rcu_live.specs.Words.{base_of, own_word_index, mask_index}
use Rattle.rcu_live.specs.declared.view.Role.TheVariants.{Engine}
use Rattle.rcu_live.specs.declared.view.View.{View}
use Rattle.rcu_live.proofs.Frames.{changed, unseen}
use Rattle.rcu_live.proofs.Numbers.{number_apart, mask_number}

-- the number after a begin, and after an end
begun_word : (n : Number) → is_number_word n ≡ true → is_running n ≡ false → n < 2 ^ 62
    → is_number_word (n + 1) ≡ true
begun_word n word idle small = grind (arith, nat_tests)

ended_word : (n : Number) → is_number_word n ≡ true → is_running n ≡ true
    → is_number_word (n + 3) ≡ true
ended_word n word runs = grind (arith, nat_tests)

-- a begin ends no grace period
begun_current : (n at : Number)
    → is_number_word n ≡ true → is_running n ≡ false → is_past at n ≡ false
    → is_past at (n + 1) ≡ false
begun_current n at word idle current = grind (arith, nat_tests)

-- an end ends none that began after a section at its own number
ended_current : (n at : Number) → is_running n ≡ true → n ≤ at → is_past at (n + 3) ≡ false
ended_current n at runs already_quiescent = grind (arith, nat_tests)

ended_rests : (n : Number) → is_running n ≡ true → is_running (n + 3) ≡ false
ended_rests n runs = grind (arith, nat_tests)

module _ {C : Type 0} (holds : List ℕ → Views C → Type 0) where
  -- the engine stores a number that is no lower, and the words that it found stay or are dropped:
  -- the rule is kept if each processor's seat is sound at the new number
  stored : (cpus id n : ℕ) (s : State (Unit {0}) (View C)) (k : IsKept holds cpus s) (v : View C)
      (own_word_loads : List (ℕ × ℕ))
      → get_elem? s.views id ≡ some v
      → v.role ≡ Engine
      → get_or s.words 0 0 ≤ n
      → is_number_word n ≡ true
      → ((u : View C)
      → IsSound (get_or s.words 0 0) (get_or s.words (own_word_index u.cpu) 0) k.own_word_loads u
      → u.cpu < cpus
      → IsSound n (get_or s.words (own_word_index u.cpu) 0) own_word_loads u)
      → IsKept holds cpus record {
        words = set s.words 0 n;
        homes = s.homes;
        views = set s.views id (record v { seen = n; own_word_loads = own_word_loads });
      }
  stored cpus id n s k v own_word_loads at engine up legal sound =
      let f : Fits cpus s.words k.owner k.engine k.own_word_loads id v = k.fits id v at in
      let w : View C = record v { seen = n; own_word_loads = own_word_loads } in
      let room : base_of cpus ≤ length s.words = k.room in
      let words : List ℕ = set s.words 0 n in
      let now : get_or words 0 0 ≡ n = get_or-set_same s.words 0 n 0 (omega arith) in
      let same : (c : ℕ) → get_or words (own_word_index c) 0 ≡ get_or s.words (own_word_index c) 0 =
      λ c. get_or-set_other s.words 0 (own_word_index c) n 0 (number_apart c) in
      let mask : (c : ℕ) → get_or words (mask_index c) 0 ≡ get_or s.words (mask_index c) 0 =
      λ c. get_or-set_other s.words 0 (mask_index c) n 0 (mask_number c) in
      let mine : Fits cpus words k.owner k.engine own_word_loads id w = record {
        seen = omega (arith, now);
        base = f.base;
        inside = λ r. absurd (cc);
        own = λ r. absurd (cc);
        sound = λ r. absurd (cc);
        announced = λ r. absurd (cc);
        lone = f.lone;
        number = λ r. sym now;
        found = λ r. refl;
        undealt = λ r d low high. let t = f.undealt r d low high in (t.0, same d ∙ t.1);
      } in
      let others : (j : ℕ) (u : View C)
      → j ≢ id → Fits cpus s.words k.owner k.engine k.own_word_loads j u
      → Fits cpus words k.owner k.engine own_word_loads j u =
      λ j u apart h.
      let none : u.role ≡ Engine → ⊥ = λ r. apart (sym (h.lone r) ∙ f.lone engine) in
      record {
        seen = let b : u.seen ≤ get_or s.words 0 0 = h.seen in omega (arith, now);
        base = h.base;
        inside = h.inside;
        own = h.own;
        sound =
            λ r. subst (λ (y : ℕ × ℕ). IsSound y.0 y.1 own_word_loads u)
            (λ i. (sym now i, sym (same u.cpu) i)) (sound u (h.sound r) (h.inside r));
        announced = λ r e. subst (λ (x : ℕ). has_bit x (u.cpu % 64) ≡ true) (sym (mask u.cpu))
            (h.announced r e);
        lone = h.lone;
        number = λ r. absurd (none r);
        found = λ r. absurd (none r);
        undealt = λ r. absurd (none r);
      } in
      changed holds cpus s k id w words own_word_loads (rw (length-set s.words 0 n) room)
      (rw now legal) (rw (same 0) k.boot)
      (λ c low none. same c
      ∙ k.absent c low (subst (λ (x : ℕ). has_bit x (c % 64) ≡ false) (mask c) none)) others mine
      (unseen holds cpus s k id v w words at refl
      (drop-set-lt (base_of cpus) s.words 0 n (omega arith)))

  begins_next : (cpus slots id : ℕ) (me : Me (Unit {0}) (View C))
      → me.0.role ≡ Engine
      → is_running me.0.seen ≡ false
      → me.0.seen < 2 ^ 62
      → Allows (IsKept holds cpus) slots id me 0 (λ _. me.0.seen + 1)
      (λ _ m. (m.0 ≡ after_begin_store me.0 (me.0.seen + 1)) × (m.1 ≡ me.1))
  begins_next cpus slots id me engine idle small s k _ at _ =
      let v : View C = me.0 in
      let n : ℕ = get_or s.words 0 0 in
      let f : Fits cpus s.words k.owner k.engine k.own_word_loads id v = k.fits id v at in
      let same : v.seen ≡ n = f.number engine in
      let word : is_number_word v.seen ≡ true = rw same k.number in
      let sound : (u : View C)
      → IsSound n (get_or s.words (own_word_index u.cpu) 0) k.own_word_loads u → u.cpu < cpus
      → IsSound (v.seen + 1) (get_or s.words (own_word_index u.cpu) 0) [] u =
      λ u t inside. record {
        own_word = t.own_word;
        bounded = t.bounded;
        boot = t.boot;
        online = t.online;
        from_own_word = t.from_own_word;
        to_seen = t.to_seen;
        current = λ p o. begun_current v.seen p word idle (rw same (t.current p o));
        cleared = λ p o runs none. absurd (cc);
      } in (
        after_begin_store v (v.seen + 1),
        keeps,
        tt,
        stored cpus id (v.seen + 1) s k v [] at engine (omega (arith, same))
            (begun_word v.seen word idle small) sound,
        (refl, refl),
      )

  ends_next : (cpus slots id : ℕ) (me : Me (Unit {0}) (View C))
      → me.0.role ≡ Engine
      → is_running me.0.seen ≡ true
      → AreCleared cpus me.0.seen me.0.own_word_loads
      → Allows (IsKept holds cpus) slots id me 0 (λ _. me.0.seen + 3)
      (λ _ m. (m.0 ≡ after_end_store me.0 (me.0.seen + 3)) × (m.1 ≡ me.1))
  ends_next cpus slots id me engine runs all s k _ at _ =
      let v : View C = me.0 in
      let n : ℕ = get_or s.words 0 0 in
      let f : Fits cpus s.words k.owner k.engine k.own_word_loads id v = k.fits id v at in
      let same : v.seen ≡ n = f.number engine in
      let word : is_number_word v.seen ≡ true = rw same k.number in
      let sound : (u : View C)
      → IsSound n (get_or s.words (own_word_index u.cpu) 0) k.own_word_loads u → u.cpu < cpus
      → IsSound (v.seen + 3) (get_or s.words (own_word_index u.cpu) 0) v.own_word_loads u =
      λ u t inside.
      let cleared : is_cleared n u.cpu k.own_word_loads ≡ true =
      subst (λ (y : ℕ × List (ℕ × ℕ)). is_cleared y.0 u.cpu y.1 ≡ true)
      (λ i. (same i, f.found engine i)) (all u.cpu inside) in
      record {
        own_word = t.own_word;
        bounded = t.bounded;
        boot = t.boot;
        online = t.online;
        from_own_word = t.from_own_word;
        to_seen = t.to_seen;
        current = λ p o. ended_current v.seen p runs
            (let already_quiescent : n ≤ p =
            t.cleared p o (subst (λ (m : ℕ). is_running m ≡ true) same runs) cleared in
            omega (arith, same));
        cleared = λ p o again none. absurd (let rests = ended_rests v.seen runs in cc);
      } in (
        after_end_store v (v.seen + 3),
        keeps,
        tt,
        stored cpus id (v.seen + 3) s k v v.own_word_loads at engine (omega (arith, same))
            (ended_word v.seen word runs) sound,
        (refl, refl),
      )

  -- begin store, of a number that is the next one
  pub begins_at : (cpus slots id n : ℕ) (me : Me (Unit {0}) (View C))
      → me.0.role ≡ Engine
      → is_running me.0.seen ≡ false
      → n ≡ me.0.seen + 1
      → n ≤ 2 ^ 62
      → Allows (IsKept holds cpus) slots id me 0 (λ _. n)
      (λ _ m. (m.0 ≡ after_begin_store me.0 n) × (m.1 ≡ me.1))
  begins_at cpus slots id n me engine idle is small =
      subst (λ (x : ℕ). Allows (IsKept holds cpus) slots id me 0 (λ _. x)
      (λ _ m. (m.0 ≡ after_begin_store me.0 x) × (m.1 ≡ me.1)))
      (sym is) (begins_next cpus slots id me engine idle (omega (arith, is, small)))

  -- end store, of a number that is the next idle one
  pub ends_at : (cpus slots id n key : ℕ) (me : Me (Unit {0}) (View C))
      → me.0.role ≡ Engine
      → is_running me.0.seen ≡ true
      → cpus ≡ key
      → AreCleared key me.0.seen me.0.own_word_loads
      → n ≡ me.0.seen + 3
      → Allows (IsKept holds cpus) slots id me 0 (λ _. n)
      (λ _ m. (m.0 ≡ after_end_store me.0 n) × (m.1 ≡ me.1))
  ends_at cpus slots id n key me engine runs is all next =
      subst (λ (x : ℕ). Allows (IsKept holds cpus) slots id me 0 (λ _. x)
      (λ _ m. (m.0 ≡ after_end_store me.0 x) × (m.1 ≡ me.1)))
      (sym next) (ends_next cpus slots id me engine runs (λ c low. all c (omega (arith, is))))
