-- Each load of the number keeps the rule.
use Rattle.std.proofs.Common.{◌≡◌, ℕ, ◌+◌, ◌%◌, ◌<◌, ◌≤◌, List, Option, Some, None, get_or}
use Rattle.std.proofs.Common.{set}
use Rattle.std.proofs.Common.{map}
use Rattle.std.proofs.Common.{drop, true, refl, sym, ap, ◌∙◌, subst, arith}
use mathlib.Core.Option.{some}
use lib.ListN.{get_elem?}
use lib.Seq.{map-set}
use Rattle.atomic_table.specs.Table.{State, Me, keeps, Allows}
use Rattle.atomic_table.proofs.Lists.{at_map}
use Rattle.rcu_node.specs.Words.{has_bit}
use Rattle.rcu_live.specs.Client.{IsStable, Views, ClientView}
use Rattle.rcu_live.specs.Numbers.{may_open}
use Rattle.rcu_live.specs.Rule.{Fits, IsKept, IsSound}
use Rattle.rcu_live.specs.View.{Closed, Loaded, Opened, after_close, after_load, after_open, if_cpu}
use Rattle.rcu_live.specs.View.{client_view}
use Rattle.rcu_live.specs.Words.{base_of, own_word_index, mask_index}
use Rattle.rcu_live.specs.declared.view.Role.{Role}
use Rattle.rcu_live.specs.declared.view.Role.TheVariants.{Asker, Cpu, Engine, Watcher}
use Rattle.rcu_live.specs.declared.view.View.{View}
use Rattle.rcu_live.proofs.Frames.{unchanged, unseen}
use Rattle.rcu_live.proofs.ClientLemmas.{not_past}
use Rattle.rcu_live.proofs.Numbers.{own_bound, own_later}

-- no section is shown of a seat that has none
none_shown : (role : Role) → if_cpu role None ≡ None
none_shown Cpu = refl
none_shown Watcher = refl
none_shown Engine = refl
none_shown Asker = refl

the_same : {a b : ℕ} → Some a ≡ Some b → b ≡ a
the_same e = cc

module _ {C : Type 0} (holds : List ℕ → Views C → Type 0) where
  -- a seat that saw the number fits, if it did before, and if the invariant of its section holds
  seen_fits : (cpus : ℕ) (words : List ℕ) (owner : ℕ → ℕ) (engine : ℕ)
      (own_word_loads : List (ℕ × ℕ)) (id : ℕ) (v w : View C)
      → Fits cpus words owner engine own_word_loads id v
      → w.role ≡ v.role
      → w.cpu ≡ v.cpu
      → w.seen ≡ get_or words 0 0
      → w.base ≡ v.base
      → w.own_word_loads ≡ v.own_word_loads
      → w.announced ≡ v.announced
      → (w.role ≡ Cpu → IsSound (get_or words 0 0) (get_or words (own_word_index w.cpu) 0)
      own_word_loads w)
      → Fits cpus words owner engine own_word_loads id w
  seen_fits cpus words owner engine own_word_loads id v w f role cpu seen base found same sound =
      record {
        seen = omega (arith, seen);
        base = base ∙ f.base;
        inside = λ r. subst (λ (c : ℕ). c < cpus) (sym cpu) (f.inside (sym role ∙ r));
        own = λ r. ap owner cpu ∙ f.own (sym role ∙ r);
        sound = sound;
        announced = λ r e.
            subst (λ (c : ℕ). has_bit (get_or words (mask_index c) 0) (c % 64) ≡ true)
            (sym cpu)
            (f.announced (sym role ∙ r) (sym same ∙ e));
        lone = λ r. f.lone (sym role ∙ r);
        number = λ r. seen;
        found = λ r. found ∙ f.found (sym role ∙ r);
        undealt =
            λ r c low high. f.undealt (sym role ∙ r) c (subst (λ (d : ℕ). d ≤ c) cpu low) high;
      }

  -- a seat fits after a number load
  pub load_fits : (cpus : ℕ) (s : State (Unit {0}) (View C)) (k : IsKept holds cpus s) (id : ℕ)
      (v : View C)
      → get_elem? s.views id ≡ some v
      → Fits cpus s.words k.owner k.engine k.own_word_loads id (after_load v (get_or s.words 0 0))
  load_fits cpus s k id v at =
      let n : ℕ = get_or s.words 0 0 in
      let f : Fits cpus s.words k.owner k.engine k.own_word_loads id v = k.fits id v at in
      let w : View C = after_load v n in
      let sound : v.role ≡ Cpu
      → IsSound n (get_or s.words (own_word_index v.cpu) 0) k.own_word_loads w =
      λ r. let t = f.sound r in record {
        own_word = t.own_word;
        bounded = own_later v.seen n v.own_word f.seen t.bounded;
        boot = t.boot;
        online = t.online;
        from_own_word = t.from_own_word;
        to_seen = λ p o. let a = t.to_seen p o in let b = f.seen in omega arith;
        current = t.current;
        cleared = t.cleared;
      } in
      seen_fits cpus s.words k.owner k.engine k.own_word_loads id v w f refl refl refl refl refl
      refl sound

  -- number load
  pub loads : (cpus slots id : ℕ) (me : Me (Unit {0}) (View C))
      → Allows (IsKept holds cpus) slots id me 0 (λ n. n) (λ n m. Loaded me.0 n m.0 × (m.1 ≡ me.1))
  loads cpus slots id me s k _ at _ =
      let n : ℕ = get_or s.words 0 0 in
      let v : View C = me.0 in
      let f : Fits cpus s.words k.owner k.engine k.own_word_loads id v = k.fits id v at in
      let w : View C = after_load v n in (
        w,
        keeps,
        tt,
        unchanged holds cpus s k id 0 w (load_fits cpus s k id v at)
            (unseen holds cpus s k id v w s.words at refl refl),
        (
          record {
            view = refl;
            later = f.seen;
            number = k.number;
            began = λ r. (f.sound r).to_seen;
            current = λ r. (f.sound r).current;
          },
          refl,
        ),
      )

  -- section-opening load
  pub opens : (idle close : C → C)
      → IsStable holds idle close
      → (cpus slots id : ℕ) (me : Me (Unit {0}) (View C))
      → me.0.role ≡ Cpu
      → may_open me.0.own_word ≡ true
      → me.0.section ≡ None
      → Allows (IsKept holds cpus) slots id me 0 (λ n. n) (λ n m. Opened me.0 n m.0 × (m.1 ≡ me.1))
  opens idle close stable cpus slots id me cpu online shut s k _ at _ =
      let n : ℕ = get_or s.words 0 0 in
      let v : View C = me.0 in
      let f : Fits cpus s.words k.owner k.engine k.own_word_loads id v = k.fits id v at in
      let w : View C = after_open v n in
      let t = f.sound cpu in
      let up : v.seen ≤ n = f.seen in
      let low : v.own_word ≤ v.seen + 1 = own_bound v.seen v.own_word t.bounded online in
      let sound : v.role ≡ Cpu
      → IsSound n (get_or s.words (own_word_index v.cpu) 0) k.own_word_loads w = λ r. record {
        own_word = t.own_word;
        bounded = own_later v.seen n v.own_word up t.bounded;
        boot = t.boot;
        online = λ p o. online;
        from_own_word = λ p o. let e = the_same o in omega arith;
        to_seen = λ p o. let e = the_same o in omega arith;
        current = λ p o. rw (the_same o) (not_past n);
        cleared = λ p o running told. let e = the_same o in omega arith;
      } in
      let mine = seen_fits cpus s.words k.owner k.engine k.own_word_loads id v w f refl refl refl
      refl refl refl sound in
      let one : Option ℕ = if_cpu v.role (Some v.cpu) in
      let now : client_view w ≡ (one, Some n, v.client) =
      ap (λ (r : Role). (one, if_cpu r (Some n), v.client)) cpu in
      let was : client_view v ≡ (one, None, v.client) =
      ap (λ (y : Role × Option ℕ). (one, if_cpu y.0 y.1, v.client)) (λ i. (cpu i, shut i)) in
      let after : map client_view (set s.views id w)
      ≡ set (map client_view s.views) id (one, Some n, v.client) =
      map-set client_view s.views id w
      ∙ ap (λ (x : ClientView C). set (map client_view s.views) id x) now in
      let client : holds (drop (base_of cpus) s.words)
      (map client_view (set s.views id w)) =
      subst (λ (xs : Views C). holds (drop (base_of cpus) s.words) xs) (sym after)
      (stable.opens (drop (base_of cpus) s.words) (map client_view s.views) id n one
      v.client k.client (at_map client_view s.views id v at ∙ ap some was)) in (
        w,
        keeps,
        tt,
        unchanged holds cpus s k id 0 w mine client,
        (record { view = refl; later = up; number = k.number }, refl),
      )

  -- section-closing load
  pub closes : (idle close : C → C)
      → IsStable holds idle close
      → (cpus slots id : ℕ) (me : Me (Unit {0}) (View C))
      → Allows (IsKept holds cpus) slots id me 0 (λ n. n)
      (λ n m. Closed close me.0 n m.0 × (m.1 ≡ me.1))
  closes idle close stable cpus slots id me s k _ at _ =
      let n : ℕ = get_or s.words 0 0 in
      let v : View C = me.0 in
      let f : Fits cpus s.words k.owner k.engine k.own_word_loads id v = k.fits id v at in
      let w : View C = after_close close v n in
      let up : v.seen ≤ n = f.seen in
      let sound : v.role ≡ Cpu
      → IsSound n (get_or s.words (own_word_index v.cpu) 0) k.own_word_loads w =
      λ r. let t = f.sound r in record {
        own_word = t.own_word;
        bounded = own_later v.seen n v.own_word up t.bounded;
        boot = t.boot;
        online = λ p o. absurd (cc);
        from_own_word = λ p o. absurd (cc);
        to_seen = λ p o. absurd (cc);
        current = λ p o. absurd (cc);
        cleared = λ p o. absurd (cc);
      } in
      let mine = seen_fits cpus s.words k.owner k.engine k.own_word_loads id v w f refl refl refl
      refl refl refl sound in
      let one : Option ℕ = if_cpu v.role (Some v.cpu) in
      let now : client_view w ≡ (one, None, close v.client) =
      ap (λ (o : Option ℕ). (one, o, close v.client)) (none_shown v.role) in
      let after : map client_view (set s.views id w)
      ≡ set (map client_view s.views) id (one, None, close v.client) =
      map-set client_view s.views id w
      ∙ ap (λ (x : ClientView C). set (map client_view s.views) id x) now in
      let client : holds (drop (base_of cpus) s.words)
      (map client_view (set s.views id w)) =
      subst (λ (xs : Views C). holds (drop (base_of cpus) s.words) xs) (sym after)
      (stable.closes (drop (base_of cpus) s.words) (map client_view s.views) id one
      (if_cpu v.role v.section) v.client k.client (at_map client_view s.views id v at)) in (
        w,
        keeps,
        tt,
        unchanged holds cpus s k id 0 w mine client,
        (record { view = refl; later = up; number = k.number }, refl),
      )
