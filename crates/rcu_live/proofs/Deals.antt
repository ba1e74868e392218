-- Dealing a seat keeps the rule.
use Rattle.std.proofs.Common.{◌≡◌, ◌≢◌, ◌⊎◌, ℕ, zero, suc, ◌+◌, ◌<◌, ◌≤◌, ◌==◌, if◌then◌else◌, List}
use Rattle.std.proofs.Common.{[], ◌∷◌, ◌++◌, Option, Some, None, length, set, map, drop, inl, inr}
use Rattle.std.proofs.Common.{refl, sym, ap, ◌∙◌, subst, ⊎_elim, arith, eq-eqb, ne_eqb}
use mathlib.Core.List.{map-append}
use mathlib.Core.Option.{some, some-injective, some-ne-none}
use lib.ListN.{get_elem?}
use Rattle.atomic_table.specs.Table.{State, Splits}
use Rattle.atomic_table.proofs.Lists.{at_map, at_set, set_again}
use Rattle.rcu_live.specs.Client.{IsStable, Views, ClientView}
use Rattle.rcu_live.specs.Rule.{Fits, IsKept}
use Rattle.rcu_live.specs.View.{after_deal, if_cpu, next_cpu_seat, client_view, watcher_seat}
use Rattle.rcu_live.specs.Words.{base_of, first_own_word}
use Rattle.rcu_live.specs.declared.view.Role.{Role}
use Rattle.rcu_live.specs.declared.view.Role.TheVariants.{Engine}
use Rattle.rcu_live.specs.declared.view.View.{View}
use Rattle.rcu_live.proofs.Frames.{same_views}
use Rattle.rcu_live.proofs.Numbers.{own_small}

-- an element of a list with one more at its end
pub at_end : {A : Type 0} (l : List A) (a b : A) (j : ℕ) → get_elem? (l ++ a ∷ []) j ≡ some b
    → (get_elem? l j ≡ some b) ⊎ ((j ≡ length l) × (a ≡ b))
at_end [] a b zero e = inr (refl, some-injective _ _ e)
at_end [] a b (suc j) e = absurd (some-ne-none b (sym e))
at_end (x ∷ xs) a b zero e = inl e
at_end (x ∷ xs) a b (suc j) e =
    ⊎_elim (λ h. inl h) (λ (h : (j ≡ length xs) × (a ≡ b)). inr (ap suc h.0, h.1))
    (at_end xs a b j e)

first_small : (c : ℕ) → first_own_word c ≤ 1
first_small zero = omega arith
first_small (suc c) = omega arith

first_boot : (c : ℕ) → c ≡ 0 → 0 < first_own_word c
first_boot zero e = omega arith
first_boot (suc c) e = absurd (omega arith)

module _ {C : Type 0} (holds : List ℕ → Views C → Type 0) where
  -- a dealt seat, as the client sees it
  pub dealt : (cpus : ℕ) (s : State (Unit {0}) (View C))
      → IsKept holds cpus s
      → (idle close : C → C)
      → IsStable holds idle close
      → (id : ℕ) (v w new : View C) (cpu : Option ℕ)
      → get_elem? s.views id ≡ some v
      → client_view w ≡ client_view v
      → client_view new ≡ (cpu, None, idle v.client)
      → holds (drop (base_of cpus) s.words) (map client_view (set s.views id w ++ new ∷ []))
  dealt cpus s k idle close stable id v w new cpu at same is =
      let after : map client_view (set s.views id w ++ new ∷ [])
      ≡ map client_view s.views ++ (cpu, None, idle v.client) ∷ [] =
      map-append client_view (set s.views id w) (new ∷ [])
      ∙ (ap (λ (x : ClientView C). map client_view (set s.views id w) ++ x ∷ []) is
      ∙ ap (λ (xs : Views C). xs ++ (cpu, None, idle v.client) ∷ [])
      (same_views s.views id v w at same)) in
      subst (λ (xs : Views C). holds (drop (base_of cpus) s.words) xs) (sym after)
      (stable.deals (drop (base_of cpus) s.words) (map client_view s.views) id
      (if_cpu v.role (Some v.cpu)) (if_cpu v.role v.section) v.client cpu k.client
      (at_map client_view s.views id v at))

  -- a watcher's seat fits, whatever it knows of the client
  pub watcher_fits : (cpus : ℕ) (s : State (Unit {0}) (View C)) (k : IsKept holds cpus s)
      (j base : ℕ)
      (c : C)
      → base ≡ base_of cpus
      → Fits cpus s.words k.owner k.engine k.own_word_loads j (watcher_seat base c)
  watcher_fits cpus s k j base c is = record {
    seen = omega arith;
    base = is;
    inside = λ r. absurd (cc);
    own = λ r. absurd (cc);
    sound = λ r. absurd (cc);
    announced = λ r. absurd (cc);
    lone = λ r. absurd (cc);
    number = λ r. absurd (cc);
    found = λ r. absurd (cc);
    undealt = λ r. absurd (cc);
  }

  -- a watcher's seat
  pub deals_watcher : (idle close : C → C)
      → IsStable holds idle close → (cpus id : ℕ) (v : View C)
      → Splits (IsKept holds cpus) id v v (watcher_seat v.base (idle v.client))
  deals_watcher idle close stable cpus id v s k at =
      let new : View C = watcher_seat v.base (idle v.client) in
      record {
        room = k.room;
        number = k.number;
        boot = k.boot;
        absent = k.absent;
        owner = k.owner;
        engine = k.engine;
        own_word_loads = k.own_word_loads;
        fits = λ j u e.
            ⊎_elim
            (λ (was : get_elem? (set s.views id v) j ≡ some u).
            k.fits j u
            (subst (λ (l : List (View C)). get_elem? l j ≡ some u) (set_again s.views id v at) was))
            (λ (last : (j ≡ length (set s.views id v)) × (new ≡ u)).
            subst (Fits cpus s.words k.owner k.engine k.own_word_loads j) last.1
            (watcher_fits cpus s k j v.base (idle v.client) (k.fits id v at).base))
            (at_end (set s.views id v) new u j e);
        client = dealt cpus s k idle close stable id v v new None at refl refl;
      }

  -- the next processor's seat
  pub deals_cpu : (idle close : C → C)
      → IsStable holds idle close → (cpus id : ℕ) (v : View C) → v.role ≡ Engine → v.cpu < cpus
      → Splits (IsKept holds cpus) id v (after_deal v) (next_cpu_seat (idle v.client) v)
  deals_cpu idle close stable cpus id v engine low s k at =
      let c : ℕ = v.cpu in
      let left : View C = after_deal v in
      let right : View C = next_cpu_seat (idle v.client) v in
      let new : ℕ = length (set s.views id left) in
      let owner : ℕ → ℕ = λ d. if d == c then new else k.owner d in
      let f : Fits cpus s.words k.owner k.engine k.own_word_loads id v = k.fits id v at in
      let free = f.undealt engine c (omega arith) low in
      let hit : owner c ≡ new = rw (eq-eqb c c refl) refl in
      let miss : (d : ℕ) → d ≢ c → owner d ≡ k.owner d = λ d apart. rw (ne_eqb d c apart) refl in
      let left_fits : Fits cpus s.words owner k.engine k.own_word_loads id left = record {
        seen = f.seen;
        base = f.base;
        inside = λ r. absurd (cc);
        own = λ r. absurd (cc);
        sound = λ r. absurd (cc);
        announced = λ r. absurd (cc);
        lone = f.lone;
        number = f.number;
        found = f.found;
        undealt = λ r d above high.
            let t = f.undealt r d (omega arith) high in
            (miss d (λ e. absurd (omega arith)) ∙ t.0, t.1);
      } in
      let right_fits : Fits cpus s.words owner k.engine k.own_word_loads new right = record {
        seen = omega arith;
        base = f.base;
        inside = λ r. low;
        own = λ r. hit;
        sound = λ r. record {
          own_word = free.1;
          bounded = own_small _ (first_small c);
          boot = first_boot c;
          online = λ p o. absurd (cc);
          from_own_word = λ p o. absurd (cc);
          to_seen = λ p o. absurd (cc);
          current = λ p o. absurd (cc);
          cleared = λ p o. absurd (cc);
        };
        announced = λ r e. absurd (cc);
        lone = λ r. absurd (cc);
        number = λ r. absurd (cc);
        found = λ r. absurd (cc);
        undealt = λ r. absurd (cc);
      } in
      let others : (j : ℕ) (u : View C)
      → j ≢ id → Fits cpus s.words k.owner k.engine k.own_word_loads j u
      → Fits cpus s.words owner k.engine k.own_word_loads j u = λ j u apart h.
      let no_engine : u.role ≡ Engine → ⊥ = λ r. apart (sym (h.lone r) ∙ f.lone engine) in record {
        seen = h.seen;
        base = h.base;
        inside = h.inside;
        own = λ r. miss u.cpu (λ e. apart (sym (h.own r) ∙ ap k.owner e ∙ free.0)) ∙ h.own r;
        sound = h.sound;
        announced = h.announced;
        lone = h.lone;
        number = h.number;
        found = h.found;
        undealt = λ r. absurd (no_engine r);
      } in
      let one : (role : Role) → role ≡ Engine
      → (if_cpu role (Some (c + 1))) ≡ if_cpu role (Some c) =
      λ role e. rw e refl in
      let same : client_view left ≡ client_view v =
      ap (λ (o : Option ℕ). (o, if_cpu v.role v.section, v.client)) (one v.role engine) in
      record {
        room = k.room;
        number = k.number;
        boot = k.boot;
        absent = k.absent;
        owner = owner;
        engine = k.engine;
        own_word_loads = k.own_word_loads;
        fits = λ j u e.
            ⊎_elim
            (λ (was : get_elem? (set s.views id left) j ≡ some u).
            ⊎_elim
            (λ (x : (j ≡ id) × (left ≡ u)).
            subst (λ (y : ℕ × View C). Fits cpus s.words owner k.engine k.own_word_loads y.0 y.1)
            (λ i. (sym x.0 i, x.1 i)) left_fits)
            (λ (x : (j ≢ id) × (get_elem? s.views j ≡ some u)). others j u x.0 (k.fits j u x.1))
            (at_set s.views id j left u was))
            (λ (last : (j ≡ new) × (right ≡ u)).
            subst (λ (y : ℕ × View C). Fits cpus s.words owner k.engine k.own_word_loads y.0 y.1)
            (λ i. (sym last.0 i, last.1 i)) right_fits)
            (at_end (set s.views id left) right u j e);
        client = dealt cpus s k idle close stable id v left right (Some c) at same refl;
      }
