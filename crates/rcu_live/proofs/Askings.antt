-- The rule of askings: it is kept by steps that ask no processor, and by those that ask, look or
-- take back.
use Rattle.std.proofs.Common.{◌≡◌, ◌≢◌, ℕ, zero, suc, ◌+◌, ◌<◌, ◌≤◌, Bool, true, false, List}
use Rattle.std.proofs.Common.{[]}
use Rattle.std.proofs.Common.{◌∷◌, ◌++◌, length, get_or, set, inl, inr, ⊎_elim, refl}
use Rattle.std.proofs.Common.{not, sym, ap, ◌∙◌, subst, arith, eq-eqb, length-set, length-append}
use Rattle.std.specs.Prelude.{◌==◌}
use mathlib.Core.Logic.{dite}
use mathlib.Core.Option.{Option, some, some-injective, some-ne-none}
use native.Mathlib.Decide.{ℕ_discrete}
use lib.ListN.{get_elem?}
use Rattle.atomic_table.specs.Table.{State}
use Rattle.atomic_table.proofs.Lists.{at_longer, at_set, set_else, set_here}
use Rattle.rcu_live.specs.Asking.{IsAwake, IsLastAsking}
use Rattle.rcu_live.specs.View.{after_asked_load, after_deal}
use Rattle.rcu_live.specs.declared.view.Role.TheVariants.{Asker, Cpu, Engine}
use Rattle.rcu_live.specs.declared.view.View.{View}
use Rattle.rcu_live.proofs.Deals.{at_end}

inside : {A : Type 0} (l : List A) (i : ℕ) (a : A) → get_elem? l i ≡ some a → i < length l
inside [] i a e = absurd (some-ne-none a (sym e))
inside (x ∷ xs) zero a e = omega arith
inside (x ∷ xs) (suc i) a e = let h = inside xs i a e in omega (arith, h)

none_asked : (n : ℕ) → 0 ≡ n + 1 → ⊥
none_asked n e = absurd (omega (arith, e))

module _ {C : Type 0} where
  -- the parts of a view that the rule of askings uses are as before, if this processor is asked; or
  -- the seat has not answered since
  pub record Alike (asked : ℕ) (v w : View C) : Type 0 where
    pub role : w.role ≡ v.role
    pub asking : v.role ≡ Asker → (w.cpu ≡ v.cpu) × (w.stores ≡ v.stores)
    pub seat : asked ≡ w.cpu + 1 → v.role ≡ Cpu → w.answered ≡ true
        → (w.cpu ≡ v.cpu) × (w.stores ≡ v.stores) × (v.answered ≡ true)

  pub alike_itself : (v : View C) (asked : ℕ) → Alike asked v v
  alike_itself v asked = record {
    role = refl;
    asking = λ r. (refl, refl);
    seat = λ e r answered. (refl, refl, answered);
  }

  pub alike : (v w : View C) → w.role ≡ v.role → w.cpu ≡ v.cpu → w.stores ≡ v.stores
      → w.answered ≡ v.answered → (asked : ℕ) → Alike asked v w
  alike v w role cpu stores answered asked = record {
    role = role;
    asking = λ r. (cpu, stores);
    seat = λ e r so. (cpu, stores, sym answered ∙ so);
  }

  -- a processor's seat that stored once more, behind which it has not looked
  pub alike_stored : (v w : View C) → v.role ≡ Cpu → w.role ≡ v.role → w.answered ≡ false
      → (asked : ℕ) → Alike asked v w
  alike_stored v w cpu_seat role unanswered asked = record {
    role = role;
    asking = λ r. absurd (cc);
    seat = λ e r answered. absurd (cc);
  }

  -- the same of a view that is one of these
  pub alike_as : (v w x : View C) → w ≡ x → x.role ≡ v.role → x.cpu ≡ v.cpu → x.stores ≡ v.stores
      → x.answered ≡ v.answered → (asked : ℕ) → Alike asked v w
  alike_as v w x is role cpu stores answered asked =
      subst (λ (y : View C). Alike asked v y) (sym is) (alike v x role cpu stores answered asked)

  pub alike_stored_as : (v w x : View C) → w ≡ x → v.role ≡ Cpu → x.role ≡ v.role
      → x.answered ≡ false → (asked : ℕ) → Alike asked v w
  alike_stored_as v w x is cpu_seat role unanswered asked =
      subst (λ (y : View C). Alike asked v y) (sym is)
      (alike_stored v x cpu_seat role unanswered asked)

  -- a seat that looked: it has not answered if its processor is asked
  pub alike_looked : (v : View C) (asked : ℕ) → v.role ≡ Cpu
      → Alike asked v (after_asked_load v (asked == v.cpu + 1))
  alike_looked v asked cpu = record {
    role = refl;
    asking = λ r. absurd (cc);
    seat = λ e r answered.
        let found : not (asked == v.cpu + 1) ≡ false =
        ap (λ (b : Bool). not b) (eq-eqb asked (v.cpu + 1) e) in
        absurd (cc);
  }

  -- the engine's seat after a processor's is dealt
  pub alike_dealt : (v : View C) → v.role ≡ Engine → (asked : ℕ) → Alike asked v (after_deal v)
  alike_dealt v engine asked = record {
    role = refl;
    asking = λ r. absurd (cc);
    seat = λ e r. absurd (cc);
  }

  -- an element after one changed, as it was, and as it is
  was : (asked : ℕ) (views : List (View C)) (id : ℕ) (v w : View C) → get_elem? views id ≡ some v
      → Alike asked v w
      → (j : ℕ) (u : View C) → get_elem? (set views id w) j ≡ some u
      → (x : View C) × (get_elem? views j ≡ some x) × Alike asked x u
  was asked views id v w at same j u here =
      ⊎_elim
      (λ (t : (j ≡ id) × (w ≡ u)). (
        v,
        ap (λ (i : ℕ). get_elem? views i) t.0 ∙ at,
        subst (λ (y : View C). Alike asked v y) t.1 same,
      ))
      (λ (t : (j ≢ id) × (get_elem? views j ≡ some u)). (u, t.1, alike_itself u asked))
      (at_set views id j w u here)

  still_asking : (asked : ℕ) (views : List (View C)) (id : ℕ) (v w : View C)
      → get_elem? views id ≡ some v
      → Alike asked v w → (j : ℕ) (u : View C) → get_elem? views j ≡ some u → u.role ≡ Asker
      → (y : View C) × (get_elem? (set views id w) j ≡ some y) × (y.role ≡ Asker)
  still_asking asked views id v w at same j u here asking =
      dite (ℕ_discrete j id)
      (λ (e : j ≡ id).
      let is : v ≡ u =
      some-injective _ _ (sym at ∙ ap (λ (i : ℕ). get_elem? views i) (sym e) ∙ here) in (
        w,
        ap (λ (i : ℕ). get_elem? (set views id w) i) e ∙ set_here views id w (inside views id v at),
        same.role ∙ ap (λ (x : View C). x.role) is ∙ asking,
      ))
      (λ (ne : j ≢ id). (u, set_else views id j w ne ∙ here, asking))

  last_was : (asked : ℕ) (views : List (View C)) (id : ℕ) (v w : View C)
      → get_elem? views id ≡ some v
      → Alike asked v w → (i : ℕ) (a : View C) → IsLastAsking (set views id w) i a
      → (x : View C) × IsLastAsking views i x × Alike asked x a
  last_was asked views id v w at same i a h =
      let old = was asked views id v w at same i a h.here in (
        old.0,
        record {
          here = old.1;
          role = sym old.2.role ∙ h.role;
          last = λ j u there asking.
              let now = still_asking asked views id v w at same j u there asking in
              h.last j now.0 now.1 now.2;
        },
        old.2,
      )

  -- a step that asks no processor
  pub awake_still : (s : State (Unit {0}) (View C)) → IsAwake s → (id : ℕ) (v w : View C)
      (words : List ℕ) (homes : List (Option (Unit {0}))) → get_elem? s.views id ≡ some v
      → get_or words 1 0 ≡ get_or s.words 1 0 → Alike (get_or s.words 1 0) v w
      → IsAwake record { words = words; homes = homes; views = set s.views id w }
  awake_still s k id v w words homes at word same =
      let asked : ℕ = get_or s.words 1 0 in
      record {
        opened = subst (λ (n : ℕ). 0 < n) (sym (length-set s.views id w)) k.opened;
        stands = λ i a h.
            let x = last_was asked s.views id v w at same i a h in
            ⊎_elim (λ (z : asked ≡ 0). inl (word ∙ z))
            (λ (e : asked ≡ x.0.cpu + 1).
            inr (word ∙ e ∙ ap (λ (n : ℕ). n + 1) (sym (x.2.asking x.1.role).0)))
            (k.stands i x.0 x.1);
        unreported = λ i j a u last here now role cpu answered.
            let x = last_was asked s.views id v w at same i a last in
            let y = was asked s.views id v w at same j u here in
            let asking = x.2.asking x.1.role in
            let is : y.0.role ≡ Cpu = sym y.2.role ∙ role in
            let of_it : asked ≡ u.cpu + 1 = sym word ∙ now ∙ ap (λ (n : ℕ). n + 1) (sym cpu) in
            let seat = y.2.seat of_it is answered in
            asking.1
            ∙ k.unreported i j x.0 y.0 x.1 y.1
            (sym word ∙ now ∙ ap (λ (n : ℕ). n + 1) asking.0) is
            (sym seat.0 ∙ cpu ∙ asking.0) seat.2
            ∙ sym seat.1;
      }

  -- an asking is taken back
  pub awake_back : (s : State (Unit {0}) (View C)) → IsAwake s → (id : ℕ) (w : View C)
      (words : List ℕ) (homes : List (Option (Unit {0}))) → get_or words 1 0 ≡ 0
      → IsAwake record { words = words; homes = homes; views = set s.views id w }
  awake_back s k id w words homes word = record {
    opened = subst (λ (n : ℕ). 0 < n) (sym (length-set s.views id w)) k.opened;
    stands = λ i a h. inl word;
    unreported = λ i j a u last here now role cpu answered.
        absurd (none_asked a.cpu (sym word ∙ now));
  }

  -- behind all seats comes one more that is no asking: the latest asking is as before
  last_before : (views : List (View C)) (w : View C) → (w.role ≡ Asker → ⊥) → (i : ℕ) (a : View C)
      → IsLastAsking (views ++ w ∷ []) i a → IsLastAsking views i a
  last_before views w no_asking i a h = record {
    here = ⊎_elim (λ (t : get_elem? views i ≡ some a). t)
        (λ (t : (i ≡ length views) × (w ≡ a)).
        absurd (no_asking (ap (λ (x : View C). x.role) t.1 ∙ h.role)))
        (at_end views w a i h.here);
    role = h.role;
    last = λ j u here asking. h.last j u (at_longer views (w ∷ []) j u here) asking;
  }

  longer : (views : List (View C)) (w : View C) → 0 < length (views ++ w ∷ [])
  longer views w = let both = length-append views (w ∷ []) in more_than_none _ (length views) both
    where
      more_than_none : (n old : ℕ) → n ≡ old + 1 → 0 < n
      more_than_none n old e = omega (arith, e)

  -- a seat comes in that is no asking, and has answered none
  pub awake_more : (s : State (Unit {0}) (View C)) → IsAwake s → (w : View C)
      → (w.role ≡ Asker → ⊥) → w.answered ≡ false
      → IsAwake record { words = s.words; homes = s.homes; views = s.views ++ w ∷ [] }
  awake_more s k w no_asking unanswered = record {
    opened = longer s.views w;
    stands = λ i a h. k.stands i a (last_before s.views w no_asking i a h);
    unreported = λ i j a u last here now role cpu answered.
        ⊎_elim
        (λ (t : get_elem? s.views j ≡ some u).
        k.unreported i j a u (last_before s.views w no_asking i a last) t now role cpu answered)
        (λ (t : (j ≡ length s.views) × (w ≡ u)).
        let so : w.answered ≡ true = ap (λ (x : View C). x.answered) t.1 ∙ answered in
        absurd (cc))
        (at_end s.views w u j here);
  }

  -- an asking comes in, and is the latest: it counts the stores of its processor's seat
  pub awake_asks : (s : State (Unit {0}) (View C)) → IsAwake s → (w : View C) (words : List ℕ)
      (homes : List (Option (Unit {0}))) → w.role ≡ Asker
      → ((j : ℕ) (u : View C) → get_elem? s.views j ≡ some u → u.role ≡ Cpu → u.cpu ≡ w.cpu
      → w.stores ≡ u.stores)
      → get_or words 1 0 ≡ w.cpu + 1
      → IsAwake record { words = words; homes = homes; views = s.views ++ w ∷ [] }
  awake_asks s k w words homes is stored word =
      let views : List (View C) = s.views ++ w ∷ [] in
      let new : (i : ℕ) (a : View C) → IsLastAsking views i a → w ≡ a =
      λ i a h. ⊎_elim
      (λ (t : get_elem? s.views i ≡ some a).
      let low = inside s.views i a t in
      let high = h.last (length s.views) w (at_length s.views w) is in
      absurd (before_end i (length s.views) low high))
      (λ (t : (i ≡ length s.views) × (w ≡ a)). t.1)
      (at_end s.views w a i h.here) in
      record {
        opened = longer s.views w;
        stands = λ i a h. inr (word ∙ ap (λ (x : View C). x.cpu + 1) (new i a h));
        unreported = λ i j a u last here now role cpu answered.
            let same : w ≡ a = new i a last in
            ⊎_elim
            (λ (t : get_elem? s.views j ≡ some u).
            ap (λ (x : View C). x.stores) (sym same)
            ∙ stored j u t role (cpu ∙ ap (λ (x : View C). x.cpu) (sym same)))
            (λ (t : (j ≡ length s.views) × (w ≡ u)). absurd (not_two w u is role t.1))
            (at_end s.views w u j here);
      }
    where
      before_end : (i n : ℕ) → i < n → n ≤ i → ⊥
      before_end i n low high = absurd (omega (arith, low, high))

      at_length : (l : List (View C)) (w : View C) → get_elem? (l ++ w ∷ []) (length l) ≡ some w
      at_length [] w = refl
      at_length (x ∷ xs) w = at_length xs w

      not_two : (w u : View C) → w.role ≡ Asker → u.role ≡ Cpu → w ≡ u → ⊥
      not_two w u asking seat same = absurd (cc)

  -- at the opening no processor is asked
  pub awake_at_first : (words : List ℕ) (homes : List (Option (Unit {0}))) (v : View C)
      → get_or words 1 0 ≡ 0
      → IsAwake record { words = words; homes = homes; views = v ∷ [] }
  awake_at_first words homes v word = record {
    opened = omega arith;
    stands = λ i a h. inl word;
    unreported = λ i j a u last here now role cpu answered.
        absurd (none_asked a.cpu (sym word ∙ now));
  }
