-- Steps keep both rules: that of sections, as their own lemmas say, and that of askings.
use Rattle.std.proofs.Common.{◌≡◌, ◌≢◌, ℕ, ◌+◌, ◌<◌, ◌≤◌, true, false, List, [], ◌∷◌, ◌++◌}
use Rattle.std.proofs.Common.{None, length, get_or, set, map, drop, ⊎_elim, refl, sym, ap, ◌∙◌}
use Rattle.std.proofs.Common.{subst, Bool, ◌==◌}
use Rattle.std.proofs.Common.{arith, length-set, ◌%◌, ◌*◌, ◌^◌}
use Rattle.std.specs.Prelude.{bit_and, bit_or}
use Rattle.std.specs.Int.{bit_not, w64}
use Rattle.std.proofs.lemmas.List.{drop-set-lt, get_or-set_other, get_or-set_same}
use mathlib.Core.Option.{Option, none, some}
use lib.ListN.{get_elem?}
use Rattle.atomic_table.specs.Table.{Allows, Arrives, Me, Splits, State, carried_after}
use Rattle.atomic_table.specs.Table.{keeps, opening}
use Rattle.atomic_table.proofs.Lists.{set_again}
use Rattle.rcu_node.specs.Words.{has_bit}
use Rattle.rcu_live.specs.Asking.{IsMoment}
use Rattle.rcu_live.specs.Client.{IsStable, Views}
use Rattle.rcu_live.specs.Rule.{Fits, IsKept, IsSound}
use Rattle.rcu_live.specs.View.{Closed, Loaded, Opened, OwnWordLoaded, SteppedOnNumber}
use Rattle.rcu_live.specs.View.{SteppedOnWord, after_announcement, after_arrive_store}
use Rattle.rcu_live.specs.View.{after_begin_store, after_close, after_end_store, after_load}
use Rattle.rcu_live.specs.View.{after_open}
use Rattle.rcu_live.specs.View.{after_online_mask_load, after_own_word_load, after_store, asking_of}
use Rattle.rcu_live.specs.View.{after_asked_load, after_take_back, client_view, engine_seat}
use Rattle.rcu_live.specs.View.{with_client}
use Rattle.rcu_live.specs.Words.{base_of, first_words, mask_index, own_word_index}
use Rattle.rcu_live.specs.declared.view.Role.TheVariants.{Asker, Cpu}
use Rattle.rcu_live.specs.declared.view.View.{View}
use Rattle.rcu_live.proofs.Askings.{Alike, alike_as, alike_looked, alike_stored_as, awake_asks}
use Rattle.rcu_live.proofs.Askings.{awake_at_first, awake_back, awake_more, awake_still}
use Rattle.rcu_live.proofs.Deals.{at_end, dealt}
use Rattle.rcu_live.proofs.Frames.{changed, unseen}
use Rattle.rcu_live.proofs.Numbers.{asked_mask, asked_own_word, client_asked, number_asked}
use Rattle.rcu_live.proofs.OnlineMasks.{clears_online_bit, sets_online_bit}
use Rattle.rcu_live.proofs.Openings.{asked_at_first, starts}

-- there is a first one
first_of : {A : Type 0} (l : List A) → 0 < length l → (a : A) × (get_elem? l 0 ≡ some a)
first_of [] some_seat = absurd (omega (arith, some_seat))
first_of (x ∷ xs) some_seat = (x, refl)

number_elsewhere : ◌≢◌ {A = ℕ} 0 1
number_elsewhere same = absurd (omega (arith, same))

asked_inside : (n : ℕ) → 1 < base_of n
asked_inside n = omega arith

-- how often the seat here has stored, if one is here
abbrev stores_of : {C : Type 0} → Option (View C) → ℕ
stores_of none = 0
stores_of (some v) = v.stores

module _ {C : Type 0} (holds : List ℕ → Views C → Type 0) where
  -- a step that leaves which processor is asked, by a seat whose view is alike for the rule of
  -- askings
  moves : (cpus slots id at : ℕ) (me : Me (Unit {0}) (View C)) (change : ℕ → ℕ)
      (tells : ℕ → Me (Unit {0}) (View C) → Type 0)
      → Allows (IsKept holds cpus) slots id me at change tells
      → at ≢ 1
      → ((n : ℕ) (m : Me (Unit {0}) (View C)) → tells n m → (asked : ℕ) → Alike asked me.0 m.0)
      → Allows (IsMoment holds cpus) slots id me at change tells
  moves cpus slots id at me change tells allowed apart same s moment size here small =
      let r = allowed s moment.kept size here small in
      let n : ℕ = get_or s.words at 0 in (
        r.0,
        r.1,
        r.2,
        record {
          kept = r.3;
          awake = awake_still s moment.awake id me.0 r.0 (set s.words at (change n)) _ here
              (get_or-set_other s.words at 1 (change n) 0 (λ e. apart (sym e)))
              (same n (r.0, carried_after me.1 r.1) r.4 (get_or s.words 1 0));
        },
        r.4,
      )

  -- a number load
  pub loads_both : (cpus slots id : ℕ) (me : Me (Unit {0}) (View C))
      → Allows (IsKept holds cpus) slots id me 0 (λ n. n)
      (λ n m. Loaded me.0 n m.0 × (m.1 ≡ me.1))
      → Allows (IsMoment holds cpus) slots id me 0 (λ n. n)
      (λ n m. Loaded me.0 n m.0 × (m.1 ≡ me.1))
  loads_both cpus slots id me allowed =
      moves cpus slots id 0 me (λ n. n)
      (λ n m. Loaded me.0 n m.0 × (m.1 ≡ me.1))
      allowed number_asked
      (λ n m t. alike_as me.0 m.0 (after_load me.0 n) t.0.view refl refl refl refl)

  -- a section-opening load
  pub opens_both : (cpus slots id : ℕ) (me : Me (Unit {0}) (View C))
      → Allows (IsKept holds cpus) slots id me 0 (λ n. n)
      (λ n m. Opened me.0 n m.0 × (m.1 ≡ me.1))
      → Allows (IsMoment holds cpus) slots id me 0 (λ n. n)
      (λ n m. Opened me.0 n m.0 × (m.1 ≡ me.1))
  opens_both cpus slots id me allowed =
      moves cpus slots id 0 me (λ n. n)
      (λ n m. Opened me.0 n m.0 × (m.1 ≡ me.1))
      allowed number_asked
      (λ n m t. alike_as me.0 m.0 (after_open me.0 n) t.0.view refl refl refl refl)

  -- a section-closing load
  pub closes_both : (close : C → C) (cpus slots id : ℕ) (me : Me (Unit {0}) (View C))
      → Allows (IsKept holds cpus) slots id me 0 (λ n. n)
      (λ n m. Closed close me.0 n m.0 × (m.1 ≡ me.1))
      → Allows (IsMoment holds cpus) slots id me 0 (λ n. n)
      (λ n m. Closed close me.0 n m.0 × (m.1 ≡ me.1))
  closes_both close cpus slots id me allowed =
      moves cpus slots id 0 me (λ n. n)
      (λ n m. Closed close me.0 n m.0 × (m.1 ≡ me.1))
      allowed number_asked
      (λ n m t. alike_as me.0 m.0 (after_close close me.0 n) t.0.view refl refl refl refl)

  -- a begin store
  pub begins_both : (cpus slots id number : ℕ) (me : Me (Unit {0}) (View C))
      → Allows (IsKept holds cpus) slots id me 0 (λ _. number)
      (λ _ m. (m.0 ≡ after_begin_store me.0 number) × (m.1 ≡ me.1))
      → Allows (IsMoment holds cpus) slots id me 0 (λ _. number)
      (λ _ m. (m.0 ≡ after_begin_store me.0 number) × (m.1 ≡ me.1))
  begins_both cpus slots id number me allowed =
      moves cpus slots id 0 me (λ _. number)
      (λ _ m. (m.0 ≡ after_begin_store me.0 number) × (m.1 ≡ me.1))
      allowed number_asked
      (λ n m t. alike_as me.0 m.0 (after_begin_store me.0 number) t.0 refl refl refl refl)

  -- an end store
  pub ends_both : (cpus slots id number : ℕ) (me : Me (Unit {0}) (View C))
      → Allows (IsKept holds cpus) slots id me 0 (λ _. number)
      (λ _ m. (m.0 ≡ after_end_store me.0 number) × (m.1 ≡ me.1))
      → Allows (IsMoment holds cpus) slots id me 0 (λ _. number)
      (λ _ m. (m.0 ≡ after_end_store me.0 number) × (m.1 ≡ me.1))
  ends_both cpus slots id number me allowed =
      moves cpus slots id 0 me (λ _. number)
      (λ _ m. (m.0 ≡ after_end_store me.0 number) × (m.1 ≡ me.1))
      allowed number_asked
      (λ n m t. alike_as me.0 m.0 (after_end_store me.0 number) t.0 refl refl refl refl)

  -- a processor-word load
  pub own_loads_both : (cpus slots id c at : ℕ) (me : Me (Unit {0}) (View C))
      → at ≡ own_word_index c
      → Allows (IsKept holds cpus) slots id me at (λ n. n)
      (λ n m. OwnWordLoaded at me.0 n m.0 × (m.1 ≡ me.1))
      → Allows (IsMoment holds cpus) slots id me at (λ n. n)
      (λ n m. OwnWordLoaded at me.0 n m.0 × (m.1 ≡ me.1))
  own_loads_both cpus slots id c at me there allowed =
      moves cpus slots id at me (λ n. n)
      (λ n m. OwnWordLoaded at me.0 n m.0 × (m.1 ≡ me.1))
      allowed (λ e. asked_own_word c (sym there ∙ e))
      (λ n m t. alike_as me.0 m.0 (after_own_word_load me.0 at n) t.0.view refl refl refl refl)

  -- an own-word store
  pub stores_both : (cpus slots id c at word : ℕ) (me : Me (Unit {0}) (View C))
      → at ≡ own_word_index c
      → me.0.role ≡ Cpu
      → Allows (IsKept holds cpus) slots id me at (λ _. word)
      (λ _ m. (m.0 ≡ after_store me.0 word) × (m.1 ≡ me.1))
      → Allows (IsMoment holds cpus) slots id me at (λ _. word)
      (λ _ m. (m.0 ≡ after_store me.0 word) × (m.1 ≡ me.1))
  stores_both cpus slots id c at word me there cpu allowed =
      moves cpus slots id at me (λ _. word)
      (λ _ m. (m.0 ≡ after_store me.0 word) × (m.1 ≡ me.1))
      allowed (λ e. asked_own_word c (sym there ∙ e))
      (λ n m t. alike_stored_as me.0 m.0 (after_store me.0 word) t.0 cpu refl refl)

  -- one by which the processor arrives
  pub arrives_both : (cpus slots id c at word : ℕ) (me : Me (Unit {0}) (View C))
      → at ≡ own_word_index c
      → me.0.role ≡ Cpu
      → Allows (IsKept holds cpus) slots id me at (λ _. word)
      (λ _ m. (m.0 ≡ after_arrive_store me.0 word) × (m.1 ≡ me.1))
      → Allows (IsMoment holds cpus) slots id me at (λ _. word)
      (λ _ m. (m.0 ≡ after_arrive_store me.0 word) × (m.1 ≡ me.1))
  arrives_both cpus slots id c at word me there cpu allowed =
      moves cpus slots id at me (λ _. word)
      (λ _ m. (m.0 ≡ after_arrive_store me.0 word) × (m.1 ≡ me.1))
      allowed (λ e. asked_own_word c (sym there ∙ e))
      (λ n m t. alike_stored_as me.0 m.0 (after_arrive_store me.0 word) t.0 cpu refl refl)

  -- an online-mask step that sets a bit, and one that clears it
  pub sets_bit_both : (cpus slots id c at bit : ℕ) (me : Me (Unit {0}) (View C))
      → me.0.role ≡ Cpu
      → me.0.cpu ≡ c
      → at ≡ mask_index c
      → bit ≡ 1 * 2 ^ (c % 64) % 2 ^ 64
      → Allows (IsMoment holds cpus) slots id me at (λ n. bit_or n bit)
      (λ _ m. (m.0 ≡ after_announcement me.0) × (m.1 ≡ me.1))
  sets_bit_both cpus slots id c at bit me cpu own there is =
      moves cpus slots id at me (λ n. bit_or n bit)
      (λ _ m. (m.0 ≡ after_announcement me.0) × (m.1 ≡ me.1))
      (sets_online_bit holds cpus slots id c at bit me cpu own there is)
      (λ e. asked_mask c (sym there ∙ e))
      (λ n m t. alike_as me.0 m.0 (after_announcement me.0) t.0 refl refl refl refl)

  pub clears_bit_both : (cpus slots id c at mask : ℕ) (me : Me (Unit {0}) (View C))
      → me.0.role ≡ Cpu
      → me.0.cpu ≡ c
      → me.0.own_word ≡ 0
      → me.0.announced ≡ false
      → at ≡ mask_index c
      → mask ≡ bit_not w64 (1 * 2 ^ (c % 64) % 2 ^ 64)
      → Allows (IsMoment holds cpus) slots id me at (λ n. bit_and n mask)
      (λ _ m. (m.0 ≡ me.0) × (m.1 ≡ me.1))
  clears_bit_both cpus slots id c at mask me cpu own offline settled there is =
      moves cpus slots id at me (λ n. bit_and n mask) (λ _ m. (m.0 ≡ me.0) × (m.1 ≡ me.1))
      (clears_online_bit holds cpus slots id c at mask me cpu own offline settled there is)
      (λ e. asked_mask c (sym there ∙ e))
      (λ n m t. alike_as me.0 m.0 me.0 t.0 refl refl refl refl)

  -- an online-mask load
  pub loads_mask_both : (cpus slots id c at : ℕ) (me : Me (Unit {0}) (View C))
      → at ≡ mask_index c
      → Allows (IsKept holds cpus) slots id me at (λ n. n)
      (λ n m. (m.0 ≡ after_online_mask_load me.0 n) × (m.1 ≡ me.1))
      → Allows (IsMoment holds cpus) slots id me at (λ n. n)
      (λ n m. (m.0 ≡ after_online_mask_load me.0 n) × (m.1 ≡ me.1))
  loads_mask_both cpus slots id c at me there allowed =
      moves cpus slots id at me (λ n. n)
      (λ n m. (m.0 ≡ after_online_mask_load me.0 n) × (m.1 ≡ me.1))
      allowed (λ e. asked_mask c (sym there ∙ e))
      (λ n m t. alike_as me.0 m.0 (after_online_mask_load me.0 n) t.0 refl refl refl refl)

  -- a client's step on a word
  pub words_both : (key cpus slots id p at : ℕ) (me : Me (Unit {0}) (View C)) (change : ℕ → ℕ)
      (tells : ℕ → C → ℕ → C → Type 0)
      → at ≡ base_of cpus + p
      → Allows (IsKept holds key) slots id me at change
      (λ n m. SteppedOnWord tells at me.0 n m.0 × (m.1 ≡ me.1))
      → Allows (IsMoment holds key) slots id me at change
      (λ n m. SteppedOnWord tells at me.0 n m.0 × (m.1 ≡ me.1))
  words_both key cpus slots id p at me change tells there allowed =
      moves key slots id at me change
      (λ n m. SteppedOnWord tells at me.0 n m.0 × (m.1 ≡ me.1))
      allowed (client_asked cpus p at there)
      (λ n m t. alike_as me.0 m.0 (with_client me.0 m.0.client) t.0.0 refl refl refl refl)

  -- and a store of one
  pub word_stores_both : (key cpus slots id p at x : ℕ) (me : Me (Unit {0}) (View C))
      (tells : ℕ → C → ℕ → C → Type 0)
      → at ≡ base_of cpus + p
      → Allows (IsKept holds key) slots id me at (λ _. x)
      (λ _ m. SteppedOnWord tells at me.0 x m.0 × (m.1 ≡ me.1))
      → Allows (IsMoment holds key) slots id me at (λ _. x)
      (λ _ m. SteppedOnWord tells at me.0 x m.0 × (m.1 ≡ me.1))
  word_stores_both key cpus slots id p at x me tells there allowed =
      moves key slots id at me (λ _. x)
      (λ _ m. SteppedOnWord tells at me.0 x m.0 × (m.1 ≡ me.1))
      allowed (client_asked cpus p at there)
      (λ n m t. alike_as me.0 m.0 (with_client me.0 m.0.client) t.0.0 refl refl refl refl)

  -- a client's look at the number
  pub looks_both : (cpus slots id : ℕ) (me : Me (Unit {0}) (View C)) (tells : C → ℕ → C → Type 0)
      → Allows (IsKept holds cpus) slots id me 0 (λ n. n)
      (λ n m. SteppedOnNumber tells me.0 n m.0 × (m.1 ≡ me.1))
      → Allows (IsMoment holds cpus) slots id me 0 (λ n. n)
      (λ n m. SteppedOnNumber tells me.0 n m.0 × (m.1 ≡ me.1))
  looks_both cpus slots id me tells allowed =
      moves cpus slots id 0 me (λ n. n)
      (λ n m. SteppedOnNumber tells me.0 n m.0 × (m.1 ≡ me.1))
      allowed number_asked
      (λ n m t.
      alike_as me.0 m.0 (with_client (after_load me.0 n) m.0.client) t.0.0 refl refl refl refl)

  -- a split, by which a seat comes in that answered nothing
  pub splits : (cpus id : ℕ) (v left right : View C)
      → Splits (IsKept holds cpus) id v left right
      → ((asked : ℕ) → Alike asked v left)
      → (right.role ≡ Asker → ⊥)
      → right.answered ≡ false
      → Splits (IsMoment holds cpus) id v left right
  splits cpus id v left right split same no_asking unanswered s moment here = record {
    kept = split s moment.kept here;
    awake = awake_more record { words = s.words; homes = s.homes; views = set s.views id left }
        (awake_still s moment.awake id v left s.words s.homes here refl
        (same (get_or s.words 1 0))) right no_asking unanswered;
  }

  -- the seats that fit do so too if another processor is asked
  asked_fits : (cpus : ℕ) (words : List ℕ) (owner : ℕ → ℕ) (engine : ℕ)
      (own_word_loads : List (ℕ × ℕ)) (word j : ℕ) (u : View C)
      → Fits cpus words owner engine own_word_loads j u
      → Fits cpus (set words 1 word) owner engine own_word_loads j u
  asked_fits cpus words owner engine own_word_loads word j u f =
      let number : get_or (set words 1 word) 0 0 ≡ get_or words 0 0 =
      get_or-set_other words 1 0 word 0 number_elsewhere in
      let own : (c : ℕ)
      → get_or (set words 1 word) (own_word_index c) 0 ≡ get_or words (own_word_index c) 0 =
      λ c. get_or-set_other words 1 (own_word_index c) word 0 (asked_own_word c) in
      let mask : (c : ℕ)
      → get_or (set words 1 word) (mask_index c) 0 ≡ get_or words (mask_index c) 0 =
      λ c. get_or-set_other words 1 (mask_index c) word 0 (asked_mask c) in
      record {
        seen = rw number f.seen;
        base = f.base;
        inside = f.inside;
        own = f.own;
        sound = λ r. subst (λ (y : ℕ × ℕ). IsSound y.0 y.1 own_word_loads u)
            (λ i. (sym number i, sym (own u.cpu) i)) (f.sound r);
        announced = λ r e. subst (λ (x : ℕ). has_bit x (u.cpu % 64) ≡ true) (sym (mask u.cpu))
            (f.announced r e);
        lone = f.lone;
        number = λ r. f.number r ∙ sym number;
        found = f.found;
        undealt = λ r d low high. let t = f.undealt r d low high in (t.0, own d ∙ t.1);
      }

  -- an asking's seat comes in, and another processor is asked
  joins : (cpus : ℕ) (s : State (Unit {0}) (View C)) (k : IsKept holds cpus s) (idle close : C → C)
      → IsStable holds idle close
      → (v0 new : View C) (word : ℕ)
      → get_elem? s.views 0 ≡ some v0
      → new.seen ≡ 0
      → new.base ≡ base_of cpus
      → new.role ≡ Asker
      → client_view new ≡ (None, None, idle v0.client)
      → IsKept holds cpus record {
        words = set s.words 1 word;
        homes = s.homes;
        views = s.views ++ new ∷ [];
      }
  joins cpus s k idle close stable v0 new word here seen base asker shown =
      let words : List ℕ = set s.words 1 word in
      let mine : (j : ℕ) → Fits cpus words k.owner k.engine k.own_word_loads j new = λ j. record {
        seen = none_seen new.seen (get_or words 0 0) seen;
        base = base;
        inside = λ r. absurd (cc);
        own = λ r. absurd (cc);
        sound = λ r. absurd (cc);
        announced = λ r e. absurd (cc);
        lone = λ r. absurd (cc);
        number = λ r. absurd (cc);
        found = λ r. absurd (cc);
        undealt = λ r. absurd (cc);
      } in
      let room : base_of cpus ≤ length s.words = k.room in
      let client : holds (drop (base_of cpus) s.words) (map client_view (s.views ++ new ∷ [])) =
      subst (λ (l : List (View C)). holds (drop (base_of cpus) s.words)
      (map client_view (l ++ new ∷ []))) (set_again s.views 0 v0 here)
      (dealt holds cpus s k idle close stable 0 v0 v0 new None here refl shown) in
      record {
        room = rw (length-set s.words 1 word) room;
        number = rw (get_or-set_other s.words 1 0 word 0 number_elsewhere) k.number;
        boot = rw (get_or-set_other s.words 1 (own_word_index 0) word 0 (asked_own_word 0)) k.boot;
        absent = λ c low none.
            get_or-set_other s.words 1 (own_word_index c) word 0 (asked_own_word c)
            ∙ k.absent c low (subst (λ (x : ℕ). has_bit x (c % 64) ≡ false)
            (get_or-set_other s.words 1 (mask_index c) word 0 (asked_mask c)) none);
        owner = k.owner;
        engine = k.engine;
        own_word_loads = k.own_word_loads;
        fits = λ j u at. ⊎_elim
            (λ (t : get_elem? s.views j ≡ some u).
            asked_fits cpus s.words k.owner k.engine k.own_word_loads word j u (k.fits j u t))
            (λ (t : (j ≡ length s.views) × (new ≡ u)).
            subst (Fits cpus words k.owner k.engine k.own_word_loads j) t.1 (mine j))
            (at_end s.views new u j at);
        client = subst (λ (l : List ℕ). holds l (map client_view (s.views ++ new ∷ [])))
            (sym (drop-set-lt (base_of cpus) s.words 1 word (asked_inside cpus))) client;
      }
    where
      none_seen : (a b : ℕ) → a ≡ 0 → a ≤ b
      none_seen a b e = omega (arith, e)

  -- a seat looks at which processor is asked, or takes its asking back
  looks_or_answers : (cpus : ℕ) (s : State (Unit {0}) (View C)) → IsKept holds cpus s
      → (id : ℕ) (v : View C) (looks : ℕ) (answered : Bool) (word : ℕ)
      → get_elem? s.views id ≡ some v
      → IsKept holds cpus record {
        words = set s.words 1 word;
        homes = s.homes;
        views = set s.views id (record v { looks = looks; answered = answered });
      }
  looks_or_answers cpus s k id v looks answered word at =
      let w : View C = record v { looks = looks; answered = answered } in
      let words : List ℕ = set s.words 1 word in
      let f : Fits cpus words k.owner k.engine k.own_word_loads id v =
      asked_fits cpus s.words k.owner k.engine k.own_word_loads word id v (k.fits id v at) in
      let mine : Fits cpus words k.owner k.engine k.own_word_loads id w = record {
        seen = f.seen;
        base = f.base;
        inside = f.inside;
        own = f.own;
        sound = λ r. let t = f.sound r in record {
          own_word = t.own_word;
          bounded = t.bounded;
          boot = t.boot;
          online = t.online;
          from_own_word = t.from_own_word;
          to_seen = t.to_seen;
          current = t.current;
          cleared = t.cleared;
        };
        announced = f.announced;
        lone = f.lone;
        number = f.number;
        found = f.found;
        undealt = f.undealt;
      } in
      let room : base_of cpus ≤ length s.words = k.room in
      changed holds cpus s k id w words k.own_word_loads
      (rw (length-set s.words 1 word) room)
      (rw (get_or-set_other s.words 1 0 word 0 number_elsewhere) k.number)
      (rw (get_or-set_other s.words 1 (own_word_index 0) word 0 (asked_own_word 0)) k.boot)
      (λ c low none.
      get_or-set_other s.words 1 (own_word_index c) word 0 (asked_own_word c)
      ∙ k.absent c low (subst (λ (x : ℕ). has_bit x (c % 64) ≡ false)
      (get_or-set_other s.words 1 (mask_index c) word 0 (asked_mask c)) none))
      (λ j u apart fit.
      asked_fits cpus s.words k.owner k.engine k.own_word_loads word j u fit)
      mine
      (unseen holds cpus s k id v w words at refl
      (drop-set-lt (base_of cpus) s.words 1 word (asked_inside cpus)))

  -- both rules at the opening
  pub begins : (cpus : ℕ) (behind : List ℕ) (slots : List (Unit {0})) (c : C) → 0 < cpus
      → holds behind ((None, None, c) ∷ [])
      → IsMoment holds cpus (opening (first_words cpus ++ behind) slots (engine_seat cpus 0 c))
  begins cpus behind slots c any client = record {
    kept = starts holds cpus behind slots c any client;
    awake = awake_at_first (first_words cpus ++ behind) (map some slots) (engine_seat cpus 0 c)
        (asked_at_first cpus behind);
  }

  -- a processor is asked
  pub asks : (idle close : C → C) → IsStable holds idle close
      → (cpus slots cpu word : ℕ)
      → word ≡ cpu + 1
      → Arrives (IsMoment holds cpus) slots 1 (λ _. word)
      (λ _ m. (m.0.role ≡ Asker) × (word ≡ m.0.cpu + 1))
  asks idle close stable cpus slots cpu word is s moment size small =
      let v0 = first_of s.views moment.awake.opened in
      let stores : ℕ = stores_of (get_elem? s.views (moment.kept.owner cpu)) in
      let new : View C = asking_of cpu stores (base_of cpus) (idle v0.0.client) in
      let room : base_of cpus ≤ length s.words = moment.kept.room in (
        new,
        keeps,
        tt,
        record {
          kept = joins cpus s moment.kept idle close stable v0.0 new word v0.1 refl refl
              refl refl;
          awake = awake_asks s moment.awake new (set s.words 1 word) s.homes refl
              (λ j u at role own.
              ap stores_of (ap (λ (i : ℕ). get_elem? s.views i)
              (ap moment.kept.owner (sym own) ∙ (moment.kept.fits j u at).own role) ∙ at))
              (get_or-set_same s.words 1 word 0 (omega (arith, room)) ∙ is);
        },
        (refl, is),
      )

  -- a seat looks at which processor is asked
  pub looks_at_asked : (cpus slots id : ℕ) (me : Me (Unit {0}) (View C))
      → me.0.role ≡ Cpu
      → Allows (IsMoment holds cpus) slots id me 1 (λ n. n)
      (λ n m. (m.0 ≡ after_asked_load me.0 (n == me.0.cpu + 1)) × (m.1 ≡ me.1))
  looks_at_asked cpus slots id me cpu s moment size here small =
      let found : ℕ = get_or s.words 1 0 in
      let new : View C = after_asked_load me.0 (found == me.0.cpu + 1) in
      let room : base_of cpus ≤ length s.words = moment.kept.room in (
        new,
        keeps,
        tt,
        record {
          kept = looks_or_answers cpus s moment.kept id me.0 new.looks new.answered found here;
          awake = awake_still s moment.awake id me.0 new (set s.words 1 found) s.homes here
              (get_or-set_same s.words 1 found 0 (omega (arith, room)))
              (alike_looked me.0 found cpu);
        },
        (refl, refl),
      )

  -- a seat takes its asking back
  pub takes_back : (cpus slots id : ℕ) (me : Me (Unit {0}) (View C))
      → Allows (IsMoment holds cpus) slots id me 1 (λ _. 0)
      (λ _ m. (m.0 ≡ after_take_back me.0) × (m.1 ≡ me.1))
  takes_back cpus slots id me s moment size here small =
      let new : View C = after_take_back me.0 in
      let room : base_of cpus ≤ length s.words = moment.kept.room in (
        new,
        keeps,
        tt,
        record {
          kept = looks_or_answers cpus s moment.kept id me.0 me.0.looks true 0 here;
          awake = awake_back s moment.awake id new (set s.words 1 0) s.homes
              (get_or-set_same s.words 1 0 0 (omega (arith, room)));
        },
        (refl, refl),
      )
