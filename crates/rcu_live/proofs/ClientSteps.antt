-- A client's steps keep the rule.
use Rattle.std.proofs.Common.{◌≡◌, ◌≢◌, ℕ, ◌+◌, ◌<◌, ◌≤◌, List, [], ◌∷◌, ◌++◌, Option, Some, None}
use Rattle.std.proofs.Common.{length, get_or, set, map, drop, refl, sym, ap, ◌∙◌, subst, ⊎_elim}
use Rattle.std.proofs.Common.{arith, length-set, true, false, ◌%◌}
use Rattle.std.proofs.lemmas.List.{drop-set-add, get_or-drop, get_or-set_other}
use mathlib.Core.List.{map-append}
use mathlib.Core.Option.{some}
use lib.ListN.{get_elem?}
use lib.Seq.{map-set}
use Rattle.atomic_table.specs.Table.{Me, keeps, Allows, Splits}
use Rattle.atomic_table.proofs.Lists.{at_map, at_set}
use Rattle.rcu_node.specs.Words.{has_bit}
use Rattle.rcu_live.specs.Client.{IsStable, Views, AllowsNumber, ClientView, AllowsWord}
use Rattle.rcu_live.specs.Rule.{Fits, IsKept, IsSound}
use Rattle.rcu_live.specs.Several.{IsPart, Lens}
use Rattle.rcu_live.specs.View.{IsOfEngine, IsOfWatcher, SteppedOnNumber, SteppedOnWord, after_hand}
use Rattle.rcu_live.specs.View.{after_load, client_view, handed_seat, if_cpu, watcher_seat}
use Rattle.rcu_live.specs.View.{with_client}
use Rattle.rcu_live.specs.Words.{base_of, own_word_index, mask_index}
use Rattle.rcu_live.specs.declared.view.Role.{Role}
use Rattle.rcu_live.specs.declared.view.Role.TheVariants.{Cpu, Watcher}
use Rattle.rcu_live.specs.declared.view.View.{View}
use Rattle.rcu_live.proofs.ClientLemmas.{are_lone, are_open}
use Rattle.rcu_live.proofs.Deals.{at_end, watcher_fits}
use Rattle.rcu_live.proofs.Frames.{changed, unchanged}
use Rattle.rcu_live.proofs.Loads.{load_fits}
use Rattle.rcu_live.proofs.Numbers.{mask_inside}

-- the shown part of a seat of this role
abbrev client_view_of : {C : Type 0} → Role → ℕ → Option ℕ → C → ClientView C
client_view_of role cpu section c = (if_cpu role (Some cpu), if_cpu role section, c)

module _ {C : Type 0} (holds : List ℕ → Views C → Type 0) where
  -- a seat fits if the engine's words are as before
  fits_still : (cpus : ℕ) (words new : List ℕ) (owner : ℕ → ℕ) (engine : ℕ)
      (own_word_loads : List (ℕ × ℕ)) (id : ℕ) (v : View C)
      → ((i : ℕ) → i < base_of cpus → get_or new i 0 ≡ get_or words i 0)
      → Fits cpus words owner engine own_word_loads id v
      → Fits cpus new owner engine own_word_loads id v
  fits_still cpus words new owner engine own_word_loads id v same f =
      let number : get_or new 0 0 ≡ get_or words 0 0 = same 0 (omega arith) in
      record {
        seen = rw number f.seen;
        base = f.base;
        inside = f.inside;
        own = f.own;
        sound = λ r.
            let low = f.inside r in
            subst (λ (y : ℕ × ℕ). IsSound y.0 y.1 own_word_loads v)
            (λ i. (sym number i, sym (same (own_word_index v.cpu) (omega arith)) i)) (f.sound r);
        announced = λ r e.
            subst (λ (x : ℕ). has_bit x (v.cpu % 64) ≡ true)
            (sym (same (mask_index v.cpu) (mask_inside v.cpu cpus (f.inside r)))) (f.announced r e);
        lone = f.lone;
        number = λ r. f.number r ∙ sym number;
        found = f.found;
        undealt = λ r d low high.
            let t = f.undealt r d low high in (t.0, same (own_word_index d) (omega arith) ∙ t.1);
      }

  -- a seat fits whatever it knows of the client
  with_client_fits : (cpus : ℕ) (words : List ℕ) (owner : ℕ → ℕ) (engine : ℕ)
      (own_word_loads : List (ℕ × ℕ)) (id : ℕ) (v : View C) (c : C)
      → Fits cpus words owner engine own_word_loads id v
      → Fits cpus words owner engine own_word_loads id (with_client v c)
  with_client_fits cpus words owner engine own_word_loads id v c f = record {
    seen = f.seen;
    base = f.base;
    inside = f.inside;
    own = f.own;
    sound = λ r. let t = f.sound r in record {
      own_word = t.own_word;
      bounded = t.bounded;
      boot = t.boot;
      online = t.online;
      from_own_word = t.from_own_word;
      to_seen = t.to_seen;
      current = t.current;
      cleared = t.cleared;
    };
    announced = f.announced;
    lone = f.lone;
    number = f.number;
    found = f.found;
    undealt = f.undealt;
  }

  booted : (cpus : ℕ) (words new : List ℕ) → 0 < cpus → 0 < get_or words (own_word_index 0) 0
      → ((i : ℕ) → i < base_of cpus → get_or new i 0 ≡ get_or words i 0)
      → 0 < get_or new (own_word_index 0) 0
  booted cpus words new any boot same =
      subst (λ (y : ℕ). 0 < y) (sym (same (own_word_index 0) (omega arith))) boot

  -- a step on the client's word p
  steps_on_own_place : (cpus slots id p : ℕ) (me : Me (Unit {0}) (View C)) (change : ℕ → ℕ)
      (tells : ℕ → C → ℕ → C → Type 0)
      → 0 < cpus
      → AllowsWord holds (if_cpu me.0.role (Some me.0.cpu)) (if_cpu me.0.role me.0.section)
      me.0.client p change (tells p me.0.client)
      → Allows (IsKept holds cpus) slots id me (base_of cpus + p) change
      (λ n m. SteppedOnWord tells (base_of cpus + p) me.0 n m.0 × (m.1 ≡ me.1))
  steps_on_own_place cpus slots id p me change tells some_cpu allowed s k _ at _ =
      let v : View C = me.0 in
      let here : ℕ = base_of cpus + p in
      let rest : List ℕ = drop (base_of cpus) s.words in
      let found : get_or rest p 0 ≡ get_or s.words here 0 =
      get_or-drop (base_of cpus) s.words p 0 in
      let u = allowed (get_or s.words 0 0) rest (map client_view s.views) id k.client
      (are_open holds cpus s k) (are_lone holds cpus s k) (at_map client_view s.views id v at) in
      let w : View C = with_client v u.0 in
      let x : ℕ = change (get_or s.words here 0) in
      let new : List ℕ = set s.words here x in
      let same : (i : ℕ) → i < base_of cpus → get_or new i 0 ≡ get_or s.words i 0 =
      λ i low. get_or-set_other s.words here i x 0 (λ e. absurd (omega arith)) in
      let number : get_or new 0 0 ≡ get_or s.words 0 0 = same 0 (omega arith) in
      let room : base_of cpus ≤ length s.words = k.room in
      let f : Fits cpus s.words k.owner k.engine k.own_word_loads id v = k.fits id v at in
      let client : holds (drop (base_of cpus) new) (map client_view (set s.views id w)) =
      subst (λ (y : List ℕ × Views C). holds y.0 y.1)
      (λ i. (
        sym
            (drop-set-add (base_of cpus) s.words p x
            ∙ ap (λ (z : ℕ). set rest p (change z)) (sym found))
            i,
        sym (map-set client_view s.views id w) i,
      ))
      u.1 in
      let boot : 0 < get_or new (own_word_index 0) 0 =
      booted cpus s.words new some_cpu k.boot same in (
        w,
        keeps,
        tt,
        changed holds cpus s k id w new k.own_word_loads
            (rw (length-set s.words here x) room) (rw number k.number) boot
            (λ c low none. same (own_word_index c) (omega arith)
            ∙ k.absent c low (subst (λ (y : ℕ). has_bit y (c % 64) ≡ false)
            (same (mask_index c) (mask_inside c cpus low)) none))
            (λ j o apart h.
            fits_still cpus s.words new k.owner k.engine k.own_word_loads j o same h)
            (with_client_fits cpus new k.owner k.engine k.own_word_loads id v u.0
            (fits_still cpus s.words new k.owner k.engine k.own_word_loads id v same f))
            client,
        (
          (
            refl,
            λ q e. let b : v.base ≡ base_of cpus = f.base in let is : p ≡ q = omega arith in
                subst (λ (y : ℕ × ℕ). tells y.0 v.client y.1 u.0) (λ i. (is i, found i)) u.2,
          ),
          refl,
        ),
      )

  -- the same at a place that is the word's, of a table whose key is the number of processors
  pub steps_on_word : (key cpus slots id p at : ℕ) (me : Me (Unit {0}) (View C)) (change : ℕ → ℕ)
      (tells : ℕ → C → ℕ → C → Type 0)
      → key ≡ cpus
      → 0 < cpus
      → at ≡ base_of cpus + p
      → AllowsWord holds (if_cpu me.0.role (Some me.0.cpu)) (if_cpu me.0.role me.0.section)
      me.0.client p change (tells p me.0.client)
      → Allows (IsKept holds key) slots id me at change
      (λ n m. SteppedOnWord tells at me.0 n m.0 × (m.1 ≡ me.1))
  steps_on_word key cpus slots id p at me change tells is any there allowed =
      subst (λ (y : ℕ × ℕ). Allows (IsKept holds y.0) slots id me y.1 change
      (λ n m. SteppedOnWord tells y.1 me.0 n m.0 × (m.1 ≡ me.1)))
      (λ i. (sym is i, sym there i))
      (steps_on_own_place cpus slots id p me change tells any allowed)

  -- a store, with the word that it stores
  pub stores_client_word : (key cpus slots id p at x : ℕ) (me : Me (Unit {0}) (View C))
      (tells : ℕ → C → ℕ → C → Type 0)
      → key ≡ cpus
      → 0 < cpus
      → at ≡ base_of cpus + p
      → AllowsWord holds (if_cpu me.0.role (Some me.0.cpu)) (if_cpu me.0.role me.0.section)
      me.0.client p (λ _. x) (λ _. tells p me.0.client x)
      → Allows (IsKept holds key) slots id me at (λ _. x)
      (λ _ m. SteppedOnWord tells at me.0 x m.0 × (m.1 ≡ me.1))
  stores_client_word key cpus slots id p at x me tells is any there allowed s k size here small =
      steps_on_word key cpus slots id p at me (λ _. x) (λ q c _ w. tells q c x w) is any there
      allowed s k size here small

  -- a look at the number
  pub steps_on_number : (cpus slots id : ℕ) (me : Me (Unit {0}) (View C))
      (tells : C → ℕ → C → Type 0)
      → AllowsNumber holds (if_cpu me.0.role (Some me.0.cpu)) (if_cpu me.0.role me.0.section)
      me.0.client (tells me.0.client)
      → Allows (IsKept holds cpus) slots id me 0 (λ n. n)
      (λ n m. SteppedOnNumber tells me.0 n m.0 × (m.1 ≡ me.1))
  steps_on_number cpus slots id me tells allowed s k _ at _ =
      let v : View C = me.0 in
      let n : ℕ = get_or s.words 0 0 in
      let f : Fits cpus s.words k.owner k.engine k.own_word_loads id v = k.fits id v at in
      let u = allowed n (drop (base_of cpus) s.words) (map client_view s.views) id k.client
      (are_open holds cpus s k) (are_lone holds cpus s k) (at_map client_view s.views id v at) in
      let w : View C = with_client (after_load v n) u.0 in
      let client : holds (drop (base_of cpus) s.words)
      (map client_view (set s.views id w)) =
      subst (λ (xs : Views C). holds (drop (base_of cpus) s.words) xs)
      (sym (map-set client_view s.views id w)) u.1 in (
        w,
        keeps,
        tt,
        unchanged holds cpus s k id 0 w
            (with_client_fits cpus s.words k.owner k.engine k.own_word_loads id (after_load v n) u.0
            (load_fits holds cpus s k id v at))
            client,
        ((refl, f.seen, k.number, u.2), refl),
      )

  -- the knowledge about the client of a seat of no processor is split: this part goes to a new
  -- seat, and that one is left
  hands_on : (cpus id : ℕ) (v : View C) (left new : C)
      → ((c : C) → client_view (with_client v c) ≡ (None, None, c))
      → ((words : List ℕ) (xs : Views C) → holds words xs
      → get_elem? xs id ≡ some (None, None, v.client)
      → holds words (set xs id (None, None, left) ++ (None, None, new) ∷ []))
      → Splits (IsKept holds cpus) id v (after_hand left v) (watcher_seat v.base new)
  hands_on cpus id v left new shown goes s k at =
      let here : View C = after_hand left v in
      let more : View C = watcher_seat v.base new in
      let f : Fits cpus s.words k.owner k.engine k.own_word_loads id v = k.fits id v at in
      let mine : Fits cpus s.words k.owner k.engine k.own_word_loads id here =
      with_client_fits cpus s.words k.owner k.engine k.own_word_loads id v left f in
      let after : map client_view (set s.views id here ++ more ∷ [])
      ≡ set (map client_view s.views) id (None, None, left) ++ (None, None, new) ∷ []
      =
      map-append client_view (set s.views id here) (more ∷ [])
      ∙ ap (λ (xs : Views C). xs ++ (None, None, new) ∷ [])
      (map-set client_view s.views id here
      ∙ ap (λ (x : ClientView C). set (map client_view s.views) id x) (shown left)) in
      record {
        room = k.room;
        number = k.number;
        boot = k.boot;
        absent = k.absent;
        owner = k.owner;
        engine = k.engine;
        own_word_loads = k.own_word_loads;
        fits = λ j u e.
            ⊎_elim
            (λ (was : get_elem? (set s.views id here) j ≡ some u).
            ⊎_elim
            (λ (x : (j ≡ id) × (here ≡ u)).
            subst (λ (y : ℕ × View C). Fits cpus s.words k.owner k.engine k.own_word_loads y.0 y.1)
            (λ i. (sym x.0 i, x.1 i)) mine)
            (λ (x : (j ≢ id) × (get_elem? s.views j ≡ some u)). k.fits j u x.1)
            (at_set s.views id j here u was))
            (λ (last : (j ≡ length (set s.views id here)) × (more ≡ u)).
            subst (Fits cpus s.words k.owner k.engine k.own_word_loads j) last.1
            (watcher_fits holds cpus s k j v.base new f.base))
            (at_end (set s.views id here) more u j e);
        client = subst (λ (xs : Views C). holds (drop (base_of cpus) s.words) xs)
            (sym after)
            (goes (drop (base_of cpus) s.words) (map client_view s.views) k.client
            (at_map client_view s.views id v at ∙ ap some (shown v.client)));
      }

  -- the engine seat's knowledge about the client is handed over to a new seat
  pub hands_over : (idle close : C → C)
      → IsStable holds idle close → (cpus id : ℕ) (v : View C) → IsOfEngine v
      → Splits (IsKept holds cpus) id v (after_hand (idle v.client) v) (handed_seat v)
  hands_over idle close stable cpus id v engine =
      hands_on cpus id v (idle v.client) v.client
      (λ c. ap (λ (r : Role). client_view_of r v.cpu v.section c) engine)
      (λ words xs h at. stable.hands words xs id v.client h at)

  -- and a watcher's knowledge about a part of it
  pub hands_part_over : {D : Type 0} (lens : Lens C D) (rule : List ℕ → Views D → Type 0)
      (own : List ℕ → List ℕ) (base : ℕ) (idle : D → D) (idle_whole : C → C)
      → IsPart lens holds rule own base idle idle_whole
      → (cpus id : ℕ) (v : View C) → IsOfWatcher v
      → Splits (IsKept holds cpus) id v
      (after_hand (lens.set v.client (idle (lens.get v.client))) v)
      (watcher_seat v.base (lens.set (idle_whole v.client) (lens.get v.client)))
  hands_part_over lens rule own base idle idle_whole is cpus id v watcher =
      hands_on cpus id v (lens.set v.client (idle (lens.get v.client)))
      (lens.set (idle_whole v.client) (lens.get v.client))
      (λ c. ap (λ (r : Role). client_view_of r v.cpu v.section c) watcher)
      (λ words xs h at. is.hands words xs id v.client h at)

  -- a step of a processor's seat, and of a watcher's
  pub allows_word_of_cpu : (role : Role) (a cpu : ℕ) (section : Option ℕ) (c : C) (p : ℕ)
      (change : ℕ → ℕ) (tells : ℕ → C → Type 0)
      → role ≡ Cpu
      → a ≡ cpu
      → AllowsWord holds (Some cpu) section c p change tells
      → AllowsWord holds (if_cpu role (Some a)) (if_cpu role section) c p change tells
  allows_word_of_cpu role a cpu section c p change tells r e allowed =
      subst (λ (y : Role × ℕ).
      AllowsWord holds (if_cpu y.0 (Some y.1)) (if_cpu y.0 section) c p change tells)
      (λ i. (sym r i, sym e i)) allowed

  pub allows_word_of_watcher : (role : Role) (a : ℕ) (section : Option ℕ) (c : C) (p : ℕ)
      (change : ℕ → ℕ) (tells : ℕ → C → Type 0)
      → role ≡ Watcher
      → AllowsWord holds None None c p change tells
      → AllowsWord holds (if_cpu role (Some a)) (if_cpu role section) c p change tells
  allows_word_of_watcher role a section c p change tells r allowed =
      subst (λ (y : Role). AllowsWord holds (if_cpu y (Some a)) (if_cpu y section) c p change tells)
      (sym r) allowed

  pub allows_number_of_watcher : (role : Role) (a : ℕ) (section : Option ℕ) (c : C)
      (tells : ℕ → C → Type 0)
      → role ≡ Watcher
      → AllowsNumber holds None None c tells
      → AllowsNumber holds (if_cpu role (Some a)) (if_cpu role section) c tells
  allows_number_of_watcher role a section c tells r allowed =
      subst (λ (y : Role). AllowsNumber holds (if_cpu y (Some a)) (if_cpu y section) c tells)
      (sym r) allowed
