-- The writer's calls over a run of a map's shared words: a key that is there before and after each
-- is linked at each moment.
use Rattle.std.proofs.Common.{◌≡◌, ◌⊎◌, ℕ, suc, ◌+◌, ◌<◌, ◌≤◌, Bool, List, length, sym, ap, ◌∙◌}
use Rattle.std.proofs.Common.{subst, inl, inr, arith, ⊎_elim, eq-eqb}
use Rattle.std.proofs.lemmas.Bool.{cases_lt, eqb-true}
use Rattle.rcu_live.specs.Watcher.{Watching}
use Rattle.rcu_graph.specs.Absence.{AreLinkedWords, IsLinkedKey}
use Rattle.rcu_graph.specs.Beside.{AreOnChain, IsChainOf, IsOnChain, IsWriterMove, Moment, nodes_at}
use Rattle.rcu_graph.specs.Writer.{after_look}
use Rattle.rcu_graph.specs.Nodes.{nodes_in, stored_in}
use Rattle.rcu_graph.specs.declared.known.Known.{Known}
use Rattle.rcu_graph.specs.declared.known.Node.{Node}
use Rattle.rcu_graph.specs.declared.known.Planned.{Planned}
use Rattle.rcu_graph.specs.declared.plan.Plan.{Plan}
use Rattle.rcu_graph.proofs.Stores.{AreAllOn, linked_at_one, linked_between, on_chain_between}
use Rattle.rcu_graph.proofs.Stores.{stores_of, words_at_one}
use Rattle.rcu_map.specs.Beside.{AreMadeOver, Had, HadEntry, HadKey, IsMapOver, since}
use Rattle.rcu_map.specs.Entries.{HasEntry, HasKey}
use Rattle.rcu_map.specs.Keys.{GoesUp, IsWhole, bucket_in, bucket_of, key_in, root_words}
use Rattle.rcu_map.specs.Puts.{IsByOneStore}
use Rattle.rcu_map.specs.Runs.{HasKeyThroughout, IsMapOf, IsRun, begun, changed, is_of, looked}
use Rattle.rcu_map.proofs.Buckets.{bucket_inside, root_bucket}
use Rattle.rcu_map.proofs.Linked.{entry_linked, has_linked, is_linked}
use Rattle.rcu_map.proofs.Runs.{has_at_end, map_at_end, on_chain}

module _ (holds : List ℕ → Type 0) (plan : Plan) (opened key writer last : ℕ) (moments : ℕ → Moment)
    (some : 0 < plan.roots) (one : plan.links ≡ 1) (wide : 1 < plan.words) (up : 0 < key)
    (kept : IsMapOver holds plan writer last moments) where
  abbrev start : ℕ
  start = bucket_of plan.roots plan.seed key

  abbrev mine : List ℕ → Bool
  mine = is_of plan.roots plan.seed start

  abbrev Fits : Plan → List ℕ → Type 0
  Fits p = IsWhole holds p.words

  abbrev Joins : Plan → ℕ → List ℕ → List ℕ → Type 0
  Joins p link from to = GoesUp p.roots p.seed from to

  abbrev First : Plan → ℕ → List ℕ
  First p = root_words p.words

  abbrev Run : Watching Planned → Type 0
  Run now = IsRun holds plan opened now

  abbrev Made : ℕ → (now : Watching Planned) → Run now → Type 0
  Made = AreMadeOver holds plan opened moments

  pub is_chain : IsChainOf Joins First plan mine start
  is_chain = record {
    inside = bucket_inside plan.roots plan.seed key some;
    link = omega (arith, one);
    own = eq-eqb (bucket_in plan.roots plan.seed (root_words plan.words start)) start
        (root_bucket plan.roots plan.seed plan.words start wide);
    stays = λ from to goes own. eq-eqb (bucket_in plan.roots plan.seed to) start
        (sym goes.same ∙ eqb-true (bucket_in plan.roots plan.seed from) start own);
    ascends = λ from to goes. goes.up;
  }

  knew : (t : ℕ) (now : Watching Planned) (run : Run now) → Made t now run
      → (moments t).writer ≡ now.view.client.known
  knew t now (begun _ m) made = made.1
  knew t now (changed before _ run by m) made = made.0
  knew t now (looked before _ number run opens is m) made = made.0

  -- between two calls each live node of the bucket is on its chain
  all_on : (t : ℕ) (now : Watching Planned) (run : Run now) → Made t now run
      → AreAllOn mine start (nodes_at moments t)
  all_on t now run made =
      subst (λ (k : Known). AreAllOn mine start (nodes_in k)) (sym (knew t now run made))
      (on_chain holds plan.roots plan.seed plan.words plan.nodes opened key some wide up
      (nodes_in now.view.client.known) (map_at_end holds plan opened now run).map)

  -- there a key is linked exactly if the map has it
  links_it : (t : ℕ) (now : Watching Planned) (run : Run now) → Made t now run
      → HasKey plan.roots (nodes_in now.view.client.known) key
      → IsLinkedKey start key (nodes_at moments t)
  links_it t now run made has =
      subst (λ (k : Known). IsLinkedKey start key (nodes_in k)) (sym (knew t now run made))
      (is_linked holds plan.roots plan.seed plan.words plan.nodes
      (nodes_in now.view.client.known) (map_at_end holds plan opened now run).map key some wide up
      has)

  one_store_more : (s t : ℕ) (before now : Watching Planned)
      → (moments s).writer ≡ before.view.client.known
      → (moments t).writer ≡ now.view.client.known
      → length (stored_in now.view.client.known)
      ≤ suc (length (stored_in before.view.client.known))
      → stores_of (moments t) ≤ suc (stores_of (moments s))
  one_store_more s t before now was is few =
      let a = ap (λ (k : Known). length (stored_in k)) was in
      let b = ap (λ (k : Known). length (stored_in k)) is in
      omega (arith, a, b, few)

  -- a call is one store, a load of the number none
  changed_once : (before now : Watching Planned) → IsByOneStore before now
      → length (stored_in now.view.client.known)
      ≤ suc (length (stored_in before.view.client.known))
  changed_once before now by =
      let e = ap (λ (k : Watching Planned). length (stored_in k.view.client.known)) by.state in
      omega (arith, e)

  looked_once : (before now : Watching Planned) (number : ℕ) → now ≡ after_look before number
      → length (stored_in now.view.client.known)
      ≤ suc (length (stored_in before.view.client.known))
  looked_once before now number is =
      let e = ap (λ (k : Watching Planned). length (stored_in k.view.client.known)) is in
      omega (arith, e)

  -- the writer's knowledge at a moment before the first call was its knowledge at the moment 0
  few_at_first : (t : ℕ) (now : Watching Planned) (m : IsMapOf holds plan now)
      → Made t now (begun now m) → stores_of (moments t) ≤ suc (stores_of (moments 0))
  few_at_first t now m made = one_store_more 0 t now now made.0 made.1 (omega arith)

  abbrev Moved : (t : ℕ) → t < last → Type 0
  Moved t low = IsOnChain plan (moments t) (moments (suc t)) mine start (kept.moves t low)

  -- a call more
  module _ (s t : ℕ) (before now : Watching Planned) (run : Run before) (later : Run now)
      (made : Made s before run) (then : Made t now later) (from : s ≤ t) (end : t ≤ last)
      (few : length (stored_in now.view.client.known)
      ≤ suc (length (stored_in before.view.client.known))) where
    few_stores : stores_of (moments t) ≤ suc (stores_of (moments s))
    few_stores = one_store_more s t before now (knew s before run made) (knew t now later then) few

    call_on : ((n : ℕ) (low : n < last) → n < s → Moved n low) → (n : ℕ) (low : n < last) → n < t
        → Moved n low
    call_on was n low to = ⊎_elim
        (λ (early : n < s). was n low early)
        (λ (late : s ≤ n). on_chain_between Fits Joins First plan mine start writer last moments
        is_chain kept s t end few_stores (all_on s before run made) n low late to)
        (cases_lt n s)

    call_linked : HasKey plan.roots (nodes_in before.view.client.known) key
        → HasKey plan.roots (nodes_in now.view.client.known) key
        → ((n : ℕ) → n ≤ s → IsLinkedKey start key (nodes_at moments n))
        → (n : ℕ) → n ≤ t → IsLinkedKey start key (nodes_at moments n)
    call_linked had has was n to = ⊎_elim
        (λ (early : n < s). was n (omega (arith, early)))
        (λ (late : s ≤ n). linked_between Fits Joins First plan mine start writer last moments
        is_chain kept s t end few_stores key n late to (links_it s before run made had)
        (links_it t now later then has))
        (cases_lt n s)

  -- the chain led to each live node that was led elsewhere
  pub run_on : (t : ℕ) (now : Watching Planned) (run : Run now) → Made t now run → t ≤ last
      → (n : ℕ) (low : n < last) → n < t → Moved n low
  run_on t now (begun _ m) made end = λ n low to.
      on_chain_between Fits Joins First plan mine start writer last moments is_chain kept 0 t end
      (few_at_first t now m made) (all_on 0 now (begun now m) (made.0, made.0)) n low (omega arith)
      to
  run_on t now (changed before _ run by m) made end =
      let s : ℕ = made.1 in
      let from : s ≤ t = made.2 in
      call_on s t before now run (changed before now run by m) made.3 made from end
      (changed_once before now by)
      (run_on s before run made.3 (omega (arith, from, end)))
  run_on t now (looked before _ number run opens is m) made end =
      let s : ℕ = made.1 in
      let from : s ≤ t = made.2 in
      call_on s t before now run (looked before now number run opens is m) made.3 made from end
      (looked_once before now number is)
      (run_on s before run made.3 (omega (arith, from, end)))

  -- a key that is there throughout is linked at each moment
  pub run_linked_over : (t : ℕ) (now : Watching Planned) (run : Run now) → Made t now run
      → t ≤ last → HasKeyThroughout holds plan opened key now run
      → (n : ℕ) → n ≤ t → IsLinkedKey start key (nodes_at moments n)
  run_linked_over t now (begun _ m) made end has = λ n to.
      linked_between Fits Joins First plan mine start writer last moments is_chain kept 0 t end
      (few_at_first t now m made) key n (omega arith) to
      (links_it 0 now (begun now m) (made.0, made.0) has) (links_it t now (begun now m) made has)
  run_linked_over t now (changed before _ run by m) made end has =
      let s : ℕ = made.1 in
      let from : s ≤ t = made.2 in
      call_linked s t before now run (changed before now run by m) made.3 made from end
      (changed_once before now by) (has_at_end holds plan opened key before run has.0) has.1
      (run_linked_over s before run made.3 (omega (arith, from, end)) has.0)
  run_linked_over t now (looked before _ number run opens is m) made end has =
      let s : ℕ = made.1 in
      let from : s ≤ t = made.2 in
      call_linked s t before now run (looked before now number run opens is m) made.3 made from end
      (looked_once before now number is) (has_at_end holds plan opened key before run has.0) has.1
      (run_linked_over s before run made.3 (omega (arith, from, end)) has.0)

  -- a key that is linked at a moment was in the map before a call or after it, if a key that is
  -- linked between two moments with at most one store is so at one of them, and between calls it is
  -- in the map
  module _ (Links Has : List Node → Type 0)
      (at_one : (s t : ℕ) → t ≤ last → stores_of (moments t) ≤ suc (stores_of (moments s))
      → (n : ℕ) → s ≤ n → n ≤ t → Links (nodes_at moments n)
      → Links (nodes_at moments s) ⊎ Links (nodes_at moments t))
      (map_has : (now : Watching Planned) → Run now → Links (nodes_in now.view.client.known)
      → Has (nodes_in now.view.client.known)) where
    has_at : (t : ℕ) (now : Watching Planned) (run : Run now) → Made t now run
        → Links (nodes_at moments t) → Has (nodes_in now.view.client.known)
    has_at t now run made links =
        map_has now run (subst (λ (k : Known). Links (nodes_in k)) (knew t now run made) links)

    call_had : (s t : ℕ) (before now : Watching Planned) (run : Run before) (later : Run now)
        → Made s before run → Made t now later → s ≤ t → t ≤ last
        → length (stored_in now.view.client.known)
        ≤ suc (length (stored_in before.view.client.known))
        → ((n : ℕ) → n ≤ s → Links (nodes_at moments n) → Had holds plan Has opened before run)
        → (n : ℕ) → n ≤ t → Links (nodes_at moments n)
        → Had holds plan Has opened before run ⊎ Has (nodes_in now.view.client.known)
    call_had s t before now run later made then from end few was n to links = ⊎_elim
        (λ (early : n < s). inl (was n (omega (arith, early)) links))
        (λ (late : s ≤ n). ⊎_elim
        (λ (first : Links (nodes_at moments s)). inl (was s (omega arith) first))
        (λ (later_on : Links (nodes_at moments t)). inr (has_at t now later then later_on))
        (at_one s t end
        (one_store_more s t before now (knew s before run made) (knew t now later then) few) n late
        to links))
        (cases_lt n s)

    run_had : (t : ℕ) (now : Watching Planned) (run : Run now) → Made t now run → t ≤ last
        → (n : ℕ) → n ≤ t → Links (nodes_at moments n) → Had holds plan Has opened now run
    run_had t now (begun _ m) made end = λ n to links. ⊎_elim
        (λ (first : Links (nodes_at moments 0)).
        has_at 0 now (begun now m) (made.0, made.0) first)
        (λ (later_on : Links (nodes_at moments t)). has_at t now (begun now m) made later_on)
        (at_one 0 t end (few_at_first t now m made) n (omega arith) to links)
    run_had t now (changed before _ run by m) made end =
        let s : ℕ = made.1 in
        let from : s ≤ t = made.2 in
        call_had s t before now run (changed before now run by m) made.3 made from end
        (changed_once before now by) (run_had s before run made.3 (omega (arith, from, end)))
    run_had t now (looked before _ number run opens is m) made end =
        let s : ℕ = made.1 in
        let from : s ≤ t = made.2 in
        call_had s t before now run (looked before now number run opens is m) made.3 made from end
        (looked_once before now number is) (run_had s before run made.3 (omega (arith, from, end)))

  -- this holds for a key, and for the words of an entry with the key
  key_had : (t : ℕ) (now : Watching Planned) (run : Run now) → Made t now run → t ≤ last
      → (n : ℕ) → n ≤ t → IsLinkedKey start key (nodes_at moments n)
      → HadKey holds plan opened key now run
  key_had =
      run_had (IsLinkedKey start key) (λ nodes. HasKey plan.roots nodes key)
      (λ s t end few n from to links. linked_at_one Fits Joins First plan mine start writer last
      moments is_chain kept s t end few key n from to links)
      (λ now run links. has_linked holds plan.roots plan.seed plan.words plan.nodes
      (nodes_in now.view.client.known) (map_at_end holds plan opened now run).map key some wide up
      links)

  entry_had : (words : List ℕ) → key_in words ≡ key
      → (t : ℕ) (now : Watching Planned) (run : Run now) → Made t now run → t ≤ last
      → (n : ℕ) → n ≤ t → AreLinkedWords start words (nodes_at moments n)
      → HadEntry holds plan opened words now run
  entry_had words keyed =
      run_had (AreLinkedWords start words) (λ nodes. HasEntry plan.roots nodes words)
      (λ s t end few n from to links. words_at_one Fits Joins First plan mine start writer last
      moments is_chain kept s t end few words n from to links)
      (λ now run links. entry_linked holds plan.roots plan.seed plan.words plan.nodes
      (nodes_in now.view.client.known) (map_at_end holds plan opened now run).map key some wide up
      words keyed links)

  -- a search may begin after the first call did, and end before the last one does
  module _ (from done : ℕ) (early : from + done ≤ last) (now : Watching Planned) (run : Run now)
      (made : Made last now run) where
    within : (t : ℕ) → t < done → from + t < last
    within t low = omega (arith, early, low)

    move_at : (t : ℕ) → t < done
        → (move : IsWriterMove plan (since from moments t) (since from moments (suc t)))
        × IsOnChain plan (since from moments t) (since from moments (suc t)) mine start move
    move_at t low =
        let next : suc (from + t) ≡ from + suc t = omega arith in
        subst (λ (n : ℕ). (move : IsWriterMove plan (moments (from + t)) (moments n))
        × IsOnChain plan (moments (from + t)) (moments n) mine start move)
        next (
          kept.moves (from + t) (within t low),
          run_on last now run made (omega arith) (from + t) (within t low) (within t low),
        )

    pub part : IsMapOver holds plan writer done (since from moments)
    part = record {
      at = λ t low. kept.at (from + t) (omega (arith, early, low));
      moves = λ t low. (move_at t low).0;
    }

    pub part_on : AreOnChain Fits Joins First plan mine start writer done (since from moments) part
    unfolding part
    part_on t low = (move_at t low).1

    pub part_linked : HasKeyThroughout holds plan opened key now run
        → (t : ℕ) → t ≤ done → IsLinkedKey start key (nodes_at (since from moments) t)
    part_linked has t low =
        run_linked_over last now run made (omega arith) has (from + t) (omega (arith, low, early))

    pub part_had : (t : ℕ) → t ≤ done → IsLinkedKey start key (nodes_at (since from moments) t)
        → HadKey holds plan opened key now run
    part_had t low links =
        key_had last now run made (omega arith) (from + t) (omega (arith, low, early)) links

    pub part_had_entry : (words : List ℕ) → key_in words ≡ key → (t : ℕ) → t ≤ done
        → AreLinkedWords start words (nodes_at (since from moments) t)
        → HadEntry holds plan opened words now run
    part_had_entry words keyed t low links =
        entry_had words keyed last now run made (omega arith) (from + t) (omega (arith, low, early))
        links

-- a property from this moment on
pub at_first : (P : Moment → Type 0) (moments : ℕ → Moment) (from : ℕ)
    → P (moments from) → P (since from moments 0)
at_first P moments from p =
    let same : from ≡ from + 0 = omega arith in subst (λ (n : ℕ). P (moments n)) same p

-- a key that is there throughout was there
pub throughout_had : (holds : List ℕ → Type 0) (plan : Plan) (opened key : ℕ)
    (now : Watching Planned) (run : IsRun holds plan opened now)
    → HasKeyThroughout holds plan opened key now run
    → HadKey holds plan opened key now run
throughout_had holds plan opened key now (begun _ m) has = has
throughout_had holds plan opened key now (changed before _ run by m) has = inr has.1
throughout_had holds plan opened key now (looked before _ number run opens is m) has = inr has.1
