-- A key that is there before and after each call of the writer is linked at each moment between.
use Rattle.std.proofs.Common.{◌≡◌, ℕ, zero, suc, ◌+◌, ◌<◌, ◌≤◌, Bool, true, false, List, []}
use Rattle.std.proofs.Common.{◌∷◌, inr, length, map, refl, sym, ap, ◌∙◌, subst, arith, ⊎_elim}
use Rattle.std.proofs.Common.{eq-eqb}
use Rattle.std.specs.Prelude.{IsTrue, slice_index}
use Rattle.std.proofs.lemmas.Bool.{cases_lt, eqb-true}
use Rattle.std.proofs.Math.Nat.{le-max_left}
use Rattle.rcu_live.specs.Numbers.{is_open_at}
use Rattle.rcu_live.specs.Watcher.{Watching}
use Rattle.rcu_graph.specs.Absence.{AreSameFor, IsChained, IsHistory, IsLinkedKey, IsOnIfOurs}
use Rattle.rcu_graph.specs.Absence.{IsWriterStep, arrived, aside, key_at, linked, next_of, onwards}
use Rattle.rcu_graph.specs.Absence.{published}
use Rattle.rcu_graph.specs.Graph.{word_to}
use Rattle.rcu_graph.specs.Writer.{after_look}
use Rattle.rcu_graph.specs.Nodes.{MayRead, latest_in, node_at, nodes_in, renewed, state_at}
use Rattle.rcu_graph.specs.Tended.{AreCollected, AreLed, filled_with}
use Rattle.rcu_graph.specs.declared.known.Planned.{Planned}
use Rattle.rcu_graph.specs.declared.known.Node.{Node}
use Rattle.rcu_graph.specs.declared.node_state.NodeState.TheVariants.{Free, Live}
use Rattle.rcu_graph.specs.declared.plan.Plan.{Plan}
use Rattle.rcu_graph.proofs.Chains.{same_reclaimed, unseen_where_free}
use Rattle.rcu_graph.proofs.Counting.{kept_at, other_node}
use Rattle.rcu_graph.proofs.Stores.{linked_on, reached_on}
use Rattle.rcu_map.specs.Chains.{AreOfOneBucket, IsMap}
use Rattle.rcu_map.specs.Entries.{HasEntry, HasKey}
use Rattle.rcu_map.specs.Keys.{GoesUp, bucket_in, bucket_of, key_in, root_words}
use Rattle.rcu_map.specs.Puts.{IsByOneStore, IsPutIn}
use Rattle.rcu_map.specs.Runs.{HasKeyThroughout, IsMapOf, IsRun, around, begun, changed, filled_in}
use Rattle.rcu_map.specs.Runs.{is_of, last_of, looked, moments_in, seen_in, then_to}
use Rattle.rcu_map.specs.Splices.{IsOneStore, by_passing, by_put}
use Rattle.rcu_map.proofs.Buckets.{bucket_inside, root_bucket}
use Rattle.rcu_map.proofs.Chains.{has_key, root_key_at}
use Rattle.rcu_graph.proofs.Puts.{not_free}
use Rattle.rcu_map.proofs.Linked.{is_linked, leads_on}
use Rattle.rcu_graph.proofs.Puts.{target_there}

-- if each live node leads as it may, the chain of a bucket is one
chained_by : (buckets seed width root : ℕ) (nodes : List Node)
    → AreLed (λ _ from to. GoesUp buckets seed from to) 1 nodes
    → state_at nodes root ≡ Live
    → (node_at nodes root).words ≡ root_words width root
    → 1 < width
    → IsChained (is_of buckets seed root) root nodes
chained_by buckets seed width root nodes led live own wide = record {
  rooted = live;
  own = eq-eqb (bucket_in buckets seed (node_at nodes root).words) root
      (ap (bucket_in buckets seed) own ∙ root_bucket buckets seed width root wide);
  live = λ i j on leads. (there i j on leads).0;
  ascends = λ i j on leads. (there i j on leads).1.up;
  stays = λ i j on leads mine. eq-eqb (bucket_in buckets seed (node_at nodes j).words) root
      (sym (there i j on leads).1.same
      ∙ eqb-true (bucket_in buckets seed (node_at nodes i).words) root mine);
}
  where
    there : (i j : ℕ) → state_at nodes i ≡ Live → next_of nodes i ≡ suc j
        → (state_at nodes j ≡ Live)
        × GoesUp buckets seed (node_at nodes i).words (node_at nodes j).words
    there i j on leads =
        target_there (λ from to. GoesUp buckets seed from to) (node_at nodes i).words nodes
        (next_of nodes i) j (led i 0 on (omega arith)) leads

-- one timeline after another
module _ (ours : List ℕ → Bool) (opened root : ℕ) where
  starts_as : (last : ℕ) (first later : ℕ → List Node) → first last ≡ later 0
      → then_to last first later 0 ≡ first 0
  starts_as zero first later e = sym e
  starts_as (suc last) first later e = refl

  one_more : (last more : ℕ) (first later : ℕ → List Node)
      → IsHistory ours opened root (suc last) first
      → first (suc last) ≡ later 0
      → IsHistory ours opened root (last + more) (then_to last (λ n. first (suc n)) later)
      → IsHistory ours opened root (suc last + more) (then_to (suc last) first later)
  one_more last more first later h e rest = record { chained = chains; steps = goes }
    where
      chains : (t : ℕ) → t ≤ suc last + more
          → IsChained ours root (then_to (suc last) first later t)
      chains zero up = h.chained 0 (omega arith)
      chains (suc t) up = rest.chained t (omega (arith, up))

      goes : (t : ℕ) → t < suc last + more
          → IsWriterStep ours opened root (then_to (suc last) first later t)
          (then_to (suc last) first later (suc t))
      goes zero up =
          subst (IsWriterStep ours opened root (first 0))
          (sym (starts_as last (λ n. first (suc n)) later e)) (h.steps 0 (omega arith))
      goes (suc t) up = rest.steps t (omega (arith, up))

  pub joined : (last more : ℕ) (first later : ℕ → List Node)
      → IsHistory ours opened root last first
      → IsHistory ours opened root more later
      → first last ≡ later 0
      → IsHistory ours opened root (last + more) (then_to last first later)
  joined zero more first later h k e =
      let none : more ≡ 0 + more = omega arith in
      subst (λ (n : ℕ). IsHistory ours opened root n later) none k
  joined (suc last) more first later h k e = one_more last more first later h e
      (joined last more (λ n. first (suc n)) later
      (record {
        chained = λ t up. h.chained (suc t) (omega (arith, up));
        steps = λ t up. h.steps (suc t) (omega (arith, up));
      })
      k e)

  pub goes_to : (last more : ℕ) (first later : ℕ → List Node)
      → then_to last first later (last + more) ≡ later more
  goes_to zero more first later =
      let none : 0 + more ≡ more = omega arith in ap later none
  goes_to (suc last) more first later =
      let one : suc last + more ≡ suc (last + more) = omega arith in
      ap (then_to (suc last) first later) one ∙ goes_to last more (λ n. first (suc n)) later

  pub all_joined : (key last more : ℕ) (first later : ℕ → List Node)
      → ((t : ℕ) → t ≤ last → IsLinkedKey root key (first t))
      → ((t : ℕ) → t ≤ more → IsLinkedKey root key (later t))
      → (t : ℕ) → t ≤ last + more → IsLinkedKey root key (then_to last first later t)
  all_joined key zero more first later h k t up = k t (omega (arith, up))
  all_joined key (suc last) more first later h k zero up = h 0 (omega arith)
  all_joined key (suc last) more first later h k (suc t) up =
      all_joined key last more (λ n. first (suc n)) later
      (λ n low. h (suc n) (omega (arith, low))) k t (omega (arith, up))

-- the moments of one call that changes a map by one store
module _ (holds : List ℕ → Type 0) (buckets seed width count opened key : ℕ) (some : 0 < buckets)
    (wide : 1 < width) (up : 0 < key) where
  abbrev root : ℕ
  root = bucket_of buckets seed key

  abbrev ours : List ℕ → Bool
  ours = is_of buckets seed root

  root_inside : root < buckets
  root_inside = bucket_inside buckets seed key some

  pub map_chained : (A : List Node) → IsMap holds buckets seed width count A → IsChained ours root A
  map_chained A m = chained_by buckets seed width root A m.tended.led
      (m.tended.rooted root root_inside) (m.roots root root_inside) wide

  module _ (A : List Node) (m : IsMap holds buckets seed width count A) where
    c : IsChained ours root A
    c = map_chained A m

    -- a live node of the bucket is on its chain
    pub on_chain : (i : ℕ) → state_at A i ≡ Live → IsOnIfOurs ours root A i
    on_chain i live mine = ⊎_elim
        (λ (is_root : i < buckets). arrived root
        (sym (eqb-true (bucket_in buckets seed (node_at A i).words) root mine)
        ∙ (ap (bucket_in buckets seed) (m.roots i is_root)
        ∙ root_bucket buckets seed width i wide)))
        (λ (past : buckets ≤ i).
        let none = root_key_at holds buckets seed width count A m root root_inside in
        let higher = has_key holds buckets seed width count A m i live past in
        let one : AreOfOneBucket buckets seed A root i = record {
          first = c.rooted;
          second = live;
          same = eqb-true (bucket_in buckets seed (node_at A root).words) root c.own
              ∙ sym (eqb-true (bucket_in buckets seed (node_at A i).words) root mine);
        } in
        let on = leads_on holds buckets seed width count A m (key_at A i) root i one
        (omega (arith, none, higher)) (omega arith) in
        onwards root on.begin on.begins on.reached)
        (cases_lt i buckets)

    -- a free node is filled
    module _ (node : ℕ) (f : Node → Node) (free : state_at A node ≡ Free)
        (still : (f (node_at A node)).state ≡ (node_at A node).state)
        (inside : node < length A) where
      abbrev F : List Node
      F = renewed A node f

      same_node : (y : ℕ) → state_at A y ≡ Live → node_at F y ≡ node_at A y
      same_node y live = other_node A node y f (not_free A node y free live)

      live_then : (y : ℕ) → state_at A y ≡ Live → state_at F y ≡ Live
      live_then y live = ap (λ (v : Node). v.state) (same_node y live) ∙ live

      live_before : (y : ℕ) → state_at F y ≡ Live → state_at A y ≡ Live
      live_before y live = sym (kept_at (λ (v : Node). v.state) A node y f inside still) ∙ live

      filled_same : (y : ℕ) → state_at A y ≡ Live
          → (next_of F y ≡ next_of A y) × (key_at F y ≡ key_at A y)
      filled_same y live = (
        ap (λ (v : Node). slice_index v.links 0) (same_node y live),
        ap (λ (v : Node). slice_index v.words 0) (same_node y live),
      )

      filled_chained : IsChained ours root F
      filled_chained = record {
        rooted = live_then root c.rooted;
        own = subst (λ (v : Node). IsTrue (ours v.words)) (sym (same_node root c.rooted)) c.own;
        live = λ i j on leads. live_then j (there i j on leads);
        ascends = λ i j on leads.
            let was = c.ascends i j (live_before i on) (led i j on leads) in
            let a = (filled_same i (live_before i on)).1 in
            let b = (filled_same j (there i j on leads)).1 in
            omega (arith, was, a, b);
        stays = λ i j on leads mine.
            subst (λ (v : Node). IsTrue (ours v.words)) (sym (same_node j (there i j on leads)))
            (c.stays i j (live_before i on) (led i j on leads)
            (subst (λ (v : Node). IsTrue (ours v.words)) (same_node i (live_before i on)) mine));
      }
        where
          led : (i j : ℕ) → state_at F i ≡ Live → next_of F i ≡ suc j → next_of A i ≡ suc j
          led i j on leads = sym (filled_same i (live_before i on)).0 ∙ leads

          there : (i j : ℕ) → state_at F i ≡ Live → next_of F i ≡ suc j → state_at A j ≡ Live
          there i j on leads = c.live i j (live_before i on) (led i j on leads)

    -- right before the one store
    module _ (S : List Node) where
      pub unseen_before : (one : IsOneStore A S) → AreSameFor opened A (filled_in A S one)
      unseen_before (by_put previous node words next live free is) =
          unseen_where_free opened A node (filled_with (map word_to (next ∷ [])) words) free.free
      unseen_before (by_passing previous next live is) = λ i may. (may, refl, refl)

      pub chained_before : (one : IsOneStore A S) → IsChained ours root (filled_in A S one)
      chained_before (by_put previous node words next live free is) =
          filled_chained node (filled_with (map word_to (next ∷ [])) words) free.free refl
          free.inside
      chained_before (by_passing previous next live is) = c

      pub linked_before : (one : IsOneStore A S) → IsLinkedKey root key A
          → IsLinkedKey root key (filled_in A S one)
      linked_before (by_put previous node words next live free is) k =
          let f : Node → Node = filled_with (map word_to (next ∷ [])) words in
          linked_on ours root A (renewed A node f) c
          (filled_same node f free.free refl free.inside) key k
      linked_before (by_passing previous next live is) k = k

      pub stores : (one : IsOneStore A S) → IsWriterStep ours opened root (filled_in A S one) S
      stores (by_put previous node words next live free is) =
          let f : Node → Node = filled_with (map word_to (next ∷ [])) words in
          let F : List Node = renewed A node f in
          published previous 0 node (live_then node f free.free refl free.inside previous live)
          (kept_at (λ (v : Node). v.state) A node node f free.inside refl ∙ free.free)
          (λ mine. reached_on ours root A F c (filled_same node f free.free refl free.inside)
          previous root c.rooted
          (on_chain previous live
          (subst (λ (v : Node). IsTrue (ours v.words))
          (same_node node f free.free refl free.inside previous live) mine)))
          is
      stores (by_passing previous next live is) =
          linked previous 0 (word_to next) (on_chain previous live) is

  -- right after it
  module _ (S B : List Node) (m : IsMap holds buckets seed width count B)
      (t : AreCollected buckets 1 S B) where
    live_in_stored : (i : ℕ) → i < buckets → state_at S i ≡ Live
    live_in_stored i is_root = ⊎_elim
        (λ (same : state_at B i ≡ state_at S i). sym same ∙ m.tended.rooted i is_root)
        (λ left. absurd (omega (arith, is_root, left.0)))
        (t.states i)

    pub chained_after : AreLed (λ _ from to. GoesUp buckets seed from to) 1 S
        → IsChained ours root S
    chained_after led = chained_by buckets seed width root S led (live_in_stored root root_inside)
        (sym (t.words_stay root) ∙ m.roots root root_inside) wide

    pub unseen_after : AreSameFor opened S B
    unseen_after i may = (
      ⊎_elim
          (λ (same : state_at B i ≡ state_at S i). subst (MayRead opened) (sym same) may)
          (λ left. subst (MayRead opened) (sym left.2) tt)
          (t.states i),
      t.links_stay i,
      t.words_stay i,
    )

    pub linked_after : IsLinkedKey root key B → IsLinkedKey root key S
    linked_after k = linked_on ours root B S (map_chained B m)
        (λ y live. (
          ap (λ (links : List ℕ). slice_index links 0) (sym (t.links_stay y)),
          ap (λ (words : List ℕ). slice_index words 0) (sym (t.words_stay y)),
        ))
        key k

-- an entry that was put in is there
has_it : (buckets : ℕ) (words : List ℕ) (nodes : List Node) → HasEntry buckets nodes words
    → HasKey buckets nodes (key_in words)
has_it buckets words nodes e = (e.node, record { entry = e.entry; is = ap key_in e.is })

pub put_is_there : (buckets : ℕ) (words : List ℕ) (there : Bool) (before after : List Node)
    → IsPutIn buckets words there before after → HasKey buckets after (key_in words)
put_is_there buckets words true before after put =
    has_it buckets words after ((put.entries words).1 (inr refl))
put_is_there buckets words false before after put =
    has_it buckets words after ((put.entries words).1 (inr refl))

-- a run ends with a map
module _ (holds : List ℕ → Type 0) (plan : Plan) (opened : ℕ) where
  pub map_at_end : (now : Watching Planned) → IsRun holds plan opened now → IsMapOf holds plan now
  map_at_end now (begun _ m) = m
  map_at_end now (changed before _ run by m) = m
  map_at_end now (looked before _ number run opens is m) = m

-- a key that is there throughout a run is there at its end
module _ (holds : List ℕ → Type 0) (plan : Plan) (opened key : ℕ) where
  pub has_at_end : (now : Watching Planned) (run : IsRun holds plan opened now)
      → HasKeyThroughout holds plan opened key now run
      → HasKey plan.roots (nodes_in now.view.client.known) key
  has_at_end now (begun _ m) has = has
  has_at_end now (changed before _ run by m) has = has.1
  has_at_end now (looked before _ number run opens is m) has = has.1

-- the moments of a run
module _ (holds : List ℕ → Type 0) (plan : Plan) (opened key : ℕ) (some : 0 < plan.roots)
    (wide : 1 < plan.words) (up : 0 < key) where
  abbrev start : ℕ
  start = bucket_of plan.roots plan.seed key

  abbrev mine : List ℕ → Bool
  mine = is_of plan.roots plan.seed start

  abbrev Run : Watching Planned → Type 0
  Run now = IsRun holds plan opened now

  abbrev last_at : (now : Watching Planned) → Run now → ℕ
  last_at now run = last_of holds plan opened now run

  abbrev nodes_at : (now : Watching Planned) → Run now → ℕ → List Node
  nodes_at now run = seen_in holds plan opened now run

  abbrev IsLinkedTo : ℕ → (ℕ → List Node) → Type 0
  IsLinkedTo last nodes = (t : ℕ) → t ≤ last → IsLinkedKey start key (nodes t)

  abbrev Has : Watching Planned → Type 0
  Has k = HasKey plan.roots (nodes_in k.view.client.known) key

  is_chained : (k : Watching Planned) → IsMapOf holds plan k
      → IsChained mine start (nodes_in k.view.client.known)
  is_chained k m = map_chained holds plan.roots plan.seed plan.words plan.nodes opened key some wide
      up (nodes_in k.view.client.known) m.map

  links_it : (k : Watching Planned) → IsMapOf holds plan k → Has k
      → IsLinkedKey start key (nodes_in k.view.client.known)
  links_it k m has = is_linked holds plan.roots plan.seed plan.words plan.nodes
      (nodes_in k.view.client.known) m.map key some wide up has

  module _ (before now : Watching Planned) (by : IsByOneStore before now)
      (m : IsMapOf holds plan before) (n : IsMapOf holds plan now) where
    abbrev A : List Node
    A = nodes_in before.view.client.known

    abbrev B : List Node
    B = nodes_in now.view.client.known

    collected : AreCollected plan.roots 1 by.stored B
    collected = subst (λ (p : Plan). AreCollected p.roots 1 by.stored B) m.planned by.collected

    led : AreLed (λ _ from to. GoesUp plan.roots plan.seed from to) 1 by.stored
    led = subst (λ (p : Plan). AreLed (λ _ from to. GoesUp p.roots p.seed from to) 1 by.stored)
        m.planned by.led

    call_chained : (t : ℕ) → t ≤ 3 → IsChained mine start (moments_in before now by t)
    call_chained zero low = is_chained before m
    call_chained (suc zero) low = chained_before holds plan.roots plan.seed plan.words plan.nodes
        opened key some wide up A m.map by.stored by.one
    call_chained (suc (suc zero)) low = chained_after holds plan.roots plan.seed plan.words
        plan.nodes opened key some wide up by.stored B n.map collected led
    call_chained (suc (suc (suc t))) low = is_chained now n

    call_steps : (t : ℕ) → t < 3 → IsWriterStep mine opened start (moments_in before now by t)
        (moments_in before now by (suc t))
    call_steps zero low = aside (unseen_before holds plan.roots plan.seed plan.words plan.nodes
        opened key some wide up A m.map by.stored by.one)
    call_steps (suc zero) low = stores holds plan.roots plan.seed plan.words plan.nodes opened key
        some wide up A m.map by.stored by.one
    call_steps (suc (suc zero)) low = aside (unseen_after holds plan.roots plan.seed plan.words
        plan.nodes opened key some wide up by.stored B n.map collected)
    call_steps (suc (suc (suc t))) low = absurd (omega (arith, low))

    call_history : IsHistory mine opened start 3 (moments_in before now by)
    call_history = record { chained = call_chained; steps = call_steps }

    call_linked : Has before → Has now → IsLinkedTo 3 (moments_in before now by)
    call_linked was is zero low = links_it before m was
    call_linked was is (suc zero) low = linked_before holds plan.roots plan.seed plan.words
        plan.nodes opened key some wide up A m.map by.stored by.one (links_it before m was)
    call_linked was is (suc (suc zero)) low = linked_after holds plan.roots plan.seed plan.words
        plan.nodes opened key some wide up by.stored B n.map collected (links_it now n is)
    call_linked was is (suc (suc (suc t))) low = links_it now n is

  module _ (before now : Watching Planned) (number : ℕ) (opens : is_open_at number opened ≡ true)
      (is : now ≡ after_look before number) (m : IsMapOf holds plan before)
      (n : IsMapOf holds plan now) where
    look_chained : (t : ℕ) → t ≤ 1 → IsChained mine start (around before now t)
    look_chained zero low = is_chained before m
    look_chained (suc t) low = is_chained now n

    look_steps : (t : ℕ) → t < 1 → IsWriterStep mine opened start (around before now t)
        (around before now (suc t))
    look_steps zero low = aside
        (subst (λ (k : Watching Planned). AreSameFor opened (nodes_in before.view.client.known)
        (nodes_in k.view.client.known))
        (sym is)
        (same_reclaimed opened number _ (nodes_in before.view.client.known)
        (le-max_left number (latest_in before.view.client.known)) opens))
    look_steps (suc t) low = absurd (omega (arith, low))

    look_history : IsHistory mine opened start 1 (around before now)
    look_history = record { chained = look_chained; steps = look_steps }

    look_linked : Has before → Has now → IsLinkedTo 1 (around before now)
    look_linked was has zero low = links_it before m was
    look_linked was has (suc t) low = links_it now n has

  -- a run ends at its writer's state
  ends_at : (now : Watching Planned) (run : Run now)
      → nodes_at now run (last_at now run) ≡ nodes_in now.view.client.known
  ends_at now (begun _ m) = refl
  ends_at now (changed before _ run by m) = goes_to mine opened start (last_at before run) 3
      (nodes_at before run) (moments_in before now by)
  ends_at now (looked before _ number run opens is m) = goes_to mine opened start
      (last_at before run) 1 (nodes_at before run) (around before now)

  pub run_history : (now : Watching Planned) (run : Run now)
      → IsHistory mine opened start (last_at now run) (nodes_at now run)
  run_history now (begun _ m) = record {
    chained = λ t low. is_chained now m;
    steps = λ t low. absurd (omega (arith, low));
  }
  run_history now (changed before _ run by m) =
      joined mine opened start (last_at before run) 3 (nodes_at before run)
      (moments_in before now by) (run_history before run)
      (call_history before now by (map_at_end holds plan opened before run) m) (ends_at before run)
  run_history now (looked before _ number run opens is m) =
      joined mine opened start (last_at before run) 1 (nodes_at before run) (around before now)
      (run_history before run)
      (look_history before now number opens is (map_at_end holds plan opened before run) m)
      (ends_at before run)

  pub run_linked : (now : Watching Planned) (run : Run now)
      → HasKeyThroughout holds plan opened key now run
      → IsLinkedTo (last_at now run) (nodes_at now run)
  run_linked now (begun _ m) has = λ t low. links_it now m has
  run_linked now (changed before _ run by m) has =
      all_joined mine opened start key (last_at before run) 3 (nodes_at before run)
      (moments_in before now by) (run_linked before run has.0)
      (call_linked before now by (map_at_end holds plan opened before run) m
      (has_at_end holds plan opened key before run has.0) has.1)
  run_linked now (looked before _ number run opens is m) has =
      all_joined mine opened start key (last_at before run) 1 (nodes_at before run)
      (around before now) (run_linked before run has.0)
      (look_linked before now number opens is (map_at_end holds plan opened before run) m
      (has_at_end holds plan opened key before run has.0) has.1)
