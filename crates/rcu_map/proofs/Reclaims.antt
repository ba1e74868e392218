-- The nodes of a map at first, and as they are reclaimed: no entry changes.
use Rattle.std.proofs.Common.{◌≡◌, ℕ, ◌<◌, ◌≤◌, ⊎_elim, List, length, sym}
use Rattle.std.proofs.Common.{ap, ◌∙◌, subst, arith}
use Rattle.std.specs.Prelude.{slice_index}
use Rattle.std.proofs.lemmas.Bool.{cases_lt}
use Rattle.std.proofs.lemmas.List.{length-replicate}
use Rattle.rcu_live.specs.Watcher.{Watching}
use Rattle.rcu_graph.specs.Absence.{key_at}
use Rattle.rcu_graph.specs.Nodes.{first_nodes, is_live}
use Rattle.rcu_graph.specs.Nodes.{node_at, nodes_in, state_at}
use Rattle.rcu_graph.specs.Tended.{AreTended}
use Rattle.rcu_graph.specs.declared.known.Node.{Node}
use Rattle.rcu_graph.specs.declared.known.Planned.{Planned}
use Rattle.rcu_graph.specs.declared.plan.Plan.{Plan}
use Rattle.rcu_graph.specs.declared.node_state.NodeState.TheVariants.{Free, Live}
use Rattle.rcu_graph.proofs.Counting.{live_inside}
use Rattle.rcu_graph.proofs.FirstNodes.{first_at, is_free, is_root}
use Rattle.rcu_graph.proofs.Looks.{AreAsLive, still_live, was_live}
use Rattle.rcu_map.specs.Chains.{AreOfOneBucket, IsKept, IsMap}
use Rattle.rcu_map.specs.Entries.{AreSameEntries, entries_in}
use Rattle.rcu_map.specs.Keys.{GoesUp, IsWhole, bucket_in, key_in, root_words}
use Rattle.rcu_graph.specs.Puts.{AreKept}
use Rattle.rcu_map.proofs.Buckets.{root_bucket}
use Rattle.rcu_map.proofs.Rows.{root_key}
use Rattle.rcu_map.proofs.Counted.{as_many_entries, no_entries}
use Rattle.rcu_graph.proofs.Puts.{free_or_live}

-- no entry changes
pub reclaimed_entries : (buckets : ℕ) (A B : List Node) → AreAsLive A B → AreSameEntries buckets A B
reclaimed_entries buckets A B s w = (
  λ h. record {
    node = h.node;
    entry = record { behind = h.entry.behind; live = was_live A B s h.node h.entry.live };
    is = sym (s.words h.node) ∙ h.is;
  },
  λ h. record {
    node = h.node;
    entry = record { behind = h.entry.behind; live = still_live A B s h.node h.entry.live };
    is = s.words h.node ∙ h.is;
  },
)

module _ (holds : List ℕ → Type 0) (buckets seed width count : ℕ) where
  -- looks at the number
  module _ (A B : List Node) (m : IsMap holds buckets seed width count A) (s : AreAsLive A B) where
    key_same : (i : ℕ) → key_at B i ≡ key_at A i
    key_same i = ap key_in (s.words i)

    before : (i j : ℕ) → AreOfOneBucket buckets seed B i j → AreOfOneBucket buckets seed A i j
    before i j one = record {
      first = was_live A B s i one.first;
      second = was_live A B s j one.second;
      same =
          ap (λ (w : List ℕ). bucket_in buckets seed w) (sym (s.words i))
          ∙ (one.same ∙ ap (λ (w : List ℕ). bucket_in buckets seed w) (s.words j));
    }

    pub reclaimed_map : length B ≡ count
        → AreTended (IsWhole holds width) (λ _ from to. GoesUp buckets seed from to) buckets 1 B
        → IsMap holds buckets seed width count B
    reclaimed_map few tended = record {
      few = few;
      tended = tended;
      roots = λ i low. s.words i ∙ m.roots i low;
      linked = λ i live.
          ap (λ (cells : List ℕ). length cells) (s.links i) ∙ m.linked i (was_live A B s i live);
      next = λ i j one less.
          let a = key_same i in let b = key_same j in
          let l = m.next i j (before i j one) (omega (arith, less, a, b)) in
          let near = l.near in let d = key_same l.to in record {
            to = l.to;
            leads = ap (λ (cells : List ℕ). slice_index cells 0) (s.links i) ∙ l.leads;
            near = omega (arith, near, b, d);
          };
      apart = λ i j one same.
          let a = key_same i in
          let b = key_same j in m.apart i j (before i j one) (omega (arith, same, a, b));
    }

    pub reclaimed_count : entries_in buckets B ≡ entries_in buckets A
    reclaimed_count = as_many_entries buckets A B s.many s.live

  -- the nodes at first
  abbrev firsts : List Node
  firsts = first_nodes 1 width (root_words width) buckets count

  module _ (few : length firsts ≡ count)
      (tended : AreTended (IsWhole holds width) (λ _ from to. GoesUp buckets seed from to) buckets 1
      firsts) where
    at_root : (i : ℕ) → i < buckets → (node_at firsts i).words ≡ root_words width i
    at_root i low =
        let bound = live_inside firsts i (tended.rooted i low) in
        ap (λ (v : Node). v.words)
        (first_at 1 width count (root_words width) buckets i (omega (arith, bound, few))
        ∙ is_root 1 width count (root_words width) buckets i low)

    one_link : (i : ℕ) → i < buckets → length (node_at firsts i).links ≡ 1
    one_link i low =
        let bound = live_inside firsts i (tended.rooted i low) in
        ap (λ (v : Node). length v.links)
        (first_at 1 width count (root_words width) buckets i (omega (arith, bound, few))
        ∙ is_root 1 width count (root_words width) buckets i low)
        ∙ length-replicate {A = ℕ} 1 0

    is_free_behind : (i : ℕ) → buckets ≤ i → i < count → state_at firsts i ≡ Free
    is_free_behind i past low = ap (λ (v : Node). v.state)
        (first_at 1 width count (root_words width) buckets i low
        ∙ is_free 1 width count (root_words width) buckets i past)

    live_roots : (i : ℕ) → state_at firsts i ≡ Live → i < buckets
    live_roots i live = ⊎_elim (λ (low : i < buckets). low)
        (λ (past : buckets ≤ i).
        let bound = live_inside firsts i live in
        absurd (free_or_live (state_at firsts i)
        (is_free_behind i past (omega (arith, bound, few))) live))
        (cases_lt i buckets)

    no_key : (i : ℕ) → state_at firsts i ≡ Live → key_at firsts i ≡ 0
    no_key i live = ap key_in (at_root i (live_roots i live)) ∙ root_key width i

    own_bucket : (i : ℕ) → 1 < width → state_at firsts i ≡ Live
        → bucket_in buckets seed (node_at firsts i).words ≡ i
    own_bucket i room live =
        ap (λ (w : List ℕ). bucket_in buckets seed w) (at_root i (live_roots i live))
        ∙ root_bucket buckets seed width i room

    pub first_map : 1 < width → IsMap holds buckets seed width count firsts
    first_map room = record {
      few = few;
      tended = tended;
      roots = at_root;
      linked = λ i live. one_link i (live_roots i live);
      next = λ i j one less.
          let a = no_key i one.first in
          let b = no_key j one.second in absurd (omega (arith, less, a, b));
      apart = λ i j one same.
          sym (own_bucket i room one.first) ∙ (one.same ∙ own_bucket j room one.second);
    }

    pub first_count : entries_in buckets firsts ≡ 0
    first_count = no_entries buckets firsts
        (λ i past low. ap is_live (is_free_behind i past (omega (arith, low, few))))

  -- of nodes that are as at first
  module _ (nodes : List Node) (e : nodes ≡ firsts)
      (kept : AreKept (IsWhole holds width) (λ _ from to. GoesUp buckets seed from to) buckets count
      nodes) where
    few_first : length firsts ≡ count
    few_first = ap (λ (l : List Node). length l) (sym e) ∙ kept.few

    tended_first : AreTended (IsWhole holds width) (λ _ from to. GoesUp buckets seed from to)
        buckets 1 firsts
    tended_first = subst (λ (l : List Node).
        AreTended (IsWhole holds width) (λ _ from to. GoesUp buckets seed from to) buckets 1 l)
        e kept.tended

    pub is_map_first : 1 < width → IsMap holds buckets seed width count nodes
    is_map_first room = subst (λ (l : List Node). IsMap holds buckets seed width count l) (sym e)
        (first_map few_first tended_first room)

    pub none_first : entries_in buckets nodes ≡ 0
    none_first = ap (λ (l : List Node). entries_in buckets l) e ∙ first_count few_first tended_first

-- a writer keeps its entries, if it loaded the number
module _ (holds : List ℕ → Type 0) (width : ℕ) (k m : Watching Planned)
    (planned : m.view.client.plan ≡ k.view.client.plan)
    (s : AreAsLive (nodes_in k.view.client.known) (nodes_in m.view.client.known))
    (few : length (nodes_in m.view.client.known) ≡ m.view.client.plan.nodes)
    (tended : AreTended (IsWhole holds m.view.client.plan.words)
    (λ _ from to. GoesUp m.view.client.plan.roots m.view.client.plan.seed from to)
    m.view.client.plan.roots m.view.client.plan.links (nodes_in m.view.client.known)) where
  pub kept_reclaimed : (len : ℕ)
      → IsKept holds width k.view.client.plan (nodes_in k.view.client.known) len
      → IsKept holds width m.view.client.plan (nodes_in m.view.client.known) len
  kept_reclaimed len kept =
      let p : Plan = k.view.client.plan in
      let A : List Node = nodes_in k.view.client.known in
      let B : List Node = nodes_in m.view.client.known in
      subst (λ (q : Plan). IsKept holds width q B len) (sym planned) (record {
        some = kept.some;
        one = kept.one;
        wide = kept.wide;
        words = kept.words;
        map = reclaimed_map holds p.roots p.seed p.words p.nodes A B kept.map s
            (few ∙ ap (λ (q : Plan). q.nodes) planned)
            (subst (λ (links : ℕ). AreTended (IsWhole holds p.words)
            (λ _ from to. GoesUp p.roots p.seed from to) p.roots links B)
            kept.one
            (subst (λ (q : Plan). AreTended (IsWhole holds q.words)
            (λ _ from to. GoesUp q.roots q.seed from to) q.roots q.links B)
            planned tended));
        count = kept.count
            ∙ sym (reclaimed_count holds p.roots p.seed p.words p.nodes A B kept.map s);
        most = kept.most;
      })
