-- The steps that a map's writer may take.
use Rattle.std.proofs.Common.{◌≡◌, ℕ, suc, ◌<◌, ◌∙◌, Option, Some, None, List, sym, subst, arith}
use Rattle.std.proofs.Common.{refl}
use Rattle.rcu_live.specs.Watcher.{Watching}
use Rattle.rcu_graph.specs.Absence.{next_of}
use Rattle.rcu_graph.specs.Graph.{word_to}
use Rattle.rcu_graph.specs.Nodes.{node_at, nodes_in, state_at}
use Rattle.rcu_graph.specs.declared.known.Planned.{Planned}
use Rattle.rcu_graph.specs.declared.known.Node.{Node}
use Rattle.rcu_graph.specs.declared.node_state.NodeState.TheVariants.{Live}
use Rattle.rcu_map.specs.Chains.{IsMap, buckets_in, seed_in}
use Rattle.rcu_map.specs.Keys.{GoesUp, IsWhole, key_in}
use Rattle.rcu_map.specs.Splices.{CanPass, IsPlace}
use Rattle.rcu_graph.specs.Puts.{CanPut}
use Rattle.rcu_map.proofs.Buckets.{entry_bucket}
use Rattle.rcu_map.proofs.Chains.{inside, led}
use Rattle.rcu_graph.proofs.Puts.{target_of}

-- the same place, of the same key in the same nodes
pub placed : (w v : Watching Planned) (key k previous : ℕ) (was o : Option ℕ)
    → IsPlace (buckets_in w) (seed_in w) key (nodes_in w.view.client.known) previous was
    → v ≡ w → key ≡ k → was ≡ o
    → IsPlace (buckets_in v) (seed_in v) k (nodes_in v.view.client.known) previous o
placed w v key k previous was o place e f h =
    subst (λ (x : Watching Planned).
    IsPlace (buckets_in x) (seed_in x) k (nodes_in x.view.client.known) previous o)
    (sym e)
    (subst (λ (n : ℕ). IsPlace (buckets_in w) (seed_in w) n (nodes_in w.view.client.known) previous
    o) f
    (subst (λ (n : Option ℕ). IsPlace (buckets_in w) (seed_in w) key (nodes_in w.view.client.known)
    previous n)
    h place))

module _ (holds : List ℕ → Type 0) (writer : Watching Planned)
    (one : writer.view.client.plan.links ≡ 1)
    (m : IsMap holds writer.view.client.plan.roots writer.view.client.plan.seed
    writer.view.client.plan.words
    writer.view.client.plan.nodes (nodes_in writer.view.client.known)) where
  abbrev buckets : ℕ
  buckets = writer.view.client.plan.roots

  abbrev seed : ℕ
  seed = writer.view.client.plan.seed

  abbrev width : ℕ
  width = writer.view.client.plan.words

  abbrev count : ℕ
  count = writer.view.client.plan.nodes

  abbrev A : List Node
  A = nodes_in writer.view.client.known

  module _ (previous : ℕ) (words : List ℕ) (some : 0 < key_in words)
      (whole : IsWhole holds width words) where
    joined : (there : Option ℕ) → IsPlace buckets seed (key_in words) A previous there
        → GoesUp buckets seed (node_at A previous).words words
    joined there place = record {
      up = place.less;
      same = place.bucket ∙ sym (entry_bucket buckets seed (key_in words) words some refl);
    }

    can_put : (there next : Option ℕ)
        → IsPlace buckets seed (key_in words) A previous there
        → ((j : ℕ) → word_to next ≡ suc j → (state_at A j ≡ Live)
        × GoesUp buckets seed words (node_at A j).words)
        → CanPut (IsWhole holds width) (λ _ from to. GoesUp buckets seed from to) writer
        previous words next
    can_put there next place onward = record {
      one = one;
      few = m.few;
      sized = whole.sized;
      live = place.live;
      whole = whole;
      joined = joined there place;
      target = target_of (λ from to. GoesUp buckets seed from to) words A (word_to next) onward;
    }

    pub can_insert : (next : Option ℕ)
        → IsPlace buckets seed (key_in words) A previous None
        → word_to next ≡ next_of A previous
        → CanPut (IsWhole holds width) (λ _ from to. GoesUp buckets seed from to) writer
        previous words next
    can_insert next place to = can_put None next place (λ j e.
        let leads : next_of A previous ≡ suc j = sym to ∙ e in
        let r = led holds buckets seed width count A m previous j place.live leads in
        (r.0, record { up = place.leads j leads; same = sym (joined None place).same ∙ r.1.same }))

    pub can_replace : (old : ℕ) (next : Option ℕ)
        → IsPlace buckets seed (key_in words) A previous (Some old)
        → word_to next ≡ next_of A old
        → CanPut (IsWhole holds width) (λ _ from to. GoesUp buckets seed from to) writer
        previous words next
    can_replace old next place to = can_put (Some old) next place (λ j e.
        let first = led holds buckets seed width count A m previous old place.live place.leads.0 in
        let r = led holds buckets seed width count A m old j first.0 (sym to ∙ e) in
        let is = place.leads.1 in let up = r.1.up in (
          r.0,
          record {
            up = omega (arith, is, up);
            same = sym (joined (Some old) place).same ∙ (first.1.same ∙ r.1.same);
          },
        ))

  pub old_inside : (key previous old : ℕ) → IsPlace buckets seed key A previous (Some old) → old <
      count
  old_inside key previous old place =
      inside holds buckets seed width count A m old
      (led holds buckets seed width count A m previous old place.live place.leads.0).0

  pub can_remove : (key previous old : ℕ) → IsPlace buckets seed key A previous (Some old)
      → CanPass (λ _ from to. GoesUp buckets seed from to) writer previous old
  can_remove key previous old place = record {
    one = one;
    few = m.few;
    live = place.live;
    inside = old_inside key previous old place;
    target = target_of (λ from to. GoesUp buckets seed from to) (node_at A previous).words A
        (next_of A old) (λ j e.
        let first = led holds buckets seed width count A m previous old place.live place.leads.0 in
        let r = led holds buckets seed width count A m old j first.0 e in
        let a = first.1.up in let b = r.1.up in
        (r.0, record { up = omega (arith, a, b); same = first.1.same ∙ r.1.same }));
  }
