-- The result of putting an entry in: it was put in, it was not requested, or no node was free.
use Rattle.std.proofs.Common.{◌≡◌, ◌<◌, ℕ, true, List, Option, Some, Result, Ok}
use Rattle.std.proofs.Common.{Err, ap, refl, sym, subst}
use Rattle.std.specs.Prelude.{MatchResult}
use Rattle.rcu_live.specs.Watcher.{Watching}
use Rattle.rcu_graph.specs.Absence.{next_of}
use Rattle.rcu_graph.specs.Graph.{word_to}
use Rattle.rcu_graph.specs.Nodes.{nodes_in}
use Rattle.rcu_graph.specs.declared.writer.Full.{Full}
use Rattle.rcu_graph.specs.declared.known.Planned.{Planned}
use Rattle.rcu_map.specs.Chains.{IsMap, buckets_in, seed_in}
use Rattle.rcu_map.specs.Entries.{entries_in}
use Rattle.rcu_map.specs.Keys.{GoesUp, IsWhole, key_in}
use Rattle.rcu_map.specs.Puts.{HasChanged, IsPutIn}
use Rattle.rcu_map.specs.Splices.{IsPlace, by_put}
use Rattle.rcu_graph.specs.Puts.{HasPut, IsFull, put}
use Rattle.rcu_map.proofs.Chains.{free_node}
use Rattle.rcu_map.proofs.Replacements.{replaced, replaced_count, replaced_map}

-- an entry replaced another one, or no node was free
module _ (holds : List ℕ → Type 0) (before now : Watching Planned)
    (m : IsMap holds before.view.client.plan.roots before.view.client.plan.seed
    before.view.client.plan.words
    before.view.client.plan.nodes (nodes_in before.view.client.known)) (previous old : ℕ)
    (words : List ℕ) (next : Option ℕ) (some : 0 < key_in words)
    (place : IsPlace (buckets_in before) (seed_in before) (key_in words)
    (nodes_in before.view.client.known) previous
    (Some old)) (to : word_to next ≡ next_of (nodes_in before.view.client.known) old) where
  abbrev buckets : ℕ
  buckets = before.view.client.plan.roots

  abbrev seed : ℕ
  seed = before.view.client.plan.seed

  abbrev width : ℕ
  width = before.view.client.plan.words

  abbrev count : ℕ
  count = before.view.client.plan.nodes

  abbrev Ends : Result ℕ Full → Type 0
  Ends result = MatchResult result
      (λ node. HasPut (IsWhole holds width) (λ _ from to. GoesUp buckets seed from to) before now
      previous node words next)
      (λ _. IsFull before now)

  pub over_plan : (result : Result ℕ Full) → Ends result
      → now.view.client.plan ≡ before.view.client.plan
  over_plan (Ok node) done = ap (λ (w : Watching Planned). w.view.client.plan) done.state
  over_plan (Err _) full = ap (λ (w : Watching Planned). w.view.client.plan) full.unchanged

  pub over_map : (result : Result ℕ Full) → Ends result
      → IsMap holds buckets seed width count (nodes_in now.view.client.known)
  over_map (Ok node) done = replaced_map holds buckets seed width count
      (nodes_in before.view.client.known) m previous node old words next
      (nodes_in now.view.client.known) some place to done.inside done.free done.collected
      done.kept.few done.kept.tended
  over_map (Err _) full =
      subst (λ (w : Watching Planned). IsMap holds buckets seed width count
      (nodes_in w.view.client.known))
      (sym full.unchanged) m

  pub over_count : (result : Result ℕ Full) → Ends result
      → entries_in buckets (nodes_in now.view.client.known)
      ≡ entries_in buckets (nodes_in before.view.client.known)
  over_count (Ok node) done = replaced_count holds buckets seed width count
      (nodes_in before.view.client.known) m
      previous node old words next (nodes_in now.view.client.known) some place to done.inside
      done.free done.collected
  over_count (Err _) full =
      ap (λ (w : Watching Planned). entries_in buckets (nodes_in w.view.client.known))
      full.unchanged

  pub over_put : (result : Result ℕ Full) → Ends result
      → MatchResult result (λ _. HasChanged (IsPutIn buckets words true) before now)
      (λ _. IsFull before now)
  over_put (Ok node) done = record {
    by = record {
      stored = put (nodes_in before.view.client.known) previous node words next;
      one = by_put previous node words next place.live
          (free_node holds buckets seed width count (nodes_in before.view.client.known) m node
          done.inside done.free)
          refl;
      state = done.state;
      led = done.led;
      collected = done.collected;
    };
    nodes = replaced holds buckets seed width count (nodes_in before.view.client.known) m previous
        node
        old words next (nodes_in now.view.client.known) some place to done.inside done.free
        done.collected;
  }
  over_put (Err _) full = full
