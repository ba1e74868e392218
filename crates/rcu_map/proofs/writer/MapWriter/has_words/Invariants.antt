use Rattle.std.proofs.Common.{◌≡◌, ◌<◌, ℕ}
use Rattle.std.specs.Prelude.{slice_index}
use Rattle.rcu_graph.specs.Nodes.{node_at, nodes_in}
use Rattle.rcu_map.proofs.writer.MapWriter.has_words.Given as goal

abbrev pub invariant-loop-word : goal.invariant-loop-word
invariant-loop-word g l =
    (j : ℕ) → j < l.word
    → slice_index (node_at (nodes_in l.nodes.view.client.known) l.node).words j
    ≡ slice_index l.words j
