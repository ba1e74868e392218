use Rattle.std.proofs.Common.{◌≡◌, ◌<◌, ℕ, List, length}
use Rattle.std.specs.Prelude.{slice_index}
use Rattle.rcu_graph.specs.Nodes.{IsOn}
use Rattle.rcu_map.specs.Keys.{key_in, root_words}
use Rattle.rcu_map.proofs.map.Map.read_words.Given as goal

abbrev pub invariant-loop-word : goal.invariant-loop-word
invariant-loop-word g l = record {
  same : l.seat ≡ l.initial.seat;
  size : length l.entry ≡ length l.initial.entry;
  told : (words : List ℕ)
      → IsOn (root_words l.self.plan.words) l.self.plan.roots
      (g.P.Within.lens.get l.initial.seat.view.client).known l.node words
      → key_in words ≡ l.key
      → (j : ℕ) → j < l.word
      → slice_index l.entry j ≡ slice_index words j;
}
