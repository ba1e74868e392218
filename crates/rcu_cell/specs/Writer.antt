-- The effect of a writer's updates.
use Rattle.std.specs.Prelude.{◌≡◌, ℕ, List, None}
use Rattle.rcu_live.specs.Watcher.{Watching}
use Rattle.rcu_graph.specs.Writer.{after_store}
use Rattle.rcu_graph.specs.Nodes.{nodes_in}
use Rattle.rcu_graph.specs.Puts.{IsFreeNode, put}
use Rattle.rcu_graph.specs.declared.known.Planned.{Planned}
use Rattle.rcu_cell.specs.Versions.{shown_in, unlinked_in}
use Rattle.rcu_cell.specs.declared.writer.Retired.{Retired}

-- after an update, by one store: one slot has these words and is current, and then the other one
-- was unlinked
abbrev pub after_update : Watching Planned → ℕ → ℕ → List ℕ → Watching Planned
after_update writer slot by words =
    after_store writer (put (nodes_in writer.view.client.known) 0 by words None)
    (unlinked_in slot (put (nodes_in writer.view.client.known) 0 by words None))

-- an update replaced the current slot by a free one: that has these words, and is current
pub record Updated (writer : Watching Planned) (words : List ℕ) (retired : Retired)
    (now : Watching Planned) : Type 0 where
  pub free : IsFreeNode (nodes_in writer.view.client.known) retired.by
  pub replaced : retired.slot ≡ shown_in (nodes_in writer.view.client.known)
  pub state : now ≡ after_update writer retired.slot retired.by words
