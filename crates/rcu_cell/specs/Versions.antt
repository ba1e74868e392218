-- The versions of a cell, as its writer knows the nodes.
use Rattle.std.specs.Prelude.{◌≡◌, ◌⊎◌, ◌<◌, ℕ, zero, suc, List, length}
use Rattle.rcu_graph.specs.Absence.{next_of}
use Rattle.rcu_graph.specs.Nodes.{in_state, node_at, renewed, state_at}
use Rattle.rcu_graph.specs.declared.known.Node.{Node}
use Rattle.rcu_graph.specs.declared.node_state.NodeState.TheVariants.{Live, Unlinked}
use Rattle.rcu_graph.specs.declared.plan.Plan.{Plan}
use Rattle.rcu_cell.specs.Cell.{slot_of}

-- the plan is that of a cell, whose versions have this number of words: it has one root, a node has
-- one link, and there are two slots or more
pub record IsOfCell (width : ℕ) (plan : Plan) : Type 0 where
  pub root : plan.roots ≡ 1
  pub one : plan.links ≡ 1
  pub words : plan.words ≡ width
  pub several : 2 < plan.nodes

-- the current slot
abbrev pub shown_in : List Node → ℕ
shown_in nodes = slot_of (next_of nodes 0)

-- a live node is the root, or it is the current slot, which leads nowhere
abbrev pub IsOneShown : List Node → Type 0
IsOneShown nodes =
    (i : ℕ) → state_at nodes i ≡ Live
    → (i ≡ 0) ⊎ ((next_of nodes 0 ≡ suc i) × (next_of nodes i ≡ 0))

-- besides the root at most one slot is live. It is the current one, whose version satisfies the
-- user's fact
pub record AreVersions (holds : List ℕ → Type 0) (nodes : List Node) : Type 0 where
  pub live : state_at nodes (shown_in nodes) ≡ Live
  pub one : IsOneShown nodes
  pub whole : holds (node_at nodes (shown_in nodes)).words

-- a slot was unlinked, unless it is the root
abbrev pub unlinked_in : ℕ → List Node → List Node
unlinked_in zero nodes = nodes
unlinked_in (suc i) nodes = renewed nodes (suc i) (in_state Unlinked)

-- the invariant of a writer of a cell
pub record IsKept (width : ℕ) (plan : Plan) (nodes : List Node) : Type 0 where
  pub of_cell : IsOfCell width plan
  pub linked : length (node_at nodes 0).links ≡ 1
  pub one : IsOneShown nodes
