-- A graph of nodes and the seats that belong to it.
use Rattle.std.specs.Prelude.{◌≡◌, ◌<◌, ℕ, suc, IsSome, List, Option, Some, None}
use Rattle.rcu_live.specs.Board.{Object}
use Rattle.rcu_live.specs.CpuSeat.{Seated}
use Rattle.rcu_live.specs.CpuSeat as cpu_seat
use Rattle.rcu_live.specs.Watcher.{Watching}
use Rattle.rcu_live.specs.Watcher as watcher
use Rattle.rcu_graph.specs.Nodes.{IsOn, IsReader}
use Rattle.rcu_graph.specs.Planned.{of_plan}
use Rattle.rcu_graph.specs.declared.known.Known.TheVariants.{Idle}
use Rattle.rcu_graph.specs.declared.known.Planned.{Planned}
use Rattle.rcu_graph.specs.declared.plan.Plan.{Plan}

-- the word of a link that leads to this node, and of one that leads nowhere
abbrev pub word_to : Option ℕ → ℕ
word_to None = 0
word_to (Some node) = suc node

-- a processor's seat of the graph, which knows its plan
pub record IsSeatOf (graph : Object Plan) (seat : Seated Planned) : Type 0 where
  pub engine : cpu_seat.IsSeatOf graph seat
  pub planned : seat.view.client.plan ≡ graph.plan

-- one with no section open
pub record IsOutside (graph : Object Plan) (seat : Seated Planned) : Type 0 where
  pub seat_of : IsSeatOf graph seat
  pub outside : seat.depth ≡ 0
  pub idle : seat.view.client ≡ of_plan graph.plan Idle

-- one whose open section may walk it
pub record IsWalking (graph : Object Plan) (seat : Seated Planned) : Type 0 where
  pub seat_of : IsSeatOf graph seat
  pub is_open : IsSome seat.view.section
  pub reads : IsReader seat.view.client.known

-- the section is on this node, a root, which has its first words, or one that it came to
pub record IsAt (first : ℕ → List ℕ) (graph : Object Plan) (seat : Seated Planned)
    (node : ℕ) : Type 0 where
  pub walking : IsWalking graph seat
  pub words : List ℕ
  pub on : IsOn first graph.plan.roots seat.view.client.known node words
  pub inside : node < graph.plan.nodes

-- after a step, a watcher's seat is one of the same graph
pub record IsOfSameGraph (before after : Watching Planned) : Type 0 where
  pub table : after.table ≡ before.table
  pub base : after.view.base ≡ before.view.base
  pub plan : after.view.client.plan ≡ before.view.client.plan

-- a watcher's seat of the graph, which knows its plan
pub record IsWatcherOf (graph : Object Plan) (seat : Watching Planned) : Type 0 where
  pub engine : watcher.IsWatcherOf graph seat
  pub planned : seat.view.client.plan ≡ graph.plan
