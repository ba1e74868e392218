-- The effect of a wait for a free node.
use Rattle.std.specs.Prelude.{◌≡◌, ◌⊎◌, ℕ, zero, suc, ◌≤◌}
use Rattle.rcu_live.specs.Board.{Object}
use Rattle.rcu_live.specs.CpuSeat.{IsSeatOf, Seated}
use Rattle.rcu_live.specs.Waits.{AreRounds}
use Rattle.rcu_live.specs.Watcher.{Watching}
use Rattle.rcu_graph.specs.Graph.{IsWatcherOf}
use Rattle.rcu_graph.specs.Writer.{after_look}
use Rattle.rcu_graph.specs.Nodes.{nodes_in}
use Rattle.rcu_graph.specs.Tended.{AreAllUsed}
use Rattle.rcu_graph.specs.declared.known.Planned.{Planned}
use Rattle.rcu_graph.specs.declared.plan.Plan.{Plan}

-- if no node was free, the writer loaded the number, which is no less than all that it saw before
pub record IsLook (before after : Watching Planned) : Type 0 where
  pub full : AreAllUsed (nodes_in before.view.client.known)
  pub later : before.view.seen ≤ after.view.seen
  pub state : after ≡ after_look before after.view.seen

-- this number of loads, one after another, led from one state of the writer to the other
abbrev pub AreLooks : ℕ → Watching Planned → Watching Planned → Type 0
AreLooks zero before after = after ≡ before
AreLooks (suc looks) before after =
    (last : Watching Planned) × AreLooks looks before last × IsLook last after

-- from one state of the writer to the other it loaded the number, once or more often, and did
-- nothing else
pub record HasReclaimed (before after : Watching Planned) : Type 0 where
  pub more : ℕ
  pub looks : AreLooks (suc more) before after

-- a writer of the graph, by its seat, and a processor's seat of it
pub record AreOf (graph : Object Plan) (writer : Watching Planned) (seat : Seated Planned) : Type 0
  where
    pub writer_of : IsWatcherOf graph writer
    pub seat_of : IsSeatOf graph seat

-- a writer of the graph none of whose nodes is free, and a processor's seat of the graph, outside
-- of sections
pub record CanWait (graph : Object Plan) (seat : Seated Planned) (writer : Watching Planned) : Type
    0 where
  pub of_graph : AreOf graph writer seat
  pub outside : seat.depth ≡ 0
  pub full : AreAllUsed (nodes_in writer.view.client.known)

-- from one state of the writer to the other it loaded the number until a node was free; from one
-- state of the caller's seat to the other it passed quiescent states, one less than there were
-- loads, or two less if the last number was found to be reached before the last load
pub record HasMadeRoom {C : Type 0} (seat now : Seated C) (before after : Watching Planned) : Type 0
  where
    pub looked : HasReclaimed before after
    pub free : ¬ AreAllUsed (nodes_in after.view.client.known)
    pub rounds : AreRounds 1 seat now before after ⊎ AreRounds 2 seat now before after

-- a wait was given up: no node became free at any load, and there was one more load after the last
-- number was found to be reached
pub record HasGivenUp {C : Type 0} (seat now : Seated C) (before after : Watching Planned) : Type 0
  where
    pub looked : HasReclaimed before after
    pub full : AreAllUsed (nodes_in after.view.client.known)
    pub rounds : AreRounds 2 seat now before after

-- nothing happened to the caller's seat and to the writer
pub record HasStayed {C : Type 0} (seat now : Seated C) (before after : Watching Planned) : Type 0
  where
    pub seat_stays : now ≡ seat
    pub writer_stays : after ≡ before
