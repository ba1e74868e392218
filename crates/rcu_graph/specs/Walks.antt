-- A walk, as contracts see it.
use Rattle.std.specs.Borrow.{GName}
use Rattle.rcu_live.specs.Board.{Object}
use Rattle.rcu_live.specs.CpuSeat.{Seated, after_word_step}
use Rattle.rcu_live.specs.Several.{Lens}
use Rattle.rcu_live.specs.declared.within.Within as within
use Rattle.rcu_graph.specs.declared.known.Known.{Known}
use Rattle.rcu_graph.specs.declared.known.Planned.{Planned}
use Rattle.rcu_graph.specs.declared.rule.GraphRule.{GraphRule}
use Rattle.rcu_graph.specs.declared.rule.Shape as shape
use Rattle.rcu_graph.specs.declared.walk.Walk.{Walk}
use Rattle.rcu_graph.specs.declared.plan.Plan.{Plan}
use Rattle.rcu_graph.specs.Planned.{knowing}

-- the graph, the seat whose section walks it, and which seat is borrowed: a name that distinguishes
-- borrowed seats
pub record Walked (D : Type 0) : Type 0 where
  pub graph : Object Plan
  pub seat : Seated D
  pub name : GName

module _ {D : Type 0} (lens : Lens D Planned) where
  -- after a step, which left the section this knowledge about the graph
  abbrev pub after_walk : Walked D → Known → Walked D
  after_walk walk known = record walk {
    seat = after_word_step walk.seat
        (lens.set walk.seat.view.client (knowing (lens.get walk.seat.view.client) known));
  }

  -- the knowledge of its section about the graph
  abbrev pub known_in : Walked D → Known
  known_in walk = (lens.get walk.seat.view.client).known

abbrev pub walked : {F P W A D : Type 0} {facts : shape.Ghosts F}
    {place : within.Ghosts P (GraphRule F) W A D Plan Planned} → Walk F P W A D facts place
    → Walked D
walked walk = record { graph = walk.graph.now; seat = walk.seat.now; name = walk.seat.ghost_name }
