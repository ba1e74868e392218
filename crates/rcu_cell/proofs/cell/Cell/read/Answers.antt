use Rattle.std.proofs.Common.{ℕ, arith, subst, sym}
use Rattle.rcu_live.specs.Board.{Object}
use Rattle.rcu_live.specs.InPart.{seat_part}
use Rattle.rcu_graph.specs.Nodes.{IsOn}
use Rattle.rcu_graph.specs.declared.plan.Plan.{Plan}
use Rattle.rcu_cell.specs.Cell.{ReadsSlot, version_in}
use Rattle.rcu_cell.proofs.Loads.{at_latest, on_latest}
use Rattle.rcu_cell.proofs.cell.Cell.read.Goals as goal

pub read-requires-clause-at : goal.read-requires-clause-at
read-requires-clause-at g c =
    let root = c.self.invariant.root in
    at_latest g.F.Version.first c.self.inside.graph (seat_part g.P.Within.lens c.args.seat.now)
    c.args.slot
    (omega (arith, root))
    (subst (λ (o : Object Plan). ReadsSlot o (seat_part g.P.Within.lens c.args.seat.now)
    c.args.slot) (sym c.self.view_is)
    c.requires.slot)

pub returns-clause-word : goal.returns-clause-word
returns-clause-word g c =
    let root = c.self.invariant.root in
    let known = (g.P.Within.lens.get c.args.seat.now.view.client).known in
    c.read.ensures.told (version_in g.F.Version.first known)
    (subst (λ (i : ℕ). IsOn (λ _. g.F.Version.first) c.self.inside.graph.plan.roots known i
    (version_in g.F.Version.first known))
    c.requires.slot.latest
    (on_latest g.F.Version.first c.self.inside.graph.plan.roots known (omega (arith, root))
    c.requires.slot.loaded))
