use Rattle.rcu_graph.proofs.Looks.{looked_by, reclaimed_nodes, reclaimed_plan}
use Rattle.rcu_cell.proofs.Kept.{kept_reclaimed}
use Rattle.rcu_cell.proofs.writer.Writer.wait_until_free.Goals as goal

pub invariant_of-self : goal.invariant_of-self
invariant_of-self g c =
    let w = c.wait_until_free in
    let reclaimed = looked_by c.args.seat.now w.new.seat c.self.inside.nodes w.new.self w.result
    w.ensures.waited w.ensures.given_up in
    kept_reclaimed _ _ _ _ _ (reclaimed_plan c.self.inside.nodes w.new.self reclaimed)
    (reclaimed_nodes c.self.inside.nodes w.new.self reclaimed) c.self.invariant
