use Rattle.std.proofs.Common.{arith, subst}
use Rattle.rcu_live.specs.Watcher.{Watching}
use Rattle.rcu_graph.specs.Waits.{HasMadeRoom}
use Rattle.rcu_graph.specs.declared.known.Planned.{Planned}
use Rattle.rcu_cell.proofs.Waits.{updated_later}
use Rattle.rcu_cell.proofs.writer.Writer.update_or_wait.Goals as goal

pub returns-clause-updated : goal.returns-clause-updated
returns-clause-updated g c =
    let same = c.in_default.ensures.unchanged in
    updated_later c.args.seat.now c.wait_until_free.new.seat c.args.self.now
    c.wait_until_free.new.self c.args.words.now c.in-Ok-update.retired c.update-2.new.self
    (omega (arith, c.if-depth-gt0.false, c.depth.ensures)) c.in_default.ensures.full
    (subst (λ (k : Watching Planned). HasMadeRoom c.args.seat.now c.wait_until_free.new.seat k
    c.wait_until_free.new.self)
    same c.in_ok-wait_until_free.ensures.waited)
    c.in-Ok-update.ensures.state
