use Rattle.std.proofs.Common.{rules}
use Rattle.std.specs.Arc.{arc_value}
use Rattle.rcu_live.proofs.Waits.{popped_first}
use Rattle.rcu_live.proofs.engine.Engine.pop_done.Goals as goal

pub returns-clause-call : goal.returns-clause-call
returns-clause-call g c = rw (← c.self.view_is) c.pop_done.ensures.call

pub returns-clause-made : goal.returns-clause-made
returns-clause-made g c = rw (← c.self.view_is) (record {
  may = search rules;
  left = λ i. record {
    table = (arc_value c.self.inside.board).table;
    cpus = (arc_value c.self.inside.board).cpus;
    view = c.self.inside.seat.me.0;
    grace = (c.pop_done.ensures.state i).grace;
  };
})

pub returns-clause-waited : goal.returns-clause-waited
returns-clause-waited g c =
    rw (← c.self.view_is)
    (popped_first c.self.inside.gp.grace.seq c.pop_done.result c.self.invariant.epoch
    c.pop_done.ensures.waited)
