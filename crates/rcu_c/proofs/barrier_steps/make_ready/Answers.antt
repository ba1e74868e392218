use Rattle.std.proofs.lemmas.Result.{err_from_is_err_and}
use Rattle.rcu_c.proofs.BarrierRuns.{cut_off, made_ready}
use Rattle.rcu_c.proofs.barrier_steps.make_ready.Goals as goal

pub returns-in_err-visit_each-clause-cut_off : goal.returns-in_err-visit_each-clause-cut_off
returns-in_err-visit_each-clause-cut_off c =
    let started = c.begin_where_none.ensures in
    let part = c.in_err-visit_each.ensures.part in
    let p = err_from_is_err_and c.from_residual.result c.from_residual.ensures.1 in
    rw (p.1)
    (cut_off c.args.engine.now c.begin_where_none.new.engine c.visit_each.new.engine part.0
    started.state started.cpus part.1 part.2 part.3)

pub returns-clause-state : goal.returns-clause-state
returns-clause-state c =
    let started = c.begin_where_none.ensures in
    made_ready c.args.engine.now c.begin_where_none.new.engine c.visit_each.new.engine
    c.tend_each.new.engine started.state started.cpus c.in_ok-visit_each.ensures.state
    c.tend_each.ensures.state
