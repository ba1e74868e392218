use Rattle.std.proofs.Common.{arith, rules, ◌≤◌, List, Result, Ok, Err, OnErr, length, subst, sym}
use Rattle.std.proofs.Common.{length-take}
use Rattle.std.specs.Arc.{arc_value}
use Rattle.rcu_cblist.specs.declared.items.Queued.{Queued}
use Rattle.rcu_barrier.proofs.Refusals.{run_met}
use Rattle.rcu_live.proofs.Waits.{waited_first}
use Rattle.rcu_live.proofs.engine.Engine.run.Goals as goal

on_any_err : {A B P : Type 0} (r : Result A B) → P → OnErr r P
on_any_err (Ok _) _ = tt
on_any_err (Err _) p = p

pub returns-in_err-calls-clause-memory : goal.returns-in_err-calls-clause-memory
returns-in_err-calls-clause-memory g c =
    let met =
    run_met c.self.inside.gp.grace.lists c.args.cpu c.args.max _ c.in_err-calls.ensures.fault in
    rw (← c.self.view_is) (on_any_err c.from_residual.result (λ _. met.0))

pub returns-clause-calls : goal.returns-clause-calls
returns-clause-calls g c = rw (← c.self.view_is) c.in_ok-calls.ensures.calls

pub returns-clause-made : goal.returns-clause-made
returns-clause-made g c = rw (← c.self.view_is) (record {
  may = search rules;
  left = λ i. record {
    table = (arc_value c.self.inside.board).table;
    cpus = (arc_value c.self.inside.board).cpus;
    view = c.self.inside.seat.me.0;
    grace = (c.in_ok-calls.ensures.state i).grace;
  };
})

pub returns-clause-due : goal.returns-clause-due
returns-clause-due g c = record {
  waited =
      waited_first c.self.inside.gp.grace.seq c.value-number.result c.in_ok-calls.calls.items
      c.self.invariant.epoch c.value-number.ensures.value c.in_ok-calls.ensures.waited;
  few =
      subst (λ (calls : List (Queued g.row.T.Denot)). length calls ≤ c.args.max)
      (sym c.in_ok-calls.ensures.calls)
      (subst (λ n. n ≤ c.args.max) (sym (length-take c.args.max _)) (omega arith));
  bounded = omega (arith, c.value-number.ensures.bounded);
  word = search rules;
}
