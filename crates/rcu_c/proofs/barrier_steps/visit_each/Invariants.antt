use Rattle.std.proofs.Common.{◌≡◌, true}
use Rattle.rcu_live.specs.Runs.{engine_after}
use Rattle.rcu_c.specs.BarrierSteps.{visits}
use Rattle.rcu_c.proofs.barrier_steps.visit_each.Given as goal

-- the processors so far are visited, and the barrier runs
abbrev pub invariant-loop-cpu : goal.invariant-loop-cpu
invariant-loop-cpu l =
    (l.engine ≡ engine_after l.initial.engine (visits l.cpu))
    × (l.engine.grace.lists.running ≡ true) × (l.engine.cpus ≡ l.initial.engine.cpus)
