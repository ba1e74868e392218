use Rattle.std.proofs.Common.{◌≡◌}
use Rattle.rcu_live.specs.Runs.{engine_after}
use Rattle.rcu_c.specs.BarrierSteps.{tends}
use Rattle.rcu_c.proofs.barrier_steps.tend_each.Given as goal

-- the lists of the processors so far are tended
abbrev pub invariant-loop-cpu : goal.invariant-loop-cpu
invariant-loop-cpu l =
    (l.engine ≡ engine_after l.initial.engine (tends l.cpu))
    × (l.engine.cpus ≡ l.initial.engine.cpus)
