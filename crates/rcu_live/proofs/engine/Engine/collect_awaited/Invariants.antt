use Rattle.std.proofs.Common.{◌≡◌, ◌≤◌, ◌-◌}
use Rattle.rcu_live.specs.Engine.{latest_words}
use Rattle.rcu_live.proofs.Collections.{collected_below}
use Rattle.rcu_live.proofs.engine.Engine.collect_awaited.Given as goal

abbrev pub invariant-loop-cpu : goal.invariant-loop-cpu
invariant-loop-cpu g l =
    (l.self ≡ collected_below l.initial.self l.from (latest_words l.self))
    × (l.self.cpus ≡ l.initial.self.cpus)
    × (l.from ≤ l.initial.self.cpus)

abbrev pub decreases-loop-cpu : goal.decreases-loop-cpu
decreases-loop-cpu g l = l.initial.self.cpus - l.from
