use Rattle.std.proofs.Common.{◌≡◌, ◌-◌, length}
use Rattle.rcu_node.specs.CpuSet.{is_in, unheard}
use Rattle.rcu_hotplug.specs.Hotplug.{cpus_of}
use Rattle.rcu_state.specs.GpState.{with_awaited}
use Rattle.rcu_live.proofs.HeardBelow.{heard_below}
use Rattle.rcu_live.proofs.begin.report_all.Given as goal

abbrev pub invariant-loop-cpu : goal.invariant-loop-cpu
invariant-loop-cpu g l =
    (l.gp.grace
    ≡ with_awaited l.initial.gp.grace
    (unheard l.initial.gp.grace.processors.awaited
    (heard_below l.from (is_in l.already_quiescent))))
    × (cpus_of l.gp.grace.processors ≡ length l.already_quiescent)

abbrev pub decreases-loop-cpu : goal.decreases-loop-cpu
decreases-loop-cpu g l = length l.already_quiescent - l.from
