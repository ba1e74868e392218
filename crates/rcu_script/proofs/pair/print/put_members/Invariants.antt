use Rattle.std.specs.Prelude.{filter, flat_map}
use Rattle.std.specs.List.{range_with_len}
use Rattle.rcu_node.specs.CpuSet.{is_in}
use Rattle.rcu_text.specs.Outputs.{Sends}
use Rattle.rcu_text.specs.Texts.{space_and_number}
use Rattle.rcu_script.proofs.pair.print.put_members.Given as goal

-- the awaited processors so far are sent
abbrev pub invariant-loop-cpu : goal.invariant-loop-cpu
invariant-loop-cpu g l =
    Sends (g.O.Output.out l.fn.out) (g.O.Output.out l.out)
    (flat_map space_and_number
    (filter (is_in (g.A.Awaited.awaited l.awaited)) (range_with_len 0 l.cpu)))
