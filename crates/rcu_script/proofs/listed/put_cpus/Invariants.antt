use Rattle.std.proofs.Common.{take}
use Rattle.std.specs.Prelude.{flat_map}
use Rattle.rcu_text.specs.Outputs.{Sends}
use Rattle.rcu_text.specs.Texts.{space_and_number}
use Rattle.rcu_script.proofs.listed.put_cpus.Given as goal

-- the processors so far are sent
abbrev pub invariant-loop-cpu : goal.invariant-loop-cpu
invariant-loop-cpu g l =
    Sends (g.O.Output.out l.fn.out) (g.O.Output.out l.out)
    (flat_map space_and_number (take l.cpu-index l.cpus))
