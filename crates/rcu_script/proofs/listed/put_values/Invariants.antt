use Rattle.std.proofs.Common.{take}
use Rattle.std.specs.Prelude.{flat_map}
use Rattle.rcu_text.specs.Outputs.{Sends}
use Rattle.rcu_text.specs.Texts.{space_and_number}
use Rattle.rcu_script.proofs.listed.put_values.Given as goal

-- the values so far are sent
abbrev pub invariant-loop-index : goal.invariant-loop-index
invariant-loop-index g l =
    Sends (g.O.Output.out l.fn.out) (g.O.Output.out l.out)
    (flat_map space_and_number (take l.index l.values))
