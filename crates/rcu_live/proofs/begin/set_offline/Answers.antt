use Rattle.std.proofs.Common.{List, Bool, ◌∙◌, ap, arith, sym}
use Rattle.rcu_node.specs.CpuSet.{is_in}
use Rattle.rcu_live.proofs.NextCpus.{none_of_few}
use Rattle.rcu_live.proofs.begin.set_offline.Goals as goal

pub returns-then-bits_from-eq0-clause-offline : goal.returns-then-bits_from-eq0-clause-offline
returns-then-bits_from-eq0-clause-offline g c = λ d far low.
    ap (λ (set : List Bool). is_in set d) (sym c.requires.same)
    ∙ none_of_few c.args.online.now c.args.from _ c.bits_from.result d c.bits_from.ensures
    c.if-bits_from-eq0.true far (omega (arith, low, far))
