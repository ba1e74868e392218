use Rattle.std.proofs.Common.{◌∙◌, ap}
use Rattle.rcu_report.specs.Replica.{Replicated, cpus_of}
use Rattle.rcu_script.proofs.PairLemmas.{cpus_kept}
use Rattle.rcu_script.proofs.pair.machine.answer.Goals as goal

pub returns-in-Ok-clause-cpus : goal.returns-in-Ok-clause-cpus
returns-in-Ok-clause-cpus g c = ap (λ (r : Replicated). cpus_of r) c.in-Ok.ensures.state
    ∙ cpus_kept c.args.mine.now c.args.other.now c.args.event.now
