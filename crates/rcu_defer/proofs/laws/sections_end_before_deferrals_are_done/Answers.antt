use Rattle.rcu_defer.proofs.Sections.{none_done}
use Rattle.rcu_defer.proofs.laws.sections_end_before_deferrals_are_done.Goals as goal

pub returns : goal.returns
returns g c = λ plan cpus seat at later earlier kept held.
    none_done _ (c.readers_finish_before_done.ensures plan) cpus seat at later earlier kept held
