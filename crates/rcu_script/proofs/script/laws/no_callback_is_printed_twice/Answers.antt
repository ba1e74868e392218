use Rattle.std.proofs.Common.{◌≤◌, subst}
use Rattle.rcu_core.specs.Callbacks.{times_handed_out}
use Rattle.rcu_core.specs.History.{History}
use Rattle.rcu_script.proofs.ScriptRunLemmas.{lines_from_first}
use Rattle.rcu_script.proofs.script.laws.no_callback_is_printed_twice.Goals as goal

pub returns : goal.returns
returns c = λ size lines text end ord a.
    let start = lines_from_first size lines text end a in
    subst (λ (h : History). times_handed_out ord h ≤ 1) start.reached
    (c.no_callback_runs_twice.ensures size start.run ord start.legal)
