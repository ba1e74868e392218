use Rattle.rcu_script.proofs.ScriptRunLemmas.{answered_in_turn, answered_together}
use Rattle.rcu_script.proofs.script.laws.lines_are_answered_in_turn.Goals as goal

pub returns-clause-cut : goal.returns-clause-cut
returns-clause-cut c = λ size h end lines later text. answered_in_turn size h lines later text end

pub returns-clause-joined : goal.returns-clause-joined
returns-clause-joined c =
    λ size h end lines later text. answered_together size h lines later text end
