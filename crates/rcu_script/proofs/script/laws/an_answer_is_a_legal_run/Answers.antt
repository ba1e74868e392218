use Rattle.rcu_script.proofs.ScriptRunLemmas.{first_lines_printed, lines_printed, printed_answers}
use Rattle.rcu_script.proofs.script.laws.an_answer_is_a_legal_run.Goals as goal

pub returns-clause-first : goal.returns-clause-first
returns-clause-first c = first_lines_printed

pub returns-clause-further : goal.returns-clause-further
returns-clause-further c = lines_printed

pub returns-clause-only : goal.returns-clause-only
returns-clause-only c = printed_answers
