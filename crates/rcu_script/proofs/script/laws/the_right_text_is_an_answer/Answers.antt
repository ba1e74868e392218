use Rattle.rcu_script.proofs.RightTextLemmas.{right_is_answer, right_wants_none}
use Rattle.rcu_script.proofs.script.laws.the_right_text_is_an_answer.Goals as goal

pub returns-clause-answers : goal.returns-clause-answers
returns-clause-answers c = right_is_answer

pub returns-clause-memory : goal.returns-clause-memory
returns-clause-memory c = right_wants_none c.lines_are_pieces.ensures
