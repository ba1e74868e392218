use Rattle.rcu_script.proofs.FrontLemmas.{right_text_front}
use Rattle.rcu_script.proofs.script.laws.the_right_text_of_earlier_lines_comes_first.Goals as goal

pub returns : goal.returns
returns c = right_text_front
