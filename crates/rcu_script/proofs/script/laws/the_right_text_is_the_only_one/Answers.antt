use Rattle.rcu_script.proofs.RightTextLemmas.{only_right}
use Rattle.rcu_script.proofs.script.laws.the_right_text_is_the_only_one.Goals as goal

pub returns : goal.returns
returns c = only_right
