use Rattle.rcu_script.specs.PairState.{pair_at}
use Rattle.rcu_script.proofs.FrontLemmas.{pair_text_front}
use Rattle.rcu_script.proofs.pair.laws.the_right_text_of_earlier_lines_comes_first.Goals as goal

pub returns : goal.returns
returns c = λ size lines later text. pair_text_front (pair_at size) lines later text
