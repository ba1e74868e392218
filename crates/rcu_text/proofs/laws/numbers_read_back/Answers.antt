use Rattle.rcu_text.proofs.NumberLemmas.{reads_back}
use Rattle.rcu_text.proofs.laws.numbers_read_back.Goals as goal

pub returns : goal.returns
returns c = λ zeros n fits short. reads_back zeros n fits short
