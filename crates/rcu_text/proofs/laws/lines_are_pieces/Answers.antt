use Rattle.rcu_text.proofs.LawLemmas.{pieces}
use Rattle.rcu_text.proofs.laws.lines_are_pieces.Goals as goal

pub returns : goal.returns
returns c = λ bytes. pieces bytes
