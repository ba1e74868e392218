use Rattle.rcu_text.proofs.LawLemmas.{ended_come_first, read_come_first}
use Rattle.rcu_text.proofs.laws.lines_read_whole_come_first.Goals as goal

pub returns-clause-ended : goal.returns-clause-ended
returns-clause-ended c = ended_come_first

pub returns-clause-read : goal.returns-clause-read
returns-clause-read c = read_come_first
