use Rattle.std.proofs.Common.{arith, rules}
use Rattle.rcu_request.proofs.Steps.{finds}
use Rattle.rcu_request.proofs.request_words.RequestWords.find.Goals as goal

pub load-requires : goal.load-requires
load-requires c = (search rules, omega (arith, c.self.invariant), finds _ _ _ c.requires.driver)
