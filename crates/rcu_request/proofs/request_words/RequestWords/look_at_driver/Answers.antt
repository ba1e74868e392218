use Rattle.std.proofs.Common.{arith, rules}
use Rattle.rcu_request.proofs.Steps.{looks_at_driver}
use Rattle.rcu_request.proofs.request_words.RequestWords.look_at_driver.Goals as goal

pub load-requires : goal.load-requires
load-requires c = (
  search rules,
  omega (arith, c.self.invariant),
  looks_at_driver _ _ _ c.requires.thread,
)
