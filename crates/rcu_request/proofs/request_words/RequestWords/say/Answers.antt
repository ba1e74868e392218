use Rattle.std.proofs.Common.{arith, rules}
use Rattle.rcu_request.proofs.Steps.{says}
use Rattle.rcu_request.proofs.request_words.RequestWords.say.Goals as goal

pub store-requires : goal.store-requires
store-requires c = (
  search rules,
  omega (arith, c.self.invariant),
  says _ _ _ _ c.requires.driver c.requires.word,
)
