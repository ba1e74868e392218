use Rattle.std.proofs.Common.{arith, rules}
use Rattle.rcu_request.proofs.Steps.{names_cpu}
use Rattle.rcu_request.proofs.request_words.RequestWords.name_cpu.Goals as goal

pub store-requires : goal.store-requires
store-requires c = (
  search rules,
  omega (arith, c.self.invariant),
  names_cpu _ _ _ _ c.requires.driver,
)
