use Rattle.std.proofs.Common.{arith, rules}
use Rattle.rcu_request.proofs.Steps.{raises}
use Rattle.rcu_request.proofs.request_words.RequestWords.raise.Goals as goal

pub fetch_max-requires : goal.fetch_max-requires
fetch_max-requires c = (
  search rules,
  omega (arith, c.self.invariant),
  raises _ _ _ _ c.requires.thread,
)
