use Rattle.std.proofs.Common.{arith, rules}
use Rattle.rcu_request.proofs.Steps.{looks_at_cpu}
use Rattle.rcu_request.proofs.request_words.RequestWords.look_at_cpu.Goals as goal

pub load-requires : goal.load-requires
load-requires c = (
  search rules,
  omega (arith, c.self.invariant),
  looks_at_cpu _ _ _ c.requires.thread,
)
