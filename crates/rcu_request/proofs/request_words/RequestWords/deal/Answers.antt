use Rattle.std.proofs.Common.{arith}
use Rattle.rcu_request.proofs.Steps.{arrives}
use Rattle.rcu_request.proofs.request_words.RequestWords.deal.Goals as goal

pub load_new_seat-seat-requires : goal.load_new_seat-seat-requires
load_new_seat-seat-requires c = (omega (arith, c.self.invariant), arrives _)
