use Rattle.std.proofs.Common.{length}
use Rattle.rcu_text.proofs.StreamLemmas.{TakesFront}
use Rattle.rcu_text.proofs.block_writer.write_all.Given as goal

-- the remaining bytes are the rest
abbrev pub invariant-loop-rest : goal.invariant-loop-rest
invariant-loop-rest g l =
    TakesFront (g.W.Sink.outgoing l.fn.sink) (g.W.Sink.outgoing l.sink) l.bytes l.rest

abbrev pub decreases-loop-rest : goal.decreases-loop-rest
decreases-loop-rest g l = length l.rest
