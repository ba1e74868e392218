use Rattle.std.proofs.Common.{◌≡◌, length}
use Rattle.rcu_c.proofs.FromWords.{filled}
use Rattle.rcu_c.proofs.open_replica.fill.Given as goal

-- the set has the processors so far whose bits are set
abbrev pub invariant-loop-cpu : goal.invariant-loop-cpu
invariant-loop-cpu l = l.set ≡ filled (length l.fn.set) l.words l.cpu
