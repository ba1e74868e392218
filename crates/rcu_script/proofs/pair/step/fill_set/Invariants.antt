use Rattle.std.proofs.Common.{◌≡◌, take, length}
use Rattle.rcu_script.specs.PairState.{set_of}
use Rattle.rcu_script.proofs.pair.step.fill_set.Given as goal

-- the processors so far are listed
abbrev pub invariant-loop-cpu : goal.invariant-loop-cpu
invariant-loop-cpu l = l.set ≡ set_of (length l.fn.set) (take l.cpu-index l.cpus)
