use Rattle.std.proofs.Common.{◌≡◌}
use Rattle.rcu_live_tests.proofs.deferral.take_all.Given as goal

-- the watcher stays
abbrev pub invariant-loop : goal.invariant-loop
invariant-loop g l = l.deferrer.watcher ≡ l.fn.deferrer.watcher
