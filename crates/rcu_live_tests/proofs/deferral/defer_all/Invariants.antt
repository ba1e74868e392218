use Rattle.std.proofs.Common.{◌≡◌}
use Rattle.rcu_live_tests.proofs.deferral.defer_all.Given as goal

-- the watcher stays one of the engine
abbrev pub invariant-loop : goal.invariant-loop
invariant-loop g l = l.deferrer.watcher.table ≡ l.live.table
