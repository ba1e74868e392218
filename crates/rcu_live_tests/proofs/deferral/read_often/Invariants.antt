use Rattle.std.proofs.Common.{◌≡◌}
use Rattle.rcu_live_tests.proofs.deferral.read_often.Given as goal

-- the seat stays one of the engine
abbrev pub invariant-loop : goal.invariant-loop
invariant-loop g l = l.seat.table ≡ l.script.live.now.table

abbrev pub invariant-loop-2 : goal.invariant-loop-2
invariant-loop-2 g l = l.seat.table ≡ l.script.live.now.table
