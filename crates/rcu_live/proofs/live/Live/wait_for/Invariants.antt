use Rattle.rcu_live.specs.Waits.{AreRounds, HasLooked, HasRested}
use Rattle.rcu_live.proofs.live.Live.wait_for.Given as goal

abbrev pub invariant-loop : goal.invariant-loop
invariant-loop g l = record {
  rested : HasRested l.initial.seat l.seat;
  looked : HasLooked l.initial.watcher l.watcher;
  rounds : AreRounds 0 l.initial.seat l.seat l.initial.watcher l.watcher;
}
