use Rattle.std.proofs.Common.{◌≡◌}
use Rattle.rcu_stress.specs.Ledger.{IsOfRounds}
use Rattle.rcu_stress.proofs.job.Job.try_rounds.Given as goal

abbrev pub invariant-loop-round : goal.invariant-loop-round
invariant-loop-round g l = record {
  share : IsOfRounds l.round l.share;
  queued : l.share.queued ≡ l.round;
  worker : l.self.worker ≡ l.initial.self.worker;
  settings : l.self.settings ≡ l.initial.self.settings;
}
