use Rattle.rcu_report.proofs.Merged.{accepted_after, accepted_back, same_apart, same_in_turn}
use Rattle.rcu_report.proofs.laws.merged_replicas_await_the_same.Goals as goal

pub returns : goal.returns
returns c = λ x y accepted. record {
  both = accepted_back x y accepted;
  apart = same_apart x y accepted;
  still = accepted_after x y accepted;
  in_turn = same_in_turn x y accepted;
}
