use Rattle.std.proofs.Common.{◌≡◌}
use Rattle.rcu_live.specs.CpuSeat.{after_word_step}
use Rattle.rcu_live.specs.InPart.{seat_part}
use Rattle.rcu_map.specs.Cursors.{MayGoOn}
use Rattle.rcu_map.specs.Listing.{left_from}
use Rattle.rcu_map.proofs.Nearing.{IsNearing}
use Rattle.rcu_map.proofs.map.Map.next_words_after.Given as goal

abbrev pub invariant-buckets : goal.invariant-buckets
invariant-buckets g l = record {
  same : l.seat ≡ after_word_step l.initial.seat
      (g.P.Within.lens.set l.initial.seat.view.client (g.P.Within.lens.get l.seat.view.client));
  may : MayGoOn l.self (seat_part g.P.Within.lens l.seat) l.at;
  entry : l.entry ≡ l.initial.entry;
  nearing : IsNearing l.self.plan.roots l.self.plan.seed l.key
      (g.P.Within.lens.get l.initial.seat.view.client).known
      (g.P.Within.lens.get l.seat.view.client).known l.at;
}

abbrev pub decreases-buckets : goal.decreases-buckets
decreases-buckets g l = left_from l.self.plan.roots l.at
