use Rattle.std.proofs.Common.{◌∙◌, ap, map, refl}
use Rattle.std.specs.List.{range_with_len}
use Rattle.rcu_live.specs.CpuSeat.{at_first}
use Rattle.rcu_live.specs.Words.{base_of}
use Rattle.rcu_stress.proofs.TortureLemmas.{numbers_made}
use Rattle.rcu_stress.proofs.run.torture.Goals as goal

pub deal_jobs-requires-clause-seats : goal.deal_jobs-requires-clause-seats
deal_jobs-requires-clause-seats g c =
    let dealt = c.in_ok-live.ensures.dealt in
    record {
      seat_count = dealt.seat_count;
      watcher_count = dealt.watcher_count;
      each_seat = dealt.seats_read;
      cpus =
          ap (map (λ seat. seat.cpu)) dealt.each_seat
          ∙ numbers_made (λ seat. seat.cpu)
          (at_first c.in_ok-live.live.table (base_of c.args.workers) tt) (λ k. refl)
          (range_with_len 0 c.args.workers);
      each_watcher = dealt.watchers_read;
    }
