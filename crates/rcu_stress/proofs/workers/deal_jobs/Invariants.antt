use Rattle.std.proofs.Common.{◌≡◌, ◌+◌, ◌<◌, ◌++◌, ◌-◌, All, map, vec_capacity, vec_len}
use Rattle.std.specs.List.{range_with_len}
use Rattle.std.specs.Iterator.Adapters.{zip_first, zip_second}
use Rattle.std.specs.Vec.Iter.{into_iter_items, into_iter_len}
use Rattle.rcu_stress.specs.Draws.{generator_of}
use Rattle.rcu_stress.proofs.workers.deal_jobs.Given as goal

abbrev pub invariant-loop-seat : goal.invariant-loop-seat
invariant-loop-seat g l = record {
  next : (goal.iterator-loop-seat g).can_next l.seat-iterator;
  finite : (goal.iterator-loop-seat g).is_finite l.seat-iterator;
  room : vec_capacity l.others ≡ l.settings.workers;
  seats_left : vec_len l.others + into_iter_len (zip_first l.seat-iterator) + 1
      ≡ l.settings.workers;
  watchers_left : vec_len l.others + into_iter_len (zip_second l.seat-iterator) + 1
      ≡ l.settings.workers;
  each_seat : All (λ seat. seat.table ≡ l.live.table) (into_iter_items (zip_first l.seat-iterator));
  workers : map (λ job. job.worker) l.others.items
      ++ map (λ seat. seat.cpu) (into_iter_items (zip_first l.seat-iterator))
      ≡ range_with_len 1 (l.settings.workers - 1);
  each_cpu : All (λ seat. seat.cpu < l.settings.workers)
      (into_iter_items (zip_first l.seat-iterator));
  each_settings : All (λ job. job.settings ≡ l.settings) l.others.items;
  each_draws : All (λ job. job.draws ≡ generator_of l.settings.seed job.worker) l.others.items;
  each_watcher : All (λ watcher. watcher.table ≡ l.live.table)
      (into_iter_items (zip_second l.seat-iterator));
}
