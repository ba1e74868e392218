-- The parts that an opening deals, by its seats and watchers.
use Rattle.std.proofs.Common.{◌≡◌, ℕ, List, length, map, refl, sym, ap, ◌∙◌}
use Rattle.std.specs.List.{range_with_len}
use Rattle.std.proofs.lemmas.List.FromFn.{length-map-range_with_len}
use Rattle.rcu_seq.specs.Numbers.{Number}
use Rattle.rcu_live.specs.Board.{IsSized, Object}
use Rattle.rcu_live.specs.CpuSeat.{IsSeatOf, Seated, at_first}
use Rattle.rcu_live.specs.Opening.{AreDealt}
use Rattle.rcu_live.specs.Watcher.{IsWatcherOf, Watching, watcher_at_first}
use Rattle.rcu_live.specs.Words.{base_of}
use Rattle.rcu_live.proofs.RowLemmas.{each_made}

-- a seat and a watcher a processor, as they are at first
pub are_dealt : {C P : Type 0} (cpus : ℕ) (last : Number) (most behind : ℕ) (idle : C)
    (engine : Object P) (seats : List (Seated C)) (watchers : List (Watching C))
    → IsSized cpus last most behind engine
    → seats ≡ map (at_first engine.table (base_of cpus) idle) (range_with_len 0 cpus)
    → watchers
    ≡ map (λ _. watcher_at_first engine.table (base_of cpus) idle) (range_with_len 0 cpus)
    → AreDealt cpus last most behind idle engine seats watchers
are_dealt {C} cpus last most behind idle engine seats watchers size s w = record {
  size = size;
  each_seat = s;
  each_watcher = w;
  seat_count = ap (λ (l : List (Seated C)). length l) s ∙ length-map-range_with_len _ 0 cpus;
  watcher_count = ap (λ (l : List (Watching C)). length l) w ∙ length-map-range_with_len _ 0 cpus;
  seats_read = each_made _ _ _ (λ (seat : Seated C). seat.table ≡ engine.table) s (λ cpu. refl);
  watchers_read =
      each_made _ _ _ (λ (watcher : Watching C). watcher.table ≡ engine.table) w (λ cpu. refl);
  are_seats = each_made _ _ _ (IsSeatOf engine) s (λ cpu. (refl, sym size.base));
  are_watchers =
      each_made _ _ _ (IsWatcherOf engine) w (λ cpu. (refl, sym size.base));
  outside = each_made _ _ _ (λ (seat : Seated C). seat.depth ≡ 0) s (λ cpu. refl);
  know = each_made _ _ _ (λ (seat : Seated C). seat.view.client ≡ idle) s (λ cpu. refl);
}
