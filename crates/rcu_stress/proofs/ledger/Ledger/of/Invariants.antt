use Rattle.std.proofs.Common.{◌≡◌, ◌+◌, ◌*◌, ◌≤◌, length, sum_by, take}
use Rattle.std.specs.List.{flat_map}
use Rattle.rcu_stress.specs.Ledger.{most_rounds}
use Rattle.rcu_stress.proofs.ledger.Ledger.of.Given as goal

abbrev pub invariant-loop-share : goal.invariant-loop-share
invariant-loop-share l = record {
  queued : l.sums.queued ≡ sum_by (λ s. s.queued) (take l.share-index l.share-items);
  early : l.sums.early ≡ sum_by (λ s. s.early) (take l.share-index l.share-items);
  ids : l.sums.ids.items ≡ flat_map (λ s. s.ids) (take l.share-index l.share-items);
  few : l.sums.queued ≤ l.share-index * most_rounds;
  rare : l.sums.early ≤ l.share-index * most_rounds + length l.sums.ids.items;
}
