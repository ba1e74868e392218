use Rattle.std.proofs.Common.{◌≡◌, ◌+◌, ◌++◌, ◌≤◌, count_by, map, take, vec_capacity, vec_len}
use Rattle.rcu_stress.specs.Ledger.{is_early, most_rounds}
use Rattle.rcu_stress.proofs.share.LedgerShare.take_down.Given as goal

abbrev pub invariant-loop-call : goal.invariant-loop-call
invariant-loop-call l = record {
  ids : l.self-inside.ids.items ≡ l.initial.self-inside.ids.items
      ++ map (λ call. call.value) (take l.call-index l.call-items);
  early : l.self-inside.early
      ≡ l.initial.self-inside.early
      + count_by (is_early l.ran.number) (take l.call-index l.call-items);
  queued : l.self-inside.queued ≡ l.initial.self-inside.queued;
  len : vec_len l.self-inside.ids ≡ vec_len l.initial.self-inside.ids + l.call-index;
  room : vec_capacity l.self-inside.ids ≡ vec_capacity l.initial.self-inside.ids;
  bounded : l.self-inside.early ≤ most_rounds + vec_len l.self-inside.ids;
}
