use Rattle.std.proofs.Common.{◌≡◌, ◌≤◌, length, vec_len, vec_capacity}
use Rattle.std.specs.Prelude.{filter}
use Rattle.std.specs.List.{range_with_len}
use Rattle.rcu_node.specs.CpuSet.{is_in, size_of}
use Rattle.rcu_core.proofs.event_core.list_awaited.Given as goal

-- those so far, with room for all
abbrev pub invariant-loop-cpu : goal.invariant-loop-cpu
invariant-loop-cpu g l = record {
  so_far : l.list.items ≡ filter (is_in (g.A.Awaited.awaited l.awaited)) (range_with_len 0 l.cpu);
  count : vec_len l.list ≡ length l.list.items;
  room : size_of (g.A.Awaited.awaited l.awaited) ≤ vec_capacity l.list;
}
