use Rattle.std.proofs.Common.{◌≡◌, ◌≤◌, ◌-◌, drop, length, take}
use Rattle.std.specs.Prelude.{filter}
use Rattle.std.specs.List.{range_with_len}
use Rattle.rcu_node.specs.CpuSet.{is_in}
use Rattle.rcu_c.proofs.driving.list_awaited.Given as goal

-- the awaited ones of the processors so far, as many as there is room for, are at the head of the
-- buffer
abbrev pub invariant-loop-cpu : goal.invariant-loop-cpu
invariant-loop-cpu l = record {
  count : l.count
      ≡ length (take (length l.fn.cpus)
      (filter (is_in l.engine.grace.processors.awaited) (range_with_len 0 l.from)));
  head : take l.count l.cpus
      ≡ take (length l.fn.cpus)
      (filter (is_in l.engine.grace.processors.awaited) (range_with_len 0 l.from));
  rest : drop l.count l.cpus ≡ drop l.count l.fn.cpus;
  same : length l.cpus ≡ length l.fn.cpus;
  fits : l.count ≤ length l.fn.cpus;
  few : l.count ≤ l.from;
  inside : l.from ≤ l.engine.cpus;
}

abbrev pub decreases-loop-cpu : goal.decreases-loop-cpu
decreases-loop-cpu l = l.engine.cpus - l.from
