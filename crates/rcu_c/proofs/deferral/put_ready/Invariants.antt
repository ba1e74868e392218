use Rattle.std.proofs.Common.{◌≡◌, ◌≤◌, drop, length, take}
use Rattle.rcu_defer.specs.DeferList.{list_after_take}
use Rattle.rcu_c.proofs.deferral.put_ready.Given as goal

-- the values so far are at the head of the buffer, and the rest of it is as it was
abbrev pub invariant-loop-i : goal.invariant-loop-i
invariant-loop-i l = record {
  list : l.list ≡ list_after_take l.fn.list l.i;
  head : take l.i l.values ≡ take l.i l.fn.list.values;
  rest : drop l.i l.values ≡ drop l.i l.fn.values;
  same : length l.values ≡ length l.fn.values;
  few : l.i ≤ l.most;
}
