use Rattle.std.proofs.Common.{◌≡◌, ◌≤◌, drop, length, map, take}
use Rattle.std.specs.Prelude.{All}
use Rattle.rcu_seq.specs.Seq.{number_of}
use Rattle.rcu_cblist.specs.SegList.{take_answer}
use Rattle.rcu_live.specs.Engine.{HasWaited}
use Rattle.rcu_c.proofs.Popped.{listed, ran}
use Rattle.rcu_c.proofs.callbacks.put_done.Given as goal

-- the values so far are at the head of the buffer, and the rest of it is as it was
abbrev pub invariant-loop-i : goal.invariant-loop-i
invariant-loop-i l = record {
  engine : l.engine ≡ ran l.fn.engine l.cpu l.i;
  head : take l.i l.values ≡ map (λ call. call.value) (take_answer (listed l.fn.engine l.cpu) l.i);
  rest : drop l.i l.values ≡ drop l.i l.fn.values;
  same : length l.values ≡ length l.fn.values;
  few : l.i ≤ l.most;
  waited : All (λ call. HasWaited (number_of l.fn.engine.grace.seq) call.at)
      (take_answer (listed l.fn.engine l.cpu) l.i);
}
