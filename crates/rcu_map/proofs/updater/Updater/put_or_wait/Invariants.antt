use Rattle.std.proofs.Common.{◌≡◌}
use Rattle.std.specs.Prelude.{IfErr}
use Rattle.rcu_seq.specs.declared.fault.Fault.TheVariants.{Exhausted}
use Rattle.rcu_live.specs.Waits.{HasRested}
use Rattle.rcu_live.specs.CpuSeat.{IsSeatOf}
use Rattle.rcu_map.proofs.updater.Updater.put_or_wait.Given as goal

abbrev pub invariant-loop : goal.invariant-loop
invariant-loop g l = record {
  seat : IsSeatOf l.live l.seat;
  depth : l.seat.depth ≡ 0;
  rested : HasRested l.fn.seat l.seat;
  waited : IfErr l.waited (λ fault. fault ≡ Exhausted);
}
