use Rattle.std.proofs.Common.{◌≡◌}
use Rattle.std.specs.Prelude.{IfErr, OnErr, OnOk}
use Rattle.rcu_seq.specs.declared.fault.Fault.TheVariants.{Exhausted}
use Rattle.rcu_live.specs.InPart.{engine_part, seat_part}
use Rattle.rcu_live.specs.Waits.{AreRounds, HasRested}
use Rattle.rcu_graph.specs.Waits.{AreOf, HasReclaimed}
use Rattle.rcu_graph.proofs.writer.Writer.wait_until_free.Given as goal

abbrev pub invariant-loop : goal.invariant-loop
invariant-loop g l = record {
  of_graph : AreOf (engine_part g.P.Within.own_plan g.P.Within.begins l.live) l.self
      (seat_part g.P.Within.lens l.seat);
  depth : l.seat.depth ≡ 0;
  rested : HasRested l.fn.seat l.seat;
  reclaimed : HasReclaimed l.fn.self l.self;
  waited : IfErr l.waited (λ fault. fault ≡ Exhausted);
  rounds : OnOk l.waited (AreRounds 1 l.fn.seat l.seat l.fn.self l.self);
  last : OnErr l.waited (AreRounds 2 l.fn.seat l.seat l.fn.self l.self);
}
