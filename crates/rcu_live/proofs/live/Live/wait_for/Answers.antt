use Rattle.std.proofs.Common.{ap, arith, subst, sym}
use Rattle.rcu_live.specs.CpuSeat.{Seated}
use Rattle.rcu_live.specs.Waits.{AreRounds, HasRested}
use Rattle.rcu_live.specs.Watcher.{Watching}
use Rattle.rcu_live.proofs.WaitLemmas.{looked_more, looked_none, rested_more, rested_none}
use Rattle.rcu_live.proofs.WaitLemmas.{rounds_more, rounds_none, rounds_then_look}
use Rattle.rcu_live.proofs.live.Live.wait_for.Goals as goal

pub loop-init : goal.loop-init
loop-init g c = record {
  rested = rested_none c.args.seat.now;
  looked = looked_none c.args.watcher.now;
  rounds = rounds_none c.args.seat.now c.args.watcher.now;
}

pub loop-preserved : goal.loop-preserved
loop-preserved g c =
    let i = c.loop.invariant in
    let w = c.in_ok-wait_once.ensures in
    record {
      rested = rested_more c.args.seat.now c.loop.seat c.wait_once.new.seat i.rested w.state.later
          w.state.state;
      looked = looked_more c.args.watcher.now c.loop.watcher c.poll.new.self i.looked
          c.poll.ensures.state.later c.poll.ensures.state.state;
      rounds = rounds_more 0 c.args.seat.now c.loop.seat c.wait_once.new.seat c.args.watcher.now
          c.loop.watcher c.poll.new.self i.rounds w.state.state
          (ap (λ (y : Watching g.row.P-Known.Denot). y.view.loads) c.poll.ensures.state.state);
    }

pub returns-then-poll-clause-rounds : goal.returns-then-poll-clause-rounds
returns-then-poll-clause-rounds g c =
    rounds_then_look 0 1 c.args.seat.now c.loop.seat c.args.watcher.now c.loop.watcher
    c.poll.new.self (omega arith) c.loop.invariant.rounds
    (ap (λ (y : Watching g.row.P-Known.Denot). y.view.loads) c.poll.ensures.state.state)

pub returns-then-poll-clause-looked : goal.returns-then-poll-clause-looked
returns-then-poll-clause-looked g c =
    looked_more c.args.watcher.now c.loop.watcher c.poll.new.self c.loop.invariant.looked
    c.poll.ensures.state.later c.poll.ensures.state.state

pub returns-in_err-wait_once-clause-rested : goal.returns-in_err-wait_once-clause-rested
returns-in_err-wait_once-clause-rested g c =
    subst (HasRested c.args.seat.now) (sym c.in_err-wait_once.ensures.unchanged)
    c.loop.invariant.rested

pub returns-in_err-wait_once-clause-looked : goal.returns-in_err-wait_once-clause-looked
returns-in_err-wait_once-clause-looked g c =
    looked_more c.args.watcher.now c.loop.watcher c.poll.new.self c.loop.invariant.looked
    c.poll.ensures.state.later c.poll.ensures.state.state

pub returns-in_err-wait_once-clause-rounds : goal.returns-in_err-wait_once-clause-rounds
returns-in_err-wait_once-clause-rounds g c =
    let rounds =
    rounds_then_look 0 1 c.args.seat.now c.loop.seat c.args.watcher.now c.loop.watcher
    c.poll.new.self (omega arith) c.loop.invariant.rounds
    (ap (λ (y : Watching g.row.P-Known.Denot). y.view.loads) c.poll.ensures.state.state) in
    subst (λ (t : Seated g.row.P-Known.Denot).
    AreRounds 1 c.args.seat.now t c.args.watcher.now c.poll.new.self)
    (sym c.in_err-wait_once.ensures.unchanged) rounds
