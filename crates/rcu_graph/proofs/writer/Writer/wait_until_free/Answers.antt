use Rattle.std.proofs.Common.{◌≡◌, ◌∙◌, ℕ, IfErr, OnErr, OnOk, Result, ap, arith, refl, subst, sym}
use Rattle.rcu_seq.specs.declared.fault.Fault.{Fault}
use Rattle.rcu_live.specs.InPart.{engine_part}
use Rattle.rcu_live.specs.Waits.{AreRounds, wait_fault}
use Rattle.rcu_live.specs.Watcher.{Watching}
use Rattle.rcu_live.proofs.WaitLemmas.{rested_in_part, rested_none, rested_round, rounds_at_end}
use Rattle.rcu_live.proofs.WaitLemmas.{rounds_none, rounds_round, rounds_then_look}
use Rattle.rcu_graph.specs.Nodes.{nodes_in}
use Rattle.rcu_graph.specs.Waits.{HasGivenUp}
use Rattle.rcu_graph.specs.declared.known.Planned.{Planned}
use Rattle.rcu_graph.proofs.Looks.{found_one, on_err, reclaimed_more, reclaimed_once, refused}
use Rattle.rcu_graph.proofs.Looks.{same_after_look}
use Rattle.rcu_graph.proofs.Walking.{same_watches}
use Rattle.rcu_graph.proofs.writer.Writer.wait_until_free.Goals as goal

pub loop-init : goal.loop-init
loop-init g c =
    let a = c.reclaim.ensures in
    record {
      of_graph = record {
        writer_of = same_watches _ _ _
            (same_after_look c.args.self.now c.reclaim.new.self c.reclaim.result a.state)
            c.requires.of_graph.writer_of;
        seat_of = c.requires.of_graph.seat_of;
      };
      depth = c.requires.outside;
      rested = rested_none c.args.seat.now;
      reclaimed = reclaimed_once c.args.self.now c.reclaim.new.self c.reclaim.result c.requires.full
          a.later a.state;
      waited = tt;
      rounds =
          rounds_then_look 0 1 c.args.seat.now c.args.seat.now c.args.self.now c.args.self.now
          c.reclaim.new.self (omega arith) (rounds_none c.args.seat.now c.args.self.now)
          (ap (λ (k : Watching Planned). k.view.loads) a.state);
      last = tt;
    }

pub returns-then-is_ok-clause-waited : goal.returns-then-is_ok-clause-waited
returns-then-is_ok-clause-waited g c =
    let i = c.loop.invariant in
    let f = c.free_node.ensures in
    record {
      looked = i.reclaimed;
      free = found_one (nodes_in c.loop.self.view.client.known) c.loop.self.view.client.plan.nodes
          c.free_node.result
          (sym c.is_ok.ensures.value ∙ c.if-is_ok.true) c.kept.ensures.few f.inside f.free;
      rounds = rounds_at_end c.loop.waited c.args.seat.now c.loop.seat c.args.self.now c.loop.self
          c.loop.self i.rounds i.last refl;
    }

pub returns-in_err-waited-clause-given_up : goal.returns-in_err-waited-clause-given_up
returns-in_err-waited-clause-given_up g c =
    let i = c.loop.invariant in
    let given_up : HasGivenUp c.args.seat.now c.loop.seat c.args.self.now c.loop.self = record {
      looked = i.reclaimed;
      full = refused c.free_node.result (sym c.is_ok.ensures.value ∙ c.if-is_ok.false)
          c.free_node.ensures.full;
      rounds = subst (λ (x : Result (Unit {0}) Fault).
          OnErr x (AreRounds 2 c.args.seat.now c.loop.seat c.args.self.now c.loop.self))
          c.in_err-waited.was i.last;
    } in
    on_err c.from_residual.result given_up

pub loop-preserved : goal.loop-preserved
loop-preserved g c =
    let i = c.loop.invariant in
    let w = c.wait_once-waited.ensures in
    let r = c.wait_once-waited.result in
    let a = c.reclaim-in-loop in
    let full = refused c.free_node.result (sym c.is_ok.ensures.value ∙ c.if-is_ok.false)
    c.free_node.ensures.full in
    let rounds = subst (λ (x : Result (Unit {0}) Fault).
    OnOk x (AreRounds 1 c.args.seat.now c.loop.seat c.args.self.now c.loop.self))
    c.in_ok-waited.was i.rounds in
    let next = rounds_round r c.args.seat.now c.loop.seat c.wait_once-waited.new.seat
    c.args.self.now c.loop.self a.new.self rounds w.state w.unchanged
    (ap (λ (k : Watching Planned). k.view.loads) a.ensures.state) in
    let rested = rested_round r c.args.seat.now c.loop.seat c.wait_once-waited.new.seat i.rested
    w.state w.unchanged in
    record {
      of_graph = record {
        writer_of = same_watches _ _ _
            (same_after_look c.loop.self a.new.self a.result a.ensures.state) i.of_graph.writer_of;
        seat_of = rested_in_part g.P.Within.lens
            (engine_part g.P.Within.own_plan g.P.Within.begins c.args.live.now)
            c.args.seat.now c.wait_once-waited.new.seat rested c.requires.of_graph.seat_of;
      };
      depth = w.depth ∙ i.depth;
      rested = rested;
      reclaimed = reclaimed_more c.args.self.now c.loop.self a.new.self a.result i.reclaimed full
          a.ensures.later
          a.ensures.state;
      waited = subst (λ (d : ℕ). IfErr r (λ (fault : Fault). fault ≡ wait_fault d)) i.depth w.fault;
      rounds = next.0;
      last = next.1;
    }
