use Rattle.std.proofs.Common.{◌≡◌, ◌∙◌, ℕ, IfErr, subst}
use Rattle.rcu_seq.specs.declared.fault.Fault.{Fault}
use Rattle.rcu_live.specs.Waits.{wait_fault}
use Rattle.rcu_live.proofs.WaitLemmas.{rested_none, rested_round}
use Rattle.rcu_map.proofs.updater.Updater.put_or_wait.Goals as goal

pub loop-init : goal.loop-init
loop-init g c = record {
  seat = c.requires.seat;
  depth = c.in_ok-check_outside.ensures;
  rested = rested_none c.args.seat.now;
  waited = tt;
}

pub loop-preserved : goal.loop-preserved
loop-preserved g c =
    let i = c.loop.invariant in
    let w = c.wait_once-waited.ensures in
    let r = c.wait_once-waited.result in
    record {
      seat = (w.table ∙ i.seat.0, w.base ∙ i.seat.1);
      depth = w.depth ∙ i.depth;
      rested = rested_round r c.args.seat.now c.loop.seat c.wait_once-waited.new.seat i.rested
          w.state w.unchanged;
      waited = subst (λ (d : ℕ). IfErr r (λ (fault : Fault). fault ≡ wait_fault d)) i.depth w.fault;
    }
