use Rattle.std.proofs.Common.{◌≡◌, subst, sym}
use Rattle.rcu_seq.specs.declared.tag.Tag.{Tag}
use Rattle.rcu_seq.proofs.Accepted.{accepted_begin}
use Rattle.rcu_hotplug.specs.Hotplug.{Begin, after_call}
use Rattle.rcu_state.specs.GpState.{Grace}
use Rattle.rcu_state.proofs.Changes.{begun_kept}
use Rattle.rcu_state.proofs.gp_state.GpState.begin.Goals as goal

pub invariant_of-self-2 : goal.invariant_of-self-2
invariant_of-self-2 g c =
    let i = c.self.inside in
    let old : Grace g.row.T.Denot = record {
      seq = i.seq;
      needed = i.needed;
      processors = i.hotplug;
      lists = i.lists.all;
    } in
    let started = c.in_ok-number.ensures in
    begun_kept old c.start.new.self c.begin.new.self c.self.invariant
    (accepted_begin i.seq (sym started.fault)).0 started.state
    (subst (λ (n : Tag). c.begin.new.self ≡ after_call i.hotplug
    (Begin n)) c.tag.ensures.value c.begin.ensures.state)
    c.begin.ensures.sized
