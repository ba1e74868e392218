use Rattle.std.proofs.Common.{ℕ, List, ap, ap₂, sym, subst, ◌∙◌}
use Rattle.rcu_cblist.specs.SegList.{IsAtMost}
use Rattle.rcu_barrier.specs.Lists.{ListsWithRooms, list_of}
use Rattle.rcu_seq.specs.Numbers.{snapshot}
use Rattle.rcu_seq.specs.Seq.{tag_of}
use Rattle.rcu_state.specs.GpState.{Grace}
use Rattle.rcu_state.proofs.Changes.{all_of, tended_is, tended_kept}
use Rattle.rcu_state.proofs.Timely.{timely_at_most, timely_get}
use Rattle.rcu_state.proofs.gp_state.GpState.tend.Goals as goal

pub tend-tended-requires-clause-within : goal.tend-tended-requires-clause-within
tend-tended-requires-clause-within g c =
    let i = c.self.inside in
    let old : Grace g.row.T.Denot = record {
      seq = i.seq;
      needed = i.needed;
      processors = i.hotplug;
      lists = i.lists.all;
    } in
    let xs = list_of i.lists.all c.args.cpu in
    subst (λ n. IsAtMost (snapshot n) xs) (sym c.value.ensures.value)
    (timely_at_most (tag_of old.seq) xs (timely_get
    (tag_of old.seq) i.lists.all.lists c.args.cpu c.self.invariant.timely))

pub invariant_of-self : goal.invariant_of-self
invariant_of-self g c =
    let i = c.self.inside in
    let old : Grace g.row.T.Denot = record {
      seq = i.seq;
      needed = i.needed;
      processors = i.hotplug;
      lists = i.lists.all;
    } in
    tended_kept old c.max-self-inside.result c.args.cpu c.value.result c.tend-tended.new.self.all
    c.self.invariant c.value.ensures.value (all_of c.tend-tended.ensures.state)

pub invariant_of-self-in_default : goal.invariant_of-self-in_default
invariant_of-self-in_default g c =
    let i = c.self.inside in
    let old : Grace g.row.T.Denot = record {
      seq = i.seq;
      needed = i.needed;
      processors = i.hotplug;
      lists = i.lists.all;
    } in
    tended_kept old i.needed c.args.cpu c.value.result c.tend-tended.new.self.all c.self.invariant
    c.value.ensures.value (all_of c.tend-tended.ensures.state)

pub returns-in-Some-clause-state : goal.returns-in-Some-clause-state
returns-in-Some-clause-state g c =
    let i = c.self.inside in
    let old : Grace g.row.T.Denot = record {
      seq = i.seq;
      needed = i.needed;
      processors = i.hotplug;
      lists = i.lists.all;
    } in
    let left = tended_is old c.max-self-inside.result c.args.cpu c.value.result c.in-Some.greatest
    c.tend-tended.new.self.all c.value.ensures.value (all_of c.tend-tended.ensures.state)
    (sym c.greatest_waiting.ensures ∙ c.in-Some.is) c.max-self-inside.ensures in
    rw (← c.self.view_is)
    (ap₂ (λ (says : Grace g.row.T.Denot) (rooms : List ℕ). record { grace = says; rooms = rooms })
    left (ap (λ (lists : ListsWithRooms g.row.T.Denot). lists.rooms) c.tend-tended.ensures.state))
