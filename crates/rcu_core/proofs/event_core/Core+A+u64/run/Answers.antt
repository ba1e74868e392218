use Rattle.std.proofs.Common.{List, [], arith, subst}
use Rattle.std.proofs.lemmas.List.{take_all}
use Rattle.rcu_core.specs.Runs.{RunsLegally}
use Rattle.rcu_core.specs.declared.event.Event.{Event}
use Rattle.rcu_core.specs.declared.event.Event.TheVariants.{Enter}
use Rattle.rcu_core.proofs.Follows.{ran_more}
use Rattle.rcu_core.proofs.Longer.{first_ran_legally}
use Rattle.rcu_core.proofs.event_core.Core+A+u64.run.Goals as goal

pub loop-event-preserved : goal.loop-event-preserved
loop-event-preserved g c = record {
  room = omega arith;
  count = omega arith;
  ran = λ h x. ran_more c.args.self.now c.loop-event.self c.step-reply.new.self h c.args.events.now
      c.loop-event.event-index (Enter 0) c.loop-event.replies.items c.push_reserved.new.self.items
      c.step-reply.result c.loop-event-test.true c.push_reserved.ensures.items
      (c.loop-event.invariant.ran h x) c.step-reply.ensures.follows;
}

pub returns-clause-legal : goal.returns-clause-legal
returns-clause-legal g c = λ h x.
    subst (λ (events : List Event).
    RunsLegally c.args.self.now h events c.loop-event.replies.items c.loop-event.self)
    (take_all c.loop-event.event-index c.args.events.now (omega (arith, c.loop-event-test.false)))
    (c.loop-event.invariant.ran h x)

pub returns-clause-anew : goal.returns-clause-anew
returns-clause-anew g c = λ x.
    first_ran_legally c.args.self.now c.loop-event.self c.args.events.now c.loop-event.replies.items
    (returns-clause-legal g c [] x)
