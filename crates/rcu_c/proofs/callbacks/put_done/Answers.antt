use Rattle.std.proofs.Common.{◌<◌, length, subst, ◌∙◌, arith}
use Rattle.std.proofs.lemmas.List.{length-set}
use Rattle.rcu_seq.specs.Seq.{number_of}
use Rattle.rcu_cblist.specs.SegList.{callbacks, front}
use Rattle.rcu_live.specs.Engine.{HasWaited}
use Rattle.rcu_c.proofs.HandedOut.{rest_more}
use Rattle.rcu_c.proofs.Popped.{listed, one_comes, ran_more, waited_more, wrote_more}
use Rattle.rcu_c.proofs.callbacks.put_done.Goals as goal

pub loop-i-preserved : goal.loop-i-preserved
loop-i-preserved c =
    let e = c.args.engine.now in
    let i = c.loop-i.i in
    let now = c.loop-i.engine in
    let call = c.in-Some.call in
    let values = c.loop-i.values in
    let so_far = c.loop-i.invariant in
    let inside : i < length values =
    omega (arith, c.loop-i-test.true, c.min-most.ensures, so_far.same) in
    record {
      engine =
          ran_more e now c.args.cpu i so_far.engine c.pop_done.new.self c.in-Some.ensures.made.left;
      head = wrote_more e now c.args.cpu i so_far.engine call values c.in-Some.ensures.call inside
          so_far.head;
      rest = rest_more i call.value c.args.values.now values so_far.rest;
      same = length-set values i call.value ∙ so_far.same;
      few = omega (arith, c.loop-i-test.true);
      waited = waited_more e now c.args.cpu i so_far.engine (number_of e.grace.seq) call
          c.in-Some.ensures.call
          (subst (λ l. HasWaited (number_of l.grace.seq) call.at) so_far.engine
          c.in-Some.ensures.waited)
          so_far.waited;
    }

pub unreachable-requires : goal.unreachable-requires
unreachable-requires c =
    let inside : c.loop-i.i < length (callbacks (front (listed c.args.engine.now c.args.cpu))) =
    omega (arith, c.loop-i-test.true, c.min-most.ensures, c.done_count.ensures.count) in
    one_comes c.args.engine.now c.loop-i.engine c.args.cpu c.loop-i.i c.loop-i.invariant.engine
    inside c.in_default.ensures.call
