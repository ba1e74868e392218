use Rattle.std.proofs.Common.{◌<◌, length, ◌∙◌, arith}
use Rattle.std.proofs.lemmas.List.{length-set}
use Rattle.rcu_defer.specs.Marks.{ready_of}
use Rattle.rcu_c.proofs.HandedOut.{rest_more, took_more, wrote_more}
use Rattle.rcu_c.proofs.deferral.put_ready.Goals as goal

pub loop-i-preserved : goal.loop-i-preserved
loop-i-preserved c =
    let i = c.loop-i.i in
    let x = c.in-Some.value in
    let values = c.loop-i.values in
    let so_far = c.loop-i.invariant in
    let list = c.args.list.now in
    let ready : i < ready_of list.marks =
    omega (arith, c.loop-i-test.true, c.min-most.ensures, c.ready.ensures.value) in
    let inside : i < length values =
    omega (arith, c.loop-i-test.true, c.min-most.ensures, so_far.same) in
    record {
      list = took_more list c.loop-i.list c.take.new.self i ready so_far.list c.take.ensures.state;
      head = wrote_more i x values list c.loop-i.list ready so_far.list c.in-Some.ensures.value
          inside so_far.head;
      rest = rest_more i x c.args.values.now values so_far.rest;
      same = length-set values i x ∙ so_far.same;
      few = omega (arith, c.loop-i-test.true);
    }
