use Rattle.std.proofs.Common.{ap, refl}
use Rattle.rcu_node.specs.Merging.{Standing}
use Rattle.rcu_text.specs.declared.line_shape.Line.TheVariants.{Blank, Malformed}
use Rattle.rcu_text.proofs.CallerLemmas.{Sends-nil}
use Rattle.rcu_script.proofs.PairLemmas.{a_answered, b_answered, line_answered, same_answered}
use Rattle.rcu_script.proofs.pair.machine.PairMachineResponder.reply_to.Goals as goal

pub returns-in-Blank : goal.returns-in-Blank
returns-in-Blank g c =
    line_answered c.args.line.now Blank c.args.self.now _ _ c.in-Blank.ensures refl (Sends-nil _)

pub returns-in-Malformed : goal.returns-in-Malformed
returns-in-Malformed g c =
    line_answered c.args.line.now Malformed c.args.self.now _ _ c.in-Malformed.ensures refl
    c.put_reply.ensures

pub returns-in-Ask-Same : goal.returns-in-Ask-Same
returns-in-Ask-Same g c =
    same_answered c.args.line.now c.in-Ask-Same.field-0 c.self.inside.a c.self.inside.b _ _
    c.args.self.now _ _ c.in-Ask-Same.field-0-is c.in-Ask-Same.ensures c.self.view_is
    (ap (λ (s : Standing). s.awaited) c.awaited.ensures.standing)
    (ap (λ (s : Standing). s.awaited) c.awaited-in-Ask-Same.ensures.standing)
    c.await_the_same-are_same.ensures c.put_compared.ensures

pub returns-in-Ask-Of-A-default : goal.returns-in-Ask-Of-A-default
returns-in-Ask-Of-A-default g c =
    let arm = c.in-Ask-Of-A-default in
    a_answered c.args.line.now arm.field-0 arm.field-0-0 arm.event c.self.inside.a c.self.inside.b
    c.answer.new.mine c.args.self.now _ arm.field-0-is arm.field-0-0-is arm.ensures c.self.view_is
    c.answer.ensures.state c.answer.ensures.text

pub returns-in-Ask-Of-B-default : goal.returns-in-Ask-Of-B-default
returns-in-Ask-Of-B-default g c =
    let arm = c.in-Ask-Of-B-default in
    b_answered c.args.line.now arm.field-0 arm.field-0-0 arm.event c.self.inside.a c.self.inside.b
    c.answer-in-Ask-Of-B-default.new.mine c.args.self.now _ arm.field-0-is arm.field-0-0-is
    arm.ensures c.self.view_is c.answer-in-Ask-Of-B-default.ensures.state
    c.answer-in-Ask-Of-B-default.ensures.text
