use Rattle.std.proofs.Common.{refl, [], ◌∙◌, subst}
use Rattle.rcu_seq.specs.declared.fault.Fault.TheVariants as fault
use Rattle.rcu_core.specs.Replies.{IsLegalReply, Size, with_event}
use Rattle.rcu_core.specs.Situation.{situation}
use Rattle.rcu_core.specs.Core.{size_at}
use Rattle.rcu_core.specs.declared.reply.Reply.TheVariants as reply
use Rattle.rcu_script.specs.ScriptAnswers.{AnswersLine}
use Rattle.rcu_script.specs.ScriptLines.{asked_by}
use Rattle.rcu_script.specs.ScriptTexts.{text_of}
use Rattle.rcu_text.proofs.CallerLemmas.{Sends-nil}
use Rattle.rcu_script.proofs.AnswerLemmas.{answers_more, said_to}
use Rattle.rcu_script.proofs.script.responder.ScriptResponderResponder.reply_to.Goals as goal

pub returns-in-Blank : goal.returns-in-Blank
returns-in-Blank g c = record {
  reply = [];
  out = Sends-nil _;
  told = λ opened lines text whole told alike.
      let size = size_at opened.core in
      let a : AnswersLine size told.0 (asked_by whole) [] told.0 =
      said_to size told.0 c.args.line.now whole [] told.0 _ alike c.in-Blank.ensures (refl, refl) in
      (told.0, answers_more size [] lines text told.0 whole [] told.0 told.1 a, told.2, told.3);
}

pub returns-in-Malformed : goal.returns-in-Malformed
returns-in-Malformed g c =
    let reply = text_of (reply.Fault fault.BadLine) in
    record {
      reply = reply;
      out = c.put_reply.ensures;
      told = λ opened lines text whole told alike.
          let size = size_at opened.core in
          let a : AnswersLine size told.0 (asked_by whole) reply told.0 =
          said_to size told.0 c.args.line.now whole reply told.0 _ alike c.in-Malformed.ensures
          (refl, refl) in (
            told.0,
            answers_more size [] lines text told.0 whole reply told.0 told.1 a,
            told.2,
            told.3,
          );
    }

pub returns-in-Ask : goal.returns-in-Ask
returns-in-Ask g c =
    let said = c.step-reply.result in
    record {
      reply = text_of said;
      out = c.put_reply-in-Ask.ensures;
      told = λ opened lines text whole told alike.
          let size = size_at opened.core in
          let end = with_event told.0 c.in-Ask.event said in
          let went = c.step-reply.ensures.follows told.0 told.3 in
          let legal : IsLegalReply size (situation told.0) c.in-Ask.event said = subst
          (λ (s : Size). IsLegalReply s (situation told.0) c.in-Ask.event said) told.2 went.legal in
          let a : AnswersLine size told.0 (asked_by whole) (text_of said) end =
          said_to size told.0 c.args.line.now whole (text_of said) end _ alike c.in-Ask.ensures
          (said, legal, refl, refl) in (
            end,
            answers_more size [] lines text told.0 whole (text_of said) end told.1 a,
            went.size ∙ told.2,
            went.has,
          );
    }
