-- The legal runs that the answers of a script print, and answers in turn.
use Rattle.std.specs.Prelude.{◌≡◌, [], ◌∷◌, ◌++◌, ℕ, List, length}
use Rattle.rcu_seq.specs.declared.fault.Fault.TheVariants as fault
use Rattle.rcu_core.specs.History.{History}
use Rattle.rcu_core.specs.Links.{onto}
use Rattle.rcu_core.specs.Replies.{Size}
use Rattle.rcu_core.specs.Runs.{IsLegalRun, Run, history}
use Rattle.rcu_core.specs.declared.event.Event.{Event}
use Rattle.rcu_core.specs.declared.reply.Reply.{Reply}
use Rattle.rcu_core.specs.declared.reply.Reply.TheVariants as reply
use Rattle.rcu_text.specs.declared.line_shape.Line.{Line}
use Rattle.rcu_text.specs.declared.line_shape.Line.TheVariants.{Ask, Blank, Malformed}
use Rattle.rcu_script.specs.ScriptAnswers.{Answers}
use Rattle.rcu_script.specs.ScriptTexts.{text_of}

-- the events that lines ask for, in order
abbrev pub events_of : List (Line Event) → List Event
events_of [] = []
events_of (Ask event ∷ lines) = event ∷ events_of lines
events_of (_ ∷ lines) = events_of lines

-- the printed text, if these are the replies to the events that lines ask for: nothing for a blank
-- line, `fault 21` for a malformed one, and for any other the text of its reply
abbrev pub text_of_replies : List (Line Event) → List Reply → List ℕ
text_of_replies [] replies = []
text_of_replies (Blank ∷ lines) replies = text_of_replies lines replies
text_of_replies (Malformed ∷ lines) replies =
    text_of (reply.Fault fault.BadLine) ++ text_of_replies lines replies
text_of_replies (Ask event ∷ lines) [] = []
text_of_replies (Ask event ∷ lines) (r ∷ replies) = text_of r ++ text_of_replies lines replies

-- a run reaches this history by the events that lines ask for, with a legal reply to each, and
-- these print to the text
pub record IsPrintedRun (size : Size) (earlier : Run) (lines : List (Line Event)) (text : List ℕ)
    (end : History) : Type 0 where
  pub replies : List Reply
  pub each : length replies ≡ length (events_of lines)
  pub legal : IsLegalRun size (onto (events_of lines) replies earlier)
  pub reached : history (onto (events_of lines) replies earlier) ≡ end
  pub printed : text ≡ text_of_replies lines replies

-- the text answers these lines, and from the history that they end at the later ones
pub record AnswersInTurn (size : Size) (h : History) (lines later : List (List ℕ)) (text : List ℕ)
    (end : History) : Type 0 where
  pub first : List ℕ
  pub between : History
  pub second : List ℕ
  pub is : text ≡ first ++ second
  pub answers_first : Answers size h lines first between
  pub answers_second : Answers size between later second end
