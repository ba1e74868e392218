-- Texts that answer the lines of a script.
use Rattle.std.specs.Prelude.{◌≡◌, ℕ, Bool, false, List, [], ◌∷◌, ◌++◌, codes, Result}
use Rattle.std.specs.Str.{bytes_eq}
use Rattle.std.specs.List.{list_any}
use Rattle.rcu_seq.specs.declared.fault.Fault.TheVariants as fault
use Rattle.rcu_core.specs.History.{History}
use Rattle.rcu_core.specs.Replies.{Size, IsLegalReply, with_event, answer}
use Rattle.rcu_core.specs.Situation.{situation}
use Rattle.rcu_core.specs.declared.event.Event.{Event}
use Rattle.rcu_core.specs.declared.reply.Reply.{Reply}
use Rattle.rcu_core.specs.declared.reply.Reply.TheVariants as reply
use Rattle.rcu_text.specs.Lines.{lines_of}
use Rattle.rcu_text.specs.Runs.{Ends}
use Rattle.rcu_text.specs.declared.line_shape.Line.{Line}
use Rattle.rcu_text.specs.declared.line_shape.Line.TheVariants.{Blank, Malformed, Ask}
use Rattle.rcu_script.specs.Opening.{opening_fault, size_of_setup}
use Rattle.rcu_script.specs.RunEnds.{RunsFromOpening}
use Rattle.rcu_script.specs.ScriptLines.{asked_by}
use Rattle.rcu_script.specs.ScriptTexts.{text_of}
use Rattle.rcu_script.specs.declared.runs.RunFault.{RunFault}
use Rattle.rcu_script.specs.declared.runs.Setup.{Setup}

-- the text answers one line after a history, which becomes the next history: a blank line has no
-- answer, `fault 21` answers a malformed one, and the text of a legal reply answers a line that
-- asks for an event
abbrev pub AnswersLine : Size → History → Line Event → List ℕ → History → Type 0
AnswersLine size h Blank text next = (text ≡ []) × (next ≡ h)
AnswersLine size h Malformed text next = (text ≡ text_of (reply.Fault fault.BadLine)) × (next ≡ h)
AnswersLine size h (Ask event) text next =
    (r : Reply)
    × IsLegalReply size (situation h) event r
    × (text ≡ text_of r)
    × (next ≡ with_event h event r)

-- the text answers the lines, one after another
abbrev pub Answers : Size → History → List (List ℕ) → List ℕ → History → Type 0
Answers size h [] text end = (text ≡ []) × (end ≡ h)
Answers size h (line ∷ lines) text end =
    (first : List ℕ)
    × (next : History)
    × (rest : List ℕ)
    × AnswersLine size h (asked_by line) first next
    × (text ≡ first ++ rest)
    × Answers size next lines rest end

-- the reply to a line, if memory is not refused
abbrev pub reply_to : Size → History → Line Event → List ℕ
reply_to size h Blank = []
reply_to size h Malformed = text_of (reply.Fault fault.BadLine)
reply_to size h (Ask event) = text_of (answer size (situation h) event)

-- the history after a line and that reply
abbrev pub next_after : Size → History → Line Event → History
next_after size h Blank = h
next_after size h Malformed = h
next_after size h (Ask event) = with_event h event (answer size (situation h) event)

-- the replies to the lines, if memory is never refused
abbrev pub replies : Size → History → List (List ℕ) → List ℕ
replies size h [] = []
replies size h (line ∷ lines) =
    reply_to size h (asked_by line) ++ replies size (next_after size h (asked_by line)) lines

-- a line of the text is `fault 16`
abbrev pub wants_memory : List ℕ → Bool
wants_memory text = list_any (bytes_eq (codes "fault 16")) (lines_of text)

-- the text answers the lines from the first event on; if no line of it is `fault 16`, it is the one
-- right text
pub record IsAnswer (size : Size) (lines : List (List ℕ)) (text : List ℕ) : Type 0 where
  pub end : History
  pub answers : Answers size [] lines text end
  pub exact : wants_memory text ≡ false → text ≡ replies size [] lines

-- how a run of a setup ends: the written text is an answer to the lines
abbrev pub RunsScript : Result (Unit {0}) RunFault → Setup → Ends → Ends → Type 0
RunsScript result setup old new =
    RunsFromOpening result (opening_fault setup) (IsAnswer (size_of_setup setup)) old new
