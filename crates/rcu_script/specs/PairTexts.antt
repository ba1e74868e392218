-- The one right text that answers the lines of a pair.
use Rattle.std.specs.Prelude.{◌≡◌, ℕ, Bool, true, false, List, [], ◌∷◌, ◌++◌, length, codes, Option}
use Rattle.std.specs.Prelude.{Some, None}
use Rattle.rcu_seq.specs.declared.fault.Fault.{Fault}
use Rattle.rcu_seq.specs.declared.fault.Fault.TheVariants.{BadLine}
use Rattle.rcu_node.specs.CpuSet.{is_in}
use Rattle.rcu_node.specs.Merging.{same_set}
use Rattle.rcu_report.specs.Replica.{Replicated}
use Rattle.rcu_state.specs.GpState.{which}
use Rattle.rcu_core.specs.Replies.{Size}
use Rattle.rcu_core.specs.declared.reply.Reply.TheVariants as say
use Rattle.rcu_text.specs.Texts.{numbered_text}
use Rattle.rcu_text.specs.declared.line_shape.Line.{Line}
use Rattle.rcu_text.specs.declared.line_shape.Line.TheVariants.{Blank, Malformed, Ask}
use Rattle.rcu_script.specs.PairLines.{pair_asked_by}
use Rattle.rcu_script.specs.PairState.{Pair, after_event, other, own, pair_at, event_refusal}
use Rattle.rcu_script.specs.PairState.{event_reply, with_own}
use Rattle.rcu_script.specs.ScriptTexts.{text_of}
use Rattle.rcu_script.specs.declared.pair.event.PairAsk.{PairAsk}
use Rattle.rcu_script.specs.declared.pair.event.PairAsk.TheVariants.{Same, Of}
use Rattle.rcu_script.specs.declared.pair.event.PairReply.{PairReply}
use Rattle.rcu_script.specs.declared.pair.event.PairReply.TheVariants.{Begun, Answer, Departed}
use Rattle.rcu_script.specs.declared.pair.event.PairReply.TheVariants.{Ended, Awaits, Merged}

-- the processors of a set, ascending
abbrev pub members_of : List Bool → List ℕ
members_of set = which (length set) (is_in set)

-- the line of a reply of a replica that awaits this set
abbrev pub pair_text : List Bool → PairReply → List ℕ
pair_text awaited (Begun n cpus) = text_of (say.Begun n cpus)
pair_text awaited (Answer answer) = text_of (say.Answer answer)
pair_text awaited Departed = codes "departed\n"
pair_text awaited (Ended n) = text_of (say.Ended n)
pair_text awaited Awaits = text_of (say.Awaits (members_of awaited))
pair_text awaited (Merged n) = numbered_text (codes "merged ") n

-- the line that says whether both replicas await the same processors
abbrev pub compared_text : Bool → List ℕ
compared_text true = codes "same\n"
compared_text false = codes "differ\n"

-- the line that answers `same`
abbrev pub same_text : Pair → List ℕ
same_text p = compared_text (same_set p.a.awaited p.b.awaited)

-- the line of a fault, or else of the reply of a replica that awaits this set
abbrev pub outcome_text : Option Fault → List Bool → PairReply → List ℕ
outcome_text None awaited reply = pair_text awaited reply
outcome_text (Some fault) awaited reply = text_of (say.Fault fault)

-- the text that answers a line
abbrev pub answer_to_line : Pair → Line PairAsk → List ℕ
answer_to_line p Blank = []
answer_to_line p Malformed = text_of (say.Fault BadLine)
answer_to_line p (Ask Same) = same_text p
answer_to_line p (Ask (Of side event)) =
    let mine = own side p in let its = other side p in
    outcome_text (event_refusal mine its event) (after_event mine its event).awaited
    (event_reply mine its event)

-- the replica after an event: a refused one changes nothing
abbrev pub replica_after : Option Fault → Replicated → Replicated → Replicated
replica_after None mine left = left
replica_after (Some fault) mine left = mine

-- the pair after a line
abbrev pub pair_after_line : Pair → Line PairAsk → Pair
pair_after_line p (Ask (Of side event)) =
    let mine = own side p in let its = other side p in
    with_own side p (replica_after (event_refusal mine its event) mine (after_event mine its event))
pair_after_line p _ = p

-- the pair after lines
abbrev pub pair_after : Pair → List (List ℕ) → Pair
pair_after p [] = p
pair_after p (line ∷ lines) = pair_after (pair_after_line p (pair_asked_by line)) lines

-- the texts that answer the lines, one after another
abbrev pub pair_replies : Pair → List (List ℕ) → List ℕ
pair_replies p [] = []
pair_replies p (line ∷ lines) =
    answer_to_line p (pair_asked_by line)
    ++ pair_replies (pair_after_line p (pair_asked_by line)) lines

-- the text is the one right text of the lines, on two fresh replicas of a size
abbrev pub IsPairText : Size → List (List ℕ) → List ℕ → Type 0
IsPairText size lines text = text ≡ pair_replies (pair_at size) lines
