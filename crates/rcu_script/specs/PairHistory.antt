-- The accepted calls of both replicas of a pair, by the lines so far.
use Rattle.std.specs.Prelude.{ℕ, List, [], ◌∷◌, Option, Some, None}
use Rattle.rcu_seq.specs.declared.fault.Fault.{Fault}
use Rattle.rcu_report.specs.History.{History}
use Rattle.rcu_report.specs.Replica.{Replicated, Call, cpus_of}
use Rattle.rcu_report.specs.Replica as call
use Rattle.rcu_core.specs.Replies.{Size}
use Rattle.rcu_text.specs.declared.line_shape.Line.{Line}
use Rattle.rcu_text.specs.declared.line_shape.Line.TheVariants.{Ask}
use Rattle.rcu_script.specs.PairLines.{pair_asked_by}
use Rattle.rcu_script.specs.PairState.{Pair, pair_at, event_refusal, set_of}
use Rattle.rcu_script.specs.PairTexts.{pair_after_line}
use Rattle.rcu_script.specs.declared.pair.event.Side.TheVariants.{A, B}
use Rattle.rcu_script.specs.declared.pair.event.PairEvent.{PairEvent}
use Rattle.rcu_script.specs.declared.pair.event.PairEvent.TheVariants.{Begin, Report, Depart, End}
use Rattle.rcu_script.specs.declared.pair.event.PairEvent.TheVariants.{Awaits, Merge}
use Rattle.rcu_script.specs.declared.pair.event.PairAsk.{PairAsk}
use Rattle.rcu_script.specs.declared.pair.event.PairAsk.TheVariants.{Of}

-- the call that an event makes of a replica of a pair; listing makes none
abbrev pub call_of : Replicated → Replicated → PairEvent → Option Call
call_of mine its (Begin cpus) = Some (call.Begin (set_of (cpus_of mine) cpus))
call_of mine its (Report cpu tag) = Some (call.Report cpu tag)
call_of mine its (Depart cpu) = Some (call.Depart cpu)
call_of mine its End = Some call.End
call_of mine its Awaits = None
call_of mine its Merge = Some (call.Merge its)

-- the calls so far, and one more if it is made and not refused
abbrev pub calls_with : Option Fault → Option Call → History → History
calls_with (Some fault) made h = h
calls_with None None h = h
calls_with None (Some made) h = made ∷ h

-- the accepted calls of both replicas, the newest first
pub record Calls : Type 0 where
  pub a : History
  pub b : History

-- the calls after a line
abbrev pub calls_after_line : Pair → Line PairAsk → Calls → Calls
calls_after_line p (Ask (Of A event)) c =
    record c { a = calls_with (event_refusal p.a p.b event) (call_of p.a p.b event) c.a }
calls_after_line p (Ask (Of B event)) c =
    record c { b = calls_with (event_refusal p.b p.a event) (call_of p.b p.a event) c.b }
calls_after_line p _ c = c

-- the calls after lines
abbrev pub calls_after : Pair → List (List ℕ) → Calls → Calls
calls_after p [] c = c
calls_after p (line ∷ lines) c =
    calls_after (pair_after_line p (pair_asked_by line)) lines
    (calls_after_line p (pair_asked_by line) c)

-- the accepted calls that lines make on two fresh replicas of a size
abbrev pub calls_of : Size → List (List ℕ) → Calls
calls_of size lines = calls_after (pair_at size) lines (record { a = []; b = [] })
