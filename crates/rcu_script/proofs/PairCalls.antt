-- Both replicas are as their accepted calls define them.
use Rattle.std.proofs.Common.{◌≡◌, ℕ, Bool, true, false, not, List, [], ◌∷◌, Option, Some, None}
use Rattle.std.proofs.Common.{refl, ap, ◌∙◌, subst, codes, if◌then◌else◌}
use Rattle.std.specs.List.{list_all}
use Rattle.std.specs.Prelude.{nat_lt}
use Rattle.rcu_seq.specs.Numbers.{Number}
use Rattle.rcu_seq.specs.declared.fault.Fault.{Fault}
use Rattle.rcu_seq.specs.declared.fault.Fault.TheVariants.{BadCpu}
use Rattle.rcu_node.specs.Merging.{same_set}
use Rattle.rcu_report.specs.History.{History, AreAccepted, after_calls}
use Rattle.rcu_report.specs.Replica.{CanBeMade, Call, Replicated, cpus_of, after_call, refusal}
use Rattle.rcu_report.specs.Replica as call
use Rattle.rcu_core.specs.Replies.{Size}
use Rattle.rcu_text.specs.declared.line_shape.Line.{Line}
use Rattle.rcu_text.specs.declared.line_shape.Line.TheVariants.{Blank, Malformed, Ask}
use Rattle.rcu_script.specs.PairLines.{pair_asked_by}
use Rattle.rcu_script.specs.PairHistory.{Calls, call_of, calls_after, calls_after_line, calls_of}
use Rattle.rcu_script.specs.PairHistory.{calls_with}
use Rattle.rcu_script.specs.PairState.{Pair, after_event, pair_at, event_refusal, set_of}
use Rattle.rcu_script.specs.PairTexts.{compared_text, pair_after, pair_after_line, replica_after}
use Rattle.rcu_script.specs.declared.pair.event.Side.TheVariants.{A, B}
use Rattle.rcu_script.specs.declared.pair.event.PairEvent.{PairEvent}
use Rattle.rcu_script.specs.declared.pair.event.PairEvent.TheVariants.{Begin, Report, Depart, End}
use Rattle.rcu_script.specs.declared.pair.event.PairEvent.TheVariants.{Awaits, Merge}
use Rattle.rcu_script.specs.declared.pair.event.PairAsk.{PairAsk}
use Rattle.rcu_script.specs.declared.pair.event.PairAsk.TheVariants.{Same, Of}
use Rattle.rcu_node.proofs.CpuSetLemmas.{length-listed, same_when_all_agree}

-- a replica is as its calls define it, and each of them was accepted
pub record IsMade (cpus : ℕ) (last : Number) (r : Replicated) (h : History) : Type 0 where
  pub is : r ≡ after_calls cpus last h
  pub accepted : AreAccepted cpus last h

-- with one call more, if that is accepted
one_more : (cpus : ℕ) (last : Number) (mine left : Replicated) (made : Call)
    (refused : Option Fault) (h : History)
    → IsMade cpus last mine h
    → left ≡ after_call mine made
    → CanBeMade mine made
    → (refused ≡ None → refusal mine made ≡ None)
    → IsMade cpus last (replica_after refused mine left) (calls_with refused (Some made) h)
one_more cpus last mine left made None h m e can allowed = record {
  is = e ∙ ap (λ (r : Replicated). after_call r made) m.is;
  accepted = (
    subst (λ (r : Replicated). CanBeMade r made) m.is can,
    subst
        (λ (r : Replicated). refusal r made ≡ None) m.is (allowed refl),
    m.accepted,
  );
}
one_more cpus last mine left made (Some fault) h m e can allowed = m

begin_allowed : (all : Bool) (o : Option Fault) → (if not all then Some BadCpu else o) ≡ None
    → o ≡ None
begin_allowed true o e = e
begin_allowed false o e = cc

one_event : (cpus : ℕ) (last : Number) (mine its : Replicated) (event : PairEvent) (h : History)
    → IsMade cpus last mine h
    → IsMade cpus last
    (replica_after (event_refusal mine its event) mine (after_event mine its event))
    (calls_with (event_refusal mine its event) (call_of mine its event) h)
one_event cpus last mine its (Begin listed) h m =
    one_more cpus last mine _ (call.Begin (set_of (cpus_of mine) listed)) _ h m refl
    (length-listed (cpus_of mine) _)
    (begin_allowed (list_all (λ c. nat_lt c (cpus_of mine)) listed) _)
one_event cpus last mine its (Report cpu tag) h m =
    one_more cpus last mine _ (call.Report cpu tag) _ h m refl tt (λ e. e)
one_event cpus last mine its (Depart cpu) h m =
    one_more cpus last mine _ (call.Depart cpu) _ h m refl tt (λ e. e)
one_event cpus last mine its End h m = one_more cpus last mine _ call.End _ h m refl tt (λ e. e)
one_event cpus last mine its Awaits h m = m
one_event cpus last mine its Merge h m =
    one_more cpus last mine _ (call.Merge its) _ h m refl tt (λ e. e)

-- both replicas
pub record AreMade (size : Size) (p : Pair) (c : Calls) : Type 0 where
  pub first : IsMade size.cpus size.last p.a c.a
  pub second : IsMade size.cpus size.last p.b c.b

one_line : (size : Size) (p : Pair) (asked : Line PairAsk) (c : Calls) → AreMade size p c
    → AreMade size (pair_after_line p asked) (calls_after_line p asked c)
one_line size p Blank c m = m
one_line size p Malformed c m = m
one_line size p (Ask Same) c m = m
one_line size p (Ask (Of A event)) c m = record {
  first = one_event size.cpus size.last p.a p.b event c.a m.first;
  second = m.second;
}
one_line size p (Ask (Of B event)) c m = record {
  first = m.first;
  second = one_event size.cpus size.last p.b p.a event c.b m.second;
}

all_lines : (size : Size) (p : Pair) (lines : List (List ℕ)) (c : Calls) → AreMade size p c
    → AreMade size (pair_after p lines) (calls_after p lines c)
all_lines size p [] c m = m
all_lines size p (line ∷ lines) c m =
    all_lines size (pair_after_line p (pair_asked_by line)) lines _
    (one_line size p (pair_asked_by line) c m)

-- so after lines on two fresh replicas
pub are_made : (size : Size) (lines : List (List ℕ))
    → AreMade size (pair_after (pair_at size) lines) (calls_of size lines)
are_made size lines =
    all_lines size _ lines (record { a = []; b = [] })
    (record {
      first = record { is = refl; accepted = tt };
      second = record { is = refl; accepted = tt };
    })

-- equal sets are answered by `same`
pub equal_sets_are_same : (a b : List Bool) → a ≡ b → compared_text (same_set a b) ≡ codes "same\n"
equal_sets_are_same a b e =
    ap compared_text
    (subst (λ (s : List Bool). same_set a s ≡ true) e
    (same_when_all_agree a a refl (λ cpu l. refl)))
