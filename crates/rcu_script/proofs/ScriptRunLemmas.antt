-- An answer of a script is a legal run, and answers in turn.
use Rattle.std.proofs.Common.{◌≡◌, ℕ, suc, List, [], ◌∷◌, ◌++◌, length, map, refl, sym, ap, ap₂}
use Rattle.std.proofs.Common.{◌∙◌, arith, append_assoc, subst}
use Rattle.rcu_seq.specs.declared.fault.Fault.TheVariants as fault
use Rattle.rcu_core.specs.History.{History}
use Rattle.rcu_core.specs.Links.{onto}
use Rattle.rcu_core.specs.Replies.{IsLegalReply, Size, with_event}
use Rattle.rcu_core.specs.Runs.{IsLegalRun, Run, history}
use Rattle.rcu_core.specs.Situation.{situation}
use Rattle.rcu_core.specs.declared.event.Event.{Event}
use Rattle.rcu_core.specs.declared.reply.Reply.{Reply}
use Rattle.rcu_core.specs.declared.reply.Reply.TheVariants as reply
use Rattle.rcu_text.specs.declared.line_shape.Line.{Line}
use Rattle.rcu_text.specs.declared.line_shape.Line.TheVariants.{Ask, Blank, Malformed}
use Rattle.rcu_script.specs.ScriptAnswers.{Answers, AnswersLine}
use Rattle.rcu_script.specs.ScriptLines.{asked_by}
use Rattle.rcu_script.specs.ScriptTexts.{text_of}
use Rattle.rcu_script.specs.ScriptRuns.{AnswersInTurn, IsPrintedRun, events_of, text_of_replies}

-- ---- answers go on from a legal run

-- a legal run whose history is this one
pub record LegalRunTo (size : Size) (end : History) : Type 0 where
  pub run : Run
  pub legal : IsLegalRun size run
  pub reached : history run ≡ end

-- a legal run that continues another one, to this history
pub record LegalRunFrom (size : Size) (earlier : Run) (end : History) : Type 0 where
  pub later : Run
  pub legal : IsLegalRun size (later ++ earlier)
  pub reached : history (later ++ earlier) ≡ end

-- the empty continuation of a run
no_further : (size : Size) (earlier : Run) (h : History)
    → IsLegalRun size earlier → history earlier ≡ h → LegalRunFrom size earlier h
no_further size earlier h legal reached = record { later = []; legal = legal; reached = reached }

-- a continuation of a continued run
further_still : (size : Size) (earlier more : Run) (end : History)
    → LegalRunFrom size (more ++ earlier) end → LegalRunFrom size earlier end
further_still size earlier more end from =
    let same = append_assoc from.later more earlier in
    record {
      later = from.later ++ more;
      legal = subst (IsLegalRun size) (sym same) from.legal;
      reached = ap history same ∙ from.reached;
    }

-- a line
pub line_further : (size : Size) (earlier : Run) (h : History) (line : Line Event) (text : List ℕ)
    (next : History)
    → IsLegalRun size earlier
    → history earlier ≡ h
    → AnswersLine size h line text next
    → LegalRunFrom size earlier next
line_further size earlier h Blank text next legal reached a =
    no_further size earlier next legal (reached ∙ sym a.1)
line_further size earlier h Malformed text next legal reached a =
    no_further size earlier next legal (reached ∙ sym a.1)
line_further size earlier h (Ask event) text next legal reached a = record {
  later = (event, a.0) ∷ [];
  legal = (
    subst (λ (g : History). IsLegalReply size (situation g) event a.0) (sym reached) a.1,
    legal,
  );
  reached = ap (λ (g : History). with_event g event a.0) reached ∙ sym a.3;
}

-- lines
pub lines_further : (size : Size) (earlier : Run) (h end : History) (lines : List (List ℕ))
    (text : List ℕ)
    → IsLegalRun size earlier
    → history earlier ≡ h
    → Answers size h lines text end
    → LegalRunFrom size earlier end
lines_further size earlier h end [] text legal reached a =
    no_further size earlier end legal (reached ∙ sym a.1)
lines_further size earlier h end (line ∷ lines) text legal reached a =
    let one = line_further size earlier h (asked_by line) a.0 a.1 legal reached a.3 in
    further_still size earlier one.later end
    (lines_further size (one.later ++ earlier) a.1 end lines a.2 one.legal one.reached a.5)

pub lines_from_first : (size : Size) (lines : List (List ℕ)) (text : List ℕ) (end : History)
    → Answers size [] lines text end → LegalRunTo size end
lines_from_first size lines text end a =
    let from = lines_further size [] [] end lines text tt refl a in
    record { run = from.later ++ []; legal = from.legal; reached = from.reached }

-- ---- answers are printed runs

-- a line before others that are answered by a printed run, whichever run that continues
line_printed : (size : Size) (earlier : Run) (h next end : History) (line : Line Event)
    (lines : List (Line Event)) (first rest : List ℕ)
    → IsLegalRun size earlier
    → history earlier ≡ h
    → AnswersLine size h line first next
    → ((run : Run) → IsLegalRun size run → history run ≡ next → IsPrintedRun size run lines rest
    end)
    → IsPrintedRun size earlier (line ∷ lines) (first ++ rest) end
line_printed size earlier h next end Blank lines first rest legal reached a more =
    let run = more earlier legal (reached ∙ sym a.1) in
    record {
      replies = run.replies;
      each = run.each;
      legal = run.legal;
      reached = run.reached;
      printed = ap (λ (l : List ℕ). l ++ rest) a.0 ∙ run.printed;
    }
line_printed size earlier h next end Malformed lines first rest legal reached a more =
    let run = more earlier legal (reached ∙ sym a.1) in
    record {
      replies = run.replies;
      each = run.each;
      legal = run.legal;
      reached = run.reached;
      printed = ap₂ (λ (k l : List ℕ). k ++ l) a.0 run.printed;
    }
line_printed size earlier h next end (Ask event) lines first rest legal reached a more =
    let run = more ((event, a.0) ∷ earlier)
    (subst (λ (g : History). IsLegalReply size (situation g) event a.0) (sym reached) a.1, legal)
    (ap (λ (g : History). with_event g event a.0) reached ∙ sym a.3) in
    record {
      replies = a.0 ∷ run.replies;
      each = ap (λ n. suc n) run.each;
      legal = run.legal;
      reached = run.reached;
      printed = ap₂ (λ (k l : List ℕ). k ++ l) a.2 run.printed;
    }

-- lines
pub lines_printed : (size : Size) (earlier : Run) (h end : History) (lines : List (List ℕ))
    (text : List ℕ)
    → IsLegalRun size earlier
    → history earlier ≡ h
    → Answers size h lines text end
    → IsPrintedRun size earlier (map asked_by lines) text end
lines_printed size earlier h end [] text legal reached a =
    record { replies = []; each = refl; legal = legal; reached = reached ∙ sym a.1; printed = a.0 }
lines_printed size earlier h end (line ∷ lines) text legal reached a =
    subst (λ t. IsPrintedRun size earlier (asked_by line ∷ map asked_by lines) t end) (sym a.4)
    (line_printed size earlier h a.1 end (asked_by line) (map asked_by lines) a.0 a.2 legal reached
    a.3 (λ run legal' reached'. lines_printed size run a.1 end lines a.2 legal' reached' a.5))

pub first_lines_printed : (size : Size) (lines : List (List ℕ)) (text : List ℕ) (end : History)
    → Answers size [] lines text end → IsPrintedRun size [] (map asked_by lines) text end
first_lines_printed size lines text end a = lines_printed size [] [] end lines text tt refl a

-- a run that a legal one continues is legal
legal_before : (size : Size) (events : List Event) (replies : List Reply) (run : Run)
    → IsLegalRun size (onto events replies run) → IsLegalRun size run
legal_before size [] replies run legal = legal
legal_before size (e ∷ events) [] run legal = legal
legal_before size (e ∷ events) (r ∷ replies) run legal =
    (legal_before size events replies ((e, r) ∷ run) legal).1

-- the answer to the first of some lines, and the run that continues it
record PrintedFirst (size : Size) (h : History) (line : Line Event) (lines : List (Line Event))
    (text : List ℕ) (end : History) : Type 0 where
  pub first : List ℕ
  pub next : History
  pub rest : List ℕ
  pub answers : AnswersLine size h line first next
  pub is : text ≡ first ++ rest
  pub run : Run
  pub reached : history run ≡ next
  pub more : IsPrintedRun size run lines rest end

asked_first : (size : Size) (earlier : Run) (h end : History) (event : Event)
    (lines : List (Line Event)) (text : List ℕ) (replies : List Reply)
    → history earlier ≡ h
    → length replies ≡ suc (length (events_of lines))
    → IsLegalRun size (onto (event ∷ events_of lines) replies earlier)
    → history (onto (event ∷ events_of lines) replies earlier) ≡ end
    → text ≡ text_of_replies (Ask event ∷ lines) replies
    → PrintedFirst size h (Ask event) lines text end
asked_first size earlier h end event lines text [] reached each legal to is =
    absurd (omega (arith, each))
asked_first size earlier h end event lines text (r ∷ replies) reached each legal to is = record {
  first = text_of r;
  next = with_event h event r;
  rest = text_of_replies lines replies;
  answers = (
    r,
    subst (λ (g : History). IsLegalReply size (situation g) event r) reached
        (legal_before size (events_of lines) replies ((event, r) ∷ earlier) legal).0,
    refl,
    refl,
  );
  is = is;
  run = (event, r) ∷ earlier;
  reached = ap (λ (g : History). with_event g event r) reached;
  more = record {
    replies = replies;
    each = omega (arith, each);
    legal = legal;
    reached = to;
    printed = refl;
  };
}

printed_first : (size : Size) (earlier : Run) (h end : History) (line : Line Event)
    (lines : List (Line Event)) (text : List ℕ)
    → history earlier ≡ h
    → IsPrintedRun size earlier (line ∷ lines) text end
    → PrintedFirst size h line lines text end
printed_first size earlier h end Blank lines text reached run = record {
  first = [];
  next = h;
  rest = text;
  answers = (refl, refl);
  is = refl;
  run = earlier;
  reached = reached;
  more = record {
    replies = run.replies;
    each = run.each;
    legal = run.legal;
    reached = run.reached;
    printed = run.printed;
  };
}
printed_first size earlier h end Malformed lines text reached run = record {
  first = text_of (reply.Fault fault.BadLine);
  next = h;
  rest = text_of_replies lines run.replies;
  answers = (refl, refl);
  is = run.printed;
  run = earlier;
  reached = reached;
  more = record {
    replies = run.replies;
    each = run.each;
    legal = run.legal;
    reached = run.reached;
    printed = refl;
  };
}
printed_first size earlier h end (Ask event) lines text reached run =
    asked_first size earlier h end event lines text run.replies reached run.each run.legal
    run.reached run.printed

-- and a printed run is an answer
pub printed_answers : (size : Size) (earlier : Run) (h end : History) (lines : List (List ℕ))
    (text : List ℕ)
    → history earlier ≡ h
    → IsPrintedRun size earlier (map asked_by lines) text end
    → Answers size h lines text end
printed_answers size earlier h end [] text reached run = (run.printed, sym run.reached ∙ reached)
printed_answers size earlier h end (line ∷ lines) text reached run =
    let one =
    printed_first size earlier h end (asked_by line) (map asked_by lines) text reached run in (
      one.first,
      one.next,
      one.rest,
      one.answers,
      one.is,
      printed_answers size one.run one.next end lines one.rest one.reached one.more,
    )

-- ---- answers in turn

pub answered_in_turn : (size : Size) (h : History) (lines later : List (List ℕ)) (text : List ℕ)
    (end : History)
    → Answers size h (lines ++ later) text end
    → AnswersInTurn size h lines later text end
answered_in_turn size h [] later text end a = record {
  first = [];
  between = h;
  second = text;
  is = refl;
  answers_first = (refl, refl);
  answers_second = a;
}
answered_in_turn size h (line ∷ lines) later text end a =
    let rest = answered_in_turn size a.1 lines later a.2 end a.5 in
    record {
      first = a.0 ++ rest.first;
      between = rest.between;
      second = rest.second;
      is =
          a.4
          ∙ ap (λ (l : List ℕ). a.0 ++ l) rest.is
          ∙ sym (append_assoc a.0 rest.first rest.second);
      answers_first = (a.0, a.1, rest.first, a.3, refl, rest.answers_first);
      answers_second = rest.answers_second;
    }

both_answered : (size : Size) (h : History) (lines later : List (List ℕ)) (first second : List ℕ)
    (between end : History)
    → Answers size h lines first between
    → Answers size between later second end
    → Answers size h (lines ++ later) (first ++ second) end
both_answered size h [] later first second between end a b = rw (a.0, ← a.1) b
both_answered size h (line ∷ lines) later first second between end a b = (
  a.0,
  a.1,
  a.2 ++ second,
  a.3,
  ap (λ (l : List ℕ). l ++ second) a.4 ∙ append_assoc a.0 a.2 second,
  both_answered size a.1 lines later a.2 second between end a.5 b,
)

pub answered_together : (size : Size) (h : History) (lines later : List (List ℕ)) (text : List ℕ)
    (end : History)
    → AnswersInTurn size h lines later text end
    → Answers size h (lines ++ later) text end
answered_together size h lines later text end a =
    subst (λ (l : List ℕ). Answers size h (lines ++ later) l end) (sym a.is)
    (both_answered size h lines later a.first a.second a.between end a.answers_first
    a.answers_second)
