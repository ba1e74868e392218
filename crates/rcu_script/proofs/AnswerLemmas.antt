-- One line more is answered.
use Rattle.std.proofs.Common.{◌≡◌, ℕ, List, [], ◌∷◌, ◌++◌, refl, sym, ap, ◌∙◌, subst, append_assoc}
use Rattle.std.proofs.Common.{append-nil}
use Rattle.rcu_core.specs.History.{History}
use Rattle.rcu_core.specs.Replies.{Size}
use Rattle.rcu_core.specs.declared.event.Event.{Event}
use Rattle.rcu_script.specs.ScriptAnswers.{Answers, AnswersLine}
use Rattle.rcu_script.specs.ScriptLines.{asked_by, event_of}
use Rattle.rcu_text.specs.Lines.{kept_of}
use Rattle.rcu_text.specs.declared.line_shape.Line.{Line}
use Rattle.rcu_text.proofs.CallerLemmas.{line_alike}

-- one line more is answered behind the others
pub answers_more : (size : Size) (h : History) (lines : List (List ℕ)) (text : List ℕ)
    (mid : History) (line reply : List ℕ) (next : History)
    → Answers size h lines text mid
    → AnswersLine size mid (asked_by line) reply next
    → Answers size h (lines ++ line ∷ []) (text ++ reply) next
answers_more size h [] text mid line reply next a b = (
  reply,
  next,
  [],
  subst (λ (m : History). AnswersLine size m (asked_by line) reply next) a.1 b,
  ap
      (λ (t : List ℕ). t ++ reply) a.0 ∙ sym (append-nil reply),
  (refl, refl),
)
answers_more size h (l ∷ ls) text mid line reply next a b = (
  a.0,
  a.1,
  a.2 ++ reply,
  a.3,
  ap (λ (t : List ℕ). t ++ reply) a.4
      ∙ append_assoc a.0 a.2 reply,
  answers_more size a.1 ls a.2 mid line reply next a.5 b,
)

-- an answer to a line answers each line with the same kept bytes
pub said_to : (size : Size) (h : History) (line whole reply : List ℕ) (next : History)
    (asked : Line Event)
    → kept_of line ≡ kept_of whole
    → asked ≡ asked_by line
    → AnswersLine size h asked reply next
    → AnswersLine size h (asked_by whole) reply next
said_to size h line whole reply next asked alike is a =
    subst (λ (l : Line Event). AnswersLine size h l reply next)
    (is ∙ line_alike event_of line whole alike) a
