-- A line that asks for an event is printable, so its bytes need no test of their own.
use Rattle.std.proofs.Common.{◌≡◌, ◌≤◌, ◌&&◌, ◌∙◌, ℕ, Bool, true, List, [], ◌∷◌, length, Option}
use Rattle.std.proofs.Common.{Some, None, refl, sym, ap, arith}
use Rattle.std.specs.List.{list_all}
use Rattle.std.specs.Option.{option_map_or}
use Rattle.std.specs.Prelude.{codes, nat_le}
use Rattle.std.proofs.lemmas.Bool.Decides.{nat_tests}
use Rattle.rcu_core.specs.declared.event.Event.{Event}
use Rattle.rcu_text.specs.Lines.{is_well_formed}
use Rattle.rcu_text.specs.Words.{number_in_word, words_of}
use Rattle.rcu_text.specs.declared.line_shape.Line.TheVariants.{Blank, Ask}
use Rattle.rcu_text.proofs.CallerLemmas.{is_word, named, number_printable, words_printable}
use Rattle.rcu_script.specs.ScriptLines.{asked_by, cpu_of, event_alone, event_of, event_with_cpu}
use Rattle.rcu_script.specs.ScriptLines.{event_with_number, event_with_numbers}

-- ---- names

name_alone : (name : List ℕ) (e : Event) → event_alone name ≡ Some e → is_word name ≡ true
name_alone name e found =
    named e (codes "begin") name _ _ refl
    (named e (codes "end") name _ _ refl
    (named e (codes "turn") name _ _ refl
    (named e (codes "awaits") name _ _ refl
    (named e (codes "take") name _ _ refl
    (named e (codes "start") name _ _ refl
    (named e (codes "bar") name _ _ refl
    (named e (codes "bartest") name _ _ refl
    (named e (codes "renumber") name _ _ refl (λ none. cc))))))))) found

name_with_cpu : (name : List ℕ) (cpu : ℕ) (e : Event) → event_with_cpu name cpu ≡ Some e
    → is_word name ≡ true
name_with_cpu name cpu e found =
    named e (codes "enter") name _ _ refl
    (named e (codes "exit") name _ _ refl
    (named e (codes "note") name _ _ refl
    (named e (codes "quiet") name _ _ refl
    (named e (codes "online") name _ _ refl
    (named e (codes "offline") name _ _ refl
    (named e (codes "tend") name _ _ refl
    (named e (codes "visit") name _ _ refl
    (named e (codes "idle") name _ _ refl
    (named e (codes "wake") name _ _ refl
    (named e (codes "scan") name _ _ refl (λ none. cc))))))))))) found

name_with_number : (name : List ℕ) (n : ℕ) (e : Event) → event_with_number name n ≡ Some e
    → is_word name ≡ true
name_with_number name n e found =
    named e (codes "deliver") name _ _ refl
    (named e (codes "poll") name _ _ refl (λ later. name_with_cpu name (cpu_of n) e later)) found

name_with_numbers : (name : List ℕ) (first second : ℕ) (e : Event)
    → event_with_numbers name first second ≡ Some e → is_word name ≡ true
name_with_numbers name first second e found =
    named e (codes "queue") name _ _ refl
    (named e (codes "run") name _ _ refl
    (named e (codes "poll") name _ _ refl (λ none. cc))) found

-- ---- words

both : (a b : Bool) → a ≡ true → b ≡ true → (a && b) ≡ true
both a b p q = rw (p, q) refl

with_word : (name word : List ℕ) (e : Event) (o : Option ℕ) → number_in_word word ≡ o
    → option_map_or (event_with_number name) o None ≡ Some e
    → list_all is_word (name ∷ word ∷ []) ≡ true
with_word name word e None is found = cc
with_word name word e (Some n) is found =
    both (is_word name) _ (name_with_number name n e found)
    (both (is_word word) true (number_printable word n is) refl)

with_next : (name word next : List ℕ) (first : ℕ) (e : Event) (o : Option ℕ)
    → number_in_word word ≡ Some first
    → number_in_word next ≡ o
    → option_map_or (event_with_numbers name first) o None ≡ Some e
    → list_all is_word (name ∷ word ∷ next ∷ []) ≡ true
with_next name word next first e None is later found = cc
with_next name word next first e (Some second) is later found =
    both (is_word name) _ (name_with_numbers name first second e found)
    (both (is_word word) _ (number_printable word first is)
    (both (is_word next) true (number_printable next second later) refl))

with_words : (name word next : List ℕ) (e : Event) (o : Option ℕ)
    → number_in_word word ≡ o
    → option_map_or
    (λ first. option_map_or (event_with_numbers name first) (number_in_word next) None) o None
    ≡ Some e
    → list_all is_word (name ∷ word ∷ next ∷ []) ≡ true
with_words name word next e None is found = cc
with_words name word next e (Some first) is found =
    with_next name word next first e (number_in_word next) is refl found

event_words : (name : List ℕ) (words : List (List ℕ)) (e : Event) → event_of name words ≡ Some e
    → list_all is_word (name ∷ words) ≡ true
event_words name [] e found = both (is_word name) true (name_alone name e found) refl
event_words name (word ∷ []) e found = with_word name word e (number_in_word word) refl found
event_words name (word ∷ next ∷ []) e found =
    with_words name word next e (number_in_word word) refl found
event_words name (word ∷ next ∷ more ∷ words) e found = cc

-- ---- lines

well_formed : (line : List ℕ) → length line ≤ 80 → list_all is_word (words_of line) ≡ true
    → is_well_formed line ≡ true
well_formed line short printable =
    let a : nat_le (length line) 80 ≡ true = grind (arith, nat_tests) in
    both _ _ a (words_printable line ∙ printable)

-- a short line that has no word is blank
pub blank : (line : List ℕ) → length line ≤ 80 → words_of line ≡ [] → Blank ≡ asked_by line
blank line short none =
    let w = well_formed line short (ap (list_all is_word) none) in
    rw (w, none) refl

-- a short line whose words are an event's asks for it
pub asks : (line name : List ℕ) (words : List (List ℕ)) (e : Event)
    → length line ≤ 80 → words_of line ≡ name ∷ words → Some e ≡ event_of name words
    → Ask e ≡ asked_by line
asks line name words e short split found =
    let w =
    well_formed line short (ap (list_all is_word) split ∙ event_words name words e (sym found)) in
    rw (w, split, ← found) refl
