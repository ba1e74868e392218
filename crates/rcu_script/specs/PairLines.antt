-- The requests of a pair's lines.
use Rattle.std.specs.Prelude.{ℕ, List, [], ◌∷◌, codes, if◌then◌else◌, Option, Some, None}
use Rattle.std.specs.Str.{bytes_eq}
use Rattle.std.specs.Option.{option_map_or}
use Rattle.rcu_text.specs.Lines.{line_by}
use Rattle.rcu_text.specs.Words.{number_in_word}
use Rattle.rcu_text.specs.declared.line_shape.Line.{Line}
use Rattle.rcu_script.specs.ScriptLines.{cpu_of}
use Rattle.rcu_script.specs.declared.pair.event.Side.{Side}
use Rattle.rcu_script.specs.declared.pair.event.Side.TheVariants.{A, B}
use Rattle.rcu_script.specs.declared.pair.event.PairEvent.{PairEvent}
use Rattle.rcu_script.specs.declared.pair.event.PairEvent.TheVariants.{Begin, Report, Depart, End}
use Rattle.rcu_script.specs.declared.pair.event.PairEvent.TheVariants.{Awaits, Merge}
use Rattle.rcu_script.specs.declared.pair.event.PairAsk.{PairAsk}
use Rattle.rcu_script.specs.declared.pair.event.PairAsk.TheVariants.{Same, Of}

-- the replica of a name
abbrev pub side_of : List ℕ → Option Side
side_of name =
    if bytes_eq name (codes "a")
    then Some A
    else (if bytes_eq name (codes "b") then Some B else None)

-- a processor before those of the words behind it, if these are processors
abbrev pub before : ℕ → Option (List ℕ) → Option (List ℕ)
before cpu None = None
before cpu (Some cpus) = Some (cpu ∷ cpus)

-- the processors that words list, if each word is a number
abbrev pub named_cpus : List (List ℕ) → Option (List ℕ)
named_cpus [] = Some []
named_cpus (word ∷ words) =
    option_map_or (λ n. before (cpu_of n) (named_cpus words)) (number_in_word word) None

-- `begin` comes before one or more processors
abbrev pub begin_in_words : List (List ℕ) → Option PairEvent
begin_in_words words = option_map_or (λ cpus. Some (Begin cpus)) (named_cpus words) None

-- `depart` comes before exactly one processor
abbrev pub depart_in_words : List ℕ → List (List ℕ) → Option PairEvent
depart_in_words word [] = option_map_or (λ n. Some (Depart (cpu_of n))) (number_in_word word) None
depart_in_words word (more ∷ words) = None

-- `report` comes before a processor and a number
abbrev pub report_in_words : List ℕ → List (List ℕ) → Option PairEvent
report_in_words word [] = None
report_in_words word (tag ∷ []) =
    option_map_or (λ n. option_map_or (λ v. Some (Report (cpu_of n) v)) (number_in_word tag) None)
    (number_in_word word) None
report_in_words word (tag ∷ more ∷ words) = None

-- the event of a name without further words
abbrev pub pair_event_alone : List ℕ → Option PairEvent
pair_event_alone name =
    if bytes_eq name (codes "end") then Some End
    else (if bytes_eq name (codes "awaits") then Some Awaits
    else (if bytes_eq name (codes "merge") then Some Merge
    else None))

-- the event of a name and the words behind it: the name decides how many they are
abbrev pub pair_event_of : List ℕ → List (List ℕ) → Option PairEvent
pair_event_of name [] = pair_event_alone name
pair_event_of name (word ∷ words) =
    if bytes_eq name (codes "begin") then begin_in_words (word ∷ words)
    else (if bytes_eq name (codes "depart") then depart_in_words word words
    else (if bytes_eq name (codes "report") then report_in_words word words
    else None))

-- the request of a first word and the words behind it: `same` alone, or a replica's name before an
-- event's words
abbrev pub pair_ask_of : List ℕ → List (List ℕ) → Option PairAsk
pair_ask_of first [] = if bytes_eq first (codes "same") then Some Same else None
pair_ask_of first (name ∷ words) =
    option_map_or
    (λ side. option_map_or (λ event. Some (Of side event)) (pair_event_of name words) None)
    (side_of first) None

-- the request of a pair's line
abbrev pub pair_asked_by : List ℕ → Line PairAsk
pair_asked_by line = line_by pair_ask_of line
