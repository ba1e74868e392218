-- The events of a script's lines.
use Rattle.std.specs.Prelude.{ℕ, ◌-◌, ◌^◌, List, [], ◌∷◌, min, codes, if◌then◌else◌, Option, Some}
use Rattle.std.specs.Prelude.{None}
use Rattle.std.specs.Str.{bytes_eq}
use Rattle.std.specs.Option.{option_map_or}
use Rattle.rcu_core.specs.declared.event.Event.{Event}
use Rattle.rcu_core.specs.declared.event.Event.TheVariants.{Enter, Exit, Note, Quiesce, Deliver}
use Rattle.rcu_core.specs.declared.event.Event.TheVariants.{Online, Offline, Begin, End, Turn}
use Rattle.rcu_core.specs.declared.event.Event.TheVariants.{Awaits, Take, StartPoll, Poll, Queue}
use Rattle.rcu_core.specs.declared.event.Event.TheVariants.{Tend, Run, BarBegin, Visit, BarTest}
use Rattle.rcu_core.specs.declared.event.Event.TheVariants.{Renumber, Idle, Wake, Scan}
use Rattle.rcu_text.specs.Lines.{line_by}
use Rattle.rcu_text.specs.Words.{number_in_word}
use Rattle.rcu_text.specs.declared.line_shape.Line.{Line}

-- the processor of a number: a number that does not fit 32 bits is no processor, like the greatest
-- that does
abbrev pub cpu_of : ℕ → ℕ
cpu_of n = min n (2 ^ 32 - 1)

-- the event of a name without further words
abbrev pub event_alone : List ℕ → Option Event
event_alone name =
    if bytes_eq name (codes "begin") then Some Begin
    else (if bytes_eq name (codes "end") then Some End
    else (if bytes_eq name (codes "turn") then Some Turn
    else (if bytes_eq name (codes "awaits") then Some Awaits
    else (if bytes_eq name (codes "take") then Some Take
    else (if bytes_eq name (codes "start") then Some StartPoll
    else (if bytes_eq name (codes "bar") then Some BarBegin
    else (if bytes_eq name (codes "bartest") then Some BarTest
    else (if bytes_eq name (codes "renumber") then Some Renumber
    else None))))))))

-- the event of a name and a processor
abbrev pub event_with_cpu : List ℕ → ℕ → Option Event
event_with_cpu name cpu =
    if bytes_eq name (codes "enter") then Some (Enter cpu)
    else (if bytes_eq name (codes "exit") then Some (Exit cpu)
    else (if bytes_eq name (codes "note") then Some (Note cpu)
    else (if bytes_eq name (codes "quiet") then Some (Quiesce cpu)
    else (if bytes_eq name (codes "online") then Some (Online cpu)
    else (if bytes_eq name (codes "offline") then Some (Offline cpu)
    else (if bytes_eq name (codes "tend") then Some (Tend cpu)
    else (if bytes_eq name (codes "visit") then Some (Visit cpu)
    else (if bytes_eq name (codes "idle") then Some (Idle cpu)
    else (if bytes_eq name (codes "wake") then Some (Wake cpu)
    else (if bytes_eq name (codes "scan") then Some (Scan cpu)
    else None))))))))))

-- the event of a name and a number: a report's place, the number of a cookie of the first epoch, or
-- else a processor
abbrev pub event_with_number : List ℕ → ℕ → Option Event
event_with_number name n =
    if bytes_eq name (codes "deliver") then Some (Deliver n)
    else (if bytes_eq name (codes "poll") then Some (Poll n 0)
    else event_with_cpu name (cpu_of n))

-- the event of a name and a word, which has to be a number
abbrev pub event_with_word : List ℕ → List ℕ → Option Event
event_with_word name word = option_map_or (event_with_number name) (number_in_word word) None

-- the event of a name and two numbers: a processor and a callback's value, a processor and how many
-- run at most, or a cookie's number and its epoch
abbrev pub event_with_numbers : List ℕ → ℕ → ℕ → Option Event
event_with_numbers name first second =
    if bytes_eq name (codes "queue") then Some (Queue (cpu_of first) second)
    else (if bytes_eq name (codes "run") then Some (Run (cpu_of first) second)
    else (if bytes_eq name (codes "poll") then Some (Poll first second)
    else None))

-- the event of a name and two words, which have to be numbers
abbrev pub event_with_words : List ℕ → List ℕ → List ℕ → Option Event
event_with_words name word next =
    option_map_or
    (λ first. option_map_or (event_with_numbers name first) (number_in_word next) None)
    (number_in_word word) None

-- the event of a name and the words behind it: the name decides how many they are
abbrev pub event_of : List ℕ → List (List ℕ) → Option Event
event_of name [] = event_alone name
event_of name (word ∷ []) = event_with_word name word
event_of name (word ∷ next ∷ []) = event_with_words name word next
event_of name (word ∷ next ∷ more ∷ words) = None

-- the event that a line asks for
abbrev pub asked_by : List ℕ → Line Event
asked_by line = line_by event_of line
