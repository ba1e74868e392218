-- The numbers that calls return to C.
use Rattle.std.specs.Prelude.{ℕ, Bool, ◌==◌, if◌then◌else◌, Option, Some, None}
use Rattle.rcu_seq.specs.Fault.{fault_number}
use Rattle.rcu_seq.specs.declared.cookie.Cookie.{Cookie}
use Rattle.rcu_seq.specs.declared.fault.Fault.{Fault}
use Rattle.rcu_barrier.specs.declared.lists.BarrierState.{BarrierState}
use Rattle.rcu_barrier.specs.declared.lists.BarrierState.TheVariants as state
use Rattle.rcu_barrier.specs.declared.lists.Visit.{Visit}
use Rattle.rcu_barrier.specs.declared.lists.Visit.TheVariants as visit
use Rattle.rcu_state.specs.declared.gp_state.Turned.{Turned}
use Rattle.rcu_state.specs.declared.gp_state.Turned.TheVariants as turned
use Rattle.rcu_live.specs.declared.grace_periods.Collected.{Collected}
use Rattle.rcu_live.specs.declared.grace_periods.Collected.TheVariants as collected
use Rattle.rcu_graph.specs.declared.not_opened.NotOpened.{NotOpened}
use Rattle.rcu_graph.specs.declared.not_opened.NotOpened.TheVariants as not_opened
use Rattle.rcu_c.specs.declared.grace_periods.Turn.{Turn}
use Rattle.rcu_c.specs.declared.refusal.Refusal.{Refusal}
use Rattle.rcu_c.specs.declared.refusal.Refusal.TheVariants.{Engine, SeatDealt, OtherEngine, Closed}
use Rattle.rcu_c.specs.declared.refusal.Refusal.TheVariants.{OtherKind, BadSizes, BadKey, MapFull}
use Rattle.rcu_c.specs.declared.refusal.Refusal.TheVariants.{BadWords, EntryChanged}

-- the number of a refusal, 0 if there is none
abbrev pub number_for : Option Fault → ℕ
number_for None = 0
number_for (Some fault) = fault_number fault

-- the number that a call returned, but 0 if memory was refused: the number that all other causes
-- determine
abbrev pub tested_number : ℕ → ℕ
tested_number result = if result == 16 then 0 else result

-- the number of a refusal of C's own, or of the engine's fault
abbrev pub refusal_number : Refusal → ℕ
refusal_number (Engine fault) = fault_number fault
refusal_number SeatDealt = 25
refusal_number OtherEngine = 26
refusal_number Closed = 27
refusal_number OtherKind = 28
refusal_number BadSizes = 29
refusal_number BadKey = 30
refusal_number MapFull = 31
refusal_number BadWords = 32
refusal_number EntryChanged = 33

-- why a map is not opened
abbrev pub refusal_of : NotOpened → Refusal
refusal_of not_opened.BadSizes = BadSizes
refusal_of (not_opened.Fault fault) = Engine fault

-- the number of such a refusal, 0 if there is none
abbrev pub number_in_c : Option Refusal → ℕ
number_in_c None = 0
number_in_c (Some refusal) = refusal_number refusal

-- the number of such a refusal, and if there is none, this number
abbrev pub number_or : Option Refusal → ℕ → ℕ
number_or None number = number
number_or (Some refusal) number = refusal_number refusal

-- the cookie of a number: an engine of C's never renumbers, so each is of the first epoch
abbrev pub cookie_in_c : ℕ → Cookie
cookie_in_c number = record { epoch = 0; number = number }

-- the result of a turn: 0 nothing, 1 begun, 2 ended, 3 waiting; how many are awaited; and a number
abbrev pub turn_of : Turned → Turn
turn_of turned.Nothing = record { what = 0; awaited = 0; number = 0 }
turn_of (turned.Begun number awaited) = record { what = 1; awaited = awaited; number = number }
turn_of (turned.Ended number) = record { what = 2; awaited = 0; number = number }
turn_of (turned.Waiting awaited) = record { what = 3; awaited = awaited; number = 0 }

-- the number of a collection's result
abbrev pub collected_number : Collected → ℕ
collected_number collected.Idle = 0
collected_number collected.NotYet = 1
collected_number collected.Taken = 2
collected_number collected.Last = 3
collected_number collected.Repeat = 4

-- the number of a barrier visit's result
abbrev pub visit_number : Visit → ℕ
visit_number visit.Marked = 0
visit_number visit.Empty = 1
visit_number visit.Already = 2

-- yes or no
abbrev pub flag_number : Bool → ℕ
flag_number flag = if flag then 1 else 0

-- how many markers and unvisited processors a barrier waits for
abbrev pub left_of : BarrierState → ℕ
left_of state.Done = 0
left_of (state.Waits n) = n
