-- A processor's seat: its calls, when each is accepted, and the seat after it.
use Rattle.std.specs.Prelude.{◌≡◌, ℕ, ◌+◌, ◌-◌, ◌≤◌, ◌^◌, ◌==◌, ◌&&◌, nat_lt, not, if◌then◌else◌}
use Rattle.std.specs.Prelude.{[], ◌∷◌, Bool, Option}
use Rattle.atomic_table.specs.Seated.{TableId}
use Rattle.rcu_seq.specs.Fault.{first_fault}
use Rattle.rcu_seq.specs.Numbers.{Number}
use Rattle.rcu_seq.specs.declared.fault.Fault.{Fault}
use Rattle.rcu_seq.specs.declared.fault.Fault.TheVariants.{AlreadyOnline, BootStays, CpuIdle}
use Rattle.rcu_seq.specs.declared.fault.Fault.TheVariants.{InSection, NestFull, NotIdle, NotOpen}
use Rattle.rcu_seq.specs.declared.fault.Fault.TheVariants.{Offline}
use Rattle.rcu_cpu.specs.CpuData.{Processor, deepest}
use Rattle.rcu_live.specs.Board.{Object}
use Rattle.rcu_live.specs.Numbers.{idle_word}
use Rattle.rcu_live.specs.View.{after_close, after_load, after_open, after_store, after_waking}
use Rattle.rcu_live.specs.View.{cpu_seat, with_client}
use Rattle.rcu_live.specs.declared.view.View.{View}

-- a processor's seat: its object, its processor, the depth of its sections, and its view
pub record Seated (C : Type 0) : Type 0 where
  pub table : TableId
  pub cpu : ℕ
  pub depth : ℕ
  pub view : View C

-- the own word of a processor: 0 if it is offline, the idle word if it is idle, else one more than
-- the number that it noted
abbrev pub own_word_of : Processor → ℕ
own_word_of p = if not p.online then 0 else if p.idle then idle_word else p.noted.number + 1

module _ {C : Type 0} where
  -- a processor's seat of this engine: it reads the engine's words, and knows where the client's
  -- words begin
  abbrev pub IsSeatOf : {P : Type 0} → Object P → Seated C → Type 0
  IsSeatOf engine seat = (seat.table ≡ engine.table) × (seat.view.base ≡ engine.base)

  -- the call was accepted at the number n, which is at least all that the seat saw before, and this
  -- is the seat after it
  pub record AcceptedAt (after : Seated C → Number → Seated C) (s : Seated C) (n : Number)
      (t : Seated C) : Type 0 where
    pub state : t ≡ after s n
    pub later : s.view.seen ≤ n

  -- the same of a call that notes the number, which is at most 2^62
  pub record NotedAt (after : Seated C → Number → Seated C) (s : Seated C) (n : Number)
      (t : Seated C) : Type 0 where
    pub state : t ≡ after s n
    pub later : s.view.seen ≤ n
    pub bounded : n ≤ 2 ^ 62

  -- the seat is of the same object, and made this many more loads and stores
  pub record HasMade (loads stores : ℕ) (s t : Seated C) : Type 0 where
    pub table : t.table ≡ s.table
    pub looked : t.view.loads ≡ s.view.loads + loads
    pub stored : t.view.stores ≡ s.view.stores + stores

  -- the seat of a processor as it is opened: no section is open
  abbrev pub at_first : TableId → ℕ → C → ℕ → Seated C
  at_first table base c cpu = record {
    table = table;
    cpu = cpu;
    depth = 0;
    view = cpu_seat base cpu c;
  }

  -- why an enter is refused
  abbrev pub enter_refusal : Seated C → Option Fault
  enter_refusal s =
      first_fault ((s.view.own_word == 0, Offline) ∷ (s.view.own_word == idle_word, CpuIdle)
      ∷ (s.depth == deepest, NestFull) ∷ [])

  -- after an enter: the outermost one is a section-opening load, which saw n, and an inner one
  -- leaves the view
  abbrev pub after_enter : Seated C → Number → Seated C
  after_enter s n = record s {
    depth = s.depth + 1;
    view = if s.depth == 0 then after_open s.view n else s.view;
  }

  -- why an exit is refused
  abbrev pub exit_refusal : Seated C → Option Fault
  exit_refusal s = first_fault ((s.depth == 0, NotOpen) ∷ [])

  -- after an exit: the outermost one is a section-closing load, which saw n, and an inner one
  -- leaves the view
  abbrev pub after_exit : (C → C) → Seated C → Number → Seated C
  after_exit closed s n = record s {
    depth = s.depth - 1;
    view = if s.depth == 1 then after_close closed s.view n else s.view;
  }

  -- why a quiescent state is refused, and why the processor does not become idle
  abbrev pub quiesce_refusal : Seated C → Option Fault
  quiesce_refusal s =
      first_fault ((s.view.own_word == 0, Offline) ∷ (s.view.own_word == idle_word, CpuIdle)
      ∷ (nat_lt 0 s.depth, InSection) ∷ [])

  -- the same after a report, behind whose store the seat looked once whether it has to wake the
  -- waiters that sleep until then; or after a store behind which it did not
  abbrev pub reported : Bool → Seated C → Seated C
  reported wakes s = record s { view = after_waking wakes s.view }

  -- after the processor became idle: one more store, of the idle word
  abbrev pub after_idle : Seated C → Seated C
  after_idle s = record s { view = after_store s.view idle_word }

  -- why a wake is refused
  abbrev pub wake_refusal : Seated C → Option Fault
  wake_refusal s =
      first_fault
      ((s.view.own_word == 0, Offline) ∷ (not (s.view.own_word == idle_word), NotIdle) ∷ [])

  -- after a quiescent state, a wake or an arrival: one more load, which saw n, and then the own
  -- word is n + 1
  abbrev pub after_quiesce : Seated C → Number → Seated C
  after_quiesce s n = record s { view = after_store (after_load s.view n) (n + 1) }

  -- after a quiescent state that stores only if that changes the own word: the same as after one
  -- that stores, except for the number of stores, and for a look behind the latest one
  abbrev pub after_quiesce_since : Seated C → Number → Seated C
  after_quiesce_since s n = record s {
    view = record (after_store (after_load s.view n) (n + 1)) {
      stores = if s.view.own_word == n + 1 then s.view.stores else s.view.stores + 1;
      answered = (s.view.own_word == n + 1) && s.view.answered;
    };
  }

  -- why a section is not renewed: the processor is offline or idle, no section is open, or it nests
  abbrev pub renew_refusal : Seated C → Option Fault
  renew_refusal s =
      first_fault ((s.view.own_word == 0, Offline) ∷ (s.view.own_word == idle_word, CpuIdle)
      ∷ (s.depth == 0, NotOpen) ∷ (nat_lt 1 s.depth, InSection) ∷ [])

  -- after a renewal: the section closed at the number n, the own word was made n + 1 if it
  -- differed, and the next section opened at the number m
  abbrev pub after_renew : (C → C) → Seated C → Number → Number → Seated C
  after_renew closed s n m = record s {
    view = after_open (record (after_close closed s.view n) {
      own_word = n + 1;
      stores = if s.view.own_word == n + 1 then s.view.stores else s.view.stores + 1;
      answered = (s.view.own_word == n + 1) && s.view.answered;
    }) m;
  }

  -- a section was renewed: the open one ended, a quiescent state was passed at the number n, which
  -- is at least all that the seat saw before, and another section began, at a number that is no
  -- less. If the seat stored, it looked whether it has to wake waiters, by an engine on which they
  -- sleep
  pub record RenewedAt (wakes : Bool) (closed : C → C) (s : Seated C) (n : Number) (t : Seated C)
      : Type 0 where
    pub state : t ≡ reported (wakes && not (s.view.own_word == n + 1))
        (after_renew closed s n t.view.seen)
    pub later : s.view.seen ≤ n
    pub onward : n ≤ t.view.seen
    pub bounded : n ≤ 2 ^ 62

  -- why a pin is refused
  abbrev pub pin_refusal : Seated C → Option Fault
  pin_refusal s =
      first_fault ((s.view.own_word == 0, Offline) ∷ (s.depth == deepest, NestFull) ∷ [])

  -- after a wake without a load: one more store, of the word 1, which reports for no grace period
  abbrev pub after_bare_wake : Seated C → Seated C
  after_bare_wake s = record s { view = after_store s.view 1 }

  -- after a pin: an enter, before which an idle processor wakes; the outermost one's section began
  -- at n
  abbrev pub after_pin : Seated C → Number → Seated C
  after_pin s n = after_enter (if s.view.own_word == idle_word then after_bare_wake s else s) n

  -- why an unpin is refused
  abbrev pub unpin_refusal : Seated C → Option Fault
  unpin_refusal s = first_fault ((s.view.own_word == 0, Offline) ∷ (s.depth == 0, NotOpen) ∷ [])

  -- after an unpin: an exit, and after the outermost one, whose load saw n, the processor is idle
  abbrev pub after_unpin : (C → C) → Seated C → Number → Seated C
  after_unpin closed s n =
      if s.depth == 1 then after_idle (after_exit closed s n) else after_exit closed s n

  -- why a section that a pin opened is not renewed: the processor is offline, no section is open,
  -- or it nests
  abbrev pub repin_refusal : Seated C → Option Fault
  repin_refusal s =
      first_fault ((s.view.own_word == 0, Offline) ∷ (s.depth == 0, NotOpen)
      ∷ (nat_lt 1 s.depth, InSection) ∷ [])

  -- one more number load, which saw n
  abbrev pub after_look : Seated C → Number → Seated C
  after_look s n = record s { view = after_load s.view n }

  -- after a client's step, which left this knowledge
  abbrev pub after_word_step : Seated C → C → Seated C
  after_word_step s c = record s { view = with_client s.view c }

  -- a client's step, with this relation between the seat's knowledge before and after: nothing else
  -- of the seat changes
  pub record KnowsBy (tells : C → C → Type 0) (s t : Seated C) : Type 0 where
    pub state : t ≡ after_word_step s t.view.client
    pub told : tells s.view.client t.view.client

  -- why an arrival is refused
  abbrev pub arrive_refusal : Seated C → Option Fault
  arrive_refusal s = first_fault ((nat_lt 0 s.view.own_word, AlreadyOnline) ∷ [])

  -- why a departure is refused
  abbrev pub depart_refusal : Seated C → Option Fault
  depart_refusal s = first_fault ((s.cpu == 0, BootStays) ∷ (nat_lt 0 s.depth, InSection) ∷ [])

  -- after a departure: the own word is 0
  abbrev pub after_depart : Seated C → Seated C
  after_depart s = record s { view = after_store s.view 0 }
