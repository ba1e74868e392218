-- The engine, which is under a lock: its state, and each call's effect and answer.
use Rattle.std.specs.Prelude.{◌≡◌, ℕ, zero, suc, ◌+◌, ◌<◌, ◌≤◌, ◌==◌, true, false, not, nat_le}
use Rattle.std.specs.Prelude.{if◌then◌else◌, Bool, List, [], ◌∷◌, Option}
use Rattle.atomic_table.specs.Seated.{TableId}
use Rattle.rcu_seq.specs.Fault.{first_fault}
use Rattle.rcu_seq.specs.Numbers.{Number, snapshot}
use Rattle.rcu_seq.specs.Seq.{number_of, tag_of}
use Rattle.rcu_seq.specs.declared.fault.Fault.{Fault}
use Rattle.rcu_seq.specs.declared.fault.Fault.TheVariants.{BadCpu}
use Rattle.rcu_seq.specs.declared.tag.Tag.{Tag}
use Rattle.rcu_node.specs.CpuSet.{is_in, listed}
use Rattle.rcu_hotplug.specs.Hotplug.{cpus_of}
use Rattle.rcu_state.specs.GpState as grace
use Rattle.rcu_state.specs.GpState.{Grace, after_current_report, awaited_in, current_answer}
use Rattle.rcu_state.specs.GpState.{periods_of}
use Rattle.rcu_state.specs.Periods.{wants_begin}
use Rattle.rcu_state.specs.declared.gp_state.CurrentAnswer.{CurrentAnswer}
use Rattle.rcu_state.specs.declared.gp_state.CurrentAnswer.TheVariants as current
use Rattle.rcu_state.specs.declared.gp_state.Turned.{Turned}
use Rattle.rcu_state.specs.declared.gp_state.Turned.TheVariants as turned
use Rattle.rcu_live.specs.Numbers.{reports_quiescence}
use Rattle.rcu_live.specs.Rule.{is_cleared}
use Rattle.rcu_live.specs.View.{IsOfEngine, after_begin_store, after_end_store, after_own_word_load}
use Rattle.rcu_live.specs.Words.{own_word_index}
use Rattle.rcu_live.specs.declared.grace_periods.Collected.{Collected}
use Rattle.rcu_live.specs.declared.grace_periods.Collected.TheVariants as collected
use Rattle.rcu_live.specs.declared.view.View.{View}

-- the engine: its object, its number of processors, its seat's view, and the state of grace periods
-- and callbacks
pub record Locked (C X : Type 0) : Type 0 where
  pub table : TableId
  pub cpus : ℕ
  pub view : View C
  pub grace : Grace X

-- the word that the latest of these loads of a processor's own word found, 0 if there is none
abbrev pub loaded_word : List (ℕ × ℕ) → ℕ → ℕ
loaded_word [] cpu = 0
loaded_word (find ∷ earlier) cpu =
    if find.0 == own_word_index cpu then find.1 else loaded_word earlier cpu

-- the word that the latest load found
abbrev pub latest_loaded_word : List (ℕ × ℕ) → ℕ
latest_loaded_word [] = 0
latest_loaded_word (find ∷ earlier) = find.1

-- one load of the own word of each of the first processors, in turn, which found these words
abbrev pub loads_in_turn : (ℕ → ℕ) → ℕ → List (ℕ × ℕ)
loads_in_turn word zero = []
loads_in_turn word (suc n) = (own_word_index n, word n) ∷ loads_in_turn word n

-- the word that the engine's latest load of an own word found
abbrev pub latest_word : {C X : Type 0} → Locked C X → ℕ
latest_word e = latest_loaded_word e.view.own_word_loads

-- by processor, the word that the engine's latest load of its own word found
abbrev pub latest_words : {C X : Type 0} → Locked C X → ℕ → ℕ
latest_words e = loaded_word e.view.own_word_loads

-- why a call that names a processor is refused: the processor does not exist
abbrev pub cpu_refusal : {C X : Type 0} → Locked C X → ℕ → Option Fault
cpu_refusal e cpu = first_fault ((nat_le e.cpus cpu, BadCpu) ∷ [])

-- the answer of a collection, by that of the report
abbrev pub collected_by : CurrentAnswer → Collected
collected_by current.Taken = collected.Taken
collected_by current.Last = collected.Last
collected_by current.Repeat = collected.Repeat

-- the number has reached the snapshot at which a callback was queued, in the first epoch, in which
-- the engine stays
abbrev pub HasWaited : Number → Tag → Type 0
HasWaited number at = (at.epoch ≡ 0) × (snapshot at.number ≤ number)

-- while a grace period runs, each processor that is not awaited is cleared
abbrev pub AwaitsTheOthers : {X : Type 0} → ℕ → List (ℕ × ℕ) → Grace X → Type 0
AwaitsTheOthers cpus own_word_loads g =
    g.seq.running ≡ true → (cpu : ℕ) → cpu < cpus → is_in g.processors.awaited cpu ≡ false
    → is_cleared (number_of g.seq) cpu own_word_loads ≡ true

-- parts from which an engine of this number of processors is made, with sets that can hold as many:
-- its seat, and a state of the first epoch in which no grace period runs, at the number that the
-- seat sees
pub record ArePieces {C X : Type 0} (cpus : ℕ) (view : View C) (grace : Grace X)
    (room : ℕ) : Type 0 where
  pub role : IsOfEngine view
  pub number : view.seen ≡ number_of grace.seq
  pub epoch : grace.seq.epoch ≡ 0
  pub idle : grace.seq.running ≡ false
  pub processors : cpus_of grace.processors ≡ cpus
  pub dealt : view.cpu ≡ cpus
  pub already_quiescent : room ≡ cpus

module _ {C : Type 0} where
  -- after loads of the own words of the first n processors, in turn, which found these words; no
  -- word was found before
  abbrev pub after_own_word_loads : View C → (ℕ → ℕ) → ℕ → View C
  after_own_word_loads v word n = record v {
    loads = v.loads + n;
    own_word_loads = loads_in_turn word n;
  }

module _ {X : Type 0} where
  -- these processors are online now. The number of processors, the number, the needed number and
  -- the callbacks stay
  pub record OnlineBecomes (online : List Bool) (old new : Grace X) : Type 0 where
    pub these : new.processors.online ≡ online
    pub cpus : cpus_of new.processors ≡ cpus_of old.processors
    pub seq : new.seq ≡ old.seq
    pub needed : new.needed ≡ old.needed
    pub lists : new.lists ≡ old.lists

  -- the number of the grace period that begins next
  abbrev pub next_number : Grace X → Number
  next_number g = number_of (record g.seq { running = true })

  -- a grace period began which found these words: a processor is online and in its start set if its
  -- word is not 0, and awaited if its word does not report it either
  abbrev pub begun_from : ℕ → (ℕ → ℕ) → Grace X → Grace X
  begun_from cpus word g = record g {
    seq = record g.seq { running = true };
    processors = record {
      tag = tag_of (record g.seq { running = true });
      start_set = listed cpus (λ cpu. not (word cpu == 0));
      awaited = listed cpus (λ cpu. not (reports_quiescence (next_number g) (word cpu)));
      online = listed cpus (λ cpu. not (word cpu == 0));
    };
  }

module _ {C X : Type 0} where
  -- a grace period begins: its number is stored, and then each own word is found once, with these
  -- values
  abbrev pub after_begin : Locked C X → (ℕ → ℕ) → Locked C X
  after_begin e word = record e {
    view = after_own_word_loads (after_begin_store e.view (next_number e.grace)) word e.cpus;
    grace = begun_from e.cpus word e.grace;
  }

  -- the grace period ends: the next number is stored
  abbrev pub after_end : Locked C X → Locked C X
  after_end e = record e {
    view = after_end_store e.view (number_of (grace.after_end e.grace).seq);
    grace = grace.after_end e.grace;
  }

  -- the answer of a turn, if a begin would find these words: a running grace period ends if no
  -- processor is awaited; if none runs, one begins if it is needed
  abbrev pub turn_answer : Locked C X → (ℕ → ℕ) → Turned
  turn_answer e word =
      if e.grace.seq.running
      then (if awaited_in e.grace == 0
      then turned.Ended (number_of (grace.after_end e.grace).seq)
      else turned.Waiting (awaited_in e.grace))
      else (if wants_begin (periods_of e.grace)
      then turned.Begun (next_number e.grace) (awaited_in (begun_from e.cpus word e.grace))
      else turned.Nothing)

  -- the engine after a turn
  abbrev pub after_turn : Locked C X → (ℕ → ℕ) → Locked C X
  after_turn e word =
      if e.grace.seq.running then (if awaited_in e.grace == 0 then after_end e else e)
      else (if wants_begin (periods_of e.grace) then after_begin e word else e)

  -- the answer of a collection, if it loads this word
  abbrev pub collect_answer : Locked C X → ℕ → ℕ → Collected
  collect_answer e cpu word =
      if e.grace.seq.running
      then (if reports_quiescence (number_of e.grace.seq) word
      then collected_by (current_answer e.grace cpu)
      else collected.NotYet)
      else collected.Idle

  -- the engine after a collection: while a grace period runs, one more load, and a report if the
  -- word reports the processor
  abbrev pub after_collect : Locked C X → ℕ → ℕ → Locked C X
  after_collect e cpu word =
      if e.grace.seq.running
      then record e {
        view = after_own_word_load e.view (own_word_index cpu) word;
        grace =
            if reports_quiescence (number_of e.grace.seq) word
            then after_current_report e.grace cpu
            else e.grace;
      }
      else e
