-- Steps of driving: the engine after a step, its answer, and why it is refused.
use Rattle.std.specs.Prelude.{ℕ, zero, suc, ◌+◌, ◌==◌, ◌&&◌, ◌++◌, Bool, not, if◌then◌else◌, List}
use Rattle.std.specs.Prelude.{[], ◌∷◌, Option, length}
use Rattle.rcu_seq.specs.Fault.{first_fault}
use Rattle.rcu_seq.specs.Numbers.{same_number}
use Rattle.rcu_seq.specs.Seq.{number_of}
use Rattle.rcu_seq.specs.Tags.{is_done_first}
use Rattle.rcu_seq.specs.declared.cookie.Cookie.{Cookie}
use Rattle.rcu_seq.specs.declared.fault.Fault.{Fault}
use Rattle.rcu_seq.specs.declared.fault.Fault.TheVariants.{Exhausted}
use Rattle.rcu_node.specs.CpuSet.{is_in, unheard}
use Rattle.rcu_state.specs.GpState as grace
use Rattle.rcu_state.specs.GpState.{Grace, awaited_in, periods_of, with_awaited}
use Rattle.rcu_state.specs.Periods as periods
use Rattle.rcu_state.specs.declared.gp_state.Turned.{Turned}
use Rattle.rcu_state.specs.declared.gp_state.Turned.TheVariants as turned
use Rattle.rcu_live.specs.Engine.{Locked, after_begin, after_end, next_number}
use Rattle.rcu_live.specs.Numbers.{reports_quiescence}
use Rattle.rcu_live.specs.Words.{own_word_index}

-- one load of the own word of each processor that passes a test among the first n, which found
-- these words, the newest first
abbrev pub loads_of : (ℕ → Bool) → (ℕ → ℕ) → ℕ → List (ℕ × ℕ)
loads_of looks_at word zero = []
loads_of looks_at word (suc n) =
    if looks_at n
    then (own_word_index n, word n) ∷ loads_of looks_at word n
    else loads_of looks_at word n

module _ {X : Type 0} where
  -- a grace period is requested for the cookie: it is not done yet
  abbrev pub wants_for : Cookie → Grace X → Bool
  wants_for cookie g = not (is_done_first cookie (number_of g.seq))

  -- one is requested for callbacks: none runs, and the needed number is above the number
  abbrev pub wants_begin : Grace X → Bool
  wants_begin g = periods.wants_begin (periods_of g)

  -- why a step is refused: no grace period runs, one is requested, and the number is the last one
  abbrev pub drive_refusal : Grace X → Bool → Option Fault
  drive_refusal g is_wanted =
      first_fault ((
        not g.seq.running && (is_wanted && same_number (number_of g.seq) g.seq.last),
        Exhausted,
      )
      ∷ [])

module _ {C X : Type 0} where
  -- the own word of each awaited processor was loaded once, which found these words: a processor
  -- that its word reports is no longer awaited
  abbrev pub after_collections : Locked C X → (ℕ → ℕ) → Locked C X
  after_collections e word =
      let loads = loads_of (is_in e.grace.processors.awaited) word e.cpus in
      record e {
        view = record e.view {
          loads = e.view.loads + length loads;
          own_word_loads = loads ++ e.view.own_word_loads;
        };
        grace = with_awaited e.grace
            (unheard e.grace.processors.awaited
            (λ cpu. reports_quiescence (number_of e.grace.seq) (word cpu)));
      }

  -- a running grace period collected from those that it awaits; if none ran, one began if it is
  -- requested
  abbrev pub moved_on : Locked C X → Bool → (ℕ → ℕ) → Locked C X
  moved_on e is_wanted word =
      if e.grace.seq.running
      then after_collections e word
      else (if is_wanted then after_begin e word else e)

  -- the engine after a step: that, and the grace period ended if no processor is then awaited
  abbrev pub after_drive : Locked C X → Bool → (ℕ → ℕ) → Locked C X
  after_drive e is_wanted word =
      let now = moved_on e is_wanted word in
      if now.grace.seq.running && (awaited_in now.grace == 0) then after_end now else now

  -- the answer of a step
  abbrev pub drive_answer : Locked C X → Bool → (ℕ → ℕ) → Turned
  drive_answer e is_wanted word =
      let now = moved_on e is_wanted word in
      if not now.grace.seq.running
      then turned.Nothing
      else (if awaited_in now.grace == 0
      then turned.Ended (number_of (grace.after_end now.grace).seq)
      else (if e.grace.seq.running
      then turned.Waiting (awaited_in now.grace)
      else turned.Begun (next_number e.grace) (awaited_in now.grace)))
