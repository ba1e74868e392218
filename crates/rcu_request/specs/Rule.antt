-- The rule of the requests: an invariant of the words and of all ends between any two atomic steps.
use Rattle.std.specs.Prelude.{◌≡◌, ℕ, ◌<◌, ◌≤◌, true, false, length, slice_index}
use mathlib.Core.Option.{some}
use lib.ListN.{get_elem?}
use Rattle.atomic_table.specs.Table.{State}
use Rattle.rcu_request.specs.Requests.{asleep_index, asleep_word, cpu_index, greatest_index}
use Rattle.rcu_request.specs.declared.knowledge.Knowledge.{Knowledge}

-- the words, and the knowledge of each end
abbrev pub Moment : Type 0
Moment = State (Unit {0}) Knowledge

-- the greatest request at a moment
abbrev pub greatest_at : Moment → ℕ
greatest_at s = slice_index s.words greatest_index

-- the word by which the driver says for which processor it sleeps
abbrev pub cpu_at : Moment → ℕ
cpu_at s = slice_index s.words cpu_index

-- the invariant of an end, if these are the greatest request, the word by which the driver says
-- whether it sleeps, and the one by which it says for which processor
pub record Fits (greatest word cpu : ℕ) (v : Knowledge) : Type 0 where
  -- it knows of no greater request
  pub raised : v.raised ≤ greatest
  pub found : v.found ≤ greatest
  -- the driver requests nothing, and the words say whether it sleeps, and for which processor
  pub driver : v.drives ≡ true → v.raised ≤ v.found
  pub says : v.drives ≡ true → word ≡ asleep_word v.asleep
  pub names : v.drives ≡ true → cpu ≡ v.sleeps_for

-- a driver that sleeps, and looked since it said so, and a thread that looked at the driver since
-- it raised the greatest request: if that is a request that the driver did not find, the thread
-- found it asleep
abbrev pub IsTold : Knowledge → Knowledge → Type 0
IsTold driver thread =
    driver.drives ≡ true
    → driver.asleep ≡ true
    → driver.has_looked ≡ true
    → thread.drives ≡ false
    → thread.has_looked ≡ true
    → driver.found < thread.raised
    → thread.asleep ≡ true

-- an end that raised the greatest request to its value
pub record IsRaised (s : Moment) : Type 0 where
  pub by : ℕ
  pub knows : Knowledge
  pub here : get_elem? s.views by ≡ some knows
  pub is : knows.raised ≡ greatest_at s

pub record IsKept (s : Moment) : Type 0 where
  pub room : cpu_index < length s.words
  pub fits : (id : ℕ) (v : Knowledge) → get_elem? s.views id ≡ some v
      → Fits (greatest_at s) (slice_index s.words asleep_index) (cpu_at s) v
  pub lone : (i j : ℕ) (v w : Knowledge)
      → get_elem? s.views i ≡ some v
      → get_elem? s.views j ≡ some w
      → v.drives ≡ true
      → w.drives ≡ true
      → i ≡ j
  pub told : (i j : ℕ) (v w : Knowledge)
      → get_elem? s.views i ≡ some v → get_elem? s.views j ≡ some w → IsTold v w
  -- the greatest request is at least the cookie that is done at any number, and some end raised it
  -- to its value
  pub least : 1 ≤ greatest_at s
  pub made : IsRaised s
