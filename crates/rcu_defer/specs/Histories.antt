-- A thread's calls on its deferrals, the newest call first.
use Rattle.std.specs.Prelude.{◌≡◌, ℕ, ◌<◌, ◌≤◌, List, [], ◌∷◌, ◌++◌, length}
use Rattle.rcu_seq.specs.Numbers.{Number, snapshot}
use Rattle.rcu_defer.specs.DeferList.{Deferring, list_after_defer, list_after_take, list_after_tend}
use Rattle.rcu_defer.specs.DeferList.{list_at_first, taken_values}
use Rattle.rcu_defer.specs.Marks.{Marking, after_defer, after_take, after_tend, at_first}

-- a call: it defers a value, tends at a number, or takes out at most this number of values
pub data Call (X : Type 0) : Type 0 where
  Defer : X → Call X
  Tend : Number → Call X
  Take : ℕ → Call X

module _ {X : Type 0} where
  -- the marks after these calls
  abbrev pub marks_after : List (Call X) → Marking
  marks_after [] = at_first
  marks_after (Defer x ∷ earlier) = after_defer (marks_after earlier)
  marks_after (Tend n ∷ earlier) = after_tend (marks_after earlier) n
  marks_after (Take most ∷ earlier) = after_take (marks_after earlier) most

  -- the list after these calls, its room aside
  abbrev pub list_after : List (Call X) → Deferring X
  list_after [] = list_at_first
  list_after (Defer x ∷ earlier) = list_after_defer (list_after earlier) x
  list_after (Tend n ∷ earlier) = list_after_tend (list_after earlier) n
  list_after (Take most ∷ earlier) = list_after_take (list_after earlier) most

  -- the values that were deferred, in order
  abbrev pub deferred_in : List (Call X) → List X
  deferred_in [] = []
  deferred_in (Defer x ∷ earlier) = deferred_in earlier ++ x ∷ []
  deferred_in (Tend n ∷ earlier) = deferred_in earlier
  deferred_in (Take most ∷ earlier) = deferred_in earlier

  -- the values that were taken out, in order
  abbrev pub taken_in : List (Call X) → List X
  taken_in [] = []
  taken_in (Defer x ∷ earlier) = taken_in earlier
  taken_in (Tend n ∷ earlier) = taken_in earlier
  taken_in (Take most ∷ earlier) = taken_in earlier ++ taken_values (list_after earlier) most

  -- the deferral of this place, from 0, has waited: it came before a tend, and at a later tend the
  -- number was at least the snapshot of the first tend's number, so a full grace period lies
  -- between
  pub record HasWaited (calls : List (Call X)) (k : ℕ) : Type 0 where
    pub at : Number
    pub now : Number
    pub later : List (Call X)
    pub between : List (Call X)
    pub earlier : List (Call X)
    pub is : calls ≡ later ++ Tend now ∷ (between ++ Tend at ∷ earlier)
    pub before : k < length (deferred_in earlier)
    pub reached : snapshot at ≤ now

  -- the numbers of the tends never fall
  abbrev pub NeverFalls : List (Call X) → Type 0
  NeverFalls [] = Unit {0}
  NeverFalls (Defer x ∷ earlier) = NeverFalls earlier
  NeverFalls (Tend n ∷ earlier) = ((marks_after earlier).seen ≤ n) × NeverFalls earlier
  NeverFalls (Take most ∷ earlier) = NeverFalls earlier
