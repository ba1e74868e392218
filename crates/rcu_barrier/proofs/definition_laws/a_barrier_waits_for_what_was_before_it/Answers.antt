use Rattle.std.proofs.Common.{◌≡◌, ℕ, Bool, true, false, List, [], ◌∷◌, ◌++◌, refl}
use Rattle.std.specs.List.{list_any}
use Rattle.std.specs.Prelude.{if◌then◌else◌}
use Rattle.rcu_seq.specs.declared.tag.Tag.{Tag}
use Rattle.rcu_barrier.specs.declared.lists.BarrierState.TheVariants as state
use Rattle.rcu_barrier.specs.Lists.{AllLists, at_first, barrier_test_answer}
use Rattle.rcu_barrier.specs.Runs.{BarrierBegin, BarrierTest, Call, Migrate, Queue, Renumber, Run}
use Rattle.rcu_barrier.specs.Runs.{Tend, Visit, begins_barrier, lists_after}
use Rattle.rcu_barrier.specs.Runs.{queued_before_barrier}
use Rattle.rcu_barrier.proofs.definition_laws.a_barrier_waits_for_what_was_before_it.Goals as goal

-- the callbacks queued before a begin are those queued before it, after a later call that begins
-- none
before : {X : Type 0} (first : AllLists X) (later calls : List (Call X))
    → list_any begins_barrier later ≡ false
    → queued_before_barrier first (later ++ BarrierBegin ∷ calls) ≡ (lists_after first calls).queued
before first [] calls none = refl
before first (BarrierBegin ∷ later) calls none = absurd cc
before first (Queue cpu at value ∷ later) calls none = before first later calls none
before first (Tend cpu number ∷ later) calls none = before first later calls none
before first (Run cpu most ∷ later) calls none = before first later calls none
before first (Migrate cpu ∷ later) calls none = before first later calls none
before first (Visit cpu ∷ later) calls none = before first later calls none
before first (BarrierTest ∷ later) calls none = before first later calls none
before first (Renumber ∷ later) calls none = before first later calls none

pub returns-clause-before : goal.returns-clause-before
returns-clause-before g c = λ first later calls none. before first later calls none

-- it waits if the callback before it has not run, and for nothing if it has
waits : {X : Type 0} (most : ℕ) (at : Tag) (value : X) (ran : Bool) → barrier_test_answer
    (lists_after (at_first 2 most) ((if ran then Run 0 1 ∷ [] else [])
    ++ Queue 0 at value ∷ Visit 1 ∷ Visit 0 ∷ BarrierBegin ∷ Tend 0 4 ∷ Tend 0 0
    ∷ Queue 0 at value ∷ []))
    ≡ (if ran then state.Done else state.Waits 1)
waits most at value true = refl
waits most at value false = refl

pub returns-clause-waits : goal.returns-clause-waits
returns-clause-waits g c = λ most at value ran. waits most at value ran
