use Rattle.std.proofs.Common.{◌≡◌, ◌<◌, ℕ, true, false, List, [], ◌∷◌, arith}
use Rattle.std.specs.Prelude.{All}
use Rattle.std.proofs.lemmas.List.Elements.{All-nil, All-cons}
use Rattle.rcu_seq.specs.declared.tag.Tag.{Tag}
use Rattle.rcu_barrier.specs.Lists.{at_first}
use Rattle.rcu_barrier.specs.Runs.{BarrierBegin, BarrierTest, Call, IsRun, Migrate, Queue, Visit}
use Rattle.rcu_barrier.proofs.definition_laws.a_run_has_only_calls_that_may_be_made.Goals as goal

-- each of them has a call that might not be made
none : {X : Type 0} (most : ℕ) (at : Tag) (value : X) → All
    (λ (calls : List (Call X)). IsRun (at_first 2 most) calls → ⊥) ((Queue 2 at value ∷ [])
    ∷ (Migrate 0 ∷ []) ∷ (BarrierBegin ∷ BarrierBegin ∷ []) ∷ (Visit 0 ∷ [])
    ∷ (BarrierTest ∷ []) ∷ [])
none {X = X} most at value =
    let NoRun : List (Call X) → Type 0 = λ calls. IsRun (at_first 2 most) calls → ⊥ in
    let tests : List (List (Call X)) = (BarrierTest ∷ []) ∷ [] in
    let visits : List (List (Call X)) = (Visit 0 ∷ []) ∷ tests in
    let begins : List (List (Call X)) = (BarrierBegin ∷ BarrierBegin ∷ []) ∷ visits in
    let moves : List (List (Call X)) = (Migrate 0 ∷ []) ∷ begins in
    All-cons NoRun (Queue 2 at value ∷ []) moves
    (λ run. let over : 2 < 2 = run.0 in omega arith)
    (All-cons NoRun (Migrate 0 ∷ []) begins
    (λ run. let first : 0 < 0 = run.0.0 in omega arith)
    (All-cons NoRun (BarrierBegin ∷ BarrierBegin ∷ []) visits
    (λ run. let begun : true ≡ false = run.0 in cc)
    (All-cons NoRun (Visit 0 ∷ []) tests (λ run. let runs : false ≡ true = run.0.1 in cc)
    (All-cons NoRun (BarrierTest ∷ []) [] (λ run. let runs : false ≡ true = run.0 in cc)
    (All-nil NoRun)))))

pub returns : goal.returns
returns g c = λ most at value. none most at value
