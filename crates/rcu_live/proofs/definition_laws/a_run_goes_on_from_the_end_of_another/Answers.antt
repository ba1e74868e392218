use Rattle.std.proofs.Common.{◌≡◌, List, [], ◌∷◌, ◌++◌, refl, sym, ap, subst}
use Rattle.rcu_live.specs.Engine.{Locked}
use Rattle.rcu_live.specs.Runs.{Call, IsRun, MayCall, after_call, engine_after}
use Rattle.rcu_live.proofs.definition_laws.a_run_goes_on_from_the_end_of_another.Goals as goal

module _ {C X : Type 0} where
  left : (first : Locked C X) (calls more : List (Call X))
      → engine_after first (more ++ calls) ≡ engine_after (engine_after first calls) more
  left first calls [] = refl
  left first calls (call ∷ more) = ap (λ e. after_call e call) (left first calls more)

  run : (first : Locked C X) (calls more : List (Call X)) → IsRun first calls
      → IsRun (engine_after first calls) more → IsRun first (more ++ calls)
  run first calls [] before later = before
  run first calls (call ∷ more) before later = (
    subst (λ e. MayCall e call) (sym (left first calls more)) later.0,
    run first calls more before later.1,
  )

pub returns-clause-run : goal.returns-clause-run
returns-clause-run g c = λ first calls more before later. run first calls more before later

pub returns-clause-left : goal.returns-clause-left
returns-clause-left g c = λ first calls more. left first calls more
