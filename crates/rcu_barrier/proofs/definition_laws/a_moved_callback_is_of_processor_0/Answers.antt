use Rattle.std.proofs.Common.{◌≡◌, ◌==◌, ℕ, zero, suc, false, [], ◌∷◌, refl, arith}
use Rattle.std.proofs.lemmas.Bool.Decides.{nat_tests}
use Rattle.std.specs.Prelude.{if◌then◌else◌}
use Rattle.rcu_seq.specs.declared.tag.Tag.{Tag}
use Rattle.rcu_barrier.specs.Lists.{at_first}
use Rattle.rcu_barrier.specs.Runs.{Migrate, Queue, Run, Tend, times_handed_out}
use Rattle.rcu_barrier.proofs.definition_laws.a_moved_callback_is_of_processor_0.Goals as goal

-- by processor 0, by the one whose list moved, and by one that does not exist
by : {X : Type 0} (most : ℕ) (at : Tag) (value : X) (cpu : ℕ) → times_handed_out 1
    (at_first 2 most) (Run cpu 1 ∷ Migrate 1 ∷ Tend 1 4 ∷ Tend 1 0 ∷ Queue 1 at value ∷ [])
    ≡ (if cpu == 0 then 1 else 0)
by most at value zero = refl
by most at value (suc zero) = refl
by most at value (suc (suc n)) =
    let other : (suc (suc n) == 0) ≡ false = grind (arith, nat_tests) in rw other refl

pub returns-clause-by : goal.returns-clause-by
returns-clause-by g c = λ most at value cpu. by most at value cpu
