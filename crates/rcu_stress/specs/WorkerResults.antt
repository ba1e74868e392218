-- The results of workers.
use Rattle.std.specs.Prelude.{◌≡◌, ◌+◌, ◌++◌, [], ◌∷◌, vec_capacity, vec_len}
use Rattle.std.specs.Option.{option_or}
use Rattle.rcu_stress.specs.declared.job.WorkerResult.{WorkerResult}
use Rattle.rcu_stress.specs.declared.workers.WorkerResults.{WorkerResults}

-- the result of the next worker was added, in the room for it: its fault counts if no earlier
-- worker has one
pub record HasAdded (before : WorkerResults) (next : WorkerResult) (after : WorkerResults)
    : Type 0 where
  pub shares : after.shares.items ≡ before.shares.items ++ next.share ∷ []
  pub fault : after.fault ≡ option_or before.fault next.fault
  pub len : vec_len after.shares ≡ vec_len before.shares + 1
  pub room : vec_capacity after.shares ≡ vec_capacity before.shares
