use Rattle.std.proofs.Common.{rules}
use Rattle.rcu_stress.proofs.job.Job.run_round.Goals as goal

-- a search for all parts at once gives up
pub read-requires-sync-G : goal.read-requires-sync-G
read-requires-sync-G g c κs within =
    (search rules, (search rules, (search rules, (search rules, search rules))))
