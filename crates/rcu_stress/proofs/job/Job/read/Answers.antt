use Rattle.std.proofs.Common.{rules}
use Rattle.rcu_stress.proofs.job.Job.read.Goals as goal

-- a search for all parts at once gives up
pub pass-requires-sync-G : goal.pass-requires-sync-G
pass-requires-sync-G g c κs within =
    (search rules, (search rules, (search rules, (search rules, search rules))))

pub pass-requires-2-sync-G : goal.pass-requires-2-sync-G
pass-requires-2-sync-G g c κs within =
    (search rules, (search rules, (search rules, (search rules, search rules))))
