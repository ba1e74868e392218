use Rattle.std.proofs.Common.{◌+◌, ◌*◌, vec_len}
use Rattle.rcu_stress.proofs.workers.+fn-run_all-rest+run_all.Given as goal

abbrev pub decreases-rest : goal.decreases-rest
decreases-rest g l = 2 * vec_len l.others + 1

abbrev pub decreases-run_all : goal.decreases-run_all
decreases-run_all g l = 2 * vec_len l.others
