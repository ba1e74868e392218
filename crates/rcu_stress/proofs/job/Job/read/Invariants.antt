use Rattle.rcu_stress.proofs.job.Job.read.Given as goal

-- the watcher's looks when the round began
abbrev pub ghost-pass : goal.ghost-pass
ghost-pass g a = g.looks
