use Rattle.rcu_stress.proofs.job.Job.run_round.Given as goal

-- the round begins with the read section
abbrev pub ghost-read : goal.ghost-read
ghost-read g a = a.self.now.watcher.view.loads
