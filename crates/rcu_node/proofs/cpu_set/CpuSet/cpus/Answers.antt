use Rattle.rcu_node.proofs.Words.{cpus-is}
use Rattle.rcu_node.proofs.cpu_set.CpuSet.cpus.Goals as goal

pub returns-clause-value : goal.returns-clause-value
returns-clause-value c =
    cpus-is c.self.inside.cpus c.self.inside.words.items c.args.self.now c.self.view_is
