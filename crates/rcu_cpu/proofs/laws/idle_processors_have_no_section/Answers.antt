use Rattle.rcu_cpu.proofs.Histories.{closed_where_idle, idle_as_said, online_where_idle}
use Rattle.rcu_cpu.proofs.laws.idle_processors_have_no_section.Goals as goal

pub returns : goal.returns
returns c = record { idle = idle_as_said; online = online_where_idle; closed = closed_where_idle }
