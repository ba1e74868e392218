use Rattle.rcu_cpu.proofs.Histories.{open_where_nested, open_after_inner_exit}
use Rattle.rcu_cpu.proofs.Histories.{closed_after_outer_exit}
use Rattle.rcu_cpu.proofs.Histories.{closed_where_offline}
use Rattle.rcu_cpu.proofs.laws.sections_are_open_where_they_nest.Goals as goal

pub returns : goal.returns
returns c = record {
  nested = open_where_nested;
  inner_exit = open_after_inner_exit;
  outer_exit = closed_after_outer_exit;
  offline = closed_where_offline;
}
