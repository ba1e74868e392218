use Rattle.rcu_cpu.proofs.Histories.{accepted_outside_sections, report_as_said}
use Rattle.rcu_cpu.proofs.laws.reports_are_made_outside_sections.Goals as goal

pub returns : goal.returns
returns c = record { outside = accepted_outside_sections; report = report_as_said }
