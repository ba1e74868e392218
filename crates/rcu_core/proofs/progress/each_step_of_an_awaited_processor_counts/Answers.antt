use Rattle.rcu_core.proofs.StepCounts.{enter_counts_one, exit_counts_one, idle_counts_one}
use Rattle.rcu_core.proofs.StepCounts.{scan_counts_one, wake_counts_one}
use Rattle.rcu_core.proofs.progress.each_step_of_an_awaited_processor_counts.Goals as goal

pub returns-clause-exit : goal.returns-clause-exit
returns-clause-exit c = exit_counts_one

pub returns-clause-idle : goal.returns-clause-idle
returns-clause-idle c = idle_counts_one

pub returns-clause-scan : goal.returns-clause-scan
returns-clause-scan c = scan_counts_one

pub returns-clause-enter : goal.returns-clause-enter
returns-clause-enter c = enter_counts_one

pub returns-clause-wake : goal.returns-clause-wake
returns-clause-wake c = wake_counts_one
