use Rattle.rcu_core.proofs.Quieting.{noted_by_noting, quiet_by_idling, quiet_by_reporting}
use Rattle.rcu_core.proofs.Quieting.{quiet_kept}
use Rattle.rcu_core.proofs.progress.a_processor_comes_to_be_quiet.Goals as goal

pub returns-clause-idle : goal.returns-clause-idle
returns-clause-idle c = quiet_by_idling

pub returns-clause-noted : goal.returns-clause-noted
returns-clause-noted c = noted_by_noting

pub returns-clause-reported : goal.returns-clause-reported
returns-clause-reported c = quiet_by_reporting

pub returns-clause-kept : goal.returns-clause-kept
returns-clause-kept c = quiet_kept
