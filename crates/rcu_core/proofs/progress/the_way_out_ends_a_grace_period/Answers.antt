use Rattle.rcu_core.proofs.WayOut.{some_way, way_counts, way_ends, way_leads, way_retires}
use Rattle.rcu_core.proofs.progress.the_way_out_ends_a_grace_period.Goals as goal

pub returns-clause-exists : goal.returns-clause-exists
returns-clause-exists c = some_way

pub returns-clause-many : goal.returns-clause-many
returns-clause-many c = way_counts

pub returns-clause-leads : goal.returns-clause-leads
returns-clause-leads c = way_leads

pub returns-clause-each : goal.returns-clause-each
returns-clause-each c = way_retires

pub returns-clause-ended : goal.returns-clause-ended
returns-clause-ended c = way_ends
