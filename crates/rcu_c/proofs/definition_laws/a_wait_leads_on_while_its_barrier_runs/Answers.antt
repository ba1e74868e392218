use Rattle.std.proofs.Common.{◌∙◌, [], arith, refl, sym}
use Rattle.std.proofs.lemmas.Bool.{true≢false}
use Rattle.rcu_c.proofs.BarrierLaws.{step_is_a_run}
use Rattle.rcu_c.proofs.WaitSteps.{runs_are_a_run}
use Rattle.rcu_c.proofs.definition_laws.a_wait_leads_on_while_its_barrier_runs.Goals as goal

pub returns-clause-waited : goal.returns-clause-waited
returns-clause-waited c = λ e word running. record {
  later = [];
  run = step_is_a_run e word;
  state = refl;
  others = refl;
  running = running;
}

pub returns-clause-handed_out : goal.returns-clause-handed_out
returns-clause-handed_out c = λ e most enough running. record {
  most = most;
  enough = enough;
  later = [];
  run = (runs_are_a_run e most e.cpus (omega arith)).0;
  state = refl;
  others = refl;
  running = running;
}

pub returns-clause-over : goal.returns-clause-over
returns-clause-over c = λ e now word over waited. true≢false (sym waited.running ∙ over)

pub returns-clause-done : goal.returns-clause-done
returns-clause-done c = λ e now over handed. true≢false (sym handed.running ∙ over)
