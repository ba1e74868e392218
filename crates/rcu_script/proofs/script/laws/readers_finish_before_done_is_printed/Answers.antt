use Rattle.std.proofs.Common.{◌∙◌, ap}
use Rattle.rcu_core.specs.History.{section}
use Rattle.rcu_script.proofs.PolledLemmas.{done_run}
use Rattle.rcu_script.proofs.script.laws.readers_finish_before_done_is_printed.Goals as goal

pub returns : goal.returns
returns c =
    λ size before between taking polling told more event cookie cpu at_taking at_poll end opened a
    asks t b polls d at_start at_end.
    let ran = done_run size before between taking polling told more event cookie at_taking at_poll
    end a asks t b polls d in
    c.readers_finish_before_done.ensures size ran.later ran.earlier event cookie cpu opened t
    ran.legal (ap (section cpu) ran.taken ∙ at_start) (ap (section cpu) ran.polled ∙ at_end)
