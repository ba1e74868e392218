use Rattle.rcu_live.proofs.DoneCookies.{not_done_while_open}
use Rattle.rcu_live.proofs.laws.readers_finish_before_done.Goals as goal

pub returns : goal.returns
returns g c = λ plan cpus s t i j v w at kept also here cpu opened there same still.
    not_done_while_open (g.P.Client.holds plan) cpus s t i j v w at kept also here cpu opened there
    same still
