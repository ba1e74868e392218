use Rattle.rcu_live.proofs.OldSections.{old_awaited}
use Rattle.rcu_live.proofs.laws.old_sections_are_awaited.Goals as goal

pub returns : goal.returns
returns g c =
    λ plan cpus s i j e v grace at kept here engine number lock runs there cpu section old.
    old_awaited (g.P.Client.holds plan) cpus s i j e v grace at kept here engine number lock runs
    there cpu section old
