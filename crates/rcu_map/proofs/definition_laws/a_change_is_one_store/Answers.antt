use Rattle.std.proofs.Common.{ap}
use Rattle.rcu_live.specs.Watcher.{Watching}
use Rattle.rcu_graph.specs.Nodes.{stored_in}
use Rattle.rcu_graph.specs.declared.known.Planned.{Planned}
use Rattle.rcu_map.proofs.definition_laws.a_change_is_one_store.Goals as goal

pub returns : goal.returns
returns c = λ before after by.
    ap (λ (w : Watching Planned). stored_in w.view.client.known) by.state
