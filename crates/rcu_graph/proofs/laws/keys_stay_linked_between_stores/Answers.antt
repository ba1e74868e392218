use Rattle.std.proofs.Common.{List, ap, arith, length}
use Rattle.rcu_graph.specs.declared.known.Node.{Node}
use Rattle.rcu_graph.proofs.Stores.{linked_back_to, linked_on_to}
use Rattle.rcu_graph.proofs.laws.keys_stay_linked_between_stores.Goals as goal

pub returns : goal.returns
returns g c = λ plan ours root key writer last before after moments chain kept up end same.
    let few = ap (λ (s : List (List Node)). length s) same in (
      linked_on_to g.F.Shape.fits g.F.Shape.joins g.F.Shape.first plan ours root writer last
          moments chain kept key before after up end (omega (arith, few)),
      linked_back_to g.F.Shape.fits g.F.Shape.joins g.F.Shape.first plan ours root writer last
          moments chain kept key before after up end (omega (arith, few)),
    )
