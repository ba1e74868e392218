-- A writer has its graph, whose plan its seat knows: a property of one plan is one of the other.
use Rattle.std.proofs.Common.{◌≡◌, subst, sym}
use Rattle.rcu_live.specs.Board.{Object}
use Rattle.rcu_live.specs.Watcher.{Watching}
use Rattle.rcu_graph.specs.Graph.{IsWatcherOf}
use Rattle.rcu_graph.specs.declared.known.Planned.{Planned}
use Rattle.rcu_graph.specs.declared.plan.Plan.{Plan}

module _ (graph : Object Plan) (seat writer : Watching Planned) (is : seat ≡ writer)
    (watches : IsWatcherOf graph seat) where
  -- from the knowledge of the writer's seat to its graph
  pub of_graph : (said : Plan → Watching Planned → Type 0) → said writer.view.client.plan writer
      → said graph.plan seat
  of_graph said so =
      subst (λ (p : Plan). said p seat) watches.planned
      (subst (λ (w : Watching Planned). said w.view.client.plan w) (sym is) so)

  -- and back
  pub of_seat : (said : Plan → Watching Planned → Type 0) → said graph.plan seat
      → said writer.view.client.plan writer
  of_seat said so =
      subst (λ (w : Watching Planned). said w.view.client.plan w) is
      (subst (λ (p : Plan). said p seat) (sym watches.planned) so)
