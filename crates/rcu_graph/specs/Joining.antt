-- The conditions for a graph to join an engine.
use Rattle.std.specs.Prelude.{◌≡◌, ℕ, ◌+◌}
use Rattle.rcu_live.specs.Board.{Object}
use Rattle.rcu_live.specs.InPart.{engine_part, watcher_part}
use Rattle.rcu_live.specs.Several.{Lens}
use Rattle.rcu_live.specs.Watcher.{IsWatcherOf, Watching}
use Rattle.rcu_graph.specs.Planned.{of_plan}
use Rattle.rcu_graph.specs.declared.known.Known.TheVariants.{Owner}
use Rattle.rcu_graph.specs.declared.known.Planned.{Planned}
use Rattle.rcu_graph.specs.declared.plan.Plan.{Plan}

-- a graph may join at this place of an engine: the engine was opened by this plan of its client,
-- which suits, and has the words for it; and its own watcher has the first seat's knowledge about
-- the graph
pub record CanJoin {W D : Type 0} (lens : Lens D Planned) (own_plan : W → Plan)
    (begins : ℕ → W → ℕ) (suits : W → Type 0) (size : W → ℕ) (plan : W) (engine : Object W)
    (own : Watching D) : Type 0 where
  pub planned : engine.plan ≡ plan
  pub suited : suits plan
  pub words : engine.table.words ≡ engine.base + size plan
  pub of_engine : IsWatcherOf (engine_part own_plan begins engine) (watcher_part lens own)
  pub first : lens.get own.view.client ≡ of_plan (own_plan plan) Owner
