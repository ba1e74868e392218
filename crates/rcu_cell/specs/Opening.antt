-- A cell as it is opened.
use Rattle.std.specs.Prelude.{◌+◌, ◌<◌, ℕ, List}
use Rattle.rcu_live.specs.Watcher.{Watching}
use Rattle.rcu_graph.specs.Opening.{IsSized}
use Rattle.rcu_graph.specs.Planned.{plan_of}
use Rattle.rcu_graph.specs.declared.known.Planned.{Planned}
use Rattle.rcu_graph.specs.declared.plan.Plan.{Plan}
use Rattle.rcu_cell.specs.Writer.{Updated}
use Rattle.rcu_cell.specs.declared.writer.Retired.{Retired}

-- the plan of a cell of this number of slots, for versions of this number of words: the root is one
-- more node
abbrev pub plan_of_cell : ℕ → ℕ → Plan
plan_of_cell width slots = plan_of 1 1 width (1 + slots) 0

-- a cell may have this number of slots, for versions of this number of words: there are two or
-- more, since none would become free again without a second one; a version has a word; and all fit
-- in memory
pub record HasSizes (width slots : ℕ) : Type 0 where
  pub several : 1 < slots
  pub sized : IsSized (plan_of_cell width slots)

-- the writer's first update showed these words in place of the root's
pub record ShowsFirst (writer : Watching Planned) (words : List ℕ)
    (now : Watching Planned) : Type 0 where
  pub retired : Retired
  pub updated : Updated writer words retired now
