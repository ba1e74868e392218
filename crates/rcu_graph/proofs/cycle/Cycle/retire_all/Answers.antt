use Rattle.std.proofs.Common.{◌∙◌}
use Rattle.rcu_graph.specs.Cycle.{is_unlinked}
use Rattle.rcu_graph.specs.declared.node_state.NodeState.TheVariants.{Retired}
use Rattle.rcu_graph.proofs.Turns.{late_after, turn_ends, turn_goes_on}
use Rattle.rcu_graph.proofs.cycle.Cycle.retire_all.Goals as goal

pub loop-preserved : goal.loop-preserved
loop-preserved c = (
  turn_goes_on is_unlinked (Retired c.args.number) c.loop.self c.retire_next.new.self
      c.retire_next.result c.loop-test.true c.retire_next.ensures
      ∙ c.loop.invariant.0,
  late_after c.args.number c.loop.self c.retire_next.new.self c.retire_next.result
      c.retire_next.ensures c.loop.invariant.1,
)

pub returns : goal.returns
returns c =
    turn_ends is_unlinked (Retired c.args.number) c.loop.self c.retire_next.new.self
    c.retire_next.result c.loop-test.false c.retire_next.ensures
    ∙ c.loop.invariant.0
