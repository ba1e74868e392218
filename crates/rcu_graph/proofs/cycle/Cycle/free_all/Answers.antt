use Rattle.std.proofs.Common.{◌∙◌}
use Rattle.rcu_graph.specs.Cycle.{is_over}
use Rattle.rcu_graph.specs.declared.node_state.NodeState.TheVariants.{Free}
use Rattle.rcu_graph.proofs.Turns.{turn_ends, turn_goes_on}
use Rattle.rcu_graph.proofs.cycle.Cycle.free_all.Goals as goal

pub loop-preserved : goal.loop-preserved
loop-preserved c =
    turn_goes_on (is_over c.args.number) Free c.loop.self c.free_next.new.self c.free_next.result
    c.loop-test.true c.free_next.ensures
    ∙ c.loop.invariant

pub returns : goal.returns
returns c =
    turn_ends (is_over c.args.number) Free c.loop.self c.free_next.new.self c.free_next.result
    c.loop-test.false c.free_next.ensures
    ∙ c.loop.invariant
