use Rattle.std.proofs.Common.{◌∙◌, ◌<◌, ℕ, List, ap, length, map, subst, sym}
use Rattle.rcu_graph.specs.Cycle.{is_unlinked, state_in, turned}
use Rattle.rcu_graph.specs.Nodes.{IsBy}
use Rattle.rcu_graph.specs.declared.node_state.NodeState.{NodeState}
use Rattle.rcu_graph.specs.declared.node_state.NodeState.TheVariants.{Retired}
use Rattle.rcu_graph.proofs.Turns.{all_reclaim, late_freed}
use Rattle.rcu_graph.proofs.cycle.Cycle.reclaim.Goals as goal

pub retire_all-requires : goal.retire_all-requires
retire_all-requires c =
    subst (λ (l : List NodeState). (i : ℕ) → i < length l → IsBy c.args.number (state_in l i))
    (sym c.free_all.ensures) (late_freed c.args.number c.args.self.now c.requires.late)

pub returns : goal.returns
returns c =
    c.retire_all.ensures
    ∙ (ap (λ (l : List NodeState). map (turned is_unlinked (Retired c.args.number)) l)
    c.free_all.ensures
    ∙ all_reclaim c.args.number c.args.self.now)
