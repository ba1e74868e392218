use Rattle.std.proofs.Common.{◌∙◌, ◌<◌, List, ℕ, ap, arith, length, length-set, set, subst, sym}
use Rattle.rcu_graph.specs.Cycle.{IsCycle, state_in}
use Rattle.rcu_graph.specs.declared.node_state.NodeState.{NodeState}
use Rattle.rcu_graph.specs.declared.node_state.NodeState.TheVariants.{Unlinked}
use Rattle.rcu_graph.proofs.Cycles.{cycle_unlinked, room_left}
use Rattle.rcu_graph.proofs.cycle.Cycle.mark_unlinked.Goals as goal

pub unreachable-requires : goal.unreachable-requires
unreachable-requires c =
    let i = c.self.inside in
    let k = c.self.invariant in
    let room = room_left i.states.items i.free.items i.heights.items i.waiting.items i.retired
    k.cycle c.args.node
    (subst (λ (l : List NodeState). c.args.node < length l) (sym c.self.view_is) c.requires.node)
    (ap (λ (l : List NodeState). state_in l c.args.node) c.self.view_is ∙ c.requires.live) in
    let full = c.in_default.ensures.full in
    let few = i.waiting.ok.0 in
    let fits = k.waiting in
    omega (arith, room, full, few, fits)

pub invariant_of-self : goal.invariant_of-self
invariant_of-self c =
    let i = c.self.inside in
    let k = c.self.invariant in
    let many = length-set i.states.items c.args.node Unlinked in
    record {
      cycle = subst (λ (l : List ℕ).
          IsCycle (set i.states.items c.args.node Unlinked) i.free.items i.heights.items l
          i.retired)
          (sym c.in-Ok.ensures.items)
          (cycle_unlinked i.states.items i.free.items i.heights.items i.waiting.items
          i.retired k.cycle c.args.node
          (subst (λ (l : List NodeState). c.args.node < length l) (sym c.self.view_is)
          c.requires.node)
          (ap (λ (l : List NodeState). state_in l c.args.node) c.self.view_is ∙ c.requires.live));
      free = let a = k.free in omega (arith, a, many);
      waiting =
          let a = k.waiting in
          let b = c.push_back.ensures.capacity in omega (arith, a, b, many);
    }
