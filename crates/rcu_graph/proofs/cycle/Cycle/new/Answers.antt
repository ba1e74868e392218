use Rattle.std.proofs.Common.{◌≡◌, ◌∙◌, List, ap, arith, length, replicate, subst, sym, ℕ}
use Rattle.std.proofs.lemmas.List.{length-replicate}
use Rattle.rcu_graph.specs.Cycle.{IsCycle}
use Rattle.rcu_graph.specs.declared.node_state.NodeState.{NodeState}
use Rattle.rcu_graph.specs.declared.node_state.NodeState.TheVariants.{Free}
use Rattle.rcu_graph.proofs.Cycles.{cycle_first}
use Rattle.rcu_graph.proofs.cycle.Cycle.new.Goals as goal

pub invariant_of-result : goal.invariant_of-result
invariant_of-result c =
    let n = c.args.count in
    let free = c.in_ok-free.free in
    let heights = c.in_ok-heights.heights in
    let free_now : c.in_ok-states.states.items ≡ replicate n Free =
    c.in_ok-states.ensures.items_if_clones_equal (λ y e. e) in
    let few : length c.in_ok-states.states.items ≡ n =
    ap (λ (l : List NodeState). length l) free_now ∙ length-replicate n Free in
    record {
      cycle = subst (λ (l : List NodeState).
          IsCycle l free.items heights.items c.in_ok-waiting.waiting.items 0)
          (sym free_now)
          (subst (λ (l : List ℕ). IsCycle (replicate n Free) free.items heights.items l 0)
          (sym c.in_ok-waiting.ensures.items)
          (cycle_first n free.items heights.items c.in_ok-free.ensures.many
          c.in_ok-heights.ensures.many c.in_ok-free.ensures.each c.in_ok-heights.ensures.each));
      free =
          let a = free.ok in
          let b = a.0 in
          let d = a.1 in let m = c.in_ok-free.ensures.many in omega (arith, few, b, d, m);
      waiting = let a = c.in_ok-waiting.ensures.capacity in omega (arith, few, a);
    }
