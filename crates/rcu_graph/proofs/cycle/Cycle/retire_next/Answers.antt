use Rattle.std.proofs.Common.{◌≡◌, ◌∙◌, ◌<◌, List, ℕ, arith, get_or, length, length-set, subst, sym}
use Rattle.std.proofs.lemmas.List.{get_or_default}
use Rattle.rcu_graph.specs.Cycle.{StandsAt, state_in}
use Rattle.rcu_graph.specs.Nodes.{IsBy}
use Rattle.rcu_graph.specs.declared.node_state.NodeState.{NodeState}
use Rattle.rcu_graph.specs.declared.node_state.NodeState.TheVariants.{Retired, Unlinked}
use Rattle.rcu_graph.proofs.Cycles.{cycle_retired, is_unlinked_at}
use Rattle.rcu_graph.proofs.cycle.Cycle.retire_next.Goals as goal

pub invariant_of-self : goal.invariant_of-self
invariant_of-self c =
    let i = c.self.inside in
    let k = c.self.invariant in
    let q = k.cycle.queue in
    let states = i.states.items in
    let waiting = i.waiting.items in
    let node = c.index-node.result.now in
    let many = length-set states node (Retired c.args.number) in
    let count : c.len.result ≡ length waiting = c.len.ensures ∙ i.waiting.ok.0 in
    let there : i.retired < length waiting =
    let fit = q.fit in let some = c.if-self-len.false in grind arith in
    let next : get_or waiting i.retired 0 ≡ node =
    sym (c.index-node.ensures ∙ get_or_default waiting i.retired node 0 there) in
    let low : node < length states =
    subst (λ (j : ℕ). j < length states) next (q.inside i.retired there) in
    let is_unlinked : state_in states node ≡ Unlinked =
    is_unlinked_at i.retired (state_in states node)
    (subst (λ (j : ℕ). StandsAt i.retired (state_in states j) i.retired) next
    (q.stands i.retired there)) in
    record {
      cycle = cycle_retired states i.free.items i.heights.items waiting i.retired k.cycle node low
          c.args.number is_unlinked there next
          (subst (λ (l : List NodeState). (j : ℕ) → j < length l
          → IsBy c.args.number (state_in l j))
          (sym c.self.view_is) c.requires);
      free = let a = k.free in omega (arith, a, many);
      waiting = let a = k.waiting in omega (arith, a, many);
    }
