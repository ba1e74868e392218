use Rattle.std.proofs.Common.{◌≡◌, ◌≢◌, ◌∙◌, ◌<◌, ◌-◌, ◌+◌, List, ap, arith, get_or, length}
use Rattle.std.proofs.Common.{length-set, set, subst, sym, ℕ}
use Rattle.std.proofs.lemmas.List.{get_or_default}
use Rattle.rcu_graph.specs.Cycle.{IsCycle, state_in}
use Rattle.rcu_graph.specs.declared.node_state.NodeState.{NodeState}
use Rattle.rcu_graph.specs.declared.node_state.NodeState.TheVariants.{Free, Live}
use Rattle.rcu_graph.proofs.Cycles.{cycle_published}
use Rattle.rcu_graph.proofs.cycle.Cycle.publish.Goals as goal

pub invariant_of-self : goal.invariant_of-self
invariant_of-self c =
    let i = c.self.inside in
    let k = c.self.invariant in
    let e = c.swap_remove.ensures in
    let node = c.args.node in
    let free = i.free.items in
    let heights = i.heights.items in
    let height = c.index-height.result.now in
    let top = c.index-top.result.now in
    let left = c.swap_remove.new.self in
    let many = length-set i.states.items node Live in
    let low : node < length i.states.items =
    subst (λ (l : List NodeState). node < length l) (sym c.self.view_is) c.requires.node in
    let is_free : state_in i.states.items node ≡ Free =
    ap (λ (l : List NodeState). state_in l node) c.self.view_is ∙ c.requires.free in
    let in_heights : node < length heights =
    let a = k.cycle.stack.many in omega (arith, low, a) in
    let height_is : height ≡ get_or heights node 0 =
    c.index-height.ensures ∙ get_or_default heights node height 0 in_heights in
    let some = (k.cycle.stack.home node low is_free).0 in
    let length_is = i.free.ok.0 in
    let count : c.len.result ≡ length free = c.len.ensures ∙ length_is in
    let top_is : top ≡ get_or free (length free - 1) 0 =
    c.index-top.ensures
    ∙ (get_or_default free (c.len.result - 1) top 0 (omega (arith, some, count))
    ∙ ap (λ (m : ℕ). get_or free (m - 1) 0) count) in
    let fewer : length left.items + 1 ≡ length free =
    let a = left.ok.0 in let m = e.len in omega (arith, a, length_is, m) in
    record {
      cycle = subst (λ (t : ℕ). IsCycle (set i.states.items node Live) left.items
          (set heights t height) i.waiting.items i.retired) (sym top_is)
          (subst (λ (m : ℕ). IsCycle (set i.states.items node Live) left.items
          (set heights (get_or free (length free - 1) 0) m) i.waiting.items i.retired)
          (sym height_is)
          (cycle_published i.states.items free heights i.waiting.items i.retired k.cycle node low
          is_free left.items fewer
          (subst (λ (m : ℕ). m + 1 < length free
          → get_or left.items m 0 ≡ get_or free (length free - 1) 0) height_is
          (λ more.
          subst (λ (m : ℕ). get_or left.items height 0 ≡ get_or free (m - 1) 0) length_is
          (e.by_index.0 0 (omega (arith, more, length_is)))))
          (subst (λ (m : ℕ). (j : ℕ) → j ≢ m → j + 1 < length free
          → get_or left.items j 0 ≡ get_or free j 0) height_is
          (λ j ne more. e.by_index.1 j 0 ne (omega (arith, more, length_is))))));
      free = let a = k.free in let b = e.capacity in omega (arith, a, b, many);
      waiting = let a = k.waiting in omega (arith, a, many);
    }
