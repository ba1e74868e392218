use Rattle.std.proofs.Common.{◌≡◌, ◌∙◌, ◌<◌, ◌-◌, ◌++◌, ◌∷◌, [], List, ℕ, ap, arith, get_or, length}
use Rattle.std.proofs.Common.{length-drop, length-set, set, subst, sym, true}
use Rattle.std.proofs.lemmas.Grind.{get_or_after_one}
use Rattle.std.proofs.lemmas.List.{get_or_default}
use Rattle.rcu_seq.specs.Numbers.{Number}
use Rattle.rcu_graph.specs.Cycle.{IsCycle, StandsAt, is_over, state_in}
use Rattle.rcu_graph.specs.Nodes.{is_free, reclaimed_state}
use Rattle.rcu_graph.specs.declared.node_state.NodeState.{NodeState}
use Rattle.rcu_graph.specs.declared.node_state.NodeState.TheVariants.{Free, Retired}
use Rattle.rcu_graph.proofs.Cycles.{cycle_freed, is_retired, room}
use Rattle.rcu_graph.proofs.cycle.Cycle.free_next.Goals as goal

pub unreachable-requires : goal.unreachable-requires
unreachable-requires c =
    let i = c.self.inside in
    let k = c.self.invariant in
    let a = room i.states.items i.free.items i.heights.items i.waiting.items i.retired k.cycle in
    let full = c.in_default.ensures.full in
    let few = i.free.ok.0 in
    let fits = k.free in
    let some = c.if-self-eq0.false in
    let fit = k.cycle.queue.fit in
    omega (arith, a, full, few, fits, some, fit)

module _ (c : goal.After-self-3-1) where
  abbrev node : ℕ
  node = c.index-node.result.now

  abbrev states : List NodeState
  states = c.self.inside.states.items

  abbrev waiting : List ℕ
  waiting = c.self.inside.waiting.items

  some : 0 < c.self.inside.retired
  some = let a = c.if-self-eq0.false in omega (arith, a)

  there : 0 < length waiting
  there = let a = some in let b = c.self.invariant.cycle.queue.fit in omega (arith, a, b)

  first : get_or waiting 0 0 ≡ node
  first = sym (c.index-node.ensures ∙ get_or_default waiting 0 node 0 there)

  low : node < length states
  low = subst (λ (i : ℕ). i < length states) first (c.self.invariant.cycle.queue.inside 0 there)

  read : c.index.result.now ≡ state_in states node
  read = c.index.ensures ∙ get_or_default states node c.index.result.now Free low

  is_over_now : is_free (reclaimed_state c.args.number c.args.number (state_in states node)) ≡ true
  is_over_now = subst (λ (s : NodeState).
      is_free (reclaimed_state c.args.number c.args.number s) ≡ true) read
      (sym (c.is_free.ensures ∙ ap is_free c.reclaimed.ensures) ∙ c.if-not-is_free.false)

  over : (at : Number)
      × (state_in states node ≡ Retired at)
      × (is_over c.args.number (state_in states node) ≡ true)
  over = is_retired c.args.number c.self.inside.retired (state_in states node)
      (subst (λ (i : ℕ). StandsAt c.self.inside.retired (state_in states i) 0) first
      (c.self.invariant.cycle.queue.stands 0 there)) some is_over_now

pub invariant_of-self : goal.invariant_of-self
invariant_of-self c =
    let i = c.self.inside in
    let k = c.self.invariant in
    let many = length-set (states c) (node c) Free in
    let rest = c.pop_front.new.self.items in
    let count : c.len.result ≡ length i.free.items = c.len.ensures ∙ i.free.ok.0 in
    record {
      cycle = subst (λ (l : List ℕ). IsCycle (set (states c) (node c) Free) l
          (set i.heights.items (node c) c.len.result) rest (i.retired - 1))
          (sym c.in-Ok.ensures.items)
          (subst (λ (m : ℕ). IsCycle (set (states c) (node c) Free)
          (i.free.items ++ node c ∷ []) (set i.heights.items (node c) m) rest (i.retired - 1))
          (sym count)
          (cycle_freed (states c) i.free.items i.heights.items (waiting c) i.retired k.cycle
          (node c) (low c) (over c).0 rest (over c).1 (some c) (first c)
          (let a = there c in
          let b = ap (λ (l : List ℕ). length l) c.pop_front.ensures.rest in
          let d = length-drop 1 (waiting c) in grind (arith))
          (λ k. ap (λ (l : List ℕ). get_or l k 0) c.pop_front.ensures.rest
          ∙ get_or_after_one (waiting c) k 0)));
      free = let a = k.free in let b = c.push.ensures.capacity in omega (arith, a, b, many);
      waiting =
          let a = k.waiting in let b = c.pop_front.ensures.capacity in omega (arith, a, b, many);
    }

pub returns : goal.returns
returns c = (
  node c,
  subst (λ (l : List NodeState). node c < length l) c.self.view_is (low c),
  subst (λ (l : List NodeState). is_over c.args.number (state_in l (node c)) ≡ true)
      c.self.view_is (over c).2,
  ap (λ (l : List NodeState). set l (node c) Free) c.self.view_is,
)
