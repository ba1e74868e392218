use Rattle.std.proofs.Common.{◌≡◌, ◌+◌, ◌-◌, ◌*◌, ◌≤◌, ◌∙◌, ap, arith, refl, slice_index}
use Rattle.std.proofs.Common.{subst, sym}
use Rattle.std.proofs.lemmas.List.{length-map}
use Rattle.std.proofs.lemmas.Nat.{mul-le}
use Rattle.rcu_geometry.specs.Geometry.{level_start, levels, nodes}
use Rattle.rcu_geometry.proofs.Capacities.{levels_range}
use Rattle.rcu_geometry.proofs.Levels.{start_rises, start_within}
use Rattle.rcu_node.specs.Masks.{now_masks, start_masks}
use Rattle.rcu_node.specs.Steps.{AreEmptyWithin}
use Rattle.rcu_node.specs.declared.node.Node.{Node}
use Rattle.rcu_node.proofs.Emptied.{IsAbove, as_long, begins_by, children_here, next_begin}
use Rattle.rcu_node.proofs.Emptied.{within_all, within_more}
use Rattle.rcu_node.proofs.emptying.empty_level.Goals as goal

pub overflow_mul-node : goal.overflow_mul-node
overflow_mul-node g c =
    let s = c.args.geometry.now in
    let range = levels_range s in
    let few = start_within s c.args.level c.requires.legal in
    let fan = c.requires.legal.fan_high in
    let product = mul-le (c.loop-node.node - c.level_start-above.result) g.row.FAN 16384 64
    (let before = c.loop-node-test.true in
    omega (arith, few, range, c.requires.level, c.level_start-first.ensures, before))
    (omega (arith, fan, c.requires.fanout)) in
    omega (arith, product)

pub overflow_add-first : goal.overflow_add-first
overflow_add-first g c =
    let s = c.args.geometry.now in
    let range = levels_range s in
    let few = start_within s c.args.level c.requires.legal in
    let fan = c.requires.legal.fan_high in
    let product = mul-le (c.loop-node.node - c.level_start-above.result) g.row.FAN 16384 64
    (let before = c.loop-node-test.true in
    omega (arith, few, range, c.requires.level, c.level_start-first.ensures, before))
    (omega (arith, fan, c.requires.fanout)) in
    omega (arith, product, few, range, c.requires.level, c.level_start-first.ensures)

pub empty_children-requires-clause-few : goal.empty_children-requires-clause-few
empty_children-requires-clause-few g c =
    let s = c.args.geometry.now in
    let range = levels_range s in
    let few = start_within s (levels s) c.requires.legal in
    let long = as_long c.loop-node.nodes.items c.args.nodes.now.items (nodes s)
    c.loop-node.invariant.group c.requires.started.owned.sized in
    let same = length-map c.loop-node.nodes.items (λ (node : Node). node.qsmask) in
    omega (arith, few, range, long, same)

pub empty_children-requires-clause-children : goal.empty_children-requires-clause-children
empty_children-requires-clause-children g c =
    let s = c.args.geometry.now in
    let l = c.loop-node in
    let first_is = c.level_start-first.ensures in
    let above_is = c.level_start-above.ensures in
    let long = as_long l.nodes.items c.args.nodes.now.items (nodes s) l.invariant.group
    c.requires.started.owned.sized in
    let same = length-map l.nodes.items (λ (node : Node). node.qsmask) in
    λ bit set.
    let here =
    children_here s (start_masks c.args.nodes.now.items) c.args.level l.node
    (slice_index (start_masks l.nodes.items) l.node)
    (c.level_start-first.result + (l.node - c.level_start-above.result) * g.row.FAN) bit
    (record {
      legal = c.requires.legal;
      some = c.requires.some;
      inner = c.requires.level;
      linked = c.requires.started;
      from = omega (arith, l.auto.node, above_is);
      below = omega (arith, c.loop-node-test.true, first_is);
    })
    (l.invariant.start.before l.node c.loop-node-test.true)
    (begins_by s c.args.level l.node c.level_start-first.result c.level_start-above.result g.row.FAN
    first_is above_is (sym c.requires.fanout))
    set in
    omega (arith, here, long, same)

pub empty_children-requires-clause-here : goal.empty_children-requires-clause-here
empty_children-requires-clause-here g c =
    let s = c.args.geometry.now in
    let rises = start_rises s c.args.level (levels s) (omega (arith, c.requires.level)) in
    let long = as_long c.loop-node.nodes.items c.args.nodes.now.items (nodes s)
    c.loop-node.invariant.group c.requires.started.owned.sized in
    let same = length-map c.loop-node.nodes.items (λ (node : Node). node.qsmask) in
    omega (arith, rises, long, same, c.level_start-first.ensures, c.loop-node-test.true)

pub loop-node-preserved : goal.loop-node-preserved
loop-node-preserved g c =
    let s = c.args.geometry.now in
    let l = c.loop-node in
    let first = c.level_start-first.result in
    let above = c.level_start-above.result in
    let first_is = c.level_start-first.ensures in
    let above_is = c.level_start-above.ensures in
    let old = c.args.nodes.now.items in
    let new = c.empty_children.new.nodes.items in
    let start = start_masks old in
    let word = slice_index (start_masks l.nodes.items) l.node in
    let begin = first + (l.node - above) * g.row.FAN in
    let end = first + (l.node + 1 - above) * s.fan in
    let ends : end ≡ begin + s.fan =
    next_begin first l.node above s.fan l.auto.node
    ∙ ap (λ fan. first + (l.node - above) * fan + s.fan) c.requires.fanout in
    let order : first ≤ begin = omega arith in
    let is : IsAbove s start c.args.level l.node = record {
      legal = c.requires.legal;
      some = c.requires.some;
      inner = c.requires.level;
      linked = c.requires.started;
      from = omega (arith, l.auto.node, above_is);
      below = omega (arith, c.loop-node-test.true, first_is);
    } in
    let read = l.invariant.start.before l.node c.loop-node-test.true in
    let begins = begins_by s c.args.level l.node first above g.row.FAN first_is above_is
    (sym c.requires.fanout) in
    record {
      now = within_more s start (now_masks old) (now_masks l.nodes.items) (now_masks new)
          c.args.level l.node word first begin end is c.requires.within read begins order ends
          (subst (λ fan. AreEmptyWithin (now_masks old) (now_masks l.nodes.items) first
          (first + (l.node - above) * fan)) c.requires.fanout l.invariant.now)
          c.empty_children.ensures.now;
      start = within_more s start start (start_masks l.nodes.items) (start_masks new)
          c.args.level l.node word first begin end is (λ k none. none) read begins order ends
          (subst (λ fan. AreEmptyWithin start (start_masks l.nodes.items) first
          (first + (l.node - above) * fan)) c.requires.fanout l.invariant.start)
          c.empty_children.ensures.start;
      group = c.empty_children.ensures.group ∙ l.invariant.group;
    }

pub returns-clause-now : goal.returns-clause-now
returns-clause-now g c =
    let s = c.args.geometry.now in
    let l = c.loop-node in
    let first = c.level_start-first.result in
    let above = c.level_start-above.result in
    let first_is = c.level_start-first.ensures in
    let above_is = c.level_start-above.ensures in
    let rises = start_rises s (c.args.level - 1) c.args.level (omega arith) in
    let last : l.node ≡ level_start s c.args.level =
    (let end = c.loop-node-test.false in
    omega (arith, l.auto.node, l.auto.node-end, end, first_is, above_is, rises)) in
    within_all s (start_masks c.args.nodes.now.items) (now_masks c.args.nodes.now.items)
    (now_masks l.nodes.items) c.args.level l.node first (first + (l.node - above) * s.fan)
    c.requires.legal c.requires.some c.requires.level c.requires.started c.requires.within last
    first_is (begins_by s c.args.level l.node first above s.fan first_is above_is refl)
    l.invariant.now

pub returns-clause-start : goal.returns-clause-start
returns-clause-start g c =
    let s = c.args.geometry.now in
    let l = c.loop-node in
    let first = c.level_start-first.result in
    let above = c.level_start-above.result in
    let first_is = c.level_start-first.ensures in
    let above_is = c.level_start-above.ensures in
    let rises = start_rises s (c.args.level - 1) c.args.level (omega arith) in
    let last : l.node ≡ level_start s c.args.level =
    (let end = c.loop-node-test.false in
    omega (arith, l.auto.node, l.auto.node-end, end, first_is, above_is, rises)) in
    within_all s (start_masks c.args.nodes.now.items) (start_masks c.args.nodes.now.items)
    (start_masks l.nodes.items) c.args.level l.node first (first + (l.node - above) * s.fan)
    c.requires.legal c.requires.some c.requires.level c.requires.started (λ k none. none) last
    first_is (begins_by s c.args.level l.node first above s.fan first_is above_is refl)
    l.invariant.start
