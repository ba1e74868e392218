use Rattle.std.proofs.Common.{◌-◌, ap, ◌∙◌, ◌++◌, ◌∷◌, [], arith, rules}
use Rattle.rcu_geometry.specs.Geometry.{shape}
use Rattle.rcu_geometry.proofs.Capacities.{levels_range}
use Rattle.rcu_geometry.proofs.Levels.{level_nodes_by, level_within, starts_first, starts_more}
use Rattle.rcu_geometry.proofs.geometry.level_starts.Goals as goal

pub loop-height-init : goal.loop-height-init
loop-height-init c =
    starts_first (shape c.args.leaf c.args.fan c.args.cpus) c.push.new.self.items
    (c.args.levels - c.args.levels)
    (c.push.ensures.items ∙ ap (λ starts. starts ++ 0 ∷ []) c.new-starts.ensures) (omega arith)

pub nodes_at-next-requires-clause-height : goal.nodes_at-next-requires-clause-height
nodes_at-next-requires-clause-height c =
    let range = levels_range (shape c.args.leaf c.args.fan c.args.cpus) in omega arith

pub overflow_add-next : goal.overflow_add-next
overflow_add-next c =
    let s = shape c.args.leaf c.args.fan c.args.cpus in
    let i = c.args.levels - c.loop-height.height in
    let range = levels_range s in
    let within = level_within s i c.requires.legal in
    let before = c.loop-height.invariant.few in
    let counted =
    level_nodes_by s i (c.loop-height.height - 1) c.nodes_at-next.result (omega arith)
    c.nodes_at-next.ensures in
    omega arith

pub push-requires-in-loop-height : goal.push-requires-in-loop-height
push-requires-in-loop-height c =
    let range = levels_range (shape c.args.leaf c.args.fan c.args.cpus) in
    let sized = c.loop-height.invariant.sized in
    (search rules, omega arith)

pub loop-height-preserved : goal.loop-height-preserved
loop-height-preserved c =
    let s = shape c.args.leaf c.args.fan c.args.cpus in
    let i = c.args.levels - c.loop-height.height in
    let range = levels_range s in
    let counted =
    level_nodes_by s i (c.loop-height.height - 1) c.nodes_at-next.result (omega arith)
    c.nodes_at-next.ensures in
    starts_more s c.loop-height.starts.items c.push-in-loop-height.new.self.items c.loop-height.next
    c.nodes_at-next.result i (c.args.levels - (c.loop-height.height - 1)) c.requires.legal
    c.loop-height.invariant counted c.push-in-loop-height.ensures.items (omega arith)
