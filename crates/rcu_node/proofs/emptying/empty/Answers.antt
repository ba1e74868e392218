use Rattle.std.proofs.Common.{◌-◌, ◌∙◌, arith, lit<, subst, sym}
use Rattle.std.proofs.lemmas.List.{length-map}
use Rattle.rcu_geometry.specs.Geometry.{level_start, levels, nodes}
use Rattle.rcu_geometry.proofs.Levels.{start_rises}
use Rattle.rcu_node.specs.Masks.{now_masks, start_masks}
use Rattle.rcu_node.specs.Steps.{AreLinkedBefore}
use Rattle.rcu_node.specs.declared.node.Node.{Node}
use Rattle.rcu_node.proofs.Emptied.{all_empty, as_long, empty_on, level_up}
use Rattle.rcu_node.proofs.Emptied.{linked_before, still_no_more}
use Rattle.rcu_node.proofs.Roots.{root_here}
use Rattle.rcu_node.proofs.emptying.empty.Goals as goal

pub empty_level-requires : goal.empty_level-requires
empty_level-requires g c =
    let s = c.args.geometry.now in
    let l = c.loop-level in
    let old = c.args.nodes.now.items in
    let start = start_masks l.nodes.items in
    let long = as_long l.nodes.items old (nodes s) l.invariant.group
    c.requires.started.owned.sized in
    let rises = start_rises s l.level (levels s) l.invariant.here in
    let linked =
    linked_before s (start_masks old) start (level_start s l.level) c.requires.legal
    c.requires.started (long.1 ∙ sym c.requires.started.owned.sized) rises l.invariant.start in
    let some = c.loop-level-test.true in
    let here = l.invariant.here in (
      lit< tt,
      (
        c.requires.legal,
        (
          c.requires.fanout,
          (
            omega (arith, some),
            (
              omega (arith, some, here),
              (
                subst (λ level. AreLinkedBefore s start (level_start s level))
                    (sym (level_up l.level (omega (arith, some)))) linked,
                still_no_more (now_masks old) (start_masks old) (now_masks l.nodes.items) start
                    (level_start s l.level) c.requires.within l.invariant.now l.invariant.start,
              ),
            ),
          ),
        ),
      ),
    )

pub loop-level-preserved : goal.loop-level-preserved
loop-level-preserved g c =
    let s = c.args.geometry.now in
    let l = c.loop-level in
    let old = c.args.nodes.now.items in
    let some = c.loop-level-test.true in
    let here = l.invariant.here in
    let rises = start_rises s (l.level - 1) l.level (omega arith) in
    record {
      some = omega (arith, some);
      here = omega (arith, here);
      now = empty_on (now_masks old) (now_masks l.nodes.items)
          (now_masks c.empty_level.new.nodes.items) (level_start s l.level)
          (level_start s (l.level - 1)) rises l.invariant.now c.empty_level.ensures.now;
      start = empty_on (start_masks old) (start_masks l.nodes.items)
          (start_masks c.empty_level.new.nodes.items) (level_start s l.level)
          (level_start s (l.level - 1)) rises l.invariant.start c.empty_level.ensures.start;
      group = c.empty_level.ensures.group ∙ l.invariant.group;
    }

pub put_both-requires : goal.put_both-requires
put_both-requires g c =
    let s = c.args.geometry.now in
    let l = c.loop-level in
    let root = root_here s c.requires.legal in
    let long = as_long l.nodes.items c.args.nodes.now.items (nodes s) l.invariant.group
    c.requires.started.owned.sized in
    let same = length-map l.nodes.items (λ (node : Node). node.qsmask) in
    omega (arith, root, long, same)

pub returns-clause-now : goal.returns-clause-now
returns-clause-now g c =
    let s = c.args.geometry.now in
    let l = c.loop-level in
    let old = c.args.nodes.now.items in
    let new = c.put_both.new.nodes.items in
    let sized = c.requires.started.owned.sized in
    let before = as_long l.nodes.items old (nodes s) l.invariant.group sized in
    let after = as_long new old (nodes s) (c.put_both.ensures.group ∙ l.invariant.group) sized in
    all_empty s (now_masks old) (now_masks l.nodes.items) (now_masks new) l.level c.requires.legal
    after.0 before.0
    (let least = l.invariant.some in
    let last = c.loop-level-test.false in omega (arith, least, last))
    l.invariant.now c.put_both.ensures.now

pub returns-clause-start : goal.returns-clause-start
returns-clause-start g c =
    let s = c.args.geometry.now in
    let l = c.loop-level in
    let old = c.args.nodes.now.items in
    let new = c.put_both.new.nodes.items in
    let sized = c.requires.started.owned.sized in
    let before = as_long l.nodes.items old (nodes s) l.invariant.group sized in
    let after = as_long new old (nodes s) (c.put_both.ensures.group ∙ l.invariant.group) sized in
    all_empty s (start_masks old) (start_masks l.nodes.items) (start_masks new) l.level
    c.requires.legal after.1 before.1
    (let least = l.invariant.some in
    let last = c.loop-level-test.false in omega (arith, least, last))
    l.invariant.start c.put_both.ensures.start
