use Rattle.std.proofs.Common.{◌+◌, ◌∙◌, arith, refl, slice_index}
use Rattle.std.specs.Int.{trailing_zeros, w64}
use Rattle.std.proofs.lemmas.List.{length-map}
use Rattle.rcu_node.specs.Masks.{now_masks, start_masks}
use Rattle.rcu_node.specs.declared.node.Node.{Node}
use Rattle.rcu_node.proofs.Emptied.{as_many, cleared_all, cleared_more, less_left}
use Rattle.rcu_node.proofs.NextCpus.{lowest}
use Rattle.rcu_node.proofs.emptying.empty_children.Goals as goal

pub overflow_add-first : goal.overflow_add-first
overflow_add-first c =
    let l = c.loop-children in
    let bit = trailing_zeros w64 l.children in
    let full = c.loop-children-test.true in
    let found = lowest l.children (grind (arith, full)) l.auto.children-fits.fits in
    let here = c.requires.children bit (l.invariant.start.part bit found.here) in
    let few = c.requires.few in
    omega (arith, here, few)

pub put_both-requires : goal.put_both-requires
put_both-requires c =
    let l = c.loop-children in
    let bit = trailing_zeros w64 l.children in
    let full = c.loop-children-test.true in
    let found = lowest l.children (grind (arith, full)) l.auto.children-fits.fits in
    let here = c.requires.children bit (l.invariant.start.part bit found.here) in
    let same = as_many l.nodes.items c.args.nodes.now.items l.invariant.group in
    omega (arith, here, same)

pub loop-children-smaller : goal.loop-children-smaller
loop-children-smaller c =
    let l = c.loop-children in
    let bit = trailing_zeros w64 l.children in
    let full = c.loop-children-test.true in
    let found = lowest l.children (grind (arith, full)) l.auto.children-fits.fits in
    less_left l.children _ bit found.here found.low refl

pub loop-children-preserved : goal.loop-children-preserved
loop-children-preserved c =
    let l = c.loop-children in
    let bit = trailing_zeros w64 l.children in
    let full = c.loop-children-test.true in
    let found = lowest l.children (grind (arith, full)) l.auto.children-fits.fits in
    let there = c.requires.children bit (l.invariant.start.part bit found.here) in
    let same = as_many l.nodes.items c.args.nodes.now.items l.invariant.group in
    let now_long = length-map l.nodes.items (λ (node : Node). node.qsmask) in
    let start_long = length-map l.nodes.items (λ (node : Node). node.qsmaskinit) in
    let word = slice_index (start_masks c.args.nodes.now.items) c.args.node in
    record {
      now = cleared_more (now_masks c.args.nodes.now.items) (now_masks l.nodes.items)
          (now_masks c.put_both.new.nodes.items) c.args.first word l.children _ bit
          (c.args.first + bit) l.invariant.now l.auto.children-fits.fits found.here found.low refl
          refl (omega (arith, there, same, now_long)) c.put_both.ensures.now;
      start = cleared_more (start_masks c.args.nodes.now.items) (start_masks l.nodes.items)
          (start_masks c.put_both.new.nodes.items) c.args.first word l.children _ bit
          (c.args.first + bit) l.invariant.start l.auto.children-fits.fits found.here found.low refl
          refl (omega (arith, there, same, start_long)) c.put_both.ensures.start;
      group = c.put_both.ensures.group ∙ l.invariant.group;
    }

pub returns-clause-now : goal.returns-clause-now
returns-clause-now c =
    let l = c.loop-children in
    cleared_all (now_masks c.args.nodes.now.items) (now_masks l.nodes.items) c.args.first
    (slice_index (start_masks c.args.nodes.now.items) c.args.node) l.children l.invariant.now
    c.loop-children-test.false

pub returns-clause-start : goal.returns-clause-start
returns-clause-start c =
    let l = c.loop-children in
    cleared_all (start_masks c.args.nodes.now.items) (start_masks l.nodes.items) c.args.first
    (slice_index (start_masks c.args.nodes.now.items) c.args.node) l.children l.invariant.start
    c.loop-children-test.false
