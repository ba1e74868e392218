use Rattle.std.proofs.Common.{◌≡◌, ◌∙◌, true, sym, arith, rules, lit<}
use Rattle.rcu_node.specs.Masks.{now_masks}
use Rattle.rcu_node.proofs.Members.{length-members}
use Rattle.rcu_node.proofs.nodes.NodesPeriodSets.remove.Goals as goal

pub walk-requires : goal.walk-requires
walk-requires g c =
    let tree = c.args.self.now in
    let sized = length-members tree.geometry (now_masks tree.nodes.items) in
    let found : c.awaits.result ≡ true = (let there = c.if-not-awaits.false in search rules) in (
      lit< tt,
      (
        tree.legal,
        (
          omega (arith, c.requires, sized),
          (tree.awaited, (tree.groups, sym c.awaits.ensures ∙ found)),
        ),
      ),
    )
