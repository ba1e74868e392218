use Rattle.std.proofs.Common.{◌∙◌, sym}
use Rattle.rcu_node.specs.Masks.{now_masks}
use Rattle.rcu_node.proofs.Members.{length-members}
use Rattle.rcu_node.proofs.nodes.NodesPeriodSets.cpus.Goals as goal

pub returns : goal.returns
returns g c =
    let tree = c.args.self.now in
    c.cpus.ensures.value ∙ sym (length-members tree.geometry (now_masks tree.nodes.items))
