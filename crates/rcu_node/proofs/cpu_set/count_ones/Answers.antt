use Rattle.std.proofs.Common.{◌≡◌, ◌∙◌, sum_by, count_ones, rules}
use Rattle.rcu_node.proofs.Ones.{sum_of_ones-is}
use Rattle.rcu_node.proofs.cpu_set.count_ones.Goals as goal

pub returns : goal.returns
returns c =
    let words = c.args.words.now in
    let all : c.sum.result ≡ sum_by count_ones words = search rules in
    all ∙ sum_of_ones-is words (λ place l. (c.type_inv.words place).fits)
