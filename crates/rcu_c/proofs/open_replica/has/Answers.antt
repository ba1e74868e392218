use Rattle.std.proofs.Common.{◌≡◌, ◌/◌, ◌%◌, ap, ◌∙◌, rules, slice_index}
use Rattle.std.proofs.lemmas.Grind.{common_steps}
use Rattle.rcu_node.specs.Words.{has_bit}
use Rattle.rcu_node.proofs.Bits.{has_bit_shr}
use Rattle.rcu_c.proofs.open_replica.has.Goals as goal

pub returns : goal.returns
returns c =
    let read : c.unwrap_or-word.result ≡ slice_index c.args.words.now (c.args.cpu / 64) =
    let e = c.get.ensures in search (rules, common_steps) in
    has_bit_shr c.unwrap_or-word.result (c.args.cpu % 64)
    ∙ ap (λ w. has_bit w (c.args.cpu % 64)) read
