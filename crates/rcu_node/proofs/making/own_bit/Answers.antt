use Rattle.rcu_node.proofs.Marks.{no_bit, own_bit}
use Rattle.rcu_node.proofs.making.own_bit.Goals as goal

pub overflow_shl-result : goal.overflow_shl-result
overflow_shl-result g c =
    (own_bit c.args.geometry.now c.args.node c.in-Some.bit c.requires.legal c.requires.here
    c.in-Some.ensures.value).low

pub returns-in-Some : goal.returns-in-Some
returns-in-Some g c =
    (own_bit c.args.geometry.now c.args.node c.in-Some.bit c.requires.legal c.requires.here
    c.in-Some.ensures.value).is

pub returns-in-None : goal.returns-in-None
returns-in-None g c = no_bit c.args.geometry.now c.args.node c.in-None.ensures.value
