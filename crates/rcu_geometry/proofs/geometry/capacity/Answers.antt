use Rattle.std.proofs.Common.{◌*◌, ◌^◌, ap, arith}
use Rattle.std.proofs.lemmas.Nat.{mul-le}
use Rattle.std.proofs.Math.Nat.{one-le-pow}
use Rattle.rcu_geometry.proofs.Capacities.{power_within, capacity_within}
use Rattle.rcu_geometry.proofs.geometry.capacity.Goals as goal

pub pow-requires : goal.pow-requires
pow-requires c =
    omega (arith, power_within c.args.fan c.args.height c.requires.fan c.requires.height)

pub overflow_mul-result : goal.overflow_mul-result
overflow_mul-result c =
    let product = ap (λ power. c.args.leaf * power) c.pow.ensures in
    omega (
      arith,
      product,
      capacity_within c.args.leaf c.args.fan c.args.height c.requires.leaf c.requires.fan
          c.requires.height,
    )

pub returns-clause-some : goal.returns-clause-some
returns-clause-some c = λ leaf fan.
    let power = one-le-pow c.args.height c.args.fan fan in
    let product = ap (λ power. c.args.leaf * power) c.pow.ensures in
    let some = mul-le 1 1 c.args.leaf (c.args.fan ^ c.args.height) leaf power in
    omega (arith, product, some)
