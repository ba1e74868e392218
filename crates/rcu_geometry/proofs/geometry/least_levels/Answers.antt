use Rattle.std.proofs.Common.{sym, arith}
use Rattle.rcu_geometry.specs.Geometry.{shape}
use Rattle.rcu_geometry.proofs.Capacities.{levels_at}
use Rattle.rcu_geometry.proofs.geometry.least_levels.Goals as goal

pub returns : goal.returns
returns c =
    let kept = c.loop-levels.invariant in
    sym
    (levels_at (shape c.args.leaf c.args.fan c.args.cpus) c.loop-levels.levels c.requires kept.some
    kept.least (omega arith))
