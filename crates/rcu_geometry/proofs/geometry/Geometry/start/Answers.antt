use Rattle.std.proofs.Common.{subst, arith, rules}
use Rattle.rcu_geometry.specs.Geometry.{IsLegalShape}
use Rattle.rcu_geometry.proofs.Capacities.{levels_range}
use Rattle.rcu_geometry.proofs.Levels.{start_within}
use Rattle.rcu_geometry.proofs.geometry.Geometry.start.Goals as goal

pub returns-clause-value : goal.returns-clause-value
returns-clause-value g c = search rules

pub returns-clause-few : goal.returns-clause-few
returns-clause-few g c =
    let legal = subst (λ s. IsLegalShape s) c.self.view_is c.self.invariant.legal in
    let value = returns-clause-value g c in
    omega (arith, value, start_within c.args.self.now c.args.i legal, levels_range c.args.self.now)
