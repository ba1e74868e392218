use Rattle.std.proofs.Common.{arith}
use Rattle.rcu_geometry.specs.Geometry.{levels}
use Rattle.rcu_geometry.proofs.Capacities.{levels_range}
use Rattle.rcu_geometry.proofs.Levels.{one_root, level_some, start_within, leaves_some}
use Rattle.rcu_geometry.proofs.laws.levels_have_nodes.Goals as goal

pub returns-clause-least : goal.returns-clause-least
returns-clause-least c = λ s. (levels_range s).0

pub returns-clause-most : goal.returns-clause-most
returns-clause-most c = λ s. (levels_range s).1

pub returns-clause-root : goal.returns-clause-root
returns-clause-root c = one_root

pub returns-clause-some : goal.returns-clause-some
returns-clause-some c = level_some

pub returns-clause-few : goal.returns-clause-few
returns-clause-few c = λ s legal.
    let range = levels_range s in let within = start_within s (levels s) legal in omega arith

pub returns-clause-leaves : goal.returns-clause-leaves
returns-clause-leaves c = λ s legal. leaves_some s legal
