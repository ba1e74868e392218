use Rattle.std.proofs.Common.{◌-◌, ◌/◌, arith}
use Rattle.std.proofs.lemmas.Nat.{mod_below}
use Rattle.rcu_geometry.specs.Geometry.{levels, leaf_of}
use Rattle.rcu_geometry.proofs.Children.{leaf_level}
use Rattle.rcu_geometry.proofs.Places.{lies_below, leaf_lies}
use Rattle.rcu_geometry.proofs.laws.leaves_are_the_last_level.Goals as goal

pub returns-clause-below : goal.returns-clause-below
returns-clause-below c = λ s cpu legal below.
    lies_below s (leaf_of s cpu) (levels s - 1) (cpu / s.leaf) (leaf_lies s cpu legal below)

pub returns-clause-bit : goal.returns-clause-bit
returns-clause-bit c =
    λ s cpu legal. let leaf = legal.leaf_low in mod_below cpu s.leaf (omega arith)

pub returns-clause-level : goal.returns-clause-level
returns-clause-level c = leaf_level
