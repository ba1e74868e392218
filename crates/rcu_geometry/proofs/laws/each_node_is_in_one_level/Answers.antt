use Rattle.std.proofs.Common.{arith}
use Rattle.rcu_geometry.specs.Geometry.{level_of}
use Rattle.rcu_geometry.proofs.Capacities.{levels_range}
use Rattle.rcu_geometry.proofs.Levels.{start_next, start_zero, level_some, level_at}
use Rattle.rcu_geometry.proofs.Places.{lies}
use Rattle.rcu_geometry.proofs.laws.each_node_is_in_one_level.Goals as goal

pub returns-clause-level : goal.returns-clause-level
returns-clause-level c = λ s node below. (lies s node below).inner

pub returns-clause-from : goal.returns-clause-from
returns-clause-from c = λ s node below. let is = (lies s node below).is in omega arith

pub returns-clause-below : goal.returns-clause-below
returns-clause-below c = λ s node below.
    let there = lies s node below in
    let next = start_next s (level_of s node) in
    let is = there.is in let place = there.below in
    omega arith

pub returns-clause-only : goal.returns-clause-only
returns-clause-only c = λ s node i inner from below.
    level_at s node i (let range = levels_range s in omega arith) from below

pub returns-clause-root : goal.returns-clause-root
returns-clause-root c = λ s legal.
    let first = start_zero s in
    let next = start_next s 0 in
    let some = level_some s 0 legal in
    level_at s 0 0 (omega arith) (omega arith) (omega arith)
