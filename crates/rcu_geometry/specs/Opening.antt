-- The sizes that an engine is opened with.
use Rattle.std.specs.Prelude.{ℕ, not, [], ◌∷◌, ◌++◌, Option}
use Rattle.rcu_seq.specs.Fault.{first_fault}
use Rattle.rcu_seq.specs.Numbers.{Number, is_last}
use Rattle.rcu_seq.specs.declared.fault.Fault.{Fault}
use Rattle.rcu_seq.specs.declared.fault.Fault.TheVariants.{BadLast}
use Rattle.rcu_geometry.specs.Geometry.{causes, shape}

-- the first fault of the opening of an engine over the tree of these fanouts, with this number of
-- processors and this last number. The shape is tested first. A refused allocation comes after all
-- of these
abbrev pub opening_refusal : ℕ → ℕ → ℕ → Number → Option Fault
opening_refusal leaf fan cpus last =
    first_fault (causes (shape leaf fan cpus) ++ (not (is_last last), BadLast) ∷ [])
