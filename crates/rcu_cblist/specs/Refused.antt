-- The value that a refused call returns.
use Rattle.std.specs.Prelude.{◌≡◌, Option, Some}
use Rattle.rcu_seq.specs.declared.fault.Fault.{Fault}
use Rattle.rcu_cblist.specs.declared.items.Refused.{Refused}

-- the call was refused for this cause, and returns the value that the caller passed
pub record HandsBack {V : Type 0} (cause : Option Fault) (given : V) (refused : Refused V) :
    Type 0 where
  pub fault : cause ≡ Some refused.fault
  pub value : refused.value ≡ given
