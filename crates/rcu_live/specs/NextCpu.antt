-- A walk over the processors of a set.
use Rattle.std.specs.Prelude.{ℕ, ◌≡◌, ◌<◌, ◌≤◌, Bool, true, false, List, length}
use Rattle.rcu_node.specs.CpuSet.{is_in}

-- a processor is the first one of a set from another one on
pub record IsNextFrom (set : List Bool) (from cpu : ℕ) : Type 0 where
  pub later : from ≤ cpu
  pub inside : cpu < length set
  pub here : is_in set cpu ≡ true
  pub none : (c : ℕ) → from ≤ c → c < cpu → is_in set c ≡ false
