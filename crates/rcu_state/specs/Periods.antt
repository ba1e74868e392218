-- The situation of grace periods: the counter, and the needed number.
use Rattle.std.specs.Prelude.{ℕ, ◌&&◌, Bool, not, nat_lt, List, max, fold}
use Rattle.rcu_seq.specs.Numbers.{Number, number_at}
use Rattle.rcu_seq.specs.declared.tag.Tag.{Tag}

-- the situation of grace periods: the epoch, how many ended in it, whether one runs, and which
-- number is needed
pub record PeriodSituation : Type 0 where
  pub epoch : ℕ
  pub ends : ℕ
  pub running : Bool
  pub needed : Number

-- their number
abbrev pub number_in : PeriodSituation → Number
number_in p = number_at p.ends p.running

-- their number in its epoch
abbrev pub tag_in : PeriodSituation → Tag
tag_in p = record { epoch = p.epoch; number = number_in p }

-- a grace period is requested: the needed number is above the number, and none runs
abbrev pub wants_begin : PeriodSituation → Bool
wants_begin p = not p.running && nat_lt (number_in p) p.needed

-- the greatest of a number and some others
abbrev pub greatest_from : Number → List Number → Number
greatest_from number numbers = fold max number numbers
