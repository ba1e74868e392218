-- For callers: the number while a grace period runs.
use Rattle.std.proofs.Common.{◌≡◌, ℕ, Bool, true, arith}
use Rattle.std.proofs.lemmas.Bool.Decides.{nat_tests}
use Rattle.rcu_seq.specs.Numbers.{is_running, number_at}

-- the number while a grace period runs is one at which one runs
pub running_number : (ends : ℕ) (running : Bool) → running ≡ true
    → is_running (number_at ends running) ≡ true
running_number ends running runs = grind (arith, nat_tests, runs)
