-- The consequences of an accepted turn for its counter, for all callers of a turn.
use Rattle.std.proofs.Common.{◌≡◌, ◌≢◌, None, true, false, arith}
use Rattle.std.proofs.lemmas.Bool.Decides.{nat_tests}
use Rattle.rcu_seq.specs.Numbers.{Number, is_last}
use Rattle.rcu_seq.specs.Seq.{Periods, Begin, End, Renumber, last_refusal, number_of, refusal}
use Rattle.rcu_seq.specs.Tags.{last_epoch}

-- a last number that is not refused is one
pub accepted_last : (last : Number) → last_refusal last ≡ None → is_last last ≡ true
accepted_last last e = grind (arith, e)

-- a begin: none runs, below the last number
pub accepted_begin : (p : Periods) → refusal p Begin ≡ None
    → (p.running ≡ false) × (number_of p ≢ p.last)
accepted_begin p e = grind (arith, nat_tests, e)

-- an end: one runs
pub accepted_end : (p : Periods) → refusal p End ≡ None → p.running ≡ true
accepted_end p e = grind (arith, nat_tests, e)

-- a renumbering: none runs, at the last number, before the last epoch
pub accepted_renumber : (p : Periods) → refusal p Renumber ≡ None
    → (p.running ≡ false) × (number_of p ≡ p.last) × (p.epoch ≢ last_epoch)
accepted_renumber p e = grind (arith, nat_tests, e)
