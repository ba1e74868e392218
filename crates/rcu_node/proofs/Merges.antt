-- A set that is cut down processor by processor.
use Rattle.std.proofs.Common.{◌≡◌, ℕ, ◌<◌, ◌≤◌, ◌&&◌, Bool, true, false, not, nat_lt, List, length}
use Rattle.std.proofs.Common.{refl, sym, ◌∙◌, arith}
use Rattle.std.proofs.lemmas.Bool.Decides.{nat_tests}
use Rattle.std.proofs.lemmas.List.{ext_get_or}
use Rattle.rcu_node.specs.CpuSet.{is_in, intersection}
use Rattle.rcu_node.proofs.CpuSetLemmas.{length-listed, is_in-listed}

-- a set without those processors below a counter that another one no longer awaits
pub record IsCutBelow (counter : ℕ) (set other now : List Bool) : Type 0 where
  pub sized : length now ≡ length set
  pub flag : (cpu : ℕ)
      → is_in now cpu ≡ (is_in set cpu && not (nat_lt cpu counter && not (is_in other cpu)))

-- two tests of a processor that is below all counters
cut_flag : (there other : Bool) → (there && not (true && not other)) ≡ (there && other)
cut_flag true true = refl
cut_flag true false = refl
cut_flag false other = refl

-- once the counter is past all, those are left that are in both
pub cut_all : (counter : ℕ) (set other now : List Bool)
    → length set ≤ counter → IsCutBelow counter set other now → now ≡ intersection set other
cut_all counter set other now past h =
    let both = λ (cpu : ℕ). is_in set cpu && is_in other cpu in
    ext_get_or false now (intersection set other) (h.sized ∙ sym (length-listed (length set) both))
    (λ cpu l.
    let below : cpu < length set = omega (arith, l, h.sized) in
    let passed : nat_lt cpu counter ≡ true = grind (arith, nat_tests, below, past) in
    h.flag cpu ∙ rw passed (cut_flag (is_in set cpu) (is_in other cpu))
    ∙ sym (is_in-listed (length set) both cpu below))
