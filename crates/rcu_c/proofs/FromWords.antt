-- A merge leaves as many processors, and sets are filled from words.
use Rattle.std.proofs.Common.{◌≡◌, ◌≢◌, ℕ, ◌+◌, ◌<◌, ◌≤◌, ◌/◌, ◌%◌, ◌&&◌, Bool, true, false, List}
use Rattle.std.proofs.Common.{nat_lt, refl, replicate, sym, ap, ◌∙◌, arith, inl, inr, slice_index}
use Rattle.std.proofs.Common.{slice_set}
use Rattle.std.proofs.lemmas.Bool.{cases_eq, cases_lt}
use Rattle.std.proofs.lemmas.Bool.Decides.{nat_tests}
use Rattle.rcu_node.specs.CpuSet.{listed}
use Rattle.rcu_node.specs.Words.{flags_in, has_bit}
use Rattle.rcu_node.proofs.CpuSetLemmas.{is_in-listed, length-intersection, length-listed}
use Rattle.rcu_node.proofs.CpuSetLemmas.{listed_none, listed_same, listed_set}
use Rattle.rcu_report.specs.Replica.{Merge, Replicated, after_call, cpus_of}

-- a merge leaves as many processors
pub as_many_merged : (r other : Replicated) → cpus_of (after_call r (Merge other)) ≡ cpus_of r
as_many_merged r other = length-intersection r.awaited other.awaited

-- a processor's bit in words of 64
abbrev pub bit_of : List ℕ → ℕ → Bool
bit_of words cpu = has_bit (slice_index words (cpu / 64)) (cpu % 64)

-- the processors below i whose bits are set
abbrev pub filled : ℕ → List ℕ → ℕ → List Bool
filled n words i = listed n (λ cpu. nat_lt cpu i && bit_of words cpu)

-- a number below one more is below, but for that one
below_more : (k i : ℕ) → k ≢ i → nat_lt k (i + 1) ≡ nat_lt k i
below_more k i other = elim (cases_lt k i) [
  | inl l ↦ grind (arith, nat_tests, l)
  | inr l ↦ grind (arith, nat_tests, l, other)
]

-- neither here nor there, if the bit is not set
no_flag : (here bit : Bool) → bit ≡ false → (here && bit) ≡ false
no_flag true bit none = none
no_flag false bit none = refl

-- at first there is none
pub filled_none : (n : ℕ) (words : List ℕ) → replicate n false ≡ filled n words 0
filled_none n words =
    sym
    (listed_none n (λ cpu. nat_lt cpu 0 && bit_of words cpu) (λ cpu low. grind (arith, nat_tests)))

-- one more, whose bit is set
pub filled_more : (n i : ℕ) (words : List ℕ) → i < n → bit_of words i ≡ true
    → slice_set (filled n words i) i true ≡ filled n words (i + 1)
filled_more n i words low is =
    let there : nat_lt i (i + 1) ≡ true = grind (arith, nat_tests) in
    sym (listed_set n (λ cpu. nat_lt cpu i && bit_of words cpu)
    (λ cpu. nat_lt cpu (i + 1) && bit_of words cpu) i true low
    (ap (λ b. b && bit_of words i) there ∙ is)
    (λ k below other. ap (λ b. b && bit_of words k) (below_more k i other)))

-- one more, whose bit is not
pub filled_same : (n i : ℕ) (words : List ℕ) → bit_of words i ≡ false
    → filled n words i ≡ filled n words (i + 1)
filled_same n i words not_set =
    listed_same n (λ cpu. nat_lt cpu i && bit_of words cpu) (filled n words (i + 1))
    (length-listed n _)
    (λ cpu low. elim (cases_eq cpu i) [
      | inl same ↦ (let none : bit_of words cpu ≡ false = ap (bit_of words) same ∙ not_set in
          no_flag (nat_lt cpu i) (bit_of words cpu) none
          ∙ sym (is_in-listed n _ cpu low ∙ no_flag (nat_lt cpu (i + 1)) (bit_of words cpu) none))
      | inr other ↦
          sym (is_in-listed n _ cpu low ∙ ap (λ b. b && bit_of words cpu) (below_more cpu i other))
    ])

-- all of them
pub filled_all : (n i : ℕ) (words : List ℕ) → n ≤ i → filled n words i ≡ flags_in n words
filled_all n i words all =
    listed_same n (λ cpu. nat_lt cpu i && bit_of words cpu) (flags_in n words)
    (length-listed n (bit_of words))
    (λ cpu low. let there : nat_lt cpu i ≡ true = grind (arith, nat_tests, low, all) in
    ap (λ b. b && bit_of words cpu) there ∙ sym (is_in-listed n (bit_of words) cpu low))
