-- The next processor of a set, by the flags of 64 of them as a word.
use Rattle.std.proofs.Common.{◌≡◌, ℕ, ◌+◌, ◌-◌, ◌^◌, ◌<◌, ◌≤◌, ◌==◌, ◌&&◌, Bool, true, false}
use Rattle.std.proofs.Common.{nat_lt, List, length, sym, ap, ◌∙◌, arith, inl, inr}
use Rattle.std.specs.Int.{trailing_zeros, w64}
use Rattle.std.proofs.lemmas.Bool.{and_parts, cases_lt, true≢false}
use Rattle.std.proofs.lemmas.Bool.Decides.{nat_tests}
use Rattle.std.proofs.lemmas.Nat.Bits.{bit_at-trailing_zeros}
use Rattle.rcu_node.specs.CpuSet.{is_in}
use Rattle.rcu_node.specs.Words.{has_bit}
use Rattle.rcu_node.proofs.Bits.{has_bit-zero}
use Rattle.rcu_node.proofs.CpuSetLemmas.{is_in-beyond}

-- a processor is the first one of a set from another one on
pub record IsNextFrom (set : List Bool) (from cpu : ℕ) : Type 0 where
  pub later : from ≤ cpu
  pub inside : cpu < length set
  pub here : is_in set cpu ≡ true
  pub none : (c : ℕ) → from ≤ c → c < cpu → is_in set c ≡ false

-- the flags of a set from a processor on, as a word
abbrev pub AreFlags : List Bool → ℕ → ℕ → Type 0
AreFlags set cpu word = (bit : ℕ) → has_bit word bit ≡ (nat_lt bit 64 && is_in set (cpu + bit))

-- no processor of a set is between
abbrev pub NobodyIn : List Bool → ℕ → ℕ → Type 0
NobodyIn set from end = (c : ℕ) → from ≤ c → c < end → is_in set c ≡ false

within_word : (b : Bool) (bit : ℕ) → bit < 64 → b ≡ (nat_lt bit 64 && b)
within_word b bit low = grind (arith, nat_tests, low)

-- the flag of a processor that the word reaches
flag : (set : List Bool) (cpu word c : ℕ) → AreFlags set cpu word → cpu ≤ c → c < cpu + 64
    → is_in set c ≡ has_bit word (c - cpu)
flag set cpu word c flags from low =
    let at : cpu + (c - cpu) ≡ c = omega arith in
    ap (is_in set) (sym at)
    ∙ within_word (is_in set (cpu + (c - cpu))) (c - cpu) (omega arith)
    ∙ sym (flags (c - cpu))

-- a bit is the lowest one that is set in a word
pub record IsLowest (word bit : ℕ) : Type 0 where
  pub low : bit < 64
  pub here : has_bit word bit ≡ true
  pub none : (i : ℕ) → i < bit → has_bit word i ≡ false

pub lowest : (word : ℕ) → 0 < word → word < 2 ^ 64 → IsLowest word (trailing_zeros w64 word)
unfolding has_bit
lowest word some fits =
    let told = bit_at-trailing_zeros w64 word some fits in record {
      low = told.0;
      here = ap (λ (n : ℕ). n == 1) told.1;
      none = λ i less. ap (λ (n : ℕ). n == 1) (told.2 i less);
    }

-- if the word is 0, no processor of it is in the set
pub none_of : (set : List Bool) (from cpu word : ℕ)
    → AreFlags set cpu word → word ≡ 0 → NobodyIn set from cpu → NobodyIn set from (cpu + 64)
none_of set from cpu word flags empty before c later low = elim (cases_lt c cpu) [
  | inl less ↦ before c later less
  | inr more ↦
      flag set cpu word c flags (omega (arith, more)) low
      ∙ ap (λ (n : ℕ). has_bit n (c - cpu)) empty
      ∙ has_bit-zero (c - cpu)
]

-- if it is not, its lowest bit is the next one's
pub first_of : (set : List Bool) (from cpu word : ℕ)
    → AreFlags set cpu word → 0 < word → word < 2 ^ 64 → from ≤ cpu → NobodyIn set from cpu
    → IsNextFrom set from (cpu + trailing_zeros w64 word)
first_of set from cpu word flags some fits later before =
    let bit : ℕ = trailing_zeros w64 word in
    let found = lowest word some fits in
    let here : is_in set (cpu + bit) ≡ true =
    (and_parts (nat_lt bit 64) (is_in set (cpu + bit)) (sym (flags bit) ∙ found.here)).1 in
    record {
      later = omega (arith, later);
      inside = elim (cases_lt (cpu + bit) (length set)) [
        | inl less ↦ less
        | inr more ↦
            absurd (true≢false (sym here ∙ is_in-beyond set (cpu + bit) (omega (arith, more))))
      ];
      here = here;
      none = λ c after less. elim (cases_lt c cpu) [
        | inl low ↦ before c after low
        | inr high ↦
            flag set cpu word c flags (omega (arith, high))
            (let low = found.low in omega (arith, less, low))
            ∙ found.none (c - cpu) (omega (arith, less, high))
      ];
    }

-- if the walk is past the end, none is left
pub nobody_left : (set : List Bool) (from cpu : ℕ) → length set ≤ cpu → NobodyIn set from cpu
    → (c : ℕ) → from ≤ c → is_in set c ≡ false
nobody_left set from cpu past before c later = elim (cases_lt c cpu) [
  | inl less ↦ before c later less
  | inr more ↦ is_in-beyond set c (omega (arith, past, more))
]
