-- Bits that are read across two words.
use Rattle.std.proofs.Common.{◌≡◌, ℕ, ◌+◌, ◌-◌, ◌*◌, ◌/◌, ◌%◌, ◌^◌, ◌<◌, ◌≤◌, ◌==◌, ◌&&◌}
use Rattle.std.proofs.Common.{if◌then◌else◌, Bool, nat_lt, List, length, slice_index, bit_and, sym}
use Rattle.std.proofs.Common.{ap, ◌∙◌, arith, inl, inr}
use Rattle.std.proofs.lemmas.Bool.{cases_lt}
use Rattle.std.proofs.lemmas.Bool.Decides.{nat_tests}
use Rattle.std.proofs.lemmas.Nat.{shr-shr}
use Rattle.std.proofs.lemmas.Nat.Bits.{bit_at-lt, bit_at_above, bit_at_and, bit_at_ones}
use Rattle.std.proofs.lemmas.Nat.Bits.{bit_at_ones_above}
use Rattle.std.proofs.lemmas.Nat.Bits.{bit_at_cat_low, bit_at_cat_high}
use Rattle.rcu_node.specs.CpuSet.{is_in}
use Rattle.rcu_node.specs.Words.{has_bit, flags_in, HasNoneFrom}
use Rattle.rcu_node.proofs.CpuSetLemmas.{is_in-listed, length-listed, is_in-beyond}
use Rattle.rcu_node.proofs.Words.{flag_in}

-- a shift moves every bit down
has_bit_shift : (word first bit : ℕ) → has_bit (word / 2 ^ first) bit ≡ has_bit word (first + bit)
unfolding has_bit
has_bit_shift word first bit = ap (λ n. n % 2 == 1) (shr-shr word first bit)

-- a mask of ones keeps the lowest bits
has_bit_low : (word width bit : ℕ)
    → has_bit (bit_and word (2 ^ width - 1)) bit ≡ (nat_lt bit width && has_bit word bit)
unfolding has_bit
has_bit_low word width bit = elim (cases_lt bit width) [
  | inl l ↦
      (let ones = bit_at_ones width bit l in
      let b = bit_at-lt word bit in
      rw (bit_at_and word (2 ^ width - 1) bit, ones) (grind (arith, nat_tests, l, b)))
  | inr l ↦ (let ones = bit_at_ones_above width bit l in
      rw (bit_at_and word (2 ^ width - 1) bit, ones) (grind (arith, nat_tests, l)))
]

-- of two words side by side the lower one has the first 64 bits, and the higher one the others
has_bit_both : (word next bit : ℕ)
    → word < 2 ^ 64
    → has_bit (next * 2 ^ 64 + word) bit
    ≡ (if nat_lt bit 64 then has_bit word bit else has_bit next (bit - 64))
unfolding has_bit
has_bit_both word next bit w = elim (cases_lt bit 64) [
  | inl l ↦
      (let low = ap (λ n. n == 1) (bit_at_cat_low next 64 word bit l) in
      grind (arith, nat_tests, low, l))
  | inr l ↦
      (let high = ap (λ n. n == 1) (bit_at_cat_high next 64 word bit w l) in
      grind (arith, nat_tests, high, l))
]

-- the bits that a cut reads
pub cut-is : (word next first width bit : ℕ)
    → word < 2 ^ 64
    → has_bit (bit_and ((next * 2 ^ 64 + word) / 2 ^ first) (2 ^ width - 1)) bit
    ≡ (nat_lt bit width
    && (if nat_lt (first + bit) 64
    then has_bit word (first + bit)
    else has_bit next (first + bit - 64)))
cut-is word next first width bit w =
    has_bit_low ((next * 2 ^ 64 + word) / 2 ^ first) width bit
    ∙ ap (λ b. nat_lt bit width && b) (has_bit_shift (next * 2 ^ 64 + word) first bit
    ∙ has_bit_both word next (first + bit) w)

-- a whole word is its own first 64 bits
pub whole-is : (word next bit : ℕ)
    → word < 2 ^ 64
    → has_bit word bit
    ≡ (nat_lt bit 64
    && (if nat_lt (0 + bit) 64 then has_bit word (0 + bit) else has_bit next (0 + bit - 64)))
unfolding has_bit
whole-is word next bit w = elim (cases_lt bit 64) [
  | inl l ↦ grind (arith, nat_tests, l)
  | inr l ↦ (let none = bit_at_above word 64 bit w l in grind (arith, nat_tests, l, none))
]

-- from a bit of a word on, into the next one, lie the flags of the processors from there on
flag_in-next : (words : List ℕ) (from bit word next : ℕ)
    → bit < 64
    → word ≡ slice_index words (from / 64)
    → next ≡ slice_index words (from / 64 + 1)
    → (if nat_lt (from % 64 + bit) 64
    then has_bit word (from % 64 + bit)
    else has_bit next (from % 64 + bit - 64))
    ≡ flag_in words (from + bit)
flag_in-next words from bit word next b e f = elim (cases_lt (from % 64 + bit) 64) [
  | inl l ↦ (let same : (from + bit) / 64 ≡ from / 64 = omega arith in
      let rest : (from + bit) % 64 ≡ from % 64 + bit = omega arith in
      rw (same, rest, e) (grind (arith, nat_tests, l)))
  | inr l ↦ (let more : (from + bit) / 64 ≡ from / 64 + 1 = omega arith in
      let rest : (from + bit) % 64 ≡ from % 64 + bit - 64 = omega arith in
      rw (more, rest, f) (grind (arith, nat_tests, l)))
]

-- the flags of a set from a processor on
pub bits_from-is : (cpus : ℕ) (words : List ℕ) (set : List Bool) (from width bit word next : ℕ)
    → flags_in cpus words ≡ set → HasNoneFrom cpus words → width ≤ 64
    → word ≡ slice_index words (from / 64) → next ≡ slice_index words (from / 64 + 1)
    → (nat_lt bit width
    && (if nat_lt (from % 64 + bit) 64 then has_bit word (from % 64 + bit) else has_bit next
    (from % 64 + bit - 64)))
    ≡ (nat_lt bit width && is_in set (from + bit))
bits_from-is cpus words set from width bit word next e none k f g = elim (cases_lt bit width) [
  | inl b ↦ ap (λ flag. nat_lt bit width && flag)
      (flag_in-next words from bit word next (omega (arith, b, k)) f g
      ∙ flag_in-set cpus words set (from + bit) e none)
  | inr b ↦ grind (arith, nat_tests, b)
]
  where
    flag_in-set : (cpus : ℕ) (words : List ℕ) (set : List Bool) (cpu : ℕ)
        → flags_in cpus words ≡ set → HasNoneFrom cpus words → flag_in words cpu ≡ is_in set cpu
    flag_in-set cpus words set cpu e none = elim (cases_lt cpu cpus) [
      | inl l ↦
          sym (is_in-listed cpus (flag_in words) cpu l) ∙ ap (λ (s : List Bool). is_in s cpu) e
      | inr l ↦
          none cpu l
          ∙ sym
          (is_in-beyond set cpu
          (omega
          (arith, l, ap (λ (s : List Bool). length s) e, length-listed cpus (flag_in words))))
    ]
