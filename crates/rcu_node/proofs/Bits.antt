-- One bit of a word: the result of a test, and the word after a write.
use Rattle.std.proofs.Common.{◌≡◌, ◌≢◌, ℕ, ◌*◌, ◌/◌, ◌%◌, ◌^◌, ◌<◌, ◌==◌, ◌||◌, refl, sym, ◌∙◌}
use Rattle.std.proofs.Common.{arith, true, false, bit_and, bit_or}
use Rattle.std.specs.Int.{bit_at, bit_not, w64}
use Rattle.std.proofs.lemmas.Bool.Decides.{nat_tests}
use Rattle.std.proofs.lemmas.Nat.Bits.{shr_and_one, bit_at_set_same, bit_at_set_other}
use Rattle.std.proofs.lemmas.Nat.Bits.{bit_at_clear_same, bit_at_clear_other, bit_at-zero}
use Rattle.std.proofs.lemmas.Nat.Bits.{bit_at-lt, bit_at_and, bit_at_or, same_from_bits}
use Rattle.rcu_node.specs.Words.{has_bit}

-- the test of a bit by a shift
pub has_bit_shr : (word i : ℕ) → (bit_and (word / 2 ^ i) 1 == 1) ≡ has_bit word i
unfolding has_bit
has_bit_shr word i = rw (shr_and_one word i)

-- no bit of zero is set
pub has_bit-zero : (i : ℕ) → has_bit 0 i ≡ false
unfolding has_bit
has_bit-zero i = rw (bit_at-zero i)

-- a bit is set
pub has_bit_set_same : (word k : ℕ) → k < 64 → has_bit (bit_or word (1 * 2 ^ k % 2 ^ 64)) k ≡ true
unfolding has_bit
has_bit_set_same word k l = rw (bit_at_set_same w64 word k l)

-- the others stay
pub has_bit_set_other : (word k i : ℕ) → k < 64 → i ≢ k
    → has_bit (bit_or word (1 * 2 ^ k % 2 ^ 64)) i ≡ has_bit word i
unfolding has_bit
has_bit_set_other word k i l n = rw (bit_at_set_other w64 word k l i n)

-- a bit is cleared
pub has_bit_clear_same : (word k : ℕ) → k < 64
    → has_bit (bit_and word (bit_not w64 (1 * 2 ^ k % 2 ^ 64))) k ≡ false
unfolding has_bit
has_bit_clear_same word k l = rw (bit_at_clear_same w64 word k l)

-- the others stay
pub has_bit_clear_other : (word k i : ℕ) → k < 64 → i < 64 → i ≢ k
    → has_bit (bit_and word (bit_not w64 (1 * 2 ^ k % 2 ^ 64))) i ≡ has_bit word i
unfolding has_bit
has_bit_clear_other word k i l m n = rw (bit_at_clear_other w64 word k l i m n)

-- a bit that is not set is 0
no_bit : (word i : ℕ) → has_bit word i ≡ false → bit_at word i ≡ 0
unfolding has_bit
no_bit word i h = let below = bit_at-lt word i in grind (arith, nat_tests, h, below)

-- a bit that is not set is not set in a part of the word either
pub has_bit_and_none : (word other i : ℕ) → has_bit word i ≡ false
    → has_bit (bit_and word other) i ≡ false
unfolding has_bit
has_bit_and_none word other i h =
    let none = no_bit word i h in
    let part : bit_at (bit_and word other) i ≡ 0 = omega (arith, bit_at_and word other i, none) in
    rw part refl

-- a word without a bit is zero
pub no_bits : (word : ℕ) → ((i : ℕ) → has_bit word i ≡ false) → word ≡ 0
no_bits word h = same_from_bits word 0 (λ i. no_bit word i (h i) ∙ sym (bit_at-zero i))

-- words with the same bits are the same
pub same_word : (a b : ℕ) → ((i : ℕ) → has_bit a i ≡ has_bit b i) → a ≡ b
unfolding has_bit
same_word a b same =
    same_from_bits a b
    (λ i.
    let alike = same i in
    let first = bit_at-lt a i in
    let second = bit_at-lt b i in grind (arith, nat_tests, alike, first, second))

-- a bit of two words together is one of either
pub has_bit_or : (a b i : ℕ) → has_bit (bit_or a b) i ≡ (has_bit a i || has_bit b i)
unfolding has_bit
has_bit_or a b i =
    let first = bit_at-lt a i in
    let second = bit_at-lt b i in
    rw (bit_at_or a b i) (grind (arith, nat_tests, first, second))
