-- How many bits of words are set.
use Rattle.std.proofs.Common.{◌≡◌, ℕ, zero, suc, ◌+◌, ◌-◌, ◌*◌, ◌/◌, ◌%◌, ◌^◌, ◌<◌, ◌≤◌, ◌==◌, Bool}
use Rattle.std.proofs.Common.{false, cond, List, [], ◌∷◌, ◌++◌, length, slice_index, replicate}
use Rattle.std.proofs.Common.{sum_by, count_ones, refl, sym, ap, ◌∙◌, arith, inl, inr}
use Rattle.std.proofs.lemmas.Bool.{cases_lt}
use Rattle.std.proofs.lemmas.Bool.Decides.{nat_tests}
use Rattle.std.proofs.lemmas.List.{get_or_append_left, get_or-append_right, get_or-replicate}
use Rattle.std.proofs.lemmas.List.{length-append, length-replicate}
use Rattle.std.proofs.lemmas.List.Sums.{sum_by-append, sum_by-cons}
use Rattle.std.proofs.lemmas.Nat.{ones_le_self}
use Rattle.std.proofs.lemmas.Nat.Bits.{bit_at-suc, bit_at_lowest}
use Rattle.std.proofs.Math.Nat.{pow-suc}
use lib.Count.{ones_step}
use Rattle.rcu_node.specs.CpuSet.{listed, size_of}
use Rattle.rcu_node.specs.Words.{flags_in, has_bit}
use Rattle.rcu_node.proofs.CpuSetLemmas.{is_in-listed, length-listed, listed_first, listed_same}
use Rattle.rcu_node.proofs.CpuSetLemmas.{none_listed, size_of-none}
use Rattle.rcu_node.proofs.Words.{flag_in}

-- two sets one after the other have as many as both
size_of-append : (a b : List Bool) → size_of (a ++ b) ≡ size_of a + size_of b
size_of-append a b = sum_by-append (λ (flag : Bool). cond flag 1 0) a b

-- those of m flags, and then those of the n after them
listed_both : (m n : ℕ) (test first rest : ℕ → Bool) → ((i : ℕ) → i < m → test i ≡ first i)
    → ((i : ℕ) → i < n → test (m + i) ≡ rest i)
    → listed (m + n) test ≡ listed m first ++ listed n rest
listed_both m n test first rest h k =
    let before = length-listed m first in
    let long : length (listed m first ++ listed n rest) ≡ m + n =
    omega (arith, length-append (listed m first) (listed n rest), before, length-listed n rest) in
    listed_same (m + n) test (listed m first ++ listed n rest) long (λ i l. elim (cases_lt i m) [
      | inl low ↦
          h i low
          ∙ sym (is_in-listed m first i low)
          ∙ sym
          (get_or_append_left (listed m first) (listed n rest) false i (omega (arith, low, before)))
      | inr high ↦ (let split : i ≡ m + (i - m) = omega (arith, high) in
          ap test split ∙ k (i - m) (omega (arith, high, l))
          ∙ sym (is_in-listed n rest (i - m) (omega (arith, high, l)))
          ∙ sym (get_or-append_right (listed m first) (listed n rest) m i false before high))
    ])

-- flags of which none is set from one on have as many as those before it
pub size_of-listed_rest : (m n : ℕ) (test : ℕ → Bool) → m ≤ n → ((i : ℕ) → m ≤ i → test i ≡ false)
    → size_of (listed n test) ≡ size_of (listed m test)
size_of-listed_rest m n test l none =
    let all : n ≡ m + (n - m) = omega arith in
    let parts = listed_both m (n - m) test test (λ i. false) (λ i low. refl)
    (λ i low. none (m + i) (omega arith)) in
    let nobody = listed_same (n - m) (λ i. false) (replicate (n - m) false)
    (length-replicate (n - m) false) (λ i low. sym (get_or-replicate (n - m) i false false low)) in
    ap (λ k. size_of (listed k test)) all
    ∙ ap (λ (set : List Bool). size_of set) parts
    ∙ size_of-append (listed m test) (listed (n - m) (λ i. false))
    ∙ ap (λ (set : List Bool). size_of (listed m test) + size_of set) nobody
    ∙ omega (arith, size_of-none (n - m))

-- the lowest bit of a word
has_bit_lowest : (word : ℕ) → cond (has_bit word 0) 1 0 ≡ word % 2
unfolding has_bit
has_bit_lowest word = rw (bit_at_lowest word) (grind (arith, nat_tests))

-- a higher bit of a word is one of its half
has_bit_half : (word i : ℕ) → has_bit word (suc i) ≡ has_bit (word / 2) i
unfolding has_bit
has_bit_half word i = ap (λ n. n == 1) (bit_at-suc word i)

-- the set bits of a number below 2 ^ k
ones-is : (k word : ℕ) → word < 2 ^ k → count_ones word ≡ size_of (listed k (has_bit word))
ones-is zero word l = omega (arith, ones_le_self word, none_listed (has_bit word))
ones-is (suc k) word l =
    let half : word / 2 < 2 ^ k = omega (arith, pow-suc 2 k) in
    let rest =
    listed_same k (λ i. has_bit word (suc i)) (listed k (has_bit (word / 2)))
    (length-listed k (has_bit (word / 2)))
    (λ i low. has_bit_half word i ∙ sym (is_in-listed k (has_bit (word / 2)) i low)) in
    let all = ap (λ (set : List Bool). size_of set) (listed_first k (has_bit word)) in
    let one = sum_by-cons (λ (flag : Bool). cond flag 1 0) (has_bit word 0)
    (listed k (λ i. has_bit word (suc i))) in
    let more = ap (λ (set : List Bool). size_of set) rest in
    omega (arith, ones_step word, has_bit_lowest word, ones-is k (word / 2) half, all, one, more)

-- the set bits of words
pub sum_of_ones-is : (words : List ℕ)
    → ((place : ℕ) → place < length words → slice_index words place < 2 ^ 64)
    → sum_by count_ones words ≡ size_of (flags_in (64 * length words) words)
sum_of_ones-is [] fits = sym (none_listed (flag_in []))
sum_of_ones-is (word ∷ words) fits =
    let bits : 64 * length (word ∷ words) ≡ 64 + 64 * length words = omega arith in
    let parts = listed_both 64 (64 * length words) (flag_in (word ∷ words)) (has_bit word)
    (flag_in words) (in_first word words) (in_rest word words) in
    let all =
    ap (λ n. size_of (listed n (flag_in (word ∷ words)))) bits
    ∙ ap (λ (set : List Bool). size_of set) parts
    ∙ size_of-append (listed 64 (has_bit word)) (flags_in (64 * length words) words) in
    let here = ones-is 64 word (fits 0 (omega arith)) in
    let others = sum_of_ones-is words (λ place l. fits (suc place) (omega arith)) in
    let one = sum_by-cons count_ones word words in
    omega (arith, all, here, others, one)
  where
    in_first : (word : ℕ) (words : List ℕ) (i : ℕ) → i < 64
        → flag_in (word ∷ words) i ≡ has_bit word i
    in_first word words i l =
        let first : i / 64 ≡ 0 = omega arith in
        let rest : i % 64 ≡ i = omega arith in rw (first, rest) refl

    in_rest : (word : ℕ) (words : List ℕ) (i : ℕ) → i < 64 * length words
        → flag_in (word ∷ words) (64 + i) ≡ flag_in words i
    in_rest word words i l =
        let next : (64 + i) / 64 ≡ suc (i / 64) = omega arith in
        let rest : (64 + i) % 64 ≡ i % 64 = omega arith in
        rw (next, rest) refl
