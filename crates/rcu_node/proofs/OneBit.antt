-- Words with a bit, and words that lost one.
use Rattle.std.proofs.Common.{◌≡◌, ◌≢◌, ℕ, ◌*◌, ◌%◌, ◌^◌, ◌<◌, true, false, bit_and, sym, ap, ◌∙◌}
use Rattle.std.proofs.Common.{inl, inr}
use Rattle.std.specs.Int.{bit_not, w64}
use Rattle.std.proofs.lemmas.Bool.{cases_Bool, false≢true}
use Rattle.std.proofs.lemmas.Nat.{one_shl}
use Rattle.rcu_node.specs.Words.{has_bit}
use Rattle.rcu_node.proofs.Bits.{has_bit-zero, has_bit_and_none, has_bit_clear_same}
use Rattle.rcu_node.proofs.Bits.{has_bit_clear_other}

-- a word without one of its bits
pub record Clears (old new bit : ℕ) : Type 0 where
  pub off : has_bit new bit ≡ false
  pub rest : (i : ℕ) → i < 64 → i ≢ bit → has_bit new i ≡ has_bit old i
  pub less : (i : ℕ) → has_bit new i ≡ true → has_bit old i ≡ true

-- a part of a word has no other bits
part_of : (word other i : ℕ) → has_bit (bit_and word other) i ≡ true → has_bit word i ≡ true
part_of word other i set = elim (cases_Bool (has_bit word i)) [
  | inl there ↦ there
  | inr none ↦ absurd (false≢true (sym (has_bit_and_none word other i none) ∙ set))
]

-- a mask of one bit clears it
pub clears : (old mask bit : ℕ) → bit < 64 → mask ≡ 2 ^ bit
    → Clears old (bit_and old (bit_not w64 mask)) bit
clears old mask bit low is =
    let shifted : mask ≡ 1 * 2 ^ bit % 2 ^ 64 = is ∙ sym (one_shl bit 64 low) in
    record {
      off = rw shifted (has_bit_clear_same old bit low);
      rest = λ i below other. rw shifted (has_bit_clear_other old bit i low below other);
      less = λ i set. part_of old (bit_not w64 mask) i set;
    }

-- a word with a bit is not empty
pub not_empty : (word bit : ℕ) → has_bit word bit ≡ true → word ≢ 0
not_empty word bit set empty =
    false≢true (sym (has_bit-zero bit) ∙ ap (λ v. has_bit v bit) (sym empty) ∙ set)
