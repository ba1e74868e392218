-- Sets of processors in words of 64 bits.
use Rattle.std.specs.Prelude.{ℕ, ◌/◌, ◌%◌, ◌≤◌, ◌≡◌, ◌==◌, Bool, false, List, slice_index}
use Rattle.std.specs.Int.{bit_at}
use Rattle.rcu_node.specs.CpuSet.{listed}

-- bit i of a word is set
unfoldable pub has_bit : ℕ → ℕ → Bool
has_bit word i = bit_at word i == 1

-- the processors below n whose bits are set
abbrev pub flags_in : ℕ → List ℕ → List Bool
flags_in n words = listed n (λ cpu. has_bit (slice_index words (cpu / 64)) (cpu % 64))

-- no bit is set from n on
abbrev pub HasNoneFrom : ℕ → List ℕ → Type 0
HasNoneFrom n words = (i : ℕ) → n ≤ i → has_bit (slice_index words (i / 64)) (i % 64) ≡ false
