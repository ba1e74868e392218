-- The places of the shared words, and their values at the start. The number comes first, then a
-- word for each processor, then the words of a client. Beside the number is the processor that is
-- asked.
use Rattle.std.specs.Prelude.{ℕ, zero, suc, ◌+◌, ◌*◌, ◌/◌, ◌%◌, List, replicate, slice_set}

-- the place of the word with the processor that is asked to wake sleeping waiters
abbrev pub asked_index : ℕ
asked_index = 1

-- the place of a processor's own word. The words are 16 apart
abbrev pub own_word_index : ℕ → ℕ
own_word_index cpu = 16 * (cpu + 1)

-- the place of a processor's online mask, which it shares with 63 others: the bit of each online
-- one is set. Eight masks share a cache line, in which no own word is
abbrev pub mask_index : ℕ → ℕ
mask_index cpu = 16 * (cpu / 64 / 8) + 8 + cpu / 64 % 8

-- the place where the words behind the engine's begin
abbrev pub base_of : ℕ → ℕ
base_of cpus = 16 * (cpus + 1)

-- a processor's own word at the start: processor 0 is online at the number 0, and the others are
-- offline
abbrev pub first_own_word : ℕ → ℕ
first_own_word zero = 1
first_own_word (suc _) = 0

-- the engine's words at the start: the number is 0, and processor 0 alone is online, and has its
-- bit in its online mask
abbrev pub first_words : ℕ → List ℕ
first_words cpus = slice_set (slice_set (replicate (base_of cpus) 0) 16 1) 8 1
