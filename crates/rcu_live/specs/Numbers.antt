-- Definitions on the number, a processor's own word and the number at which a section began. The
-- rule uses only these.
use Rattle.std.specs.Prelude.{ℕ, ◌+◌, ◌^◌, ◌%◌, ◌==◌, ◌&&◌, ◌||◌, Bool, not, nat_le, nat_lt}
use Rattle.rcu_seq.specs.Numbers.{Number, snapshot}

-- a number that the number word may have: at most 2^62, and idle or running
abbrev pub is_number_word : Number → Bool
is_number_word n = nat_le n (2 ^ 62) && nat_lt (n % 4) 2

-- the own word of an idle processor. It is above each number, and is not one more than any
abbrev pub idle_word : ℕ
idle_word = 2 ^ 63

-- an own word that a processor that has seen this number may store: 0, at most one more than it, or
-- the idle word
abbrev pub is_own_word : Number → ℕ → Bool
is_own_word seen word = nat_le word (seen + 1) || word == idle_word

-- a processor with this own word may open a section: it is online, and is not idle
abbrev pub may_open : ℕ → Bool
may_open own_word = not (own_word == 0) && not (own_word == idle_word)

-- this own word reports its processor in grace period t: it is offline, passed a quiescent state in
-- it, or is idle
abbrev pub reports_quiescence : Number → ℕ → Bool
reports_quiescence t word = word == 0 || nat_lt t word

-- a grace period that began after this number has ended at number n
abbrev pub is_past : Number → Number → Bool
is_past at n = nat_le (snapshot at) n

-- a section that began at a number may be open at number n: it did not begin later, and no full
-- grace period lies between
abbrev pub is_open_at : Number → Number → Bool
is_open_at n at = nat_le at n && not (is_past at n)
