-- The entries of a map, as C has them: words, of which word 0 is the key.
use Rattle.std.specs.Prelude.{ℕ, ◌<◌, List, Option, Some, None, slice_set}
use Rattle.rcu_map.specs.Keys.{key_in}

-- these words are an entry's: their key is 1 or more
abbrev pub IsKeyed : List ℕ → Type 0
IsKeyed words = 0 < key_in words

-- the buffer of C after the write of an entry that may exist: its words, or the key 0, and then the
-- other words of the buffer stay
abbrev pub told : List ℕ → Option (List ℕ) → List ℕ
told room None = slice_set room 0 0
told room (Some words) = words
