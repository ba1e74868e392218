-- Entries as the words in which they are stored.
use Rattle.std.specs.Prelude.{ℕ, Bool, true, false, List, Option, Some, None, Result, Ok, Err}
use Rattle.rcu_graph.specs.declared.writer.Full.{Full}

-- words that are their own decoding: their number and their meaning are up to their user
abbrev pub as_words : List ℕ → List ℕ
as_words words = words

-- the words of an entry, if there is one
abbrev pub words_if : Bool → List ℕ → Option (List ℕ)
words_if false words = None
words_if true words = Some words

-- the same for a call that may find no node free
abbrev pub answered : Result Bool Full → List ℕ → Result (Option (List ℕ)) Full
answered (Ok there) words = Ok (words_if there words)
answered (Err full) words = Err full
