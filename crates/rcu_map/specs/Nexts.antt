-- Calls of `next` on one iterator over the entries of a map, the newest first.
use Rattle.std.specs.Prelude.{ℕ, List, [], ◌∷◌, map}
use Rattle.rcu_graph.specs.declared.known.Known.{Known}
use Rattle.rcu_map.specs.Listing.{IsNextEntry}
use Rattle.rcu_map.specs.declared.cursor.Cursor.{Cursor}

-- the state after a call that returned an entry: the section's knowledge about the map, and the
-- iterator's cursor, with the key of that entry
pub record Nexted : Type 0 where
  pub known : Known
  pub at : Cursor

-- the state after these calls
abbrev pub after_nexts : Nexted → List Nexted → Nexted
after_nexts first [] = first
after_nexts first (call ∷ earlier) = call

-- each call went on to the next entry from where the one before it left the iterator
abbrev pub AreNexts : {E : Type 0} → (List ℕ → Type 0) → (List ℕ → E) → ℕ → ℕ → Nexted
    → List Nexted → Type 0
AreNexts holds decode buckets seed first [] = Unit {0}
AreNexts {E} holds decode buckets seed first (call ∷ earlier) =
    ((entry : E)
    × IsNextEntry holds decode buckets seed (after_nexts first earlier).known
    (after_nexts first earlier).at call.known call.at entry)
    × AreNexts holds decode buckets seed first earlier

-- the keys of the entries that the calls returned
abbrev pub keys_of : List Nexted → List ℕ
keys_of calls = map (λ call. call.at.key) calls
