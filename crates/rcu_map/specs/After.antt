-- The next entry behind a key, in the order in which a section goes over the entries of a map.
use Rattle.std.specs.Prelude.{◌≡◌, ◌⊎◌, ◌<◌, ℕ, suc, List, [], ◌∷◌, ◌++◌, Option, MatchOption}
use Rattle.rcu_graph.specs.Nodes.{hops_in}
use Rattle.rcu_graph.specs.Search.{key_after}
use Rattle.rcu_graph.specs.declared.known.Hop.{Hop}
use Rattle.rcu_graph.specs.declared.known.Known.{Known}
use Rattle.rcu_map.specs.Keys.{bucket_of}
use Rattle.rcu_map.specs.Listing.{GoOn, at_root}
use Rattle.rcu_map.specs.declared.cursor.Cursor.{Cursor}

-- in this order a key is behind another one: it is of a later bucket, or it is greater and of the
-- same one
abbrev pub IsBehind : ℕ → ℕ → ℕ → ℕ → Type 0
IsBehind buckets seed key later =
    (bucket_of buckets seed key < bucket_of buckets seed later)
    ⊎ ((bucket_of buckets seed later ≡ bucket_of buckets seed key) × (key < later))

-- a key comes up to this one: it is the same, or this one is behind it
abbrev pub IsUpTo : ℕ → ℕ → ℕ → ℕ → Type 0
IsUpTo buckets seed key other = (other ≡ key) ⊎ IsBehind buckets seed other key

-- each of these hops led nowhere, or to a node whose key comes up to this one: they skipped no
-- entry behind it
abbrev pub LedUpTo : ℕ → ℕ → ℕ → List Hop → Type 0
LedUpTo buckets seed key [] = Unit {0}
LedUpTo buckets seed key (hop ∷ before) =
    ((hop.to ≡ 0) ⊎ IsUpTo buckets seed key (key_after hop)) × LedUpTo buckets seed key before

-- a section went from the root of a key's bucket to the next entry behind the key: its hops are
-- those before, some that skipped no entry behind it, and one to a node whose key is behind it and
-- that has the entry's words
pub record IsEntryAfter {E : Type 0} (holds : List ℕ → Type 0) (decode : List ℕ → E)
    (buckets seed key : ℕ) (was now : Known) (entry : E) : Type 0 where
  pub over : List Hop
  pub last : Hop
  pub at : Cursor
  pub are : hops_in now ≡ last ∷ (over ++ hops_in was)
  pub up_to : LedUpTo buckets seed key over
  pub goes : GoOn buckets seed (at_root (bucket_of buckets seed key)) (last ∷ over) at
  pub led : last.to ≡ suc at.node
  pub behind : IsBehind buckets seed key (key_after last)
  pub whole : holds last.words
  pub told : entry ≡ decode last.words

-- a section went from the root of a key's bucket to the ends of all chains from there on, up to the
-- last bucket's: its hops are those before, and some that skipped no entry behind the key
pub record IsNoneAfter (buckets seed key : ℕ) (was now : Known) : Type 0 where
  pub over : List Hop
  pub at : Cursor
  pub are : hops_in now ≡ over ++ hops_in was
  pub up_to : LedUpTo buckets seed key over
  pub goes : GoOn buckets seed (at_root (bucket_of buckets seed key)) over at
  pub ended : at.bucket ≡ buckets

-- the result of a section is the next entry behind the key, or none if there is no further one
abbrev pub IsNextAfter : {E : Type 0} → (List ℕ → Type 0) → (List ℕ → E) → ℕ → ℕ → ℕ → Known
    → Option E → Known → Type 0
IsNextAfter holds decode buckets seed key was result now = MatchOption result
    (IsNoneAfter buckets seed key was now)
    (λ entry. IsEntryAfter holds decode buckets seed key was now entry)
