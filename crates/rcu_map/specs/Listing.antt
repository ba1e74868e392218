-- Going over the entries of a map: bucket by bucket, and along the chain in each.
use Rattle.std.specs.Prelude.{◌≡◌, ℕ, zero, suc, ◌+◌, ◌-◌, ◌*◌, ◌^◌, ◌<◌, List, [], ◌∷◌, ◌++◌}
use mathlib.Core.Option.{some}
use lib.ListN.{get_elem?}
use Rattle.rcu_graph.specs.Nodes.{hops_in}
use Rattle.rcu_graph.specs.Search.{key_after}
use Rattle.rcu_graph.specs.declared.known.Hop.{Hop}
use Rattle.rcu_graph.specs.declared.known.Known.{Known}
use Rattle.rcu_map.specs.Keys.{bucket_of}
use Rattle.rcu_map.specs.declared.cursor.Cursor.{Cursor}

-- on the root of a bucket, which is the node of the bucket's number
abbrev pub at_root : ℕ → Cursor
at_root bucket = record { bucket = bucket; node = bucket; key = 0 }

-- the cursor after a link: on the node with this key, or, if the link leads nowhere, on the next
-- bucket
abbrev pub led_from : Cursor → ℕ → ℕ → Cursor
led_from at zero key = at_root (at.bucket + 1)
led_from at (suc node) key = record { bucket = at.bucket; node = node; key = key }

-- the cursor after a hop
abbrev pub cursor_after : Cursor → Hop → Cursor
cursor_after at hop = led_from at hop.to (key_after hop)

-- a hop goes on from a cursor in one of this number of buckets: along the link 0 of its node, which
-- led nowhere, or to a node with a greater key of the same bucket
pub record GoesOn (buckets seed : ℕ) (at : Cursor) (hop : Hop) : Type 0 where
  pub inside : at.bucket < buckets
  pub here : hop.from ≡ at.node
  pub along : hop.link ≡ 0
  pub up : (node : ℕ) → hop.to ≡ suc node → at.key < key_after hop
  pub same : (node : ℕ) → hop.to ≡ suc node → bucket_of buckets seed (key_after hop) ≡ at.bucket

-- these hops, the latest one first, go on from one cursor to another, each from the target of the
-- one before
abbrev pub GoOn : ℕ → ℕ → Cursor → List Hop → Cursor → Type 0
GoOn buckets seed start [] at = at ≡ start
GoOn buckets seed start (hop ∷ before) at =
    (last : Cursor)
    × GoOn buckets seed start before last
    × GoesOn buckets seed last hop
    × (at ≡ cursor_after last hop)

-- each of these hops led nowhere: they skipped no entry
abbrev pub LedNowhere : List Hop → Type 0
LedNowhere [] = Unit {0}
LedNowhere (hop ∷ before) = (hop.to ≡ 0) × LedNowhere before

-- a section went on from a cursor to the next entry: its hops are those before, some to the ends of
-- chains, and one to a node that has the key of the cursor now and the entry's words
pub record IsNextEntry {E : Type 0} (holds : List ℕ → Type 0) (decode : List ℕ → E)
    (buckets seed : ℕ)
    (was : Known) (start : Cursor) (now : Known) (at : Cursor) (entry : E) : Type 0 where
  pub over : List Hop
  pub last : Hop
  pub are : hops_in now ≡ last ∷ (over ++ hops_in was)
  pub nowhere : LedNowhere over
  pub goes : GoOn buckets seed start (last ∷ over) at
  pub led : last.to ≡ suc at.node
  pub key : key_after last ≡ at.key
  pub whole : holds last.words
  pub told : entry ≡ decode last.words

-- a section went on from a cursor and came to no further entry: its hops are those before, and some
-- to the ends of all chains from there on, up to the last bucket's
pub record IsAtEnd (buckets seed : ℕ) (was : Known) (start : Cursor) (now : Known)
    (at : Cursor) : Type 0 where
  pub over : List Hop
  pub are : hops_in now ≡ over ++ hops_in was
  pub nowhere : LedNowhere over
  pub goes : GoOn buckets seed start over at
  pub ended : at.bucket ≡ buckets

-- more than the entries to which a section may come from a cursor: this number of buckets, each
-- with fewer than 2^64 keys
abbrev pub left_from : ℕ → Cursor → ℕ
left_from buckets at = (buckets - at.bucket) * 2 ^ 64 - at.key

-- one of these hops led to a node with the key
pub record IsListed (key : ℕ) (hops : List Hop) : Type 0 where
  pub index : ℕ
  pub hop : Hop
  pub there : get_elem? hops index ≡ some hop
  pub node : ℕ
  pub led : hop.to ≡ suc node
  pub has : key_after hop ≡ key
