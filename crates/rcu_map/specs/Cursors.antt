-- A section on the node of a cursor.
use Rattle.std.specs.Prelude.{◌≡◌, ℕ, suc, ◌^◌, ◌<◌, ◌≤◌, List, [], ◌∷◌, Option, IfSome}
use Rattle.std.specs.Prelude.{MatchOption}
use Rattle.rcu_live.specs.Board.{Object}
use Rattle.rcu_live.specs.CpuSeat.{Seated, after_word_step}
use Rattle.rcu_graph.specs.Graph.{IsWalking}
use Rattle.rcu_graph.specs.Nodes.{IsHeld, hops_in}
use Rattle.rcu_graph.specs.declared.known.Hop.{Hop}
use Rattle.rcu_graph.specs.declared.known.Known.{Known}
use Rattle.rcu_graph.specs.declared.known.Planned.{Planned}
use Rattle.rcu_graph.specs.declared.plan.Plan.{Plan}
use Rattle.rcu_map.specs.Keys.{IsWhole, bucket_of, key_in}
use Rattle.rcu_map.specs.Listing.{GoesOn, IsAtEnd, IsNextEntry, cursor_after, left_from}
use Rattle.rcu_map.specs.declared.cursor.Cursor.{Cursor}

-- the word that the latest hop found, and the words to which it came
abbrev pub latest_to : List Hop → ℕ
latest_to [] = 0
latest_to (hop ∷ before) = hop.to

abbrev pub latest_words : List Hop → List ℕ
latest_words [] = []
latest_words (hop ∷ before) = hop.words

-- for this number of nodes and buckets: the section is on the cursor's node, the root of its bucket
-- if there is no key, else the node of this key and bucket to which its latest hop led
pub record IsOnCursor (count buckets seed : ℕ) (known : Known) (at : Cursor) : Type 0 where
  pub inside : at.node < count
  pub root : at.key ≡ 0 → at.node ≡ at.bucket
  pub led : 0 < at.key → latest_to (hops_in known) ≡ suc at.node
  pub key : 0 < at.key → key_in (latest_words (hops_in known)) ≡ at.key
  pub same : 0 < at.key → bucket_of buckets seed at.key ≡ at.bucket

-- an open section may go on from a cursor, which is on a node or at the end
pub record MayGoOn (map : Object Plan) (seat : Seated Planned) (at : Cursor) : Type 0 where
  pub walking : IsWalking map seat
  pub within : at.bucket ≤ map.plan.roots
  pub small : at.key < 2 ^ 64
  pub on : at.bucket < map.plan.roots
      → IsOnCursor map.plan.nodes map.plan.roots map.plan.seed seat.view.client.known at

-- an open section is on a node that has the words of an entry, and this key
pub record IsOnEntry (holds : List ℕ → Type 0) (map : Object Plan) (seat : Seated Planned)
    (node key : ℕ) : Type 0 where
  pub walking : IsWalking map seat
  pub inside : node < map.plan.nodes
  pub words : List ℕ
  pub held : IsHeld seat.view.client.known node words
  pub whole : IsWhole holds map.plan.words words
  pub keyed : 0 < key
  pub is : key_in words ≡ key

-- an open section went on from a cursor by one hop, and is at the target
pub record HasStepped (holds : List ℕ → Type 0) (map : Object Plan) (old : Seated Planned)
    (start : Cursor) (new : Seated Planned) (at : Cursor) : Type 0 where
  pub same : new ≡ after_word_step old new.view.client
  pub hop : Hop
  pub are : hops_in new.view.client.known ≡ hop ∷ hops_in old.view.client.known
  pub goes : GoesOn map.plan.roots map.plan.seed start hop
  pub led : at ≡ cursor_after start hop
  pub may : MayGoOn map new at
  pub whole : 0 < at.key → IsWhole holds map.plan.words hop.words

-- an open section went on from a cursor to the next entry, or to the end if there is none
pub record HasListed {E : Type 0} (holds : List ℕ → Type 0) (decode : List ℕ → E)
    (valid : E → Type 0) (key_of : E → ℕ) (map : Object Plan) (old : Seated Planned)
    (start : Cursor) (new : Seated Planned) (at : Cursor) (result : Option E) : Type 0 where
  pub same : new ≡ after_word_step old new.view.client
  pub may : MayGoOn map new at
  pub went : MatchOption result (IsAtEnd map.plan.roots map.plan.seed old.view.client.known start
      new.view.client.known at)
      (λ entry. IsNextEntry holds decode map.plan.roots map.plan.seed old.view.client.known start
      new.view.client.known
      at entry)
  pub keyed : IfSome result (λ entry. key_of entry ≡ at.key)
  pub sound : IfSome result valid
  pub nearer : IfSome result (λ _. left_from map.plan.roots at < left_from map.plan.roots start)
