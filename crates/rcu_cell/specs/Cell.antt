-- Reads of a cell by a section.
use Rattle.std.specs.Prelude.{◌≡◌, ◌<◌, ℕ, zero, suc, List, [], ◌∷◌, length}
use Rattle.rcu_live.specs.Board.{Object}
use Rattle.rcu_live.specs.CpuSeat.{Seated, after_word_step}
use Rattle.rcu_live.specs.InPart.{seat_part}
use Rattle.rcu_live.specs.Several.{Lens}
use Rattle.rcu_graph.specs.Graph.{IsWalking}
use Rattle.rcu_graph.specs.Nodes.{hops_in}
use Rattle.rcu_graph.specs.declared.known.Hop.{Hop}
use Rattle.rcu_graph.specs.declared.known.Known.{Known}
use Rattle.rcu_graph.specs.declared.known.Planned.{Planned}
use Rattle.rcu_graph.specs.declared.plan.Plan.{Plan}

-- the current slot, if the root's link has this word: the node that it leads to, or else the root
abbrev pub slot_of : ℕ → ℕ
slot_of zero = 0
slot_of (suc node) = node

-- the version of that slot: the first one if the link leads nowhere, and else the words that were
-- found
abbrev pub version_of : List ℕ → ℕ → List ℕ → List ℕ
version_of first zero words = first
version_of first (suc node) words = words

-- the latest of these hops: the word of the link, and the words that were found
abbrev pub latest_to : List Hop → ℕ
latest_to [] = 0
latest_to (hop ∷ before) = hop.to

abbrev pub latest_words : List Hop → List ℕ
latest_words [] = []
latest_words (hop ∷ before) = hop.words

-- the slot that the section reads, and its version: those of its latest load
abbrev pub slot_in : Known → ℕ
slot_in known = slot_of (latest_to (hops_in known))

abbrev pub version_in : List ℕ → Known → List ℕ
version_in first known =
    version_of first (latest_to (hops_in known)) (latest_words (hops_in known))

-- the root's link was loaded, by one more hop, and showed this slot, whose version satisfies the
-- user's fact
pub record IsLoaded (holds : List ℕ → Type 0) (first : List ℕ) (width : ℕ) (was : Known) (slot : ℕ)
    (now : Known) : Type 0 where
  pub hop : Hop
  pub are : hops_in now ≡ hop ∷ hops_in was
  pub from : hop.from ≡ 0
  pub link : hop.link ≡ 0
  pub shown : slot ≡ slot_of hop.to
  pub size : length (version_in first now) ≡ width
  pub whole : holds (version_in first now)

-- the open section reads the version of this slot
pub record ReadsSlot (cell : Object Plan) (seat : Seated Planned) (slot : ℕ) : Type 0 where
  pub walking : IsWalking cell seat
  pub loaded : 0 < length (hops_in seat.view.client.known)
  pub latest : slot_in seat.view.client.known ≡ slot
  pub inside : slot < cell.plan.nodes
  pub sized : 0 < latest_to (hops_in seat.view.client.known)
      → length (latest_words (hops_in seat.view.client.known)) ≡ cell.plan.words

-- the open section reads a version of the cell from now on, and nothing else of its seat changed
pub record ReadsOn {D : Type 0} (lens : Lens D Planned) (cell : Object Plan)
    (before after : Seated D) : Type 0 where
  pub state : after ≡ after_word_step before
      (lens.set before.view.client (lens.get after.view.client))
  pub walking : IsWalking cell (seat_part lens after)
  pub loaded : 0 < length (hops_in (lens.get after.view.client).known)
