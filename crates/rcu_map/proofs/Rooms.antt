-- The room of a map for one more entry, and the node that is kept for replacements.
use Rattle.std.proofs.Common.{◌≡◌, ℕ, ◌+◌, ◌<◌, ◌≤◌, ⊎_elim, List, arith, subst}
use Rattle.std.proofs.lemmas.Bool.{cases_lt}
use Rattle.rcu_live.specs.CpuSeat.{Seated}
use Rattle.rcu_live.specs.Watcher.{Watching}
use Rattle.rcu_graph.specs.Nodes.{nodes_in}
use Rattle.rcu_graph.specs.Puts.{IsFreeNode}
use Rattle.rcu_graph.specs.Tended.{AreAllUsed}
use Rattle.rcu_graph.specs.declared.known.Planned.{Planned}
use Rattle.rcu_graph.specs.declared.known.Node.{Node}
use Rattle.rcu_graph.specs.declared.plan.Plan.{Plan}
use Rattle.rcu_graph.proofs.Looks.{reclaimed_nodes, reclaimed_plan}
use Rattle.rcu_map.specs.Chains.{IsKept, buckets_in, capacity}
use Rattle.rcu_map.specs.Entries.{HasKey, entries_in}
use Rattle.rcu_map.specs.Room.{AreAllLive, IsAtCapacity, IsNoneFreeYet, IsOneTooMany, LacksRoom}
use Rattle.rcu_map.specs.Waits.{HasMadeRoom}
use Rattle.rcu_map.proofs.Counted.{as_many_entries, some_entries}
use Rattle.rcu_map.proofs.Looks.{as_many_as_nodes, key_kept}

-- fewer entries than there may be
pub has_room : (k : Watching Planned) → (IsAtCapacity k → ⊥)
    → entries_in (buckets_in k) (nodes_in k.view.client.known) < capacity k.view.client.plan
has_room k not = ⊎_elim (λ (low : entries_in (buckets_in k) (nodes_in k.view.client.known)
    < capacity k.view.client.plan). low)
    (λ (past : capacity k.view.client.plan
    ≤ entries_in (buckets_in k) (nodes_in k.view.client.known)). absurd (not past))
    (cases_lt (entries_in (buckets_in k) (nodes_in k.view.client.known))
    (capacity k.view.client.plan))

module _ (holds : List ℕ → Type 0) (width : ℕ) (k : Watching Planned) (len : ℕ)
    (kept : IsKept holds width k.view.client.plan (nodes_in k.view.client.known) len) where
  abbrev nodes : List Node
  nodes = nodes_in k.view.client.known

  all_used : AreAllLive nodes
      → entries_in (buckets_in k) nodes + buckets_in k ≡ k.view.client.plan.nodes
  all_used all =
      let p : Plan = k.view.client.plan in
      as_many_as_nodes holds p.roots p.seed p.words p.nodes nodes kept.map kept.some all

  -- if there is an entry, some node is not live
  pub not_all_live : (key : ℕ) → HasKey (buckets_in k) nodes key → AreAllLive nodes → ⊥
  not_all_live key has all =
      let many = all_used all in
      let some = some_entries (buckets_in k) nodes has.0 has.1.entry in
      let count = kept.count in
      let most = kept.most in
      omega (arith, many, some, count, most)

  -- this holds if there is room
  pub not_all_used : (IsAtCapacity k → ⊥) → AreAllLive nodes → ⊥
  not_all_used not all =
      let many = all_used all in
      let room = has_room k not in
      omega (arith, many, room)

-- if an entry that finds no room is not one too many, no node is free
pub is_none_free : (k : Watching Planned) (key : ℕ) → (IsOneTooMany k key → ⊥) → LacksRoom k key
    → AreAllUsed (nodes_in k.view.client.known)
is_none_free k key not lacks = ⊎_elim (λ (many : IsOneTooMany k key). absurd (not many))
    (λ (none : IsNoneFreeYet (nodes_in k.view.client.known)). none.used)
    lacks

-- after a wait there is room
module _ {C : Type 0} (seat now : Seated C) (before looked : Watching Planned) (key : ℕ)
    (not : IsOneTooMany before key → ⊥)
    (room : HasMadeRoom (buckets_in before) seat now before looked) where
  too_many_before : IsOneTooMany looked key → IsOneTooMany before key
  too_many_before many =
      let planned = reclaimed_plan before looked room.made.looked in
      let same = reclaimed_nodes before looked room.made.looked in
      let buckets = buckets_in before in
      let A : List Node = nodes_in before.view.client.known in
      let B : List Node = nodes_in looked.view.client.known in
      let absent : HasKey buckets B key → ⊥ =
      subst (λ (p : Plan). HasKey p.roots B key → ⊥) planned many.absent in
      let full : capacity before.view.client.plan ≤ entries_in buckets B =
      subst (λ (p : Plan). capacity p ≤ entries_in p.roots B) planned many.full in
      let count = as_many_entries buckets A B same.many same.live in record {
        absent = λ has.
            absent (key_kept buckets B A key
            (λ w. ((room.entries w).1, (room.entries w).0)) has);
        full = omega (arith, full, count);
      }

  pub room_stays : LacksRoom looked key → ⊥
  room_stays lacks = ⊎_elim (λ (many : IsOneTooMany looked key). not (too_many_before many))
      (λ (none : IsNoneFreeYet (nodes_in looked.view.client.known)). room.made.free none.used)
      lacks

-- an entry that takes a free node has room, if its key is there or the map is not full
module _ (k : Watching Planned) (key node : ℕ)
    (free : IsFreeNode (nodes_in k.view.client.known) node) where
  one_is_free : IsNoneFreeYet (nodes_in k.view.client.known) → ⊥
  one_is_free none = none.used node free.inside free.free

  pub replacement_has_room : HasKey (buckets_in k) (nodes_in k.view.client.known) key
      → LacksRoom k key → ⊥
  replacement_has_room has = ⊎_elim (λ (many : IsOneTooMany k key). many.absent has) one_is_free

  pub insertion_has_room : (IsAtCapacity k → ⊥) → LacksRoom k key → ⊥
  insertion_has_room not = ⊎_elim (λ (many : IsOneTooMany k key). not many.full) one_is_free
