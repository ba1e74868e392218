-- The result of a wait for room, and cases in which entries are the same.
use Rattle.std.proofs.Common.{◌≡◌, ℕ, ◌+◌, ◌-◌, ◌<◌, ◌≤◌, List}
use Rattle.std.proofs.Common.{length, refl, ap, ◌∙◌, arith, Err, Ok, OnErr, OnOk, Result}
use Rattle.rcu_live.specs.CpuSeat.{Seated}
use Rattle.rcu_live.specs.Watcher.{Watching}
use Rattle.rcu_graph.specs.Nodes.{node_at, state_at}
use Rattle.rcu_graph.specs.declared.known.Planned.{Planned}
use Rattle.rcu_graph.specs.declared.known.Node.{Node}
use Rattle.rcu_graph.proofs.Counting.{live_inside, live_test}
use Rattle.rcu_graph.specs.Waits as graph
use Rattle.rcu_graph.proofs.Looks.{reclaimed_nodes}
use Rattle.rcu_map.specs.Chains.{IsMap, buckets_in}
use Rattle.rcu_map.specs.Entries.{AreSameEntries, HasKey, entries_in}
use Rattle.rcu_map.specs.Keys.{key_in}
use Rattle.rcu_map.specs.Room.{AreAllLive, IsOneTooMany}
use Rattle.rcu_map.specs.Waits.{HasGivenUp, HasMadeRoom, WaitedFor}
use Rattle.rcu_map.specs.declared.put.NotPut.{NotPut}
use Rattle.rcu_map.specs.declared.put.NotPut.TheVariants.{Fault, Full}
use Rattle.rcu_map.proofs.Reclaims.{reclaimed_entries}
use Rattle.rcu_map.proofs.Counted.{entries_and_roots, many_behind}

-- a key that an entry has is one of the same entries
pub key_kept : (buckets : ℕ) (A B : List Node) (key : ℕ)
    → AreSameEntries buckets A B → HasKey buckets B key → HasKey buckets A key
key_kept buckets A B key same (node, one) =
    let h =
    (same (node_at B node).words).0 (record { node = node; entry = one.entry; is = refl }) in
    (h.node, record { entry = h.entry; is = ap key_in h.is ∙ one.is })

-- the result of a wait for a free node: no entry changed
pub made_room : {C E : Type 0} (seat now : Seated C) (k m : Watching Planned)
    (r : Result (Unit {0}) E) → OnOk r (graph.HasMadeRoom seat now k m)
    → OnOk r (HasMadeRoom (buckets_in k) seat now k m)
made_room seat now k m (Ok _) made =
    record { made = made; entries = reclaimed_entries _ _ _ (reclaimed_nodes k m made.looked) }
made_room seat now k m (Err _) made = tt

pub gave_up : {C E : Type 0} (seat now : Seated C) (k m : Watching Planned)
    (r : Result (Unit {0}) E) → OnErr r (graph.HasGivenUp seat now k m)
    → OnErr r (HasGivenUp (buckets_in k) seat now k m)
gave_up seat now k m (Ok _) up = tt
gave_up seat now k m (Err _) up =
    record { gave_up = up; entries = reclaimed_entries _ _ _ (reclaimed_nodes k m up.looked) }

-- an error of a wait is that the entry is one too many, exactly if it is
pub why_full : {C : Type 0} (key : ℕ) (seat now : Seated C) (before : Watching Planned)
    (why : NotPut) (after : Watching Planned)
    → WaitedFor key seat now before (Err why) after
    → (why ≡ Full → IsOneTooMany before key) × (IsOneTooMany before key → why ≡ Full)
why_full key seat now before Full after end = (λ _. end.0, λ _. refl)
why_full key seat now before (Fault fault) after end = (
  λ e. absurd (cc),
  λ many. absurd (end.0 many),
)

pub same_err : {T E : Type 0} (x y : E) → ◌≡◌ {A = Result T E} (Err x) (Err y) → x ≡ y
same_err x y e = cc

module _ (holds : List ℕ → Type 0) (buckets seed width count : ℕ) (A : List Node)
    (m : IsMap holds buckets seed width count A) (some : 0 < buckets) where
  roots_fit : buckets ≤ length A
  roots_fit =
      let root =
      live_inside A (buckets - 1) (m.tended.rooted (buckets - 1) (omega (arith, some))) in
      omega (arith, root, some)

  pub no_more_than_nodes : entries_in buckets A + buckets ≤ count
  no_more_than_nodes =
      let few = m.few in
      let most = entries_and_roots buckets A roots_fit in omega (arith, few, most)

  -- if each node is live, there are as many entries as nodes that are no roots
  pub as_many_as_nodes : AreAllLive A → entries_in buckets A + buckets ≡ count
  as_many_as_nodes all =
      many_behind buckets A roots_fit (λ i low. live_test (state_at A i) (all i low)) ∙ m.few
