-- The result of putting an entry in by a call that waits for a free node.
use Rattle.std.proofs.Common.{◌≡◌, ℕ, Bool, true, false, List, Option, Some, None, Result, Ok, Err}
use Rattle.std.proofs.Common.{ap, refl, subst, ◌∙◌}
use Rattle.std.specs.Prelude.{is_some}
use Rattle.rcu_live.specs.CpuSeat.{Seated}
use Rattle.rcu_live.specs.Watcher.{Watching}
use Rattle.rcu_graph.specs.Nodes.{nodes_in}
use Rattle.rcu_graph.specs.Tended.{AreAllUsed}
use Rattle.rcu_graph.specs.declared.writer.Full.{Full}
use Rattle.rcu_graph.specs.declared.known.Planned.{Planned}
use Rattle.rcu_graph.specs.declared.known.Node.{Node}
use Rattle.rcu_map.specs.Chains.{buckets_in}
use Rattle.rcu_map.specs.Entries.{AreSameEntries, HasKey, IsEntryOf}
use Rattle.rcu_map.specs.Keys.{key_in}
use Rattle.rcu_map.specs.Puts.{HasAnswered, HasPutIn, Holds, IsPutIn, IsWanted, is_put}
use Rattle.rcu_map.specs.Room.{LacksRoom}
use Rattle.rcu_map.specs.Waits.{HasMadeRoom, HasPutInTime}
use Rattle.rcu_map.specs.declared.put.Put.{Put}
use Rattle.rcu_map.specs.declared.put.Put.TheVariants.{Insert, Replace, Upsert}
use Rattle.rcu_map.proofs.Looks.{key_kept}

-- an entry takes a node that was free
takes_a_node : (buckets : ℕ) (words : List ℕ) (there : Bool) (before after : List Node)
    → IsPutIn buckets words there before after → AreAllUsed before → ⊥
takes_a_node buckets words true before after put full =
    full put.node put.was_free.inside put.was_free.free
takes_a_node buckets words false before after put full =
    full put.node put.was_free.inside put.was_free.free

module _ {C : Type 0} (buckets : ℕ) (words : List ℕ) (there : Bool) (seat : Seated C)
    (before after : Watching Planned) (outside : seat.depth ≡ 0) where
  -- at once
  pub put_at_once : (puts : Bool) → HasPutIn buckets words there puts before after
      → HasPutInTime buckets words there puts seat seat before after
  put_at_once true put = record {
    outside = outside;
    no_wait = λ node free. refl;
    at_once = λ node free. put;
    waited = λ full. absurd (takes_a_node buckets words there (nodes_in before.view.client.known)
        (nodes_in after.view.client.known) put.nodes full);
  }
  put_at_once false same = (outside, record { seat_stays = refl; writer_stays = same })

  -- and after a wait
  pub put_later : (now : Seated C) (looked : Watching Planned)
      → AreAllUsed (nodes_in before.view.client.known)
      → HasMadeRoom buckets seat now before looked
      → (puts : Bool)
      → puts ≡ true
      → HasPutIn buckets words there puts looked after
      → HasPutInTime buckets words there puts seat now before after
  put_later now looked full room true e put = record {
    outside = outside;
    no_wait = λ node free. absurd (full node free.inside free.free);
    at_once = λ node free. absurd (full node free.inside free.free);
    waited = λ _. record { looked = looked; waited = room; changed = put };
  }
  put_later now looked full room false e put = absurd (cc)

module _ {E : Type 0} (decode : List ℕ → E) (valid : E → Type 0) (key_of : E → ℕ) (buckets : ℕ)
    (key : ℕ) where
  -- if it is requested, it is put in
  pub wanted_is_put : (how : Put) (nodes : List Node) (old : Option E)
      → IsWanted how buckets nodes key → Holds decode valid key_of buckets nodes key old
      → is_put how (is_some old) ≡ true
  wanted_is_put Insert nodes None wanted none = refl
  wanted_is_put Insert nodes (Some entry) wanted one = absurd (wanted (has_key one.is))
    where
      has_key : IsEntryOf decode buckets nodes key entry → HasKey buckets nodes key
      has_key is =
          (is.has.node, record { entry = is.has.entry; is = ap key_in is.has.is ∙ is.is })
  wanted_is_put Replace nodes None wanted none = absurd (none wanted)
  wanted_is_put Replace nodes (Some entry) wanted one = refl
  wanted_is_put Upsert nodes old wanted holds = refl

  -- the holder of the key among the same entries
  pub same_holder : (before after : List Node) (old : Option E)
      → AreSameEntries buckets before after → Holds decode valid key_of buckets after key old
      → Holds decode valid key_of buckets before key old
  same_holder before after None same none =
      λ has. none (key_kept buckets after before key (λ w. ((same w).1, (same w).0)) has)
  same_holder before after (Some entry) same one = record {
    is = record {
      words = one.is.words;
      has = (same one.is.words).0 one.is.has;
      is = one.is.is;
      told = one.is.told;
    };
    keyed = one.keyed;
    sound = one.sound;
  }

module _ {E : Type 0} (decode : List ℕ → E) (valid : E → Type 0) (key_of : E → ℕ) (key : ℕ)
    (how : Put) (words : List ℕ) (before after : Watching Planned)
    (result : Result (Option E) Full)
    (a : HasAnswered decode valid key_of how key words before result after) where
  -- there was no room
  pub when_full : (full : Full) → result ≡ Err full
      → IsWanted how (buckets_in before) (nodes_in before.view.client.known) key
      × LacksRoom before key
      × (after ≡ before)
  when_full full e =
      let b = subst (λ (r : Result (Option E) Full).
      HasAnswered decode valid key_of how key words before r after)
      e a in
      (b.wanted, b.full, b.unchanged)

  -- it was answered
  pub when_told : (old : Option E) → result ≡ Ok old
      → Holds decode valid key_of (buckets_in before) (nodes_in before.view.client.known) key old
      × HasPutIn (buckets_in before) words (is_some old) (is_put how (is_some old)) before after
  when_told old e =
      let b = subst (λ (r : Result (Option E) Full).
      HasAnswered decode valid key_of how key words before r after)
      e a in
      (b.old, b.put)
