-- The result of an update that is made if an entry is as it was read.
use Rattle.std.proofs.Common.{◌≡◌, ◌∙◌, ◌<◌, ℕ, Bool, true, false, List, Some, None, Ok, Err, ap}
use Rattle.std.proofs.Common.{arith, refl, sym}
use Rattle.std.proofs.lemmas.Bool.{false≢true}
use Rattle.rcu_live.specs.Watcher.{Watching}
use Rattle.rcu_graph.specs.Graph.{IsOfSameGraph}
use Rattle.rcu_graph.specs.Nodes.{node_at, nodes_in}
use Rattle.rcu_graph.specs.Tended.{AreAllUsed}
use Rattle.rcu_graph.specs.declared.writer.Full.{Full}
use Rattle.rcu_graph.specs.declared.known.Planned.{Planned}
use Rattle.rcu_graph.specs.declared.known.Node.{Node}
use Rattle.rcu_map.specs.Chains.{IsMap, buckets_in}
use Rattle.rcu_map.specs.Compared.{HasComparedToRemove, HasComparedToReplace, IsAsRead}
use Rattle.rcu_map.specs.Entries.{HasKey, IsNodeOf, IsRemoved}
use Rattle.rcu_map.specs.Keys.{key_in}
use Rattle.rcu_map.specs.Puts.{HasChanged, Holds, IsHolder, IsPutIn}
use Rattle.rcu_map.specs.Room.{AreAllLive}
use Rattle.rcu_map.specs.Words.{as_words, words_if}
use Rattle.rcu_map.proofs.Chains.{has_key, one_entry}
use Rattle.rcu_map.proofs.AsRead.{has_its_key, holder}

module _ (holds : List ℕ → Type 0) (before : Watching Planned) (key : ℕ) (read : List ℕ) where
  same : IsOfSameGraph before before
  same = record { table = refl; base = refl; plan = refl }

  abbrev Buckets : ℕ
  Buckets = buckets_in before

  abbrev Nodes : List Node
  Nodes = nodes_in before.view.client.known

  -- no entry has the key
  module _ (absent : HasKey Buckets Nodes key → ⊥) where
    pub gone : (words : List ℕ)
        → HasComparedToReplace as_words holds key_in key read words before (Ok None) before
    gone words = record {
      same = same;
      old = absent;
      replaced = λ was. absurd (absent (has_its_key Buckets Nodes key read was));
      stays = λ not. refl;
      room = λ was. absurd (absent (has_its_key Buckets Nodes key read was));
      wanted = tt;
      full = tt;
      unchanged = tt;
    }

    pub gone_already : HasComparedToRemove as_words holds key_in key read before None before
    gone_already = record {
      same = same;
      had = absent;
      removed = λ was. absurd (absent (has_its_key Buckets Nodes key read was));
      stays = λ not. refl;
    }

  -- this node has it
  module _ (node : ℕ) (one : IsNodeOf Buckets Nodes key node) (found : List ℕ)
      (told : found ≡ (node_at Nodes node).words) (whole : holds found) where
    -- with other words
    module _ (another : IsAsRead Buckets Nodes key read → ⊥) where
      pub changed : (words : List ℕ)
          → HasComparedToReplace as_words holds key_in key read words before (Ok (Some found))
          before
      changed words = record {
        same = same;
        old = holder holds Buckets Nodes key node found one told whole;
        replaced = λ was. absurd (another was);
        stays = λ not. refl;
        room = λ was. absurd (another was);
        wanted = tt;
        full = tt;
        unchanged = tt;
      }

      pub changed_already : HasComparedToRemove as_words holds key_in key read before (Some found)
          before
      changed_already = record {
        same = same;
        had = holder holds Buckets Nodes key node found one told whole;
        removed = λ was. absurd (another was);
        stays = λ not. refl;
      }

    -- and with those that were read
    module _ (was : IsAsRead Buckets Nodes key read) (after : Watching Planned)
        (of_graph : IsOfSameGraph before after) where
      pub replaced : (words : List ℕ) → HasChanged (IsPutIn Buckets words true) before after
          → HasComparedToReplace as_words holds key_in key read words before (Ok (Some found)) after
      replaced words done = record {
        same = of_graph;
        old = holder holds Buckets Nodes key node found one told whole;
        replaced = λ _. done;
        stays = λ not. absurd (not was);
        room = λ _ none. none.used done.nodes.node done.nodes.was_free.inside
            done.nodes.was_free.free;
        wanted = tt;
        full = tt;
        unchanged = tt;
      }

      pub removed : HasChanged (λ b a. IsRemoved Buckets b key a) before after
          → HasComparedToRemove as_words holds key_in key read before (Some found) after
      removed done = record {
        same = of_graph;
        had = holder holds Buckets Nodes key node found one told whole;
        removed = λ _. done;
        stays = λ not. absurd (not was);
      }

  -- it is as it was read, and no node is free
  pub none_free : (words : List ℕ) (full : Full)
      → IsAsRead Buckets Nodes key read → AreAllUsed Nodes → (AreAllLive Nodes → ⊥)
      → HasComparedToReplace as_words holds key_in key read words before (Err full) before
  none_free words full was used waits = record {
    same = same;
    old = tt;
    replaced = tt;
    stays = tt;
    room = tt;
    wanted = was;
    full = record { used = used; waits = waits };
    unchanged = refl;
  }

-- an entry that was there was taken out
pub is_there : (holds : List ℕ → Type 0) (buckets : ℕ) (A : List Node) (key : ℕ) (there : Bool)
    (words : List ℕ) → Holds as_words holds key_in buckets A key (words_if there words)
    → HasKey buckets A key → there ≡ true
is_there holds buckets A key true words h has = refl
is_there holds buckets A key false words h has = absurd (h has)

pub it_holds : (holds : List ℕ → Type 0) (buckets : ℕ) (A : List Node) (key : ℕ) (there : Bool)
    (words : List ℕ) → Holds as_words holds key_in buckets A key (words_if there words)
    → there ≡ true → IsHolder as_words holds key_in buckets A key words
it_holds holds buckets A key true words h e = h
it_holds holds buckets A key false words h e = absurd (false≢true e)

-- it is the entry of the node that has its key
pub same_entry : (holds : List ℕ → Type 0) (buckets seed width count : ℕ) (A : List Node)
    → IsMap holds buckets seed width count A → (key node : ℕ) (words : List ℕ)
    → IsNodeOf buckets A key node → IsHolder as_words holds key_in buckets A key words
    → words ≡ (node_at A node).words
same_entry holds buckets seed width count A m key node words one h =
    let there = has_key holds buckets seed width count A m node one.entry.live one.entry.behind in
    let is = one.is in
    let some : 0 < key = omega (arith, there, is) in
    let other : IsNodeOf buckets A key h.is.has.node = record {
      entry = h.is.has.entry;
      is = ap key_in h.is.has.is ∙ h.is.is;
    } in
    h.is.told
    ∙ (sym h.is.has.is
    ∙ ap (λ (i : ℕ). (node_at A i).words)
    (one_entry holds buckets seed width count A m key h.is.has.node node some other one))

-- the same of entries, in place of their words
module _ {E : Type 0} (decode : List ℕ → E) (valid : E → Type 0) (key_of : E → ℕ)
    (holds : List ℕ → Type 0) (before after : Watching Planned) (key : ℕ) (read : List ℕ) where
  module _ (words : List ℕ) (entry : E) (told : entry ≡ decode words)
      (keyed : key_of (decode words) ≡ key_in words) (sound : valid entry) where
    told_of : IsHolder as_words holds key_in (buckets_in before) (nodes_in before.view.client.known)
        key words
        → IsHolder decode valid key_of (buckets_in before) (nodes_in before.view.client.known) key
        entry
    told_of h = record {
      is = record {
        words = h.is.words;
        has = h.is.has;
        is = h.is.is;
        told = told ∙ ap decode h.is.told;
      };
      keyed = ap key_of told ∙ (keyed ∙ h.keyed);
      sound = sound;
    }

    pub replaced_of : (new : List ℕ)
        → HasComparedToReplace as_words holds key_in key read new before (Ok (Some words)) after
        → HasComparedToReplace decode valid key_of key read new before (Ok (Some entry)) after
    replaced_of new h = record {
      same = h.same;
      old = told_of h.old;
      replaced = h.replaced;
      stays = h.stays;
      room = h.room;
      wanted = tt;
      full = tt;
      unchanged = tt;
    }

    pub removed_of : HasComparedToRemove as_words holds key_in key read before (Some words) after
        → HasComparedToRemove decode valid key_of key read before (Some entry) after
    removed_of h = record {
      same = h.same;
      had = told_of h.had;
      removed = h.removed;
      stays = h.stays;
    }

  pub none_replaced : (new : List ℕ)
      → HasComparedToReplace as_words holds key_in key read new before (Ok None) after
      → HasComparedToReplace decode valid key_of key read new before (Ok None) after
  none_replaced new h = record {
    same = h.same;
    old = h.old;
    replaced = h.replaced;
    stays = h.stays;
    room = h.room;
    wanted = tt;
    full = tt;
    unchanged = tt;
  }

  pub none_removed : HasComparedToRemove as_words holds key_in key read before None after
      → HasComparedToRemove decode valid key_of key read before None after
  none_removed h = record {
    same = h.same;
    had = h.had;
    removed = h.removed;
    stays = h.stays;
  }
