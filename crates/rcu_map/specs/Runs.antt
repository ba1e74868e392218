-- The writer's calls as a section that began at this number sees them.
use Rattle.std.specs.Prelude.{◌≡◌, ℕ, zero, suc, ◌+◌, Bool, true, List, [], ◌∷◌, map, nat_eq}
use Rattle.rcu_seq.specs.Numbers.{Number}
use Rattle.rcu_live.specs.Numbers.{is_open_at}
use Rattle.rcu_live.specs.Watcher.{Watching}
use Rattle.rcu_graph.specs.Graph.{word_to}
use Rattle.rcu_graph.specs.Writer.{after_look}
use Rattle.rcu_graph.specs.Nodes.{nodes_in, renewed}
use Rattle.rcu_graph.specs.Tended.{filled_with}
use Rattle.rcu_graph.specs.declared.known.Planned.{Planned}
use Rattle.rcu_graph.specs.declared.known.Node.{Node}
use Rattle.rcu_graph.specs.declared.plan.Plan.{Plan}
use Rattle.rcu_map.specs.Chains.{IsMap}
use Rattle.rcu_map.specs.Entries.{HasKey}
use Rattle.rcu_map.specs.Keys.{bucket_in}
use Rattle.rcu_map.specs.Puts.{IsByOneStore}
use Rattle.rcu_map.specs.Splices.{IsOneStore, by_passing, by_put}

-- a node of these words belongs to this bucket
abbrev pub is_of : ℕ → ℕ → ℕ → List ℕ → Bool
is_of buckets seed bucket words = nat_eq (bucket_in buckets seed words) bucket

-- the nodes right before the one store, for which a free one may have been filled
abbrev pub filled_in : (before stored : List Node) → IsOneStore before stored → List Node
filled_in before stored (by_put previous node words next live free is) =
    renewed before node (filled_with (map word_to (next ∷ [])) words)
filled_in before stored (by_passing previous next live is) = before

-- the nodes at the moments of a call: before it, right before its store, right after that, and
-- after the call
abbrev pub moments_in : (before after : Watching Planned) → IsByOneStore before after → ℕ
    → List Node
moments_in before after by zero = nodes_in before.view.client.known
moments_in before after by (suc zero) =
    filled_in (nodes_in before.view.client.known) by.stored by.one
moments_in before after by (suc (suc zero)) = by.stored
moments_in before after by (suc (suc (suc t))) = nodes_in after.view.client.known

-- the nodes before a load of the number, and after it
abbrev pub around : Watching Planned → Watching Planned → ℕ → List Node
around before after zero = nodes_in before.view.client.known
around before after (suc t) = nodes_in after.view.client.known

-- the nodes at this number of moments, and at those from then on
abbrev pub then_to : ℕ → (ℕ → List Node) → (ℕ → List Node) → ℕ → List Node
then_to zero first later t = later t
then_to (suc last) first later zero = first zero
then_to (suc last) first later (suc t) = then_to last (λ n. first (suc n)) later t

-- a writer's nodes are those of a map of this plan
pub record IsMapOf (holds : List ℕ → Type 0) (plan : Plan) (writer : Watching Planned) : Type 0
  where
    pub planned : writer.view.client.plan ≡ plan
    pub map : IsMap holds plan.roots plan.seed plan.words plan.nodes
        (nodes_in writer.view.client.known)

module _ (holds : List ℕ → Type 0) (plan : Plan) (opened : Number) where
  -- since the section began the writer has come to this state by calls: each changed the map by one
  -- store, or loaded a number at which the section may be open
  pub data IsRun : Watching Planned → Type 0 where
    begun : (now : Watching Planned) → IsMapOf holds plan now → IsRun now
    changed : (before now : Watching Planned) → IsRun before → IsByOneStore before now
        → IsMapOf holds plan now → IsRun now
    looked : (before now : Watching Planned) (number : Number) → IsRun before
        → is_open_at number opened ≡ true → now ≡ after_look before number
        → IsMapOf holds plan now → IsRun now

  -- the last moment of a run, and the nodes at each
  abbrev pub last_of : (now : Watching Planned) → IsRun now → ℕ
  last_of now (begun _ map) = 0
  last_of now (changed before _ run by map) = last_of before run + 3
  last_of now (looked before _ number run opens is map) = last_of before run + 1

  abbrev pub seen_in : (now : Watching Planned) → IsRun now → ℕ → List Node
  seen_in now (begun _ map) = λ _. nodes_in now.view.client.known
  seen_in now (changed before _ run by map) =
      then_to (last_of before run) (seen_in before run) (moments_in before now by)
  seen_in now (looked before _ number run opens is map) =
      then_to (last_of before run) (seen_in before run) (around before now)

  -- the key was in the map at the beginning, and after each call
  abbrev pub HasKeyThroughout : ℕ → (now : Watching Planned) → IsRun now → Type 0
  HasKeyThroughout key now (begun _ map) = HasKey plan.roots (nodes_in now.view.client.known) key
  HasKeyThroughout key now (changed before _ run by map) =
      HasKeyThroughout key before run × HasKey plan.roots (nodes_in now.view.client.known) key
  HasKeyThroughout key now (looked before _ number run opens is map) =
      HasKeyThroughout key before run × HasKey plan.roots (nodes_in now.view.client.known) key
