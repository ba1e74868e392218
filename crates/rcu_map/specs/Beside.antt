-- A run of a map's shared words beside an open section, and the writer's calls over it.
use Rattle.std.specs.Prelude.{◌≡◌, ◌⊎◌, ◌+◌, ◌≤◌, ℕ, List}
use Rattle.rcu_seq.specs.Numbers.{Number}
use Rattle.rcu_live.specs.Watcher.{Watching}
use Rattle.rcu_graph.specs.Beside.{IsKeptOver, IsOpenOver, Moment}
use Rattle.rcu_graph.specs.Nodes.{nodes_in}
use Rattle.rcu_graph.specs.declared.known.Node.{Node}
use Rattle.rcu_graph.specs.declared.known.Planned.{Planned}
use Rattle.rcu_graph.specs.declared.plan.Plan.{Plan}
use Rattle.rcu_map.specs.Entries.{HasEntry, HasKey}
use Rattle.rcu_map.specs.Keys.{GoesUp, IsWhole, root_words}
use Rattle.rcu_map.specs.Runs.{IsRun, begun, changed, looked}

-- the moments from this one on
abbrev pub since : ℕ → (ℕ → Moment) → ℕ → Moment
since from moments t = moments (from + t)

module _ (holds : List ℕ → Type 0) (plan : Plan) where
  -- the rule of a map holds at each moment, and this seat is its writer's
  abbrev pub IsMapOver : (writer last : ℕ) → (ℕ → Moment) → Type 0
  IsMapOver = IsKeptOver (λ p. IsWhole holds p.words)
      (λ p _ from to. GoesUp p.roots p.seed from to) (λ p. root_words p.words) plan

  -- at each moment the section is open on this seat, and makes its hops by loads
  abbrev pub IsReadOver : (seat : ℕ) → Number → (last : ℕ) → (ℕ → Moment) → Type 0
  IsReadOver = IsOpenOver (λ p. IsWhole holds p.words)
      (λ p _ from to. GoesUp p.roots p.seed from to) (λ p. root_words p.words) plan

  module _ (opened : Number) (moments : ℕ → Moment) where
    -- the calls of a run were made from the moment 0 to this one: between any two of them there is
    -- a moment at which the writer had its knowledge of then. Before the first one, or if there is
    -- none, its knowledge was the same from the moment 0 on
    abbrev pub AreMadeOver : ℕ → (now : Watching Planned) → IsRun holds plan opened now → Type 0
    AreMadeOver t now (begun _ map) =
        ((moments 0).writer ≡ now.view.client.known)
        × ((moments t).writer ≡ now.view.client.known)
    AreMadeOver t now (changed before _ run by map) =
        ((moments t).writer ≡ now.view.client.known)
        × (s : ℕ)
        × (s ≤ t)
        × AreMadeOver s before run
    AreMadeOver t now (looked before _ number run opens is map) =
        ((moments t).writer ≡ now.view.client.known)
        × (s : ℕ)
        × (s ≤ t)
        × AreMadeOver s before run

  -- the nodes had a property at the beginning of a run, or after one of its calls
  abbrev pub Had : (List Node → Type 0) → (opened : Number) (now : Watching Planned)
      → IsRun holds plan opened now → Type 0
  Had has opened now (begun _ map) = has (nodes_in now.view.client.known)
  Had has opened now (changed before _ run by map) =
      Had has opened before run ⊎ has (nodes_in now.view.client.known)
  Had has opened now (looked before _ number run opens is map) =
      Had has opened before run ⊎ has (nodes_in now.view.client.known)

  -- the key was in the map then
  abbrev pub HadKey : (opened : Number) (key : ℕ) (now : Watching Planned)
      → IsRun holds plan opened now → Type 0
  HadKey opened key = Had (λ nodes. HasKey plan.roots nodes key) opened

  -- the entry of these words was in the map then
  abbrev pub HadEntry : (opened : Number) (words : List ℕ) (now : Watching Planned)
      → IsRun holds plan opened now → Type 0
  HadEntry opened words = Had (λ nodes. HasEntry plan.roots nodes words) opened
