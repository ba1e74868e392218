-- Stories: a run, and between its events the publications of a value's versions and the loads of
-- the current one. The newest comes first. Versions are identified by numbers.
use Rattle.std.specs.Prelude.{ℕ, ◌==◌, ◌&&◌, ◌||◌, Bool, false, nat_lt, List, [], ◌∷◌}
use Rattle.rcu_core.specs.History.{depth}
use Rattle.rcu_core.specs.Runs.{Run, history}
use Rattle.rcu_core.specs.declared.event.Event.{Event}
use Rattle.rcu_core.specs.declared.reply.Reply.{Reply}

-- an event with its reply; a version is published; a processor loads the current version
pub data Deed : Type 0 where
  Replied : Event → Reply → Deed
  Publish : ℕ → Deed
  Load : ℕ → Deed

abbrev pub Story : Type 0
Story = List Deed

-- the run of a story
abbrev pub run_of : Story → Run
run_of [] = []
run_of (Replied e r ∷ story) = (e, r) ∷ run_of story
run_of (Publish version ∷ story) = run_of story
run_of (Load cpu ∷ story) = run_of story

-- the version that was published last; before any, it is 0
abbrev pub current : Story → ℕ
current [] = 0
current (Replied e r ∷ story) = current story
current (Publish version ∷ story) = version
current (Load cpu ∷ story) = current story

-- the version is published in it
abbrev pub publishes : ℕ → Story → Bool
publishes version [] = false
publishes version (Replied e r ∷ story) = publishes version story
publishes version (Publish other ∷ story) = other == version || publishes version story
publishes version (Load cpu ∷ story) = publishes version story

-- a section of the processor is open
abbrev pub is_open : ℕ → Story → Bool
is_open cpu story = nat_lt 0 (depth cpu (history (run_of story)))

-- the processor holds the version: its open section loaded it
abbrev pub holds_version : ℕ → ℕ → Story → Bool
holds_version cpu version [] = false
holds_version cpu version (Replied e r ∷ story) =
    is_open cpu (Replied e r ∷ story) && holds_version cpu version story
holds_version cpu version (Publish other ∷ story) = holds_version cpu version story
holds_version cpu version (Load c ∷ story) =
    (c == cpu && (is_open cpu story && current story == version)) || holds_version cpu version story
