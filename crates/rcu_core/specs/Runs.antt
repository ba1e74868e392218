-- Runs: events with their replies, one after another.
use Rattle.std.specs.Prelude.{ℕ, Bool, true, false, List, [], ◌∷◌, ◌≡◌}
use Rattle.rcu_core.specs.History.{History}
use Rattle.rcu_core.specs.Replies.{Size, IsLegalReply, with_event}
use Rattle.rcu_core.specs.Situation.{situation}
use Rattle.rcu_core.specs.Core.{State, Represents, size_at}
use Rattle.rcu_core.specs.declared.event.Event.{Event}
use Rattle.rcu_core.specs.declared.event.Event.TheVariants.{Take, StartPoll}
use Rattle.rcu_core.specs.declared.reply.Reply.{Reply}

-- events with their replies, the newest first
abbrev pub Run : Type 0
Run = List (Event × Reply)

-- the accepted history of a run
abbrev pub history : Run → History
history [] = []
history (x ∷ run) = with_event (history run) x.0 x.1

-- each reply was legal
abbrev pub IsLegalRun : Size → Run → Type 0
IsLegalRun s [] = Unit {0}
IsLegalRun s (x ∷ run) = IsLegalReply s (situation (history run)) x.0 x.1 × IsLegalRun s run

-- a cookie is taken
abbrev pub takes : Event → Bool
takes Take = true
takes StartPoll = true
takes _ = false

-- legal replies to events, the first one first, lead from a history to another
abbrev pub Leads : Size → History → List Event → List Reply → History → Type 0
Leads s h [] [] g = g ≡ h
Leads s h (e ∷ events) (r ∷ replies) g =
    IsLegalReply s (situation h) e r × Leads s (with_event h e r) events replies g
Leads s h [] (r ∷ replies) g = ⊥
Leads s h (e ∷ events) [] g = ⊥

-- the replies to these events are legal, one after another, and the engine is then in the situation
-- of the history that they lead to
pub record RunsLegally (v : State ℕ) (h : History) (events : List Event) (replies : List Reply)
    (w : State ℕ) : Type 0 where
  pub reached : History
  pub leads : Leads (size_at v) h events replies reached
  pub has : Represents w reached
  pub size : size_at w ≡ size_at v
