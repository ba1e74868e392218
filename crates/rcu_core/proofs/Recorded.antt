-- How the history records an event and its reply.
use Rattle.std.proofs.Common.{◌≡◌, ℕ, ◌+◌, Bool, true, false, cond, ◌∷◌, refl}
use Rattle.std.specs.Prelude.{◌==◌}
use Rattle.rcu_seq.specs.Numbers.{number_at}
use Rattle.rcu_core.specs.History.{History}
use Rattle.rcu_core.specs.Replies.{Size, accepted_reply, turn_reply, waits_for, how_many}
use Rattle.rcu_core.specs.Replies.{history_event, with_event}
use Rattle.rcu_core.specs.Situation.{Situation}
use Rattle.rcu_state.specs.Periods.{wants_begin}
use Rattle.rcu_core.specs.declared.event.Event.{Event}
use Rattle.rcu_core.specs.declared.event.Event.TheVariants.{Enter, Exit, Note, Quiesce, Deliver}
use Rattle.rcu_core.specs.declared.event.Event.TheVariants.{Online, Offline, Turn, Poll, Queue}
use Rattle.rcu_core.specs.declared.event.Event.TheVariants.{Tend, Run, Visit, BarTest, Idle, Wake}
use Rattle.rcu_core.specs.declared.event.Event.TheVariants.{Scan}
use Rattle.rcu_core.specs.declared.reply.Reply.{Reply}
use Rattle.rcu_core.specs.declared.reply.Reply.TheVariants as reply

-- the history records what a turn did
pub turned_after : (h : History) (a b d : Bool) (k l m n : ℕ) (r : Reply)
    → r ≡ cond a (cond b (reply.Ended k) (reply.Waiting l)) (cond d (reply.Begun m n) reply.Nothing)
    → with_event h Turn r ≡ history_event Turn r ∷ h
turned_after h true true d k l m n r e = rw e refl
turned_after h true false d k l m n r e = rw e refl
turned_after h false b true k l m n r e = rw e refl
turned_after h false b false k l m n r e = rw e refl

tested_after : (h : History) (b : Bool) (n : ℕ)
    → with_event h BarTest (cond b reply.BarDone (reply.BarWaits n)) ≡ cond b (BarTest ∷ h) h
tested_after h true n = refl
tested_after h false n = refl

-- the history records a test if it waits for nothing
pub after_test : (s : Size) (u : Situation) (h : History)
    → with_event h BarTest (accepted_reply s u BarTest) ≡ cond (waits_for s u == 0) (BarTest ∷ h) h
after_test s u h = tested_after h (waits_for s u == 0) (waits_for s u)

-- it is no test of a barrier
abbrev pub is_test : Event → Bool
is_test BarTest = true
is_test _ = false

-- the history records any other event as itself
pub after_said : (s : Size) (u : Situation) (h : History) (e : Event) → is_test e ≡ false
    → with_event h e (accepted_reply s u e) ≡ history_event e (accepted_reply s u e) ∷ h
after_said s u h (Enter c) n = refl
after_said s u h (Exit c) n = refl
after_said s u h (Note c) n = refl
after_said s u h (Quiesce c) n = refl
after_said s u h (Deliver k) n = refl
after_said s u h (Online c) n = refl
after_said s u h (Offline c) n = refl
after_said s u h Turn n =
    turned_after h u.periods.running (how_many s u.cpus.awaits == 0) (wants_begin u.periods)
    (number_at (u.periods.ends + 1) false) (how_many s u.cpus.awaits)
    (number_at u.periods.ends true) (how_many s u.cpus.online) (turn_reply s u) refl
after_said s u h (Poll k epoch) n = refl
after_said s u h (Queue c x) n = refl
after_said s u h (Tend c) n = refl
after_said s u h (Run c m) n = refl
after_said s u h (Visit c) n = refl
after_said s u h (Idle c) n = refl
after_said s u h (Wake c) n = refl
after_said s u h (Scan c) n = refl
after_said s u h BarTest n = absurd (cc)
after_said s u h _ n = refl
