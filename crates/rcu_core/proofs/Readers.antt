-- Read sections over whole runs.
use Rattle.std.proofs.Common.{◌≡◌, ℕ, ◌+◌, ◌<◌, ◌≤◌, Bool, true, false, [], ◌∷◌, ◌++◌, Option, Some}
use Rattle.std.proofs.Common.{None, refl, ap, subst, sym, arith, cond, ltb, inl, inr, ◌≢◌}
use Rattle.std.specs.Prelude.{◌==◌, if◌then◌else◌, nat_lt}
use Rattle.std.proofs.lemmas.Bool.Decides.{nat_tests}
use Rattle.std.proofs.lemmas.Bool.{and_parts, ltb-true}
use Rattle.rcu_seq.specs.Numbers.{number_at, snapshot}
use Rattle.rcu_seq.specs.Tags.{cookie_at, is_done_at}
use Rattle.rcu_seq.specs.declared.cookie.Cookie.{Cookie}
use Rattle.rcu_seq.specs.declared.fault.Fault.{Fault}
use Rattle.rcu_core.specs.History.{History, depth, is_idle, opening, running, section, is_old}
use Rattle.rcu_core.specs.History.{awaits, tag_now}
use Rattle.rcu_core.specs.Replies.{Size, fault_in, how_many, accepted_reply, or_fault, waits_for}
use Rattle.rcu_core.specs.Replies.{history_event, with_event, AreAccepted, IsLegalReply}
use Rattle.rcu_core.specs.Situation.{Situation, situation}
use Rattle.rcu_state.specs.Periods.{wants_begin}
use Rattle.rcu_core.specs.Runs.{Run, IsLegalRun, history, takes}
use Rattle.rcu_core.specs.declared.event.Event.{Event}
use Rattle.rcu_core.specs.declared.event.Event.TheVariants.{Turn, Take, StartPoll, Poll, BarTest}
use Rattle.rcu_core.specs.declared.reply.Reply.{Reply}
use Rattle.rcu_core.specs.declared.reply.Reply.TheVariants as reply
use Rattle.rcu_core.proofs.Clocks.{before_ticks, clock, done_ticks, opening_accepted}
use Rattle.rcu_core.proofs.Facts.{Facts, facts}
use Rattle.rcu_core.proofs.Recorded.{after_said, after_test, is_test}

-- a turn begins or ends a grace period only if a begin or an end is accepted
turn_accepted : (s : Size) (u : Situation) (a b d : Bool) (k l m n : ℕ) → u.periods.running ≡ a
    → (how_many s u.cpus.awaits == 0) ≡ b → wants_begin u.periods ≡ d → fault_in s u Turn ≡ None
    → fault_in s u (history_event Turn (cond a (cond b (reply.Ended k) (reply.Waiting l))
    (cond d (reply.Begun m n) reply.Nothing))) ≡ None
turn_accepted s u true true d k l m n e f g p = grind (arith, nat_tests)
turn_accepted s u true false d k l m n e f g p = p
turn_accepted s u false b true k l m n e f g p = grind (arith, nat_tests)
turn_accepted s u false b false k l m n e f g p = p

accepted_as : (s : Size) (u : Situation) (e : Event) → fault_in s u e ≡ None
    → fault_in s u (history_event e (accepted_reply s u e)) ≡ None
accepted_as s u Turn p =
    turn_accepted s u u.periods.running (how_many s u.cpus.awaits == 0) (wants_begin u.periods)
    (number_at (u.periods.ends + 1) false) (how_many s u.cpus.awaits)
    (number_at u.periods.ends true) (how_many s u.cpus.online) refl refl refl p
accepted_as s u _ p = p

test_accepted : (s : Size) (h : History) (b : Bool)
    → fault_in s (situation h) BarTest ≡ None → AreAccepted s h
    → AreAccepted s (cond b (BarTest ∷ h) h)
test_accepted s h true i p = (i, p)
test_accepted s h false i p = p

after_other : (s : Size) (h : History) (e : Event)
    → is_test e ≡ false → fault_in s (situation h) e ≡ None → AreAccepted s h
    → AreAccepted s (with_event h e (accepted_reply s (situation h) e))
after_other s h e n i p = rw (after_said s (situation h) h e n) (accepted_as s (situation h) e i, p)

after_accepted : (s : Size) (h : History) (e : Event)
    → fault_in s (situation h) e ≡ None → AreAccepted s h
    → AreAccepted s (with_event h e (accepted_reply s (situation h) e))
after_accepted s h BarTest i p =
    rw (after_test s (situation h) h) (test_accepted s h (waits_for s (situation h) == 0) i p)
after_accepted s h e i p = after_other s h e refl i p

after_answer : (s : Size) (h : History) (e : Event) (o : Option Fault)
    → fault_in s (situation h) e ≡ o → AreAccepted s h
    → AreAccepted s (with_event h e (or_fault o (accepted_reply s (situation h) e)))
after_answer s h e (Some f) i p = p
after_answer s h e None i p = after_accepted s h e i p

pub after_legal : (s : Size) (h : History) (e : Event) (r : Reply)
    → IsLegalReply s (situation h) e r → AreAccepted s h → AreAccepted s (with_event h e r)
after_legal s h e r (inl i) p = rw i (after_answer s h e (fault_in s (situation h) e) refl p)
after_legal s h e r (inr i) p = rw i.2 p

-- the history of a legal run has accepted events alone
pub possible : (s : Size) (run : Run) → IsLegalRun s run → AreAccepted s (history run)
possible s [] l = tt
possible s (x ∷ run) l = after_legal s (history run) x.0 x.1 l.0 (possible s run l.1)

awaited_from : (s : Size) (c : ℕ) (h : History) → AreAccepted s h → Facts s c h → is_old c h ≡ true
    → awaits c h ≡ true
awaited_from s c h p f i =
    let runs : running h ≡ true = (and_parts (running h) _ i).0 in
    let told = before_ticks s (opening c h) h (opening_accepted s c h p) p runs in
    let a = f.at_begin in let b = f.unheard in grind (arith, nat_tests)

pub old_is_awaited : (s : Size) (run : Run) (c : ℕ)
    → IsLegalRun s run → is_old c (history run) ≡ true → awaits c (history run) ≡ true
old_is_awaited s run c l i =
    awaited_from s c (history run) (possible s run l) (facts s c (history run) (possible s run l)) i

closed_at : (n : ℕ) (opened : History) → n ≡ 0 → (if nat_lt 0 n then Some opened else None) ≡ None
closed_at n opened e = subst (λ k. (if nat_lt 0 k then Some opened else None) ≡ None) (sym e) refl

pub idle_is_closed : (s : Size) (run : Run) (c : ℕ)
    → IsLegalRun s run → is_idle c (history run) ≡ true → section c (history run) ≡ None
idle_is_closed s run c l i =
    let f = facts s c (history run) (possible s run l) in
    closed_at (depth c (history run)) (opening c (history run)) (f.at_idle i)

-- the earlier part of a legal run is one
pub legal_before : (s : Size) (later earlier : Run) → IsLegalRun s (later ++ earlier)
    → IsLegalRun s earlier
legal_before s [] earlier l = l
legal_before s (x ∷ later) earlier l = legal_before s later earlier l.1

abbrev cookie_in : Reply → Cookie
cookie_in (reply.Cookie cookie) = cookie
cookie_in _ = record { epoch = 0; number = 0 }

pub cookie_is : (s : Size) (h : History) (e : Event) (k : Cookie) → takes e ≡ true
    → IsLegalReply s (situation h) e (reply.Cookie k) → k ≡ cookie_at (tag_now h)
cookie_is s h Take k t (inl i) = ap (λ r. cookie_in r) i
cookie_is s h Take k t (inr i) = absurd (cc)
cookie_is s h StartPoll k t (inl i) = ap (λ r. cookie_in r) i
cookie_is s h StartPoll k t (inr i) = absurd (cc)
cookie_is s h _ k t l = absurd (cc)

polled_is : (s : Size) (h : History) (k : Cookie)
    → IsLegalReply s (situation h) (Poll k.number k.epoch) (reply.Polled true)
    → is_done_at s.last k (tag_now h) ≡ true
polled_is s h k (inl i) = cc
polled_is s h k (inr i) = absurd (cc)

pub record Open (c : ℕ) (h x : History) : Type 0 where
  pub deep : 0 < depth c h
  pub at : opening c h ≡ x

open_if : (b : Bool) (x y : History) → cond b (Some x) None ≡ Some y → (b ≡ true) × (x ≡ y)
open_if true x y e = (refl, cc)
open_if false x y e = absurd (cc)

pub open_from : (c : ℕ) (h x : History) → section c h ≡ Some x → Open c h x
open_from c h x e = let q = open_if (ltb 0 (depth c h)) (opening c h) x e in
    record { deep = ltb-true _ _ q.0; at = q.1 }

snap_above : (a b n : ℕ) → a ≤ b → snapshot b ≤ n → n < snapshot a → ⊥
snap_above a b n l m i = omega (arith, l, m, i)

ended_from : (s : Size) (c : ℕ) (k : Cookie) (g h x : History)
    → AreAccepted s g
    → AreAccepted s h
    → Facts s c g
    → Facts s c h
    → k ≡ cookie_at (tag_now g)
    → is_done_at s.last k (tag_now h) ≡ true
    → Open c g x
    → Open c h x
    → ⊥
ended_from s c k g h x p q fg fh e i a b =
    snap_above (clock x) (clock g) (clock h) (rw a.at at fg.opening_le)
    (done_ticks s g h p q (rw e at i)) (rw b.at at (fh.below_snap b.deep))

pub done_is_ended : (s : Size) (later earlier : Run) (e : Event) (k : Cookie) (c : ℕ)
    (opened : History)
    → takes e ≡ true
    → IsLegalRun s
    ((Poll k.number k.epoch, reply.Polled true) ∷ later ++ (e, reply.Cookie k) ∷ earlier)
    → section c (history earlier) ≡ Some opened
    → section c (history (later ++ (e, reply.Cookie k) ∷ earlier)) ≢ Some opened
done_is_ended s later earlier e k c opened t l a b =
    let taken = (e, reply.Cookie k) ∷ earlier in
    let m = legal_before s later taken l.1 in
    let p = possible s earlier m.1 in
    let q = possible s (later ++ taken) l.1 in
    ended_from s c k (history earlier) (history (later ++ taken)) opened p q
    (facts s c (history earlier) p) (facts s c (history (later ++ taken)) q)
    (cookie_is s (history earlier) e k t m.0) (polled_is s (history (later ++ taken)) k l.0)
    (open_from c (history earlier) opened a) (open_from c (history (later ++ taken)) opened b)
