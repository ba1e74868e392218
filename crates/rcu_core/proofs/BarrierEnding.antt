-- From each history in which a barrier runs, some events lead to a test that finds it done.
use Rattle.std.proofs.Common.{◌≡◌, ℕ, zero, suc, ◌<◌, ◌≤◌, Bool, true, false, not, ◌&&◌}
use Rattle.std.proofs.Common.{◌⊎◌, ◌||◌, List, [], ◌∷◌, ◌++◌, refl, sym}
use Rattle.std.proofs.Common.{ap, ◌∙◌, subst, arith, cond, eqb, eq-eqb, inl, inr}
use Rattle.std.specs.Prelude.{count_by}
use Rattle.std.proofs.Math.Nat.{eq-or-lt_of_le}
use Rattle.std.proofs.lemmas.Bool.{or_right}
use Rattle.std.proofs.lemmas.Bool.Decides.{nat_tests}
use Rattle.rcu_seq.specs.Numbers.{is_last, snapshot}
use Rattle.rcu_seq.specs.Tags.{last_epoch}
use Rattle.rcu_core.specs.Callbacks.{barrier_runs, is_owed}
use Rattle.rcu_core.specs.Callbacks.{times_handed_out, was_visited}
use Rattle.rcu_core.specs.History.{History, ends, epoch, number}
use Rattle.rcu_core.specs.Progress.{CanFinishBarrier, LeadsWithMemory}
use Rattle.rcu_core.specs.Replies.{Size, accepted_reply, AreAccepted}
use Rattle.rcu_core.specs.Replies.{waits_for, with_event}
use Rattle.rcu_core.specs.Runs.{IsLegalRun, Run as Trace, history}
use Rattle.rcu_core.specs.Situation.{situation}
use Rattle.rcu_core.specs.declared.event.Event.{Event}
use Rattle.rcu_core.specs.declared.event.Event.TheVariants.{BarTest, Visit}
use Rattle.rcu_core.specs.declared.reply.Reply.TheVariants as reply
use Rattle.rcu_core.proofs.Marked.{nothing_left}
use Rattle.rcu_core.proofs.Draining.{drain_all}
use Rattle.rcu_core.proofs.OneByOne.{events_of_each, kept_by_each, of_each}
use Rattle.rcu_core.proofs.Readers.{possible}
use Rattle.rcu_core.proofs.WithMemory.{Accepts, both_with_memory, memory_on}

-- the barrier visits each processor
abbrev visited : ℕ → History → History
visited n h = of_each (λ c. Visit c) n h

kept_by_visits : {A : Type 0} (see : History → A)
    → ((c : ℕ) (h : History) → see (Visit c ∷ h) ≡ see h) → (n : ℕ) (h : History)
    → see (visited n h) ≡ see h
kept_by_visits see kept n h = kept_by_each see (λ c. Visit c) kept n h

still_runs : (n : ℕ) (h : History) → barrier_runs h ≡ true → barrier_runs (visited n h) ≡ true
still_runs n h r = kept_by_visits barrier_runs (λ c h. refl) n h ∙ r

abbrev visits_to : ℕ → List Event
visits_to n = events_of_each (λ c. Visit c) n

was_there : (c n : ℕ) (h : History) → c < n → was_visited c (visited n h) ≡ true
was_there c zero h l = absurd (omega (arith, l))
was_there c (suc n) h l = elim (eq-or-lt_of_le {n = c} {m = n} (omega (arith, l))) [
  | inl i ↦ either (eqb n c) (was_visited c (visited n h)) (inl (eq-eqb n c (sym i)))
  | inr i ↦ either (eqb n c) (was_visited c (visited n h)) (inr (was_there c n h i))
]
  where
    either : (a b : Bool) → (a ≡ true) ⊎ (b ≡ true) → (a || b) ≡ true
    either a b (inl i) = rw i refl
    either a b (inr i) = or_right a b i

none_owed : (c n : ℕ) (h : History) → c < n → is_owed c (visited n h) ≡ false
none_owed c n h l =
    off (barrier_runs (visited n h)) (was_visited c (visited n h)) (was_there c n h l)
  where
    off : (r v : Bool) → v ≡ true → (r && not v) ≡ false
    off true v i = rw i refl
    off false v i = refl

visit_accepts : (s : Size) (h : History) (c : ℕ) → c < s.cpus → barrier_runs h ≡ true
    → Accepts s h (Visit c)
visit_accepts s h c l r = record {
  accepted = grind (arith, nat_tests);
  stands = refl;
  no_fault = λ f i. cc;
}

visited_leads : (s : Size) (n : ℕ) (h : History) → n ≤ s.cpus → barrier_runs h ≡ true
    → LeadsWithMemory s h (visits_to n) (visited n h)
visited_leads s zero h l r = refl
visited_leads s (suc n) h l r =
    both_with_memory s h (visited n h) (Visit n ∷ visited n h) (visits_to n) (Visit n ∷ [])
    (visited_leads s n h (omega (arith, l)) r)
    (memory_on s (visited n h) (Visit n) [] (Visit n ∷ visited n h)
    (visit_accepts s (visited n h) n (omega (arith, l)) (still_runs n h r)) refl)

visited_accepted : (s : Size) (n : ℕ) (h : History) → n ≤ s.cpus → barrier_runs h ≡ true
    → AreAccepted s h → AreAccepted s (visited n h)
visited_accepted s zero h l r p = p
visited_accepted s (suc n) h l r p = (
  (visit_accepts s (visited n h) n (omega (arith, l)) (still_runs n h r)).accepted,
  visited_accepted s n h (omega (arith, l)) r p,
)

test_accepts : (s : Size) (h : History) → barrier_runs h ≡ true → waits_for s (situation h) ≡ 0
    → Accepts s h BarTest
test_accepts s h r z =
    let done : accepted_reply s (situation h) BarTest ≡ reply.BarDone =
    said (waits_for s (situation h)) z in
    record {
      accepted = grind (arith, nat_tests);
      stands = ap (λ x. with_event h BarTest x) done;
      no_fault = λ f i. let x = sym done ∙ i in cc;
    }
  where
    said : (n : ℕ) → n ≡ 0 → cond (eqb n 0) reply.BarDone (reply.BarWaits n) ≡ reply.BarDone
    said n i = rw i refl

pub can_finish_barrier : (s : Size) (run : Trace) → IsLegalRun s run
    → barrier_runs (history run) ≡ true
    → is_last s.last ≡ true
    → (snapshot (number (history run)) ≤ s.last) ⊎ (epoch (history run) < last_epoch)
    → CanFinishBarrier s (history run)
can_finish_barrier s run l r k room =
    let h = history run in
    let v = visited s.cpus h in
    let vr : barrier_runs v ≡ true = still_runs s.cpus h r in
    let vp = visited_accepted s s.cpus h (omega arith) r (possible s run l) in
    let d = drain_all s v vp k (still_room s.cpus h room) in
    let g = d.drain.reached in
    let left = nothing_left s d.later v (subst (λ y. AreAccepted s y) d.is d.accepted) vr
    (λ c m. none_owed c s.cpus h m) d.no_test
    (λ j z m. ap (λ y. times_handed_out j y) (sym d.is) ∙ d.drain.out j z m) in
    let runs : barrier_runs g ≡ true = ap (λ y. barrier_runs y) d.is ∙ left.0 in
    let none : waits_for s (situation g) ≡ 0 =
    ap (λ y. waits_for s (situation y)) d.is ∙ left.1 in
    let more = d.drain.ends in
    let same = kept_by_visits (count_by ends) (λ c h. refl) s.cpus h in
    record {
      events = (visits_to s.cpus ++ d.drain.events) ++ BarTest ∷ [];
      reached = BarTest ∷ g;
      leads =
          both_with_memory s h g (BarTest ∷ g) (visits_to s.cpus ++ d.drain.events) (BarTest ∷ [])
          (both_with_memory s h v g (visits_to s.cpus) d.drain.events
          (visited_leads s s.cpus h (omega arith) r) d.drain.leads)
          (memory_on s g BarTest [] (BarTest ∷ g) (test_accepts s g runs none) refl);
      done = refl;
      ends = omega (arith, more, same);
    }
  where
    still_room : (n : ℕ) (h : History)
        → (snapshot (number h) ≤ s.last) ⊎ (epoch h < last_epoch)
        → (snapshot (number (visited n h)) ≤ s.last) ⊎ (epoch (visited n h) < last_epoch)
    still_room n h (inl i) =
        inl (subst (λ m. snapshot m ≤ s.last) (sym (kept_by_visits number (λ c h. refl) n h)) i)
    still_room n h (inr i) =
        inr (subst (λ m. m < last_epoch) (sym (kept_by_visits epoch (λ c h. refl) n h)) i)
