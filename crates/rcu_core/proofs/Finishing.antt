-- A cookie is done exactly if a full grace period has passed, so after two ends.
use Rattle.std.proofs.Common.{◌≡◌, ◌≢◌, ℕ, ◌+◌, ◌*◌, ◌<◌, ◌≤◌, Bool, true, false, nat_le, List, []}
use Rattle.std.proofs.Common.{◌∷◌, ◌++◌, None, refl, sym, ap, ◌∙◌, subst, arith, cond, inl, inr}
use Rattle.std.proofs.Common.{◌⊎◌}
use Rattle.std.specs.Prelude.{count_by}
use Rattle.std.specs.List.{list_any}
use Rattle.std.proofs.lemmas.Bool.{cases_Bool, cases_eq}
use Rattle.std.proofs.lemmas.Bool.Decides.{nat_tests}
use Rattle.std.proofs.lemmas.List.Sums.{sum_by-append}
use Rattle.rcu_seq.specs.Numbers.{is_last, number_at, snapshot}
use Rattle.rcu_seq.specs.Tags.{clock_of, cookie_at, is_done_at, last_epoch}
use Rattle.rcu_seq.specs.declared.cookie.Cookie.{Cookie}
use Rattle.rcu_seq.specs.declared.tag.Tag.{Tag}
use Rattle.rcu_seq.proofs.Clocks.{done_by_clock}
use Rattle.rcu_core.specs.Callbacks.{has_full_period}
use Rattle.rcu_core.specs.History.{History, begins, ends, ends_in_epoch, epoch, number, running}
use Rattle.rcu_core.specs.History.{tag_now}
use Rattle.rcu_core.specs.Progress.{CanFinishCookie, HasEnded, SurelyLeads}
use Rattle.rcu_core.specs.Replies.{Size, answer, fault_in, AreAccepted, IsLegalReply, with_event}
use Rattle.rcu_core.specs.Runs.{IsLegalRun, Run, history, takes}
use Rattle.rcu_core.specs.Situation.{situation}
use Rattle.rcu_core.specs.declared.event.Event.{Event}
use Rattle.rcu_core.specs.declared.event.Event.TheVariants.{Begin, End, Poll, Renumber}
use Rattle.rcu_core.specs.declared.reply.Reply.{Reply}
use Rattle.rcu_core.specs.declared.reply.Reply.TheVariants as reply
use Rattle.rcu_core.proofs.Clocks.{clock, in_epoch}
use Rattle.rcu_core.proofs.Ending.{Surely, can_end, leads_on}
use Rattle.rcu_core.proofs.Kept.{Turns, begin_counts, end_counts, turns}
use Rattle.rcu_core.proofs.Readers.{after_legal, cookie_is, legal_before, possible}

-- the value of the clock, by whether a grace period began and whether a full one passed since
pub record Passed (h : History) (later : History) : Type 0 where
  pub rises : clock h ≤ clock (later ++ h)
  pub begun : list_any begins later ≡ true → snapshot (clock h) ≤ clock (later ++ h) + 3
  pub full : has_full_period later ≡ true → snapshot (clock h) ≤ clock (later ++ h)
  pub below : has_full_period later ≡ false → clock (later ++ h) < snapshot (clock h)
  pub before : has_full_period later ≡ false → list_any begins later ≡ false
      → clock (later ++ h) + 4 ≤ snapshot (clock h)
  pub runs : has_full_period later ≡ false → list_any begins later ≡ true
      → running (later ++ h) ≡ true

passed_step : (s : Size) (e : Event) (later h : History)
    → fault_in s (situation (later ++ h)) e ≡ None → Turns (later ++ h) → Passed h later
    → Passed h (e ∷ later)
passed_step s Begin later h p t f =
    let n = begin_counts (later ++ h) in
    let a = f.rises in
    let b = f.full in
    let d = f.below in
    let o = f.before in
    let r = f.runs in
    record {
      rises = grind (arith, nat_tests);
      begun = λ u. grind (arith, nat_tests);
      full = λ u. grind (arith, nat_tests);
      below = λ u. grind (arith, nat_tests);
      before = λ u w. absurd (cc);
      runs = λ u w. grind (arith, nat_tests);
    }
passed_step s End later h p t f =
    let n = end_counts (later ++ h) in
    let a = f.rises in
    let g = f.begun in
    let b = f.full in
    let d = f.below in
    let o = f.before in
    let r = f.runs in
    record {
      rises = grind (arith, nat_tests);
      begun = λ u. grind (arith, nat_tests);
      full = λ u. grind (arith, nat_tests);
      below = λ u. grind (arith, nat_tests);
      before = λ u w. grind (arith, nat_tests);
      runs = λ u w. grind (arith, nat_tests);
    }
passed_step s _ later h p t f = record {
  rises = f.rises;
  begun = f.begun;
  full = f.full;
  below = f.below;
  before = f.before;
  runs = f.runs;
}

pub passed : (s : Size) (later h : History) → AreAccepted s (later ++ h) → Passed h later
passed s [] h p = record {
  rises = omega arith;
  begun = λ u. absurd (cc);
  full = λ u. absurd (cc);
  below = λ u. omega arith;
  before = λ u w. omega arith;
  runs = λ u w. absurd (cc);
}
passed s (e ∷ later) h p = passed_step s e later h p.0 (turns s (later ++ h) p.1)
    (passed s later h p.1)

first_reached : (last : ℕ) (t n : Tag)
    → t.epoch ≡ 0 → n.epoch ≡ 0 → is_done_at last (cookie_at t) n
    ≡ nat_le (snapshot (clock_of last t)) (clock_of last n)
first_reached last t n e f =
    let a : t.epoch * last ≡ 0 = ap (λ k. k * last) e ∙ omega arith in
    let b : n.epoch * last ≡ 0 = ap (λ k. k * last) f ∙ omega arith in
    grind (arith, nat_tests, e, f, a, b)

-- a cookie tests done exactly if the clock has reached the snapshot of the clock when it was taken
pub done_by_ticks : (s : Size) (g h : History) → AreAccepted s g → AreAccepted s h
    → is_done_at s.last (cookie_at (tag_now g)) (tag_now h) ≡ nat_le (snapshot (clock g)) (clock h)
done_by_ticks s g h p q =
    let i = in_epoch s g p in let j = in_epoch s h q in
    rw (i.ticks, j.ticks) (elim (cases_Bool (is_last s.last)) [
      | inl l ↦ done_by_clock s.last (tag_now g) (tag_now h) l (i.within l) (j.within l)
      | inr l ↦ first_reached s.last (tag_now g) (tag_now h) (i.alone l) (j.alone l)
    ])

pub earlier_accepted : (s : Size) (later h : History) → AreAccepted s (later ++ h)
    → AreAccepted s h
earlier_accepted s [] h p = p
earlier_accepted s (e ∷ later) h p = earlier_accepted s later h p.1

same_test : (b : Bool) (a m : ℕ) → (b ≡ true → a ≤ m) → (b ≡ false → m < a) → nat_le a m ≡ b
same_test true a m f g = let l = f refl in grind (arith, nat_tests)
same_test false a m f g = let l = g refl in grind (arith, nat_tests)

pub done_is_full : (s : Size) (later h : History) → AreAccepted s (later ++ h)
    → is_done_at s.last (cookie_at (tag_now h)) (tag_now (later ++ h)) ≡ has_full_period later
done_is_full s later h p =
    let f = passed s later h p in
    done_by_ticks s h (later ++ h) (earlier_accepted s later h p) p
    ∙ same_test (has_full_period later) (snapshot (clock h)) (clock (later ++ h)) f.full f.below

-- two ends are enough
pub two_ends_done : (s : Size) (g h : History) → AreAccepted s g → AreAccepted s h
    → count_by ends g + 2 ≤ count_by ends h
    → is_done_at s.last (cookie_at (tag_now g)) (tag_now h) ≡ true
two_ends_done s g h p q l = done_by_ticks s g h p q ∙ two (count_by ends g) (count_by ends h)
    (running g) (running h) l
  where
    two : (m n : ℕ) (a b : Bool) → m + 2 ≤ n
        → nat_le (snapshot (number_at m a)) (number_at n b) ≡ true
    two m n a b l = grind (arith, nat_tests)

-- so a full grace period lies among them
pub two_hold_full : (s : Size) (later h : History) → AreAccepted s (later ++ h)
    → 2 ≤ count_by ends later → has_full_period later ≡ true
two_hold_full s later h p l =
    let a = sum_by-append (λ e. cond {A = ℕ} (ends e) 1 0) later h in
    sym (done_is_full s later h p)
    ∙ two_ends_done s h (later ++ h) (earlier_accepted s later h p) p (omega (arith, a, l))

poll_said : (s : Size) (h : History) (k : Cookie) (r : Reply)
    → is_done_at s.last k (tag_now h) ≡ true
    → IsLegalReply s (situation h) (Poll k.number k.epoch) r → r ≡ reply.Polled true
poll_said s h k r d (inl i) = i ∙ ap (λ b. reply.Polled b) d
poll_said s h k r d (inr i) = absurd (cc)

pub two_ends_finish : (s : Size) (later earlier : Run) (e : Event) (k : Cookie) (r : Reply)
    → takes e ≡ true
    → IsLegalRun s (later ++ (e, reply.Cookie k) ∷ earlier)
    → count_by ends (history earlier) + 2
    ≤ count_by ends (history (later ++ (e, reply.Cookie k) ∷ earlier))
    → IsLegalReply s (situation (history (later ++ (e, reply.Cookie k) ∷ earlier)))
    (Poll k.number k.epoch) r
    → r ≡ reply.Polled true
two_ends_finish s later earlier e k r t l n m =
    let taken = (e, reply.Cookie k) ∷ earlier in
    let before = legal_before s later taken l in
    let is = cookie_is s (history earlier) e k t before.0 in
    poll_said s (history (later ++ taken)) k r
    (ap (λ x. is_done_at s.last x (tag_now (history (later ++ taken)))) is
    ∙ two_ends_done s (history earlier) (history (later ++ taken)) (possible s earlier before.1)
    (possible s (later ++ taken) l) n)
    m

-- events that lead on, one list after another
pub leads_both : (s : Size) (h g k : History) (xs ys : List Event) → SurelyLeads s h xs g
    → SurelyLeads s g ys k → SurelyLeads s h (xs ++ ys) k
leads_both s h g k [] ys t u = subst (λ x. SurelyLeads s x ys k) t u
leads_both s h g k (e ∷ xs) ys t u = λ r l.
    (let at = t r l in (at.0, leads_both s (with_event h e r) g k xs ys at.1 u))

-- the history that they lead to has accepted events alone
pub leads_accepted : (s : Size) (h g : History) (events : List Event) → AreAccepted s h
    → SurelyLeads s h events g → AreAccepted s g
leads_accepted s h g [] p t = subst (λ x. AreAccepted s x) (sym t) p
leads_accepted s h g (e ∷ events) p t =
    let r = answer s (situation h) e in
    leads_accepted s (with_event h e r) g events (after_legal s h e r (inl refl) p)
    (t r (inl refl)).1

-- a grace period ended: the clock
pub ended_clock : (s : Size) (h g : History) → AreAccepted s h → AreAccepted s g → running h ≡ true
    → HasEnded h g → clock g ≡ clock h + 3
ended_clock s h g p q r o =
    let i = (in_epoch s h p).ticks in
    let j = (in_epoch s g q).ticks in
    let base = ap (λ n. n * s.last) o.epoch in
    let a : number_at (ends_in_epoch h) (running h) ≡ 4 * ends_in_epoch h + 1 =
    ap (λ b. number_at (ends_in_epoch h) b) r in
    let b : number_at (ends_in_epoch g) (running g) ≡ 4 * ends_in_epoch g =
    ap (λ b. number_at (ends_in_epoch g) b) o.idle ∙ omega arith in
    let more = o.one_more in
    omega (arith, i, j, base, a, b, more)

-- some events, which are not refused, bring the clock to a number
pub record Reaches (s : Size) (h : History) (n : ℕ) : Type 0 where
  pub events : List Event
  pub reached : History
  pub leads : SurelyLeads s h events reached
  pub clock : clock reached ≡ n
  pub idle : running reached ≡ false

to_its_end : (s : Size) (h : History) → AreAccepted s h → running h ≡ true
    → Reaches s h (clock h + 3)
to_its_end s h p r =
    let o = can_end s h p r in record {
      events = o.events;
      reached = o.reached;
      leads = o.leads;
      clock = ended_clock s h o.reached p (leads_accepted s h o.reached o.events p o.leads) r
          o.ended;
      idle = o.ended.idle;
    }

pub begins_now : (s : Size) (h : History) → running h ≡ false → (number h ≡ s.last → ⊥)
    → Surely s h Begin
begins_now s h r n = record {
  accepted = grind (arith, nat_tests);
  stores = refl;
  stands = refl;
  no_fault = λ f i. cc;
}

pub runs_then : (s : Size) (h : History) → AreAccepted s h → running h ≡ false
    → running (Begin ∷ h) ≡ true
runs_then s h p r = let t = turns s h p in let a = t.ends_le in let n = begin_counts h in
    grind (arith, nat_tests)

pub clock_then : (h : History) → running h ≡ false → running (Begin ∷ h) ≡ true
    → clock (Begin ∷ h) ≡ clock h + 1
clock_then h r q = grind (arith, nat_tests)

from_idle : (s : Size) (h : History) → AreAccepted s h → running h ≡ false
    → (number h ≡ s.last → ⊥) → Reaches s h (clock h + 4)
from_idle s h p r n =
    let u = begins_now s h r n in
    let q = runs_then s h p r in
    let c = clock_then h r q in
    let o = to_its_end s (Begin ∷ h) (u.accepted, p) q in record {
      events = Begin ∷ o.events;
      reached = o.reached;
      leads = leads_on s h Begin o.events o.reached u o.leads;
      clock = o.clock ∙ omega (arith, c);
      idle = o.idle;
    }

pub renumbers_now : (s : Size) (h : History) → running h ≡ false → number h ≡ s.last
    → is_last s.last ≡ true → epoch h < last_epoch → Surely s h Renumber
renumbers_now s h r n l e = record {
  accepted = grind (arith, nat_tests);
  stores = refl;
  stands = refl;
  no_fault = λ f i. cc;
}

pub not_last : (s : Size) (h : History) → running h ≡ false → is_last s.last ≡ true
    → number (Renumber ∷ h) ≡ s.last → ⊥
not_last s h r l n = grind (arith, nat_tests)

-- a full grace period can pass: unless the number is the last one, or if there is a next epoch
pub full_from_idle : (s : Size) (h : History) → AreAccepted s h → running h ≡ false
    → is_last s.last ≡ true → (number h ≡ s.last → epoch h < last_epoch)
    → Reaches s h (clock h + 4)
full_from_idle s h p r l room = elim (cases_eq (number h) s.last) [
  | inr n ↦ from_idle s h p r n
  | inl n ↦
      let u = renumbers_now s h r n l (room n) in
      let o = from_idle s (Renumber ∷ h) (u.accepted, p) r (not_last s h r l) in record {
        events = Renumber ∷ o.events;
        reached = o.reached;
        leads = leads_on s h Renumber o.events o.reached u o.leads;
        clock = o.clock;
        idle = o.idle;
      }
]

-- the clock after an end, at most one renumbering, and one more grace period
reaches_both : (s : Size) (h : History) (n m : ℕ) → (o : Reaches s h n) → Reaches s o.reached m
    → Reaches s h m
reaches_both s h n m o q = record {
  events = o.events ++ q.events;
  reached = q.reached;
  leads = leads_both s h o.reached q.reached o.events q.events o.leads q.leads;
  clock = q.clock;
  idle = q.idle;
}

pub room_after : (s : Size) (h g : History) → running h ≡ true → HasEnded h g
    → (snapshot (number h) ≤ s.last) ⊎ (epoch h < last_epoch)
    → number g ≡ s.last → epoch g < last_epoch
room_after s h g r o (inl l) n =
    let m = o.one_more in let i = o.idle in
    absurd (let x : ⊥ = grind (arith, nat_tests, m, i, l, n, r) in x)
room_after s h g r o (inr l) n = let e = o.epoch in omega (arith, e, l)

pub room_now : (s : Size) (h : History) → running h ≡ false
    → (snapshot (number h) ≤ s.last) ⊎ (epoch h < last_epoch)
    → number h ≡ s.last → epoch h < last_epoch
room_now s h r (inl l) n = absurd (let x : ⊥ = omega (arith, l, n) in x)
room_now s h r (inr l) n = l

-- if no grace period runs at the second number, and it is at most 7 above the first, at most two
-- more grace periods have ended
pub few_ends : (m n : ℕ) (a b : Bool) → b ≡ false → number_at n b ≤ number_at m a + 7 → n ≤ m + 2
few_ends m n a b i l = grind (arith, nat_tests)

done_at : (s : Size) (h : History) (n : ℕ) → AreAccepted s h → snapshot (clock h) ≤ n
    → n ≤ clock h + 7
    → Reaches s h n → CanFinishCookie s h
done_at s h n p l m o =
    let q = leads_accepted s h o.reached o.events p o.leads in
    let c = o.clock in
    record {
      events = o.events;
      reached = o.reached;
      leads = o.leads;
      done = done_by_ticks s h o.reached p q
          ∙ reached_is (snapshot (clock h)) (clock o.reached) n c l;
      ends = few_ends (count_by ends h) (count_by ends o.reached) (running h) (running o.reached)
          o.idle (rw c m);
    }
  where
    reached_is : (a b n : ℕ) → b ≡ n → a ≤ n → nat_le a b ≡ true
    reached_is a b n c l = grind (arith, nat_tests)

pub can_finish : (s : Size) (run : Run) → IsLegalRun s run → is_last s.last ≡ true
    → (snapshot (number (history run)) ≤ s.last) ⊎ (epoch (history run) < last_epoch)
    → CanFinishCookie s (history run)
can_finish s run l k room =
    let h = history run in
    let p = possible s run l in
    elim (cases_Bool (running h)) [
      | inr r ↦ done_at s h (clock h + 4) p (by_four h r) (omega arith)
          (full_from_idle s h p r k (room_now s h r room))
      | inl r ↦
          let o = can_end s h p r in
          let a = leads_accepted s h o.reached o.events p o.leads in
          let c = ended_clock s h o.reached p a r o.ended in
          done_at s h (clock o.reached + 4) p (omega (arith, c, by_seven h r)) (omega (arith, c))
          (reaches_both s h (clock o.reached) (clock o.reached + 4) (record {
            events = o.events;
            reached = o.reached;
            leads = o.leads;
            clock = refl;
            idle = o.ended.idle;
          }) (full_from_idle s o.reached a o.ended.idle k
          (room_after s h o.reached r o.ended room)))
    ]
  where
    by_four : (h : History) → running h ≡ false → snapshot (clock h) ≤ clock h + 4
    by_four h r = grind (arith, nat_tests)

    by_seven : (h : History) → running h ≡ true → snapshot (clock h) ≤ clock h + 7
    by_seven h r = grind (arith, nat_tests)

pub begins_alone : (s : Size) (run : Run) → running (history run) ≡ false
    → number (history run) ≢ s.last
    → SurelyLeads s (history run) (Begin ∷ []) (Begin ∷ history run)
begins_alone s run r n =
    let h = history run in leads_on s h Begin [] (Begin ∷ h) (begins_now s h r n) refl

pub begins_renumbered : (s : Size) (run : Run) → running (history run) ≡ false
    → is_last s.last ≡ true → number (history run) ≡ s.last → epoch (history run) < last_epoch
    → SurelyLeads s (history run) (Renumber ∷ Begin ∷ []) (Begin ∷ Renumber ∷ history run)
begins_renumbered s run r l n e =
    let h = history run in
    let g : History = Renumber ∷ h in
    leads_on s h Renumber (Begin ∷ []) (Begin ∷ g) (renumbers_now s h r n l e)
    (leads_on s g Begin [] (Begin ∷ g) (begins_now s g r (not_last s h r l)) refl)
