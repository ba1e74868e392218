-- From each history some events lead to one in which each callback was handed out.
use Rattle.std.proofs.Common.{◌≡◌, ℕ, zero, suc, ◌+◌, ◌<◌, ◌≤◌, Bool, true, false}
use Rattle.std.proofs.Common.{◌⊎◌, List, [], ◌∷◌, ◌++◌, length, refl, sym}
use Rattle.std.proofs.Common.{ap, ◌∙◌, subst, arith, cond, eqb, ne_eqb, append_assoc, inl, inr}
use Rattle.std.proofs.Common.{nat_le}
use Rattle.std.specs.Prelude.{count_by}
use Rattle.std.specs.List.{list_any}
use Rattle.std.proofs.Math.Nat.{eq-or-lt_of_le}
use Rattle.rcu_barrier.specs.Tending.{after_tend}
use Rattle.std.proofs.lemmas.Bool.Decides.{nat_tests}
use Rattle.rcu_seq.specs.Numbers.{is_last, number_at, snapshot}
use Rattle.rcu_seq.specs.Tags.{last_epoch}
use Rattle.rcu_cblist.specs.SegList.{callbacks, front}
use Rattle.rcu_barrier.specs.Runs.{copies}
use Rattle.rcu_barrier.proofs.Places.{copies_are, lies}
use Rattle.rcu_core.specs.Callbacks.{ends_barrier, has_full_period, list}
use Rattle.rcu_core.specs.Callbacks.{queue_count, times_handed_out}
use Rattle.rcu_core.specs.History.{History, departs, ends, epoch, number, renumbers, running}
use Rattle.rcu_core.specs.Progress.{CanDrain, LeadsWithMemory, SurelyLeads}
use Rattle.rcu_core.specs.Progress.{retires}
use Rattle.rcu_core.specs.Replies.{Size, AreAccepted}
use Rattle.rcu_core.specs.Runs.{IsLegalRun, Run as Trace, history}
use Rattle.rcu_core.specs.declared.event.Event.{Event}
use Rattle.rcu_core.specs.declared.event.Event.TheVariants.{Begin, Renumber, Run}
use Rattle.rcu_core.specs.declared.event.Event.TheVariants.{BarTest, Tend}
use Rattle.rcu_core.proofs.Clocks.{clock}
use Rattle.rcu_core.proofs.Ending.{Surely, can_end, leads_on, some_left}
use Rattle.rcu_core.proofs.Finishing.{begins_now, clock_then, done_by_ticks, done_is_full}
use Rattle.rcu_core.proofs.Finishing.{earlier_accepted, ended_clock, few_ends, leads_accepted}
use Rattle.rcu_core.proofs.Finishing.{leads_both, runs_then}
use Rattle.rcu_core.proofs.Idling.{idles}
use Rattle.rcu_core.proofs.Maturing.{one_part, queued_later, then_handed_out}
use Rattle.rcu_core.proofs.Once.{at_most_once, lies_below, queued_once}
use Rattle.rcu_core.proofs.OneByOne.{events_of_each, kept_by_each, of_each}
use Rattle.rcu_core.proofs.Readers.{possible}
use Rattle.rcu_core.proofs.Retiring.{Behind, none_in_both, none_of, retired, retires_no_departure}
use Rattle.rcu_core.proofs.Retiring.{retires_no_renumbering, retires_no_test}
use Rattle.rcu_core.proofs.WithMemory.{Accepts, both_with_memory, memory_on, with_memory}

-- a list is tended, or callbacks of it are handed out
abbrev drains : Event → Bool
drains (Tend c) = true
drains (Run c m) = true
drains _ = false

drains_no_renumbering : (e : Event) → drains e ≡ true → renumbers e ≡ false
drains_no_renumbering Renumber i = absurd (cc)
drains_no_renumbering e i = refl

drains_no_departure : (c : ℕ) (e : Event) → drains e ≡ true → departs c e ≡ false
drains_no_departure c (Tend d) i = refl
drains_no_departure c (Run d m) i = refl
drains_no_departure c e i = absurd (cc)

drains_no_test : (e : Event) → drains e ≡ true → ends_barrier e ≡ false
drains_no_test BarTest i = absurd (cc)
drains_no_test e i = refl

-- the lists of the first n processors are tended
abbrev tended : ℕ → History → History
tended n h = of_each (λ c. Tend c) n h

kept_by_tends : {A : Type 0} (see : History → A)
    → ((c : ℕ) (h : History) → see (Tend c ∷ h) ≡ see h) → (n : ℕ) (h : History)
    → see (tended n h) ≡ see h
kept_by_tends see kept n h = kept_by_each see (λ c. Tend c) kept n h

abbrev tends_to : ℕ → List Event
tends_to n = events_of_each (λ c. Tend c) n

-- and then all done callbacks are handed out, one processor after another
abbrev ready_of : ℕ → History → ℕ
ready_of c h = length (callbacks (front (list c h)))

abbrev drained : ℕ → History → History
drained zero h = h
drained (suc n) h =
    Run n (ready_of n (Tend n ∷ drained n h)) ∷ Tend n ∷ drained n h

abbrev drains_to : ℕ → History → List Event
drains_to zero h = []
drains_to (suc n) h =
    drains_to n h ++ Tend n ∷ Run n (ready_of n (Tend n ∷ drained n h)) ∷ []

tend_surely : (s : Size) (h : History) (c : ℕ) → c < s.cpus → Surely s h (Tend c)
tend_surely s h c l = record {
  accepted = grind (arith, nat_tests);
  stores = refl;
  stands = refl;
  no_fault = λ f i. cc;
}

run_accepts : (s : Size) (h : History) (c m : ℕ) → c < s.cpus → Accepts s h (Run c m)
run_accepts s h c m l = record {
  accepted = grind (arith, nat_tests);
  stands = refl;
  no_fault = λ f i. cc;
}

tend_accepts : (s : Size) (h : History) (c : ℕ) → c < s.cpus → Accepts s h (Tend c)
tend_accepts s h c l = record {
  accepted = grind (arith, nat_tests);
  stands = refl;
  no_fault = λ f i. cc;
}

tended_leads : (s : Size) (n : ℕ) (h : History) → n ≤ s.cpus
    → SurelyLeads s h (tends_to n) (tended n h)
tended_leads s zero h l = refl
tended_leads s (suc n) h l =
    leads_both s h (tended n h) (Tend n ∷ tended n h) (tends_to n) (Tend n ∷ [])
    (tended_leads s n h (omega (arith, l)))
    (leads_on s (tended n h) (Tend n) [] (Tend n ∷ tended n h)
    (tend_surely s (tended n h) n (omega (arith, l))) refl)

drained_leads : (s : Size) (n : ℕ) (h : History) → n ≤ s.cpus
    → LeadsWithMemory s h (drains_to n h) (drained n h)
drained_leads s zero h l = refl
drained_leads s (suc n) h l =
    let g = drained n h in
    let m = ready_of n (Tend n ∷ g) in
    let k : n < s.cpus = omega (arith, l) in
    both_with_memory s h g (Run n m ∷ Tend n ∷ g) (drains_to n h) (Tend n ∷ Run n m ∷ [])
    (drained_leads s n h (omega (arith, l)))
    (memory_on s g (Tend n) (Run n m ∷ []) (Run n m ∷ Tend n ∷ g) (tend_accepts s g n k)
    (memory_on s (Tend n ∷ g) (Run n m) [] (Run n m ∷ Tend n ∷ g)
    (run_accepts s (Tend n ∷ g) n m k) refl))

drained_accepted : (s : Size) (n : ℕ) (h : History) → n ≤ s.cpus → AreAccepted s h
    → AreAccepted s (drained n h)
drained_accepted s zero h l p = p
drained_accepted s (suc n) h l p =
    let g = drained n h in
    let k : n < s.cpus = omega (arith, l) in (
      (run_accepts s (Tend n ∷ g) n (ready_of n (Tend n ∷ g)) k).accepted,
      ((tend_accepts s g n k).accepted, drained_accepted s n h (omega (arith, l)) p),
    )

-- the history after these tends extends the one before
tended_on : (n : ℕ) (h : History) → Behind drains h (tended n h)
tended_on zero h = record { later = []; is = refl; each = refl }
tended_on (suc n) h = let o = tended_on n h in record {
  later = Tend n ∷ o.later;
  is = ap (λ (x : History). Tend n ∷ x) o.is;
  each = o.each;
}

drained_on : (n : ℕ) (h : History) → Behind drains h (drained n h)
drained_on zero h = record { later = []; is = refl; each = refl }
drained_on (suc n) h =
    let o = drained_on n h in let m = ready_of n (Tend n ∷ drained n h) in record {
      later = Run n m ∷ Tend n ∷ o.later;
      is = ap (λ (x : History). Run n m ∷ Tend n ∷ x) o.is;
      each = o.each;
    }

tended_from : (c n : ℕ) (h : History) → c < n → Behind drains (Tend c ∷ tended c h) (tended n h)
tended_from c zero h l = absurd (omega (arith, l))
tended_from c (suc n) h l = elim (eq-or-lt_of_le {n = c} {m = n} (omega (arith, l))) [
  | inl i ↦ record {
    later = [];
    is = ap (λ (k : ℕ). Tend k ∷ tended k h) (sym i);
    each = refl;
  }
  | inr i ↦ let o = tended_from c n h i in record {
    later = Tend n ∷ o.later;
    is = ap (λ (x : History). Tend n ∷ x) o.is;
    each = o.each;
  }
]

-- the callbacks of the processor are handed out
abbrev drained_at : ℕ → History → History
drained_at c h = Run c (ready_of c (Tend c ∷ h)) ∷ Tend c ∷ h

drained_from : (c n : ℕ) (h : History) → c < n
    → Behind drains (drained_at c (drained c h)) (drained n h)
drained_from c zero h l = absurd (omega (arith, l))
drained_from c (suc n) h l = elim (eq-or-lt_of_le {n = c} {m = n} (omega (arith, l))) [
  | inl i ↦ record {
    later = [];
    is = ap (λ (k : ℕ). drained_at k (drained k h)) (sym i);
    each = refl;
  }
  | inr i ↦
      let o = drained_from c n h i in let m = ready_of n (Tend n ∷ drained n h) in record {
        later = Run n m ∷ Tend n ∷ o.later;
        is = ap (λ (x : History). Run n m ∷ Tend n ∷ x) o.is;
        each = o.each;
      }
]

-- the parts that they leave as they were
drained_clock : (n : ℕ) (h : History) → clock (drained n h) ≡ clock h
drained_clock zero h = refl
drained_clock (suc n) h = drained_clock n h

drained_running : (n : ℕ) (h : History) → running (drained n h) ≡ running h
drained_running zero h = refl
drained_running (suc n) h = drained_running n h

tended_list : (c n : ℕ) (h : History) → n ≤ c → list c (tended n h) ≡ list c h
tended_list c zero h l = refl
tended_list c (suc n) h l =
    let other : eqb n c ≡ false = ne_eqb n c (λ e. absurd (omega (arith, l, e))) in
    ap (λ b. cond b (after_tend (list c (tended n h)) (number (tended n h))) (list c (tended n h)))
    other
    ∙ tended_list c n h (omega (arith, l))

-- a callback that was handed out stays so
times_later : (j : ℕ) (later h : History) → times_handed_out j h ≤ times_handed_out j (later ++ h)
times_later j [] h = omega arith
times_later j (Run c m ∷ later) h = let i = times_later j later h in omega (arith, i)
times_later j (e ∷ later) h = times_later j later h

-- a callback of this list is handed out, if after the tend a full grace period passed, and no
-- processor departed and no renumbering came
handed_out_there : (s : Size) (c j : ℕ) (later earlier y : History)
    → y ≡ later ++ Tend c ∷ earlier
    → AreAccepted s (drained_at c y)
    → 0 < j
    → j ≤ queue_count earlier
    → has_full_period later ≡ true
    → list_any renumbers later ≡ false
    → list_any (departs c) later ≡ false
    → copies j (callbacks (list c earlier)) ≡ 1
    → times_handed_out j (drained_at c y) ≡ 1
handed_out_there s c j later earlier y is p z b full r g one =
    subst (λ y. times_handed_out j (drained_at c y) ≡ 1) (sym is)
    (then_handed_out s later earlier c (ready_of c (Tend c ∷ later ++ Tend c ∷ earlier)) j
    (subst (λ y. AreAccepted s (drained_at c y)) is p) z b full r g one (omega arith))

-- the parts of a drain from one processor's tend on
record Parts (c : ℕ) (h e : History) : Type 0 where
  pub later : History
  pub is : drained c e ≡ later ++ Tend c ∷ tended c h
  pub no_renumbering : list_any renumbers later ≡ false
  pub no_departure : list_any (departs c) later ≡ false

parts_of : (c n : ℕ) (h e : History) → c < n → Behind retires (Begin ∷ tended n h) e
    → Parts c h e
parts_of c n h e l be =
    let tp = tended_from c n h l in
    let dc = drained_on c e in
    let x : History = Tend c ∷ tended c h in
    let up : History = be.later ++ Begin ∷ tp.later in
    let start = ap (λ (y : History). be.later ++ Begin ∷ y) tp.is in
    let joined = sym (append_assoc be.later (Begin ∷ tp.later) x) in
    let no = λ (test : Event → Bool) (r : (e : Event) → retires e ≡ true → test e ≡ false)
    (d : (e : Event) → drains e ≡ true → test e ≡ false) (z : test Begin ≡ false).
    none_in_both test dc.later up (none_of drains test dc.later d dc.each)
    (none_in_both test be.later (Begin ∷ tp.later) (none_of retires test be.later r be.each)
    (rw (z, none_of drains test tp.later d tp.each) refl)) in
    record {
      later = dc.later ++ up;
      is =
          dc.is ∙ ap (λ (y : History). dc.later ++ y) (be.is ∙ start ∙ joined)
          ∙ sym (append_assoc dc.later up x);
      no_renumbering = no renumbers retires_no_renumbering drains_no_renumbering refl;
      no_departure = no (departs c) (retires_no_departure c) (drains_no_departure c) refl;
    }

-- a drain from a history in which none runs
record Drain (s : Size) (h : History) : Type 0 where
  pub events : List Event
  pub reached : History
  pub leads : LeadsWithMemory s h events reached
  pub out : (j : ℕ) → 0 < j → j ≤ queue_count h → times_handed_out j reached ≡ 1
  pub clock : clock reached ≡ clock h + 4
  pub idle : running reached ≡ false
  pub later : History
  pub is : reached ≡ later ++ h
  pub no_test : list_any ends_barrier later ≡ false
  pub accepted : AreAccepted s reached

one_listed : (s : Size) (j c : ℕ) (h : History) → c < s.cpus → 0 < lies j (list c h)
    → lies_below s.cpus j h ≡ 1 → copies j (callbacks (list c h)) ≡ 1
one_listed s j c h l m e =
    let a = copies_are j (list c h) in
    let b = one_part s.cpus (λ c. lies j (list c h)) c l in
    omega (arith, a, b, e, m)

once_more : (s : Size) (j : ℕ) (later g h : History) → AreAccepted s g → g ≡ later ++ h
    → times_handed_out j h ≡ 1 → times_handed_out j g ≡ 1
once_more s j later g h p is e =
    let a = at_most_once s j g p in
    let b = times_later j later h in
    let c = ap (λ (x : History). times_handed_out j x) is in
    omega (arith, a, b, c, e)

full_since : (s : Size) (later g : History) → AreAccepted s (later ++ g)
    → snapshot (clock g) ≤ clock (later ++ g) → has_full_period later ≡ true
full_since s later g p l =
    sym (done_is_full s later g p)
    ∙ done_by_ticks s g (later ++ g) (earlier_accepted s later g p) p
    ∙ reached_it (snapshot (clock g)) (clock (later ++ g)) l
  where
    reached_it : (a b : ℕ) → a ≤ b → nat_le a b ≡ true
    reached_it a b l = grind (arith, nat_tests)

handed_out_by : (s : Size) (j c : ℕ) (h e : History) → AreAccepted s e → c < s.cpus
    → Behind retires (Begin ∷ tended s.cpus h) e
    → snapshot (clock h) ≤ clock e
    → 0 < j
    → j ≤ queue_count h
    → copies j (callbacks (list c h)) ≡ 1
    → times_handed_out j (drained s.cpus e) ≡ 1
handed_out_by s j c h e p l be up z b one =
    let o = parts_of c s.cpus h e l be in
    let df = drained_from c s.cpus e l in
    let q = drained_accepted s s.cpus e (omega arith) p in
    let at = earlier_accepted s df.later (drained_at c (drained c e))
    (subst (λ y. AreAccepted s y) df.is q) in
    let x : History = Tend c ∷ tended c h in
    let there = subst (λ y. AreAccepted s y) o.is at.1.1 in
    let same : clock (o.later ++ x) ≡ clock e =
    ap (λ (y : History). clock y) (sym o.is) ∙ drained_clock c e in
    let from : clock x ≡ clock h =
    kept_by_tends clock (λ c h. refl) c h in
    let reach : snapshot (clock x) ≤ clock (o.later ++ x) =
    subst (λ n. snapshot n ≤ clock (o.later ++ x)) (sym from) (rw same up) in
    let count = kept_by_tends queue_count (λ c h. refl) c h in
    once_more s j df.later (drained s.cpus e) (drained_at c (drained c e)) q df.is
    (handed_out_there s c j o.later (tended c h) (drained c e) o.is at z (omega (arith, count, b))
    (full_since s o.later x there reach) o.no_renumbering o.no_departure
    (ap (λ xs. copies j (callbacks xs)) (tended_list c c h (omega arith)) ∙ one))

each_out : (s : Size) (j : ℕ) (h e : History) → AreAccepted s h → AreAccepted s e
    → Behind retires (Begin ∷ tended s.cpus h) e
    → snapshot (clock h) ≤ clock e
    → 0 < j
    → j ≤ queue_count h
    → (m : ℕ)
    → lies_below s.cpus j h ≡ m
    → times_handed_out j (drained s.cpus e) ≡ 1
each_out s j h e p q be up z b zero none =
    let t = queued_once s j h p z b in
    let d = drained_on s.cpus e in
    let to = tended_on s.cpus h in
    let r = drained_accepted s s.cpus e (omega arith) q in
    let at_e : times_handed_out j e ≡ 1 =
    once_more s j be.later e (Begin ∷ tended s.cpus h) q be.is
    (kept_by_tends (times_handed_out j) (λ c h. refl) s.cpus h ∙ omega (arith, t, none)) in
    once_more s j d.later (drained s.cpus e) e r d.is at_e
each_out s j h e p q be up z b (suc m) some =
    let t = queued_once s j h p z b in
    let o = some_left s.cpus m (λ c. lies j (list c h)) some in
    handed_out_by s j o.0 h e q o.1.0 be up z b
    (one_listed s j o.0 h o.1.0 o.1.1 (omega (arith, t, some)))

drain_from_idle : (s : Size) (h : History) → AreAccepted s h → running h ≡ false
    → (number h ≡ s.last → ⊥) → Drain s h
drain_from_idle s h p r n =
    let t = tended s.cpus h in
    let tl = tended_leads s s.cpus h (omega arith) in
    let tp = leads_accepted s h t (tends_to s.cpus) p tl in
    let tr : running t ≡ false =
    kept_by_tends running (λ c h. refl) s.cpus h ∙ r in
    let u = begins_now s t tr (λ e. n (sym (kept_by_tends number (λ c h. refl) s.cpus h) ∙ e)) in
    let b : History = Begin ∷ t in
    let q : AreAccepted s b = (u.accepted, tp) in
    let br = runs_then s t tp tr in
    let bc = clock_then t tr br in
    let o = can_end s b q br in
    let e = o.reached in
    let ep = leads_accepted s b e o.events q o.leads in
    let ec = ended_clock s b e q ep br o.ended in
    let be = retired s o.events b e o.each o.leads in
    let tc = kept_by_tends clock (λ c h. refl) s.cpus h in
    let dc = drained_clock s.cpus e in
    let four = by_four h r in
    let on = drained_on s.cpus e in
    let to = tended_on s.cpus h in
    let up : History = be.later ++ Begin ∷ to.later in
    let joined = sym (append_assoc be.later (Begin ∷ to.later) h) in
    record {
      events = (tends_to s.cpus ++ Begin ∷ o.events) ++ drains_to s.cpus e;
      reached = drained s.cpus e;
      leads =
          both_with_memory s h e (drained s.cpus e) (tends_to s.cpus ++ Begin ∷ o.events)
          (drains_to s.cpus e)
          (with_memory s h e (tends_to s.cpus ++ Begin ∷ o.events)
          (leads_both s h t e (tends_to s.cpus) (Begin ∷ o.events) tl
          (leads_on s t Begin o.events e u o.leads)))
          (drained_leads s s.cpus e (omega arith));
      out = λ j z l.
          each_out s j h e p ep be (omega (arith, four, ec, bc, tc)) z l (lies_below s.cpus j h)
          refl;
      clock = omega (arith, dc, ec, bc, tc);
      idle = drained_running s.cpus e ∙ o.ended.idle;
      later = on.later ++ up;
      is =
          on.is
          ∙ ap (λ (y : History). on.later ++ y)
          (be.is ∙ ap (λ (y : History). be.later ++ Begin ∷ y) to.is ∙ joined)
          ∙ sym (append_assoc on.later up h);
      no_test =
          none_in_both ends_barrier on.later up
          (none_of drains ends_barrier on.later drains_no_test on.each)
          (none_in_both ends_barrier be.later (Begin ∷ to.later)
          (none_of retires ends_barrier be.later retires_no_test be.each)
          (none_of drains ends_barrier to.later drains_no_test to.each));
      accepted = drained_accepted s s.cpus e (omega arith) ep;
    }
  where
    by_four : (h : History) → running h ≡ false → snapshot (clock h) ≡ clock h + 4
    by_four h r = grind (arith, nat_tests)

-- both, one after the other
pub record Drained (s : Size) (h : History) : Type 0 where
  pub drain : CanDrain s h
  pub later : History
  pub is : drain.reached ≡ later ++ h
  pub no_test : list_any ends_barrier later ≡ false
  pub accepted : AreAccepted s drain.reached

pub drain_all : (s : Size) (h : History) → AreAccepted s h → is_last s.last ≡ true
    → (snapshot (number h) ≤ s.last) ⊎ (epoch h < last_epoch) → Drained s h
drain_all s h p k room =
    let o = idles s h p k room in
    let q = leads_accepted s h o.reached o.events p o.leads in
    let d = drain_from_idle s o.reached q o.idle o.below in
    let a = d.clock in
    let b = o.clock in
    record {
      drain = record {
        events = o.events ++ d.events;
        reached = d.reached;
        leads = both_with_memory s h o.reached d.reached o.events d.events
            (with_memory s h o.reached o.events o.leads) d.leads;
        out = λ j z m.
            d.out j z
            (subst (λ y. j ≤ queue_count y) (sym o.is) (queued_later j o.later h m));
        ends = few_ends (count_by ends h) (count_by ends d.reached) (running h) (running d.reached)
            d.idle (omega (arith, a, b));
      };
      later = d.later ++ o.later;
      is =
          d.is ∙ ap (λ (y : History). d.later ++ y) o.is
          ∙ sym (append_assoc d.later o.later h);
      no_test = none_in_both ends_barrier d.later o.later d.no_test o.no_test;
      accepted = d.accepted;
    }

pub can_drain : (s : Size) (run : Trace) → IsLegalRun s run → is_last s.last ≡ true
    → (snapshot (number (history run)) ≤ s.last) ⊎ (epoch (history run) < last_epoch)
    → CanDrain s (history run)
can_drain s run l k room = (drain_all s (history run) (possible s run l) k room).drain
