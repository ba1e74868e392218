-- A step on states follows the step on histories.
use Rattle.std.proofs.Common.{◌≡◌, ℕ, ◌+◌, ◌-◌, ◌<◌, Bool, true, false, cond, List, [], ◌∷◌, ◌++◌}
use Rattle.std.proofs.Common.{length, Option, Some, None, refl, sym, ap, ap₂, subst, ◌∙◌, arith}
use Rattle.std.proofs.Common.{get_or, take, inl, inr}
use Rattle.std.specs.Prelude.{◌==◌, ◌&&◌, max, nat_lt}
use Rattle.std.proofs.lemmas.Bool.Decides.{nat_tests}
use Rattle.std.proofs.lemmas.List.{length-set, take_more}
use Rattle.rcu_seq.specs.Numbers.{snapshot}
use Rattle.rcu_seq.specs.Seq.{number_of, tag_of}
use Rattle.rcu_seq.specs.declared.fault.Fault.{Fault}
use Rattle.rcu_node.proofs.CpuSetLemmas.{in_none}
use Rattle.rcu_cpu.specs.CpuData as cpu_data
use Rattle.rcu_cpu.specs.CpuData.{Processor}
use Rattle.rcu_cblist.specs.SegList.{Item, numbers}
use Rattle.rcu_barrier.specs.Lists.{AllLists, barrier_left, is_visited}
use Rattle.rcu_core.specs.Callbacks.{barrier_runs}
use Rattle.rcu_state.specs.Periods.{greatest_from}
use Rattle.rcu_state.specs.GpState.{after_begin, after_end, at_first, awaited_in, own_report}
use Rattle.rcu_state.specs.GpState.{periods_of}
use Rattle.rcu_core.specs.History.{History, epoch, online, running, noted, depth, enter_count}
use Rattle.rcu_core.specs.History.{exit_count, report_at, is_idle}
use Rattle.rcu_core.specs.Replies.{Size, AreAccepted, IsLegalReply, accepted_reply}
use Rattle.rcu_core.specs.Replies.{barrier_test_reply, fault_in, or_fault, waits_for, with_event}
use Rattle.rcu_core.specs.Runs.{Leads, RunsLegally}
use Rattle.rcu_core.specs.Situation.{Situation, cpus_in, situation}
use Rattle.rcu_state.specs.Periods.{wants_begin}
use Rattle.rcu_core.specs.Core.{State, IsSound, StepsLegally, Represents, Follows, size_at}
use Rattle.rcu_core.specs.Core.{after_event, after_reply}
use Rattle.rcu_core.specs.declared.event.Event.{Event}
use Rattle.rcu_core.specs.declared.event.Event.TheVariants.{Enter, Exit, Note, Quiesce, Deliver}
use Rattle.rcu_core.specs.declared.event.Event.TheVariants.{Online, Offline, Begin, End, Turn}
use Rattle.rcu_core.specs.declared.event.Event.TheVariants.{Awaits, Take, StartPoll, Poll, Queue}
use Rattle.rcu_core.specs.declared.event.Event.TheVariants.{Tend, Run, BarBegin, Visit, BarTest}
use Rattle.rcu_core.specs.declared.event.Event.TheVariants.{Renumber, Idle, Wake, Scan}
use Rattle.rcu_core.specs.declared.reply.Reply.{Reply}
use Rattle.rcu_core.specs.declared.reply.Reply.TheVariants as reply
use Rattle.rcu_core.proofs.FollowsLists.{calls_begun, calls_moved, calls_queued, calls_run}
use Rattle.rcu_core.proofs.FollowsLists.{calls_tended, calls_tested, calls_renumbered}
use Rattle.rcu_core.proofs.FollowsLists.{calls_visited}
use Rattle.rcu_core.proofs.Clocks.{renumber_counts}
use Rattle.rcu_core.proofs.FollowsPeriods.{awaits_delivered, awaits_departed, follows_begin}
use Rattle.rcu_core.proofs.FollowsPeriods.{follows_end, follows_turn, awaits_scanned}
use Rattle.rcu_core.proofs.FollowsPeriods.{length-awaited_by}
use Rattle.rcu_core.proofs.Kept.{enter_counts, exit_counts, exits_le}
use Rattle.rcu_core.proofs.Situations.{number_same, longer, one_changed, same, tag_same, within}
use Rattle.rcu_core.proofs.Situations.{within_all}
use Rattle.rcu_core.proofs.Sound.{first_cpus, first_at, no_item, boot_alone, length-awaited_after}
use Rattle.rcu_core.proofs.Steps.{waits_said}
use Rattle.rcu_core.proofs.Writes.{eqb_self, one_written}

-- if it waits for something, a test of the barrier changes nothing
left_tested : (v : State ℕ) (b : Bool) (n : ℕ) →
    after_reply v BarTest (cond b reply.BarDone (reply.BarWaits n)) ≡ after_event v BarTest
left_tested v true n = refl
left_tested v false n = refl

test_kept : (v : State ℕ) (h : History) (b : Bool) (n : ℕ) → Represents v h →
    fault_in (size_at v) (situation h) BarTest ≡ None →
    Represents (record v {
      grace = record v.grace {
        lists = cond b
            (record v.grace.lists { running = false }) v.grace.lists;
      };
    })
    (with_event h BarTest (cond b reply.BarDone (reply.BarWaits n)))
test_kept v h true n x p = record {
  accepted = (p, x.accepted);
  periods = x.periods;
  cpus = x.cpus;
  calls = calls_tested v.grace.lists h x.calls;
}
test_kept v h false n x p = x

-- the barrier is tested
follows_test : (v : State ℕ) (h : History) → IsSound v → Represents v h →
    fault_in (size_at v) (situation h) BarTest ≡ None →
    Represents (after_reply v BarTest (barrier_test_reply (size_at v) (situation h)))
    (with_event h BarTest (barrier_test_reply (size_at v) (situation h)))
follows_test v h s x p =
    let n = waits_for (size_at v) (situation h) in
    let all = v.grace.lists in
    let runs : barrier_runs h ≡ true = grind (arith, nat_tests) in
    let counted : n ≡ barrier_left all =
    ap (λ (u : Situation). waits_for (size_at v) u) (sym (same v h x))
    ∙ waits_said v s (x.calls.barrier ∙ runs) in
    let after = λ (m : ℕ). with_event h BarTest (cond (m == 0) reply.BarDone (reply.BarWaits m)) in
    subst (λ (w : State ℕ). Represents w (after n)) (sym (left_tested v (n == 0) n))
    (subst (λ (m : ℕ). Represents (after_event v BarTest) (after m)) (sym counted)
    (test_kept v h (barrier_left all == 0) (barrier_left all) x p))

-- the depth after an enter and after an exit
deeper : (s : Size) (c : ℕ) (h : History) → AreAccepted s h → depth c h + 1 ≡ depth c (Enter c ∷ h)
deeper s c h p =
    let le = exits_le s c h p in
    let n : enter_count c (Enter c ∷ h) ≡ 1 + enter_count c h = enter_counts c c h
    ∙ ap (λ b. cond b 1 0 + enter_count c h) (eqb_self c) in
    omega (arith, le, n)

shallower : (c : ℕ) (h : History) → depth c h - 1 ≡ depth c (Exit c ∷ h)
shallower c h =
    let n : exit_count c (Exit c ∷ h) ≡ 1 + exit_count c h = exit_counts c c h
    ∙ ap (λ b. cond b 1 0 + exit_count c h) (eqb_self c) in
    omega (arith, n)

-- with its sections nested this deep
abbrev so_deep : ℕ → History → ℕ → Processor
so_deep c h n = record {
  cpu = c;
  online = online c h;
  idle = is_idle c h;
  depth = n;
  noted = noted c h;
}

-- of two lists in which as many callbacks may be queued, either is so
same_most : (b : Bool) (x y : AllLists ℕ) → y.most ≡ x.most → (cond b x y).most ≡ x.most
same_most true x y e = refl
same_most false x y e = e

follows : (v : State ℕ) (h : History) (e : Event) → IsSound v → Represents v h →
    fault_in (size_at v) (situation h) e ≡ None →
    Represents (after_reply v e (accepted_reply (size_at v) (situation h) e))
    (with_event h e (accepted_reply (size_at v) (situation h) e))
follows v h (Enter c) s x p = record {
  accepted = (p, x.accepted);
  periods = x.periods;
  cpus = record {
    online = x.cpus.online;
    awaits = x.cpus.awaits;
    each = one_changed v.cpus (cpus_in h) (cpus_in (Enter c ∷ h)) c cpu_data.Enter
        (within v c s (grind (arith, nat_tests))) x.cpus.each
        (ap (λ n. so_deep c h n) (deeper (size_at v) c h x.accepted)) (λ k n. rw n refl);
    made = x.cpus.made;
  };
  calls = x.calls;
}
follows v h (Exit c) s x p = record {
  accepted = (p, x.accepted);
  periods = x.periods;
  cpus = record {
    online = x.cpus.online;
    awaits = x.cpus.awaits;
    each = one_changed v.cpus (cpus_in h) (cpus_in (Exit c ∷ h)) c cpu_data.Exit
        (within v c s (grind (arith, nat_tests)))
        x.cpus.each (ap (λ n. so_deep c h n) (shallower c h)) (λ k n. rw n refl);
    made = x.cpus.made;
  };
  calls = x.calls;
}
follows v h (Note c) s x p = record {
  accepted = (p, x.accepted);
  periods = x.periods;
  cpus = record {
    online = x.cpus.online;
    awaits = x.cpus.awaits;
    each = one_changed v.cpus (cpus_in h) (cpus_in (Note c ∷ h)) c
        (cpu_data.Note (tag_of v.grace.seq)) (within v c s (grind (arith, nat_tests))) x.cpus.each
        (rw (eqb_self c, tag_same v h x) refl) (λ k n. rw n refl);
    made = x.cpus.made;
  };
  calls = x.calls;
}
follows v h (Quiesce c) s x p = record {
  accepted = (p, x.accepted);
  periods = x.periods;
  cpus = record {
    online = x.cpus.online;
    awaits = x.cpus.awaits;
    each = x.cpus.each;
    made = rw (x.cpus.made, x.cpus.each c) refl;
  };
  calls = x.calls;
}
follows v h (Deliver k) s x p = record {
  accepted = longer v (after_event v (Deliver k)) h (Deliver k) x p
      (length-awaited_by v.grace (report_at k v.made)) refl refl;
  periods = x.periods;
  cpus = record {
    online = x.cpus.online;
    awaits = awaits_delivered v h k x;
    each = x.cpus.each;
    made = x.cpus.made;
  };
  calls = x.calls;
}
follows v h (Online c) s x p = record {
  accepted = (p, x.accepted);
  periods = x.periods;
  cpus = record {
    online = one_written false v.grace.processors.online c true (λ k. online k h)
        (λ k. online k (Online c ∷ h)) (within_all v c s (grind (arith, nat_tests))).0 x.cpus.online
        (rw (eqb_self c) refl) (λ k n. rw n refl);
    awaits = x.cpus.awaits;
    each = one_changed v.cpus (cpus_in h) (cpus_in (Online c ∷ h)) c
        (cpu_data.Arrive (tag_of v.grace.seq)) (within v c s (grind (arith, nat_tests))) x.cpus.each
        (rw (eqb_self c, tag_same v h x) refl) (λ k n. rw n refl);
    made = x.cpus.made;
  };
  calls = x.calls;
}
follows v h (Offline c) s x p = let here = within_all v c s (grind (arith, nat_tests)) in record {
  accepted = longer v (after_event v (Offline c)) h (Offline c) x p
      (length-set v.grace.processors.awaited c false) refl refl;
  periods = x.periods;
  cpus = record {
    online = one_written false v.grace.processors.online c false (λ k. online k h)
        (λ k. online k (Offline c ∷ h)) here.0
        x.cpus.online (rw (eqb_self c) refl) (λ k n. rw n refl);
    awaits = awaits_departed v h c x;
    each = one_changed v.cpus (cpus_in h) (cpus_in (Offline c ∷ h)) c cpu_data.Depart
        (within v c s (grind (arith, nat_tests)))
        x.cpus.each (rw (eqb_self c) refl) (λ k n. rw n refl);
    made = x.cpus.made;
  };
  calls = calls_moved v.grace.lists h c here.1 here.2 x.calls;
}
follows v h Begin s x p = follows_begin v h s x p
follows v h End s x p = follows_end v h x p
follows v h Turn s x p = follows_turn v h s x p
follows v h Awaits s x p = record {
  accepted = (p, x.accepted);
  periods = x.periods;
  cpus = x.cpus;
  calls = x.calls;
}
follows v h Take s x p = record {
  accepted = (p, x.accepted);
  periods = x.periods;
  cpus = x.cpus;
  calls = x.calls;
}
follows v h StartPoll s x p = record {
  accepted = (p, x.accepted);
  periods = record {
    epoch = x.periods.epoch;
    ends = x.periods.ends;
    running = x.periods.running;
    needed = ap₂ (λ (a b : ℕ). max a b) x.periods.needed (ap (λ n. snapshot n) (number_same v h x));
  };
  cpus = x.cpus;
  calls = x.calls;
}
follows v h (Poll k epoch) s x p = record {
  accepted = (p, x.accepted);
  periods = x.periods;
  cpus = x.cpus;
  calls = x.calls;
}
follows v h (Queue c value) s x p = record {
  accepted = (p, x.accepted);
  periods = x.periods;
  cpus = x.cpus;
  calls = calls_queued v.grace.lists h c value (tag_of v.grace.seq)
      (within_all v c s (grind (arith, nat_tests))).1 (tag_same v h x) x.calls;
}
follows v h (Tend c) s x p =
    let here = (within_all v c s (grind (arith, nat_tests))).1 in
    let tended =
    calls_tended v.grace.lists h c (number_of v.grace.seq) here (number_same v h x) x.calls in
    record {
      accepted = (p, x.accepted);
      periods = record {
        epoch = x.periods.epoch;
        ends = x.periods.ends;
        running = x.periods.running;
        needed = ap₂ (λ (n : ℕ) (xs : List (Item ℕ)). greatest_from n (numbers xs)) x.periods.needed
            (tended.list c);
      };
      cpus = x.cpus;
      calls = tended;
    }
follows v h (Run c most) s x p = record {
  accepted = (p, x.accepted);
  periods = x.periods;
  cpus = x.cpus;
  calls = calls_run v.grace.lists h c most (within_all v c s (grind (arith, nat_tests))).1 x.calls;
}
follows v h BarBegin s x p = record {
  accepted = (p, x.accepted);
  periods = x.periods;
  cpus = x.cpus;
  calls = calls_begun v.grace.lists h x.calls;
}
follows v h (Visit c) s x p =
    let here = within_all v c s (grind (arith, nat_tests)) in
    let runs : barrier_runs h ≡ true = grind (arith, nat_tests) in
    record {
      accepted = longer v (after_event v (Visit c)) h (Visit c) x p refl refl
          (same_most (is_visited v.grace.lists c) v.grace.lists _ refl);
      periods = x.periods;
      cpus = x.cpus;
      calls = calls_visited v.grace.lists h c here.1 here.2 (x.calls.barrier ∙ runs) x.calls;
    }
follows v h BarTest s x p = follows_test v h s x p
follows v h (Idle c) s x p = record {
  accepted = (p, x.accepted);
  periods = x.periods;
  cpus = record {
    online = x.cpus.online;
    awaits = x.cpus.awaits;
    each = one_changed v.cpus (cpus_in h) (cpus_in (Idle c ∷ h)) c cpu_data.Idle
        (within v c s (grind (arith, nat_tests))) x.cpus.each (rw (eqb_self c) refl)
        (λ k n. rw n refl);
    made = x.cpus.made;
  };
  calls = x.calls;
}
follows v h (Wake c) s x p = record {
  accepted = (p, x.accepted);
  periods = x.periods;
  cpus = record {
    online = x.cpus.online;
    awaits = x.cpus.awaits;
    each = one_changed v.cpus (cpus_in h) (cpus_in (Wake c ∷ h)) c cpu_data.Wake
        (within v c s (grind (arith, nat_tests))) x.cpus.each (rw (eqb_self c) refl)
        (λ k n. rw n refl);
    made = x.cpus.made;
  };
  calls = x.calls;
}
follows v h (Scan c) s x p = record {
  accepted = longer v (after_event v (Scan c)) h (Scan c) x p
      (length-awaited_after v.grace (own_report v.grace c)) refl refl;
  periods = x.periods;
  cpus = record {
    online = x.cpus.online;
    awaits = awaits_scanned v h c x;
    each = x.cpus.each;
    made = x.cpus.made;
  };
  calls = x.calls;
}
follows v h Renumber s x p =
    let idle : running h ≡ false = grind (arith, nat_tests) in
    record {
      accepted = (p, x.accepted);
      periods = record {
        epoch = ap (λ n. n + 1) x.periods.epoch ∙ one_more (epoch h) ∙ sym (renumber_counts h);
        ends = refl;
        running = x.periods.running;
        needed = ap₂ (λ (a b : ℕ). cond (nat_lt a b) 4 0) (number_same v h x) x.periods.needed;
      };
      cpus = record {
        online = x.cpus.online;
        awaits = λ c. x.cpus.awaits c ∙ idle_so (running h) _ _ idle;
        each = x.cpus.each;
        made = x.cpus.made;
      };
      calls = calls_renumbered v.grace.lists h x.calls;
    }
  where
    one_more : (n : ℕ) → n + 1 ≡ 1 + n
    one_more n = omega arith

    idle_so : (r a b : Bool) → r ≡ false → (r && a) ≡ (r && b)
    idle_so r a b e = rw e refl

went_answer : (v w : State ℕ) (h : History) (e : Event) (o : Option Fault)
    → IsSound v
    → Represents v h
    → fault_in (size_at v) (situation h) e ≡ o
    → w ≡ after_reply v e (or_fault o (accepted_reply (size_at v) (situation h) e))
    → Represents w (with_event h e (or_fault o (accepted_reply (size_at v) (situation h) e)))
went_answer v w h e (Some f) s x p i = rw i x
went_answer v w h e None s x p i = rw i (follows v h e s x p)

went : (v w : State ℕ) (h : History) (e : Event) (r : Reply)
    → IsSound v
    → Represents v h
    → IsLegalReply (size_at v) (situation h) e r
    → w ≡ after_reply v e r
    → Represents w (with_event h e r)
went v w h e r s x (inl l) i =
    rw l (went_answer v w h e (fault_in (size_at v) (situation h) e) s x refl (rw l at i))
went v w h e r s x (inr l) i =
    rw l.2 (subst (λ (u : State ℕ). Represents u h) (sym (rw l.2 at i)) x)

abbrev the_size : State ℕ → ℕ → Size
the_size v cpus = record { cpus = cpus; last = v.grace.seq.last; most = v.grace.lists.most }

turn_size : (v : State ℕ) (a b d : Bool) → IsSound v
    → size_at (record v {
      grace = cond a (cond b (after_end v.grace) v.grace)
          (cond d (after_begin v.grace) v.grace);
    }) ≡ size_at v
turn_size v true true d s = refl
turn_size v true false d s = refl
turn_size v false b true s = ap (λ n. the_size v n) s.flags
turn_size v false b false s = refl

next_size : (v : State ℕ) (e : Event) → IsSound v → size_at (after_event v e) ≡ size_at v
next_size v (Deliver k) s = ap (λ n. the_size v n) (length-awaited_by v.grace (report_at k v.made))
next_size v (Offline c) s = ap (λ n. the_size v n) (length-set v.grace.processors.awaited c false)
next_size v (Scan c) s =
    ap (λ n. the_size v n) (length-awaited_after v.grace (own_report v.grace c))
next_size v Begin s = ap (λ n. the_size v n) s.flags
next_size v (Visit c) s =
    ap (λ n. record (size_at v) { most = n })
    (same_most (is_visited v.grace.lists c) v.grace.lists _ refl)
next_size v BarTest s =
    ap (λ n. record (size_at v) { most = n })
    (same_most (barrier_left v.grace.lists == 0) (record v.grace.lists { running = false })
    v.grace.lists refl)
next_size v Turn s =
    turn_size v v.grace.seq.running (awaited_in v.grace == 0) (wants_begin (periods_of v.grace)) s
next_size v _ s = refl

left_size : (v : State ℕ) (e : Event) (r : Reply) → IsSound v
    → size_at (after_reply v e r) ≡ size_at v
left_size v e (reply.Fault f) s = refl
left_size v e _ s = next_size v e s

-- a legal step on states is a legal step on histories
pub goes : (v w : State ℕ) (h : History) (e : Event) (r : Reply)
    → IsSound v → Represents v h → StepsLegally v e r w → Follows v h e r w
goes v w h e r s x d =
    let l = subst (λ (u : Situation). IsLegalReply (size_at v) u e r) (same v h x) d.legal in
    record {
      legal = l;
      has = went v w h e r s x l d.left;
      size = ap (λ (u : State ℕ). size_at u) d.left
          ∙ left_size v e r s;
    }

-- a refused event leaves the machine as it was
pub refused_stays : (v w : State ℕ) (e : Event) (r : Reply) (f : Fault)
    → StepsLegally v e r w → r ≡ reply.Fault f → w ≡ v
refused_stays v w e r f d p = d.left ∙ ap (λ (x : Reply). after_reply v e x) p

-- a new machine is in the situation of the empty history
pub has_first : (n last most : ℕ) (v : State ℕ)
    → 0 < n → v.grace ≡ at_first n last most → v.cpus ≡ first_cpus n → v.made ≡ [] → Represents v []
has_first n last most v l e f m =
    subst (λ (x : State ℕ). Represents x [])
    (λ i. record { grace = sym e i; cpus = sym f i; made = sym m i })
    (record {
      accepted = tt;
      periods = record { epoch = refl; ends = refl; running = refl; needed = refl };
      cpus = record {
        online = λ c. boot_alone n c l;
        awaits = in_none n;
        each = λ c. first_at n c l;
        made = refl;
      };
      calls = record { queued = refl; list = no_item n; barrier = refl; owed = λ c. refl };
    })

leads_on : (s : Size) (h g : History) (es : List Event) (rs : List Reply) (e : Event) (r : Reply)
    → Leads s h es rs g → IsLegalReply s (situation g) e r
    → Leads s h (es ++ e ∷ []) (rs ++ r ∷ []) (with_event g e r)
leads_on s h g [] [] e r l k = (
  subst (λ (x : History). IsLegalReply s (situation x) e r) l k,
  ap (λ (x : History). with_event x e r) l,
)
leads_on s h g (f ∷ es) (q ∷ rs) e r l k = (l.0, leads_on s (with_event h f q) g es rs e r l.1 k)
leads_on s h g [] (q ∷ rs) e r l k = absurd l
leads_on s h g (f ∷ es) [] e r l k = absurd l

-- one step more
ran_on : (v w u : State ℕ) (h : History) (es : List Event) (rs : List Reply) (e : Event) (r : Reply)
    → RunsLegally v h es rs w → ((g : History) → Represents w g → Follows w g e r u)
    → RunsLegally v h (es ++ e ∷ []) (rs ++ r ∷ []) u
ran_on v w u h es rs e r a k = let b = k a.reached a.has in record {
  reached = with_event a.reached e r;
  leads = leads_on (size_at v) h a.reached es rs e r a.leads
      (subst (λ (s : Size). IsLegalReply s (situation a.reached) e r) a.size b.legal);
  has = b.has;
  size = b.size ∙ a.size;
}

-- the same, over the events read so far of a list
pub ran_more : (v w u : State ℕ) (h : History) (es : List Event) (i : ℕ) (d : Event)
    (rs qs : List Reply) (r : Reply)
    → i < length es
    → qs ≡ rs ++ r ∷ []
    → RunsLegally v h (take i es) rs w
    → ((g : History) → Represents w g → Follows w g (get_or es i d) r u)
    → RunsLegally v h (take (i + 1) es) qs u
ran_more v w u h es i d rs qs r l q a k =
    rw (q, take_more es i d l) (ran_on v w u h (take i es) rs (get_or es i d) r a k)
