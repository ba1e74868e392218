-- Steps on states, over plain variables.
use Rattle.std.proofs.Common.{◌≡◌, ◌&&◌, ℕ, ◌+◌, ◌<◌, [], ◌∷◌, List, Bool, true, false, not, cond}
use Rattle.std.proofs.Common.{length, Option, Some, None, refl, sym, ap, ap₂, ◌∙◌, arith, inl, inr}
use Rattle.std.proofs.Common.{subst}
use Rattle.std.specs.Prelude.{nat_lt, ◌==◌, if◌then◌else◌}
use Rattle.std.proofs.lemmas.Bool.Decides.{nat_tests}
use Rattle.std.proofs.lemmas.List.{get_or-set_same}
use Rattle.rcu_seq.specs.Numbers.{is_last, same_number}
use Rattle.rcu_seq.specs.Tags.{last_epoch, same_tag}
use Rattle.rcu_seq.specs.Fault.{first_fault}
use Rattle.rcu_seq.specs.declared.fault.Fault.{Fault}
use Rattle.rcu_seq.specs.declared.fault.Fault.TheVariants as fault
use Rattle.rcu_node.specs.CpuSet.{is_in, size_of}
use Rattle.rcu_node.proofs.CpuSetLemmas.{count_by-is_in}
use Rattle.rcu_node.specs.declared.awaited.Answer.{Answer}
use Rattle.rcu_node.specs.declared.awaited.Answer.TheVariants.{Taken, Last, Repeat, Stale}
use Rattle.rcu_report.specs.declared.batch.Report.{Report}
use Rattle.rcu_hotplug.specs.Hotplug.{cpus_of}
use Rattle.rcu_cpu.specs.CpuData.{Processor}
use Rattle.rcu_cblist.specs.SegList.{Item, behind, callbacks, front}
use Rattle.rcu_barrier.specs.Lists.{barrier_left, barrier_test_answer, barrier_test_refusal}
use Rattle.rcu_barrier.specs.Lists.{list_of, migrate_refusal}
use Rattle.rcu_barrier.specs.Tending.{after_tend}
use Rattle.rcu_barrier.specs.declared.lists.BarrierState.{BarrierState}
use Rattle.rcu_barrier.specs.declared.lists.BarrierState.TheVariants as barrier
use Rattle.rcu_seq.specs.Seq.{number_of, tag_of}
use Rattle.rcu_state.specs.GpState.{after_begin, after_end, after_report, after_report_now}
use Rattle.rcu_state.specs.GpState.{answer_now, awaited_in, begin_refusal, end_refusal, own_report}
use Rattle.rcu_state.specs.GpState.{periods_of}
use Rattle.rcu_state.specs.GpState.{renumber_refusal, report_answer_in, turn_answer, turn_refusal}
use Rattle.rcu_state.specs.Periods.{wants_begin}
use Rattle.rcu_core.specs.History.{report_at}
use Rattle.rcu_core.specs.Replies.{fault_in, accepted_reply, or_fault, how_many, answer_to_report}
use Rattle.rcu_core.specs.Replies.{waits_for}
use Rattle.rcu_core.specs.Core.{State, IsSound, StepsLegally, cpu_refusal, says, after_event}
use Rattle.rcu_core.specs.Core.{after_reply, processor, size_at}
use Rattle.rcu_core.specs.declared.event.Event.{Event}
use Rattle.rcu_core.specs.declared.event.Event.TheVariants.{Deliver, Offline, Begin, End, Turn}
use Rattle.rcu_core.specs.declared.event.Event.TheVariants.{Awaits, Tend, BarTest, Renumber, Scan}
use Rattle.rcu_core.specs.declared.reply.Reply.{Reply}
use Rattle.rcu_core.specs.declared.reply.Reply.TheVariants as reply
use Rattle.rcu_state.specs.declared.gp_state.Turned.{Turned}
use Rattle.rcu_state.specs.declared.gp_state.Turned.TheVariants as turned
use Rattle.rcu_barrier.proofs.Refusals.{migrate_met}
use Rattle.rcu_core.proofs.Counting.{markers_of_each, unvisited_of_each}

-- a step of a state is one of any state that equals it
pub along : (u v w : State ℕ) (e : Event) (r : Reply) → v ≡ u → StepsLegally v e r w
    → StepsLegally u e r w
along u v w e r same d = subst (λ (s : State ℕ). StepsLegally s e r w) same d

-- a refused step of a state is one of any state that equals it
pub refused_along : (u v : State ℕ) (e : Event) (f : Fault)
    → v ≡ u → StepsLegally v e (reply.Fault f) v → StepsLegally u e (reply.Fault f) u
refused_along u v e f same d = subst (λ (s : State ℕ). StepsLegally s e (reply.Fault f) s) same d

-- a processor that is found exists
pub found_below : (v : State ℕ) (cpu : ℕ) → cpu_refusal v cpu ≡ None
    → cpu < cpus_of v.grace.processors
found_below v cpu found = grind (arith, nat_tests, found)

-- an event is refused by its first fault
pub does_refuse : (v w : State ℕ) (e : Event) (f : Fault)
    → fault_in (size_at v) (says v) e ≡ Some f → w ≡ v → StepsLegally v e (reply.Fault f) w
does_refuse v w e f found kept = record {
  legal =
      inl
      (sym (ap (λ (o : Option Fault). or_fault o (accepted_reply (size_at v) (says v) e)) found));
  left = kept;
}

-- an event of which no cause holds has its accepted reply
says_so : (v : State ℕ) (e : Event) (r : Reply) → fault_in (size_at v) (says v) e ≡ None
    → r ≡ accepted_reply (size_at v) (says v) e
    → r ≡ or_fault (fault_in (size_at v) (says v) e) (accepted_reply (size_at v) (says v) e)
says_so v e r none same = same
    ∙ sym (ap (λ (o : Option Fault). or_fault o (accepted_reply (size_at v) (says v) e)) none)

-- as many processors are awaited as there are flags
pub awaited_size : (v : State ℕ)
    → how_many (size_at v) (is_in v.grace.processors.awaited) ≡ awaited_in v.grace
awaited_size v = count_by-is_in v.grace.processors.awaited (length v.grace.processors.awaited) refl

-- as many are online as would be awaited
online_size : (v : State ℕ) → IsSound v → how_many (size_at v) (is_in v.grace.processors.online)
    ≡ size_of v.grace.processors.online
online_size v s =
    count_by-is_in v.grace.processors.online (length v.grace.processors.awaited) (sym s.flags)

-- a grace period begins
pub does_begin : (v w : State ℕ) (n count : ℕ) → IsSound v → begin_refusal v.grace ≡ None
    → n ≡ number_of (after_begin v.grace).seq → count ≡ awaited_in (after_begin v.grace)
    → w ≡ after_event v Begin → StepsLegally v Begin (reply.Begun n count) w
does_begin v w n count s none number counted kept = record {
  legal = inl (says_so v Begin (reply.Begun n count) none
      (ap₂ (λ x y. reply.Begun x y) number (counted ∙ sym (online_size v s))));
  left = kept;
}

end_fault : (v : State ℕ) → fault_in (size_at v) (says v) End ≡ end_refusal v.grace
end_fault v = ap (λ n. if not v.grace.seq.running then Some fault.Idle else
    (if nat_lt 0 n then Some fault.Waiting else None)) (awaited_size v)

-- a grace period ends
pub does_end : (v w : State ℕ) (n : ℕ)
    → end_refusal v.grace ≡ None → n ≡ number_of (after_end v.grace).seq → w ≡ after_event v End
    → StepsLegally v End (reply.Ended n) w
does_end v w n none number kept = record {
  legal = inl (says_so v End (reply.Ended n) (end_fault v ∙ none) (ap (λ x. reply.Ended x) number));
  left = kept;
}

-- a grace period does not end
pub refuses_end : (v w : State ℕ) (f : Fault) → end_refusal v.grace ≡ Some f → w ≡ v
    → StepsLegally v End (reply.Fault f) w
refuses_end v w f found kept = does_refuse v w End f (end_fault v ∙ found) kept

-- the reply that says what a turn did
abbrev pub reply_of : Turned → Reply
reply_of (turned.Begun n count) = reply.Begun n count
reply_of (turned.Ended n) = reply.Ended n
reply_of (turned.Waiting count) = reply.Waiting count
reply_of turned.Nothing = reply.Nothing

left_turn : (v : State ℕ) (t : Turned) → after_reply v Turn (reply_of t) ≡ after_event v Turn
left_turn v (turned.Begun n count) = refl
left_turn v (turned.Ended n) = refl
left_turn v (turned.Waiting count) = refl
left_turn v turned.Nothing = refl

reply_cond : (a b d : Bool) (p q r t : Turned)
    → reply_of (cond a (cond b p q) (cond d r t))
    ≡ cond a (cond b (reply_of p) (reply_of q)) (cond d (reply_of r) (reply_of t))
reply_cond true true d p q r t = refl
reply_cond true false d p q r t = refl
reply_cond false b true p q r t = refl
reply_cond false b false p q r t = refl

turn_said : (v : State ℕ) → IsSound v
    → reply_of (turn_answer v.grace) ≡ accepted_reply (size_at v) (says v) Turn
turn_said v s =
    let g = v.grace in
    reply_cond g.seq.running (awaited_in g == 0) (wants_begin (periods_of g))
    (turned.Ended (number_of (after_end g).seq)) (turned.Waiting (awaited_in g))
    (turned.Begun (number_of (after_begin g).seq) (awaited_in (after_begin g))) turned.Nothing
    ∙ ap₂ (λ n m.
    if g.seq.running
    then (if n == 0 then reply.Ended (number_of (after_end g).seq) else reply.Waiting n)
    else (if wants_begin (periods_of g)
    then reply.Begun (number_of (after_begin g).seq) m
    else reply.Nothing))
    (sym (awaited_size v)) (sym (online_size v s))

-- a turn
pub does_turn : (v w : State ℕ) (t : Turned)
    → IsSound v → turn_refusal v.grace ≡ None → t ≡ turn_answer v.grace → w ≡ after_event v Turn
    → StepsLegally v Turn (reply_of t) w
does_turn v w t s none same kept = record {
  legal = inl (says_so v Turn (reply_of t) none (ap (λ x. reply_of x) same ∙ turn_said v s));
  left = kept ∙ sym (left_turn v t);
}

-- the answer to a report, and the state after it, are those of its delivery
heard_so : (running same : Bool) (a : Answer)
    → cond running (cond (not same) Stale a) Stale ≡ cond (not (running && same)) Stale a
heard_so true same a = refl
heard_so false same a = refl

answer_said : (v : State ℕ) (report : Report)
    → report_answer_in v.grace report ≡ answer_to_report (size_at v) (says v) (Some report)
answer_said v report =
    let g = v.grace in
    let same = same_tag report.tag (tag_of g.seq) in
    heard_so g.seq.running same (cond (not (is_in g.processors.awaited report.cpu)) Repeat
    (cond (awaited_in g == 1) Last Taken))
    ∙ ap (λ n. cond (not (g.seq.running && same)) Stale
    (cond (not (is_in g.processors.awaited report.cpu)) Repeat (cond (n == 1) Last Taken)))
    (sym (awaited_size v))

pub does_hear : (v w : State ℕ) (place : ℕ) (report : Report) (a : Answer)
    → report_at place v.made ≡ Some report
    → a ≡ report_answer_in v.grace report
    → w ≡ record v { grace = after_report v.grace report }
    → StepsLegally v (Deliver place) (reply.Answer a) w
does_hear v w place report a found answer kept = record {
  legal = inl (rw found (ap (λ x. reply.Answer x) (answer ∙ answer_said v report)));
  left = kept ∙ rw found refl;
}

-- a scan is accepted if the processor there is online and idle
pub scan_accepted : (v : State ℕ) (cpu : ℕ) (p : Processor) → cpu < cpus_of v.grace.processors
    → is_in v.grace.processors.online cpu ≡ true → p ≡ processor v.cpus cpu → p.idle ≡ true
    → fault_in (size_at v) (says v) (Scan cpu) ≡ None
scan_accepted v cpu p within online here idle =
    let asleep : (processor v.cpus cpu).idle ≡ true =
    sym (ap (λ (q : Processor). q.idle) here) ∙ idle in
    grind (arith, nat_tests)

-- a scan is a report of the processor with the tag of now
pub does_scan : (v w : State ℕ) (cpu : ℕ) (a : Answer)
    → fault_in (size_at v) (says v) (Scan cpu) ≡ None
    → a ≡ answer_now v.grace cpu
    → w ≡ record v { grace = after_report_now v.grace cpu }
    → StepsLegally v (Scan cpu) (reply.Answer a) w
does_scan v w cpu a none answer kept = record {
  legal = inl (says_so v (Scan cpu) (reply.Answer a) none
      (ap (λ x. reply.Answer x) (answer ∙ answer_said v (own_report v.grace cpu))));
  left = kept;
}

-- the list of the awaited processors is refused only if one is awaited
pub does_want : (v : State ℕ) → 0 < awaited_in v.grace
    → StepsLegally v Awaits (reply.Fault fault.NoMemory) v
does_want v some =
    let one : nat_lt 0 (how_many (size_at v) (is_in v.grace.processors.awaited)) ≡ true =
    rw (awaited_size v) (grind (arith, nat_tests)) in
    record { legal = inr (one, refl, refl); left = refl }

-- a departure is refused memory if the list has items that do not move
pub refuses_move : (v w : State ℕ) (rooms : List ℕ) (cpu : ℕ) (f : Fault)
    → fault_in (size_at v) (says v) (Offline cpu) ≡ None
    → migrate_refusal (record { all = v.grace.lists; rooms = rooms }) cpu ≡ Some f → w ≡ v
    → StepsLegally v (Offline cpu) (reply.Fault f) w
refuses_move v w rooms cpu f accepted found kept =
    let told = migrate_met (record { all = v.grace.lists; rooms = rooms }) cpu f found in
    record {
      legal = inr (ap (λ b. not b) told.0, accepted, ap (λ (x : Fault). reply.Fault x) told.1);
      left = kept;
    }

-- a list is tended
pub does_tend : (v w : State ℕ) (cpu done waiting : ℕ)
    → IsSound v
    → cpu < cpus_of v.grace.processors
    → w ≡ after_event v (Tend cpu)
    → done ≡ length (callbacks (front (list_of w.grace.lists cpu)))
    → waiting ≡ length (callbacks (behind (list_of w.grace.lists cpu)))
    → StepsLegally v (Tend cpu) (reply.Tended done waiting) w
does_tend v w cpu done waiting s within kept are_done wait =
    let here : list_of w.grace.lists cpu
    ≡ after_tend (list_of v.grace.lists cpu) (number_of v.grace.seq) =
    ap (λ (x : State ℕ). list_of x.grace.lists cpu) kept
    ∙ get_or-set_same v.grace.lists.lists cpu
    (after_tend (list_of v.grace.lists cpu) (number_of v.grace.seq)) [] (rw s.listed within) in
    record {
      legal = inl (says_so v (Tend cpu) (reply.Tended done waiting)
          (grind (arith, nat_tests, within))
          (ap₂ (λ n m. reply.Tended n m)
          (are_done ∙ ap (λ (xs : List (Item ℕ)). length (callbacks (front xs))) here)
          (wait ∙ ap (λ (xs : List (Item ℕ)). length (callbacks (behind xs))) here)));
      left = kept;
    }

-- a running barrier waits for the markers of the lists and for its unvisited processors
pub waits_said : (v : State ℕ) → IsSound v → v.grace.lists.running ≡ true
    → waits_for (size_at v) (says v) ≡ barrier_left v.grace.lists
waits_said v s runs =
    ap₂ (λ (n m : ℕ). n + m)
    (markers_of_each v.grace.lists.lists (cpus_of v.grace.processors) (sym s.listed))
    (ap (λ b. how_many (size_at v) (λ cpu. b && not (is_in v.grace.lists.visited cpu))) runs
    ∙ unvisited_of_each v.grace.lists.visited (cpus_of v.grace.processors) (sym s.visits))

-- the reply that says what a test of the barrier found
abbrev pub reply_to_test : BarrierState → Reply
reply_to_test barrier.Done = reply.BarDone
reply_to_test (barrier.Waits n) = reply.BarWaits n

left_test : (v : State ℕ) (found : BarrierState)
    → after_reply v BarTest (reply_to_test found) ≡ after_event v BarTest
left_test v barrier.Done = refl
left_test v (barrier.Waits n) = refl

test_reply : (b : Bool) (n : ℕ) → reply_to_test (cond b barrier.Done (barrier.Waits n))
    ≡ cond b reply.BarDone (reply.BarWaits n)
test_reply true n = refl
test_reply false n = refl

-- if a test is accepted, a barrier runs
runs_where_tested : (runs : Bool) → first_fault ((not runs, fault.NoBarrier) ∷ []) ≡ None
    → runs ≡ true
runs_where_tested true accepted = refl
runs_where_tested false accepted = absurd (cc)

-- the barrier is tested
pub does_test : (v w : State ℕ) (found : BarrierState)
    → IsSound v
    → barrier_test_refusal v.grace.lists ≡ None
    → found ≡ barrier_test_answer v.grace.lists
    → w ≡ after_event v BarTest
    → StepsLegally v BarTest (reply_to_test found) w
does_test v w found s accepted same kept =
    let runs = runs_where_tested v.grace.lists.running accepted in
    let n = barrier_left v.grace.lists in
    record {
      legal = inl (says_so v BarTest (reply_to_test found) (rw runs refl)
          (ap (λ x. reply_to_test x) same ∙ test_reply (n == 0) n
          ∙ ap (λ m. cond (m == 0) reply.BarDone (reply.BarWaits m)) (sym (waits_said v s runs))));
      left = kept ∙ sym (left_test v found);
    }

-- a renumbering: the last number of a state is legal
renumber_fault : (v : State ℕ) → is_last v.grace.seq.last ≡ true
    → fault_in (size_at v) (says v) Renumber ≡ renumber_refusal v.grace
renumber_fault v l = ap (λ (b : Bool). cond v.grace.seq.running (Some fault.Running)
    (cond (not (b && same_number (number_of v.grace.seq) v.grace.seq.last)) (Some fault.NotLast)
    (cond (v.grace.seq.epoch == last_epoch) (Some fault.Exhausted) None))) l

pub does_renumber : (v w : State ℕ) (n : ℕ)
    → is_last v.grace.seq.last ≡ true
    → renumber_refusal v.grace ≡ None
    → n ≡ v.grace.seq.epoch + 1
    → w ≡ after_event v Renumber
    → StepsLegally v Renumber (reply.Renumbered n) w
does_renumber v w n l none is kept = record {
  legal = inl (says_so v Renumber (reply.Renumbered n) (renumber_fault v l ∙ none)
      (ap (λ x. reply.Renumbered x) is));
  left = kept;
}

pub refuses_renumber : (v w : State ℕ) (f : Fault)
    → is_last v.grace.seq.last ≡ true → renumber_refusal v.grace ≡ Some f → w ≡ v
    → StepsLegally v Renumber (reply.Fault f) w
refuses_renumber v w f l found kept = does_refuse v w Renumber f (renumber_fault v l ∙ found) kept
