-- The replica after a history of calls.
use Rattle.std.proofs.Common.{◌≡◌, ℕ, ◌+◌, ◌==◌, ◌&&◌, ◌||◌, Bool, true, false, cond, not, count_by}
use Rattle.std.proofs.Common.{List, [], ◌∷◌}
use Rattle.std.proofs.Common.{None, refl, sym, ap, ◌∙◌, arith, inl, inr}
use Rattle.std.proofs.Math.Bool.{and-true}
use Rattle.std.proofs.lemmas.Bool.{cases_Bool}
use Rattle.std.proofs.lemmas.Bool.Decides.{nat_tests}
use Rattle.std.proofs.lemmas.List.{length-set, length-replicate, ext_get_or}
use Rattle.std.proofs.lemmas.List.Sums.{sum_by-cons}
use Rattle.rcu_seq.specs.Numbers.{Number, number_at, same_number}
use Rattle.rcu_seq.specs.Tags.{of_first_epoch}
use Rattle.rcu_seq.specs.declared.tag.Tag.{Tag}
use Rattle.rcu_node.specs.CpuSet.{is_in}
use Rattle.rcu_node.specs.Reports.{awaited_after_report}
use Rattle.rcu_node.proofs.CpuSetLemmas.{in_none, is_in-intersection, is_in-remove}
use Rattle.rcu_node.proofs.CpuSetLemmas.{length-intersection}
use Rattle.rcu_node.proofs.ReportLemmas.{is_in-awaited_after_report, length-awaited_after_report}
use Rattle.rcu_node.proofs.ReportLemmas.{neither}
use Rattle.rcu_report.specs.Replica.{Replicated, Call, Begin, Report, Depart, End, Merge, IsSound}
use Rattle.rcu_report.specs.Replica.{CanBeMade, cpus_of}
use Rattle.rcu_report.specs.Replica.{after_call, refusal}
use Rattle.rcu_report.specs.History.{History, AreAccepted, Represents, after_calls, awaits, ends}
use Rattle.rcu_report.specs.History.{hears}
use Rattle.rcu_report.specs.History.{is_heard, starts, tag}
use Rattle.rcu_report.proofs.Replicas.{by_running, kept_at_first, kept_next, merging_agrees}

-- a processor that is no longer awaited stays so
no_more : (there earlier latest : Bool) → (there && not earlier) ≡ false
    → (there && not (latest || earlier)) ≡ false
no_more false earlier latest e = refl
no_more true true true e = refl
no_more true true false e = refl
no_more true false true e = refl
no_more true false false e = e

-- not heard by the replica, and awaited by the other one, which started with the same processors
nor_by_the_other : (there earlier other : Bool)
    → ((there && not earlier) && other) ≡ (there && not ((true && (there && not other)) || earlier))
nor_by_the_other false earlier other = refl
nor_by_the_other true true true = refl
nor_by_the_other true true false = refl
nor_by_the_other true false true = refl
nor_by_the_other true false false = refl

-- the replica keeps its invariant, is as the history defines it, and has this number of processors
record IsTold (cpus : ℕ) (r : Replicated) (h : History) : Type 0 where
  sized : cpus_of r ≡ cpus
  kept : IsSound r
  says : Represents r h

-- an end counts one more
ends_more : (h : History) → count_by ends (End ∷ h) ≡ count_by ends h + 1
ends_more h = omega (arith, sum_by-cons (λ (call : Call). cond (ends call) 1 0) End h)

-- any other call leaves the count
ends_stay : (call : Call) (h : History) → ends call ≡ false
    → count_by ends (call ∷ h) ≡ count_by ends h
ends_stay call h e =
    let none : ◌≡◌ {A = ℕ} (cond (ends call) 1 0) 0 = rw e refl in
    omega (arith, none, sum_by-cons (λ (c : Call). cond (ends c) 1 0) call h)

-- the number of processors stays
cpus_of-next : (r : Replicated) (call : Call) → CanBeMade r call
    → cpus_of (after_call r call) ≡ cpus_of r
cpus_of-next r (Begin set) made = made
cpus_of-next r (Report cpu number) made =
    by_running (λ (left : Replicated). cpus_of left ≡ cpus_of r) r
    (record r {
      awaited = awaited_after_report (of_first_epoch r.tag) r.awaited cpu
          (of_first_epoch number);
    })
    (λ runs. length-awaited_after_report (of_first_epoch r.tag) r.awaited cpu
    (of_first_epoch number)) (λ rests. refl)
cpus_of-next r (Depart cpu) made = length-set r.awaited cpu false
cpus_of-next r End made = refl
cpus_of-next r (Merge other) made = length-intersection r.awaited other.awaited

-- a report of a running grace period
says_report : (r : Replicated) (h : History) (other : ℕ) (number : Number) → Represents r h
    → Represents (record
    r {
      awaited = awaited_after_report (of_first_epoch r.tag) r.awaited other
          (of_first_epoch number);
    }) (Report other number ∷ h)
says_report r h other number says = record {
  ends = says.ends ∙ sym (ends_stay (Report other number) h refl);
  running = says.running;
  tag = says.tag;
  start_set = says.start_set;
  awaited = λ cpu.
      is_in-awaited_after_report (of_first_epoch r.tag) r.awaited other (of_first_epoch number) cpu
      ∙ ap (λ (n : Number). is_in r.awaited cpu && not (other == cpu && same_number number n))
      says.tag
      ∙ ap (λ b. b && not (other == cpu && same_number number (tag h))) (says.awaited cpu)
      ∙ neither (starts cpu h) (is_heard cpu (tag h) h)
      (other == cpu && same_number number (tag h));
}

-- a report while none runs
says_idle_report : (r : Replicated) (h : History) (other : ℕ) (number : Number)
    → ((cpu : ℕ) → is_in r.awaited cpu ≡ false) → Represents r h
    → Represents r (Report other number ∷ h)
says_idle_report r h other number none says = record {
  ends = says.ends ∙ sym (ends_stay (Report other number) h refl);
  running = says.running;
  tag = says.tag;
  start_set = says.start_set;
  awaited = λ cpu.
      none cpu
      ∙ sym (no_more (starts cpu h) (is_heard cpu (tag h) h)
      (other == cpu && same_number number (tag h))
      (sym (says.awaited cpu) ∙ none cpu));
}

-- after an accepted call the replica is as the history with the call defines it
says_next : (r : Replicated) (h : History) (call : Call) → refusal r call ≡ None → IsSound r
    → Represents r h
    → Represents (after_call r call) (call ∷ h)
says_next r h (Begin set) accepted kept says = record {
  ends = says.ends ∙ sym (ends_stay (Begin set) h refl);
  running = refl;
  tag = ap (λ n. number_at n true) says.ends;
  start_set = λ cpu. refl;
  awaited = λ cpu. sym (and-true (is_in set cpu));
}
says_next r h (Report other number) accepted kept says =
    by_running (λ (left : Replicated). Represents left (Report other number ∷ h)) r
    (record r {
      awaited = awaited_after_report (of_first_epoch r.tag) r.awaited other
          (of_first_epoch number);
    })
    (λ runs. says_report r h other number says)
    (λ rests. says_idle_report r h other number (kept.idle rests) says)
says_next r h (Depart other) accepted kept says = record {
  ends = says.ends ∙ sym (ends_stay (Depart other) h refl);
  running = says.running;
  tag = says.tag;
  start_set = says.start_set;
  awaited = λ cpu.
      is_in-remove r.awaited other cpu ∙ ap (λ b. b && not (other == cpu)) (says.awaited cpu)
      ∙ neither (starts cpu h) (is_heard cpu (tag h) h) (other == cpu);
}
says_next r h End accepted kept says = record {
  ends = ap (λ n. n + 1) says.ends ∙ sym (ends_more h);
  running = refl;
  tag = says.tag;
  start_set = says.start_set;
  awaited = says.awaited;
}
says_next r h (Merge other) accepted kept says = record {
  ends = says.ends ∙ sym (ends_stay (Merge other) h refl);
  running = says.running;
  tag = says.tag;
  start_set = says.start_set;
  awaited = λ cpu.
      let agrees = merging_agrees r other accepted in
      let started = ap (λ (set : List Bool). is_in set cpu) (sym agrees.2) ∙ says.start_set cpu in
      let tagged : same_number other.tag (tag h) ≡ true =
      let same = ap (λ (t : Tag). t.number) agrees.1 in
      grind (arith, nat_tests, same, says.tag) in
      is_in-intersection r.awaited other.awaited cpu
      ∙ ap (λ b. b && is_in other.awaited cpu) (says.awaited cpu)
      ∙ rw (tagged, started)
      (nor_by_the_other (starts cpu h) (is_heard cpu (tag h) h) (is_in other.awaited cpu));
}

-- after any accepted calls
told : (cpus : ℕ) (last : Number) (h : History) → AreAccepted cpus last h
    → IsTold cpus (after_calls cpus last h) h
told cpus last [] accepted = record {
  sized = length-replicate cpus false;
  kept = kept_at_first cpus last;
  says = record {
    ends = refl;
    running = refl;
    tag = refl;
    start_set = in_none cpus;
    awaited =
        in_none cpus;
  };
}
told cpus last (call ∷ h) accepted =
    let before = told cpus last h accepted.2 in
    let r = after_calls cpus last h in
    record {
      sized = cpus_of-next r call accepted.0 ∙ before.sized;
      kept = kept_next r call accepted.0 accepted.1 before.kept;
      says = says_next r h call accepted.1 before.kept before.says;
    }

-- the replica after accepted calls is as their history defines it
pub says_always : (cpus : ℕ) (last : Number) (h : History) → AreAccepted cpus last h
    → Represents (after_calls cpus last h) h
says_always cpus last h accepted = (told cpus last h accepted).says

-- and keeps its invariant
pub kept_always : (cpus : ℕ) (last : Number) (h : History) → AreAccepted cpus last h
    → IsSound (after_calls cpus last h)
kept_always cpus last h accepted = (told cpus last h accepted).kept

-- a processor of the start set that is no longer awaited was heard
heard_since : (there earlier : Bool) → (there && not (there && not earlier)) ≡ (there && earlier)
heard_since true true = refl
heard_since true false = refl
heard_since false earlier = refl

-- a merged replica adds the processors that it heard
pub hears_the_heard : (cpus : ℕ) (last : Number) (h : History) (cpu : ℕ) (number : Number)
    → AreAccepted cpus last h
    → hears cpu number (Merge (after_calls cpus last h))
    ≡ (same_number (tag h) number && (starts cpu h && is_heard cpu (tag h) h))
hears_the_heard cpus last h cpu number accepted =
    let says = says_always cpus last h accepted in
    rw (says.tag, says.start_set cpu, says.awaited cpu)
    (ap (λ b. same_number (tag h) number && b)
    (heard_since (starts cpu h) (is_heard cpu (tag h) h)))

-- a processor is awaited by both or by neither
awaits-alike : (x y : History) → ((cpu : ℕ) → starts cpu x ≡ starts cpu y)
    → ((cpu : ℕ) → starts cpu x ≡ true → is_heard cpu (tag x) x ≡ is_heard cpu (tag y) y)
    → (cpu : ℕ) → awaits cpu x ≡ awaits cpu y
awaits-alike x y began heard cpu = elim (cases_Bool (starts cpu x)) [
  | inl there ↦ rw (heard cpu there) (ap (λ b. b && not (is_heard cpu (tag y) y)) (began cpu))
  | inr out ↦ ap (λ b. b && not (is_heard cpu (tag x) x)) out
      ∙ sym (ap (λ b. b && not (is_heard cpu (tag y) y)) (sym (began cpu) ∙ out))
]

-- two that began alike and heard alike await the same processors
pub alike_await_the_same : (cpus : ℕ) (last other : Number) (x y : History)
    → AreAccepted cpus last x
    → AreAccepted cpus other y → tag x ≡ tag y → ((cpu : ℕ) → starts cpu x ≡ starts cpu y)
    → ((cpu : ℕ) → starts cpu x ≡ true → is_heard cpu (tag x) x ≡ is_heard cpu (tag y) y)
    → (after_calls cpus last x).awaited ≡ (after_calls cpus other y).awaited
alike_await_the_same cpus last other x y first second tags began heard =
    let one = told cpus last x first in
    let two = told cpus other y second in
    ext_get_or false (after_calls cpus last x).awaited (after_calls cpus other y).awaited
    (one.sized ∙ sym two.sized)
    (λ cpu l. one.says.awaited cpu ∙ awaits-alike x y began heard cpu ∙ sym (two.says.awaited cpu))
