-- The processors after a history of calls.
use Rattle.std.proofs.Common.{◌≡◌, ℕ, ◌<◌, ◌==◌, ◌&&◌, ◌||◌, Bool, true, false, not, if◌then◌else◌}
use Rattle.std.proofs.Common.{[], ◌∷◌, length}
use Rattle.std.proofs.Common.{replicate, None, refl, sym, ap, ◌∙◌, arith, inl, inr}
use Rattle.std.proofs.Math.Bool.{and-true, or-false}
use Rattle.std.proofs.lemmas.Bool.{cases_lt}
use Rattle.std.proofs.lemmas.Bool.Decides.{nat_tests}
use Rattle.std.proofs.lemmas.List.{length-set, length-replicate}
use Rattle.rcu_seq.specs.Tags.{same_tag}
use Rattle.rcu_seq.specs.declared.tag.Tag.{Tag}
use Rattle.rcu_node.specs.CpuSet.{is_in}
use Rattle.rcu_node.proofs.CpuSetLemmas.{in_none, is_in-insert, is_in-remove}
use Rattle.rcu_node.proofs.ReportLemmas.{is_in-awaited_after_report, length-awaited_after_report}
use Rattle.rcu_node.proofs.ReportLemmas.{neither}
use Rattle.rcu_hotplug.specs.Hotplug.{Processors, Arrive, Depart, Begin, Report, refusal, at_first}
use Rattle.rcu_hotplug.specs.Hotplug.{after_call}
use Rattle.rcu_hotplug.specs.History.{History, AreAccepted, Represents, after_calls, is_heard}
use Rattle.rcu_hotplug.specs.History.{online, starts, tag}

-- an accepted arrival is of an existing processor
arrival_below : (p : Processors) (cpu : ℕ) → refusal p (Arrive cpu) ≡ None → cpu < length p.awaited
arrival_below p cpu e = elim (cases_lt cpu (length p.awaited)) [
  | inl l ↦ l
  | inr l ↦ grind (arith, nat_tests, e, l)
]

-- a processor has arrived after its arrival, or if it had before
has_come : (arrived earlier : Bool) → (arrived || earlier) ≡ (if arrived then true else earlier)
has_come true earlier = refl
has_come false earlier = refl

-- a processor is gone after its departure
has_gone : (departed earlier : Bool)
    → (earlier && not departed) ≡ (if departed then false else earlier)
has_gone true true = refl
has_gone true false = refl
has_gone false earlier = and-true earlier

-- the processors are as the history defines them, and there is a flag for each
record IsTold (cpus : ℕ) (p : Processors) (h : History) : Type 0 where
  awaited : length p.awaited ≡ cpus
  online : length p.online ≡ cpus
  says : Represents cpus p h

-- at first
told_at_first : (cpus : ℕ) → IsTold cpus (at_first cpus) []
told_at_first cpus = record {
  awaited = length-replicate cpus false;
  online = length-set (replicate cpus false) 0 true ∙ length-replicate cpus false;
  says = record {
    tag = refl;
    start_set = λ cpu l. in_none cpus cpu;
    awaited = λ cpu l. in_none cpus cpu;
    online = λ cpu l.
        let nobody = in_none cpus cpu in
        is_in-insert (replicate cpus false) 0 cpu (omega (arith, l, length-replicate cpus false))
        ∙ rw nobody (grind (arith, nat_tests));
  };
}

-- after an arrival
told_arrival : (cpus : ℕ) (p : Processors) (h : History) (other : ℕ)
    → refusal p (Arrive other) ≡ None → IsTold cpus p h
    → IsTold cpus (after_call p (Arrive other)) (Arrive other ∷ h)
told_arrival cpus p h other accepted told = record {
  awaited = told.awaited;
  online = length-set p.online other true ∙ told.online;
  says = record {
    tag = told.says.tag;
    start_set = told.says.start_set;
    awaited = told.says.awaited;
    online = λ cpu l.
        is_in-insert p.online other cpu
        (omega (arith, arrival_below p other accepted, told.awaited, told.online))
        ∙ ap (λ b. other == cpu || b) (told.says.online cpu l)
        ∙ has_come (other == cpu) (online cpu h);
  };
}

-- after a departure
told_departure : (cpus : ℕ) (p : Processors) (h : History) (other : ℕ) → IsTold cpus p h
    → IsTold cpus (after_call p (Depart other)) (Depart other ∷ h)
told_departure cpus p h other told = record {
  awaited = length-set p.awaited other false ∙ told.awaited;
  online = length-set p.online other false ∙ told.online;
  says = record {
    tag = told.says.tag;
    start_set = told.says.start_set;
    awaited = λ cpu l.
        is_in-remove p.awaited other cpu
        ∙ ap (λ b. b && not (other == cpu)) (told.says.awaited cpu l)
        ∙ neither (starts cpu h) (is_heard cpu (tag h) h) (other == cpu);
    online = λ cpu l.
        is_in-remove p.online other cpu ∙ ap (λ b. b && not (other == cpu)) (told.says.online cpu l)
        ∙ has_gone (other == cpu) (online cpu h);
  };
}

-- after a begin
told_begin : (cpus : ℕ) (p : Processors) (h : History) (number : Tag) → IsTold cpus p h
    → IsTold cpus (after_call p (Begin number)) (Begin number ∷ h)
told_begin cpus p h number told = record {
  awaited = told.online;
  online = told.online;
  says = record {
    tag = refl;
    start_set = told.says.online;
    awaited = λ cpu l. told.says.online cpu l ∙ sym (and-true (online cpu h));
    online = told.says.online;
  };
}

-- after a report
told_report : (cpus : ℕ) (p : Processors) (h : History) (other : ℕ) (number : Tag) → IsTold cpus p h
    → IsTold cpus (after_call p (Report other number)) (Report other number ∷ h)
told_report cpus p h other number told = record {
  awaited = length-awaited_after_report p.tag p.awaited other number ∙ told.awaited;
  online = told.online;
  says = record {
    tag = told.says.tag;
    start_set = told.says.start_set;
    awaited = λ cpu l.
        is_in-awaited_after_report p.tag p.awaited other number cpu
        ∙ ap (λ (n : Tag). is_in p.awaited cpu && not (other == cpu && same_tag number n))
        told.says.tag
        ∙ ap (λ b. b && not (other == cpu && same_tag number (tag h))) (told.says.awaited cpu l)
        ∙ neither (starts cpu h) (is_heard cpu (tag h) h) (other == cpu && same_tag number (tag h))
        ∙ ap (λ b. starts cpu h && not (b || is_heard cpu (tag h) h))
        (sym (or-false (other == cpu && same_tag number (tag h))));
    online = told.says.online;
  };
}

-- after any accepted calls
told_always : (cpus : ℕ) (h : History) → AreAccepted cpus h → IsTold cpus (after_calls cpus h) h
told_always cpus [] accepted = told_at_first cpus
told_always cpus (Arrive other ∷ h) accepted =
    told_arrival cpus (after_calls cpus h) h other accepted.0 (told_always cpus h accepted.1)
told_always cpus (Depart other ∷ h) accepted =
    told_departure cpus (after_calls cpus h) h other (told_always cpus h accepted.1)
told_always cpus (Begin number ∷ h) accepted =
    told_begin cpus (after_calls cpus h) h number (told_always cpus h accepted.1)
told_always cpus (Report other number ∷ h) accepted =
    told_report cpus (after_calls cpus h) h other number (told_always cpus h accepted.1)

-- the processors after accepted calls are as their history defines them
pub told : (cpus : ℕ) (h : History) → AreAccepted cpus h → Represents cpus (after_calls cpus h) h
told cpus h accepted = (told_always cpus h accepted).says
