-- The calls of replicas keep their invariant.
use Rattle.std.proofs.Common.{◌≡◌, ℕ, ◌==◌, ◌&&◌, Bool, true, false, not, if◌then◌else◌, List}
use Rattle.std.proofs.Common.{length, slice_set}
use Rattle.std.proofs.Common.{replicate, None, refl, sym, ap, ◌∙◌, arith, inl, inr}
use Rattle.std.proofs.lemmas.Bool.{and_parts, cases_Bool, true≢false}
use Rattle.std.proofs.lemmas.Bool.Decides.{nat_tests}
use Rattle.std.proofs.lemmas.List.{length-set, length-replicate}
use Rattle.rcu_seq.specs.Numbers.{Number, same_number}
use Rattle.rcu_seq.specs.Tags.{of_first_epoch}
use Rattle.rcu_node.specs.CpuSet.{intersection, is_in, size_of}
use Rattle.rcu_node.specs.Merging.{are_alike}
use Rattle.rcu_node.specs.Reports.{awaited_after_report}
use Rattle.rcu_node.proofs.CpuSetLemmas.{in_none, is_in-intersection, is_in-remove}
use Rattle.rcu_node.proofs.CpuSetLemmas.{length-intersection, nobody_in}
use Rattle.rcu_node.proofs.MergingLemmas.{Equals, are_alike-Decides}
use Rattle.rcu_node.proofs.ReportLemmas.{is_in-awaited_after_report, length-awaited_after_report}
use Rattle.rcu_report.specs.Replica.{Replicated, Call, Begin, Report, Depart, End, Merge, IsSound}
use Rattle.rcu_report.specs.Replica.{CanBeMade, at_first}
use Rattle.rcu_report.specs.Replica.{cpus_of, after_call, refusal, standing_of}

-- an accepted merging is of an alike replica
pub merging_alike : (r other : Replicated) → refusal r (Merge other) ≡ None
    → are_alike (standing_of r) (standing_of other) ≡ true
merging_alike r other e = elim (cases_Bool (are_alike (standing_of r) (standing_of other))) [
  | inl alike ↦ alike
  | inr unlike ↦ absurd (let never : ⊥ = grind (arith, e, unlike) in never)
]

pub merging_agrees : (r other : Replicated) → refusal r (Merge other) ≡ None
    → Equals (standing_of r) (standing_of other)
merging_agrees r other e =
    (are_alike-Decides (standing_of r) (standing_of other)).0 (merging_alike r other e)

-- an accepted end ends a running grace period that awaits no processor
pub end_runs : (r : Replicated) → refusal r End ≡ None → r.periods.running ≡ true
end_runs r e = elim (cases_Bool r.periods.running) [
  | inl runs ↦ runs
  | inr rests ↦ absurd (let never : ⊥ = grind (arith, e, rests) in never)
]

pub end_awaits_nobody : (r : Replicated) → refusal r End ≡ None → size_of r.awaited ≡ 0
end_awaits_nobody r e = elim (cases_Bool (size_of r.awaited == 0)) [
  | inl none ↦ grind (arith, nat_tests, none)
  | inr some ↦ absurd (let never : ⊥ = grind (arith, e, some, end_runs r e) in never)
]

-- the invariant holds at first
pub kept_at_first : (cpus : ℕ) (last : Number) → IsSound (at_first cpus last)
kept_at_first cpus last = record {
  started = refl;
  within = λ cpu there. there;
  latest = refl;
  fresh = λ e. ap (λ n. replicate n false) (sym (length-replicate cpus false));
  idle = λ rests. in_none cpus;
}

-- the invariant holds if only the awaited set gets smaller
kept_cut : (r : Replicated) (less : List Bool) → length less ≡ cpus_of r
    → ((cpu : ℕ) → is_in less cpu ≡ true → is_in r.awaited cpu ≡ true)
    → IsSound r → IsSound (record r { awaited = less })
kept_cut r less sized part kept = record {
  started = kept.started ∙ sym sized;
  within = λ cpu there. kept.within cpu (part cpu there);
  latest = kept.latest;
  fresh = λ e. kept.fresh e ∙ ap (λ n. replicate n false) (sym sized);
  idle = λ rests cpu. elim (cases_Bool (is_in less cpu)) [
    | inl there ↦ absurd (true≢false (sym (part cpu there) ∙ kept.idle rests cpu))
    | inr out ↦ out
  ];
}

-- a property of the replica after a report holds if it does while a grace period runs and while
-- none does
pub by_running : (P : Replicated → Type 0) (r left : Replicated)
    → (r.periods.running ≡ true → P left)
    → (r.periods.running ≡ false → P r)
    → P (if r.periods.running then left else r)
by_running P r left runs rests = go P r left r.periods.running runs rests
  where
    go : (P : Replicated → Type 0) (r left : Replicated) (running : Bool)
        → (running ≡ true → P left)
        → (running ≡ false → P r)
        → P (if running then left else r)
    go P r left true runs rests = runs refl
    go P r left false runs rests = rests refl

-- an accepted call keeps the invariant
pub kept_next : (r : Replicated) (call : Call) → CanBeMade r call → refusal r call ≡ None
    → IsSound r
    → IsSound (after_call r call)
kept_next r (Begin set) made accepted kept = record {
  started = refl;
  within = λ cpu there. there;
  latest = refl;
  fresh = λ e. absurd (omega (arith, e));
  idle = λ rests. absurd (true≢false rests);
}
kept_next r (Report cpu number) made accepted kept =
    by_running IsSound r
    (record r {
      awaited = awaited_after_report (of_first_epoch r.tag) r.awaited cpu
          (of_first_epoch number);
    })
    (λ runs.
    kept_cut r (awaited_after_report (of_first_epoch r.tag) r.awaited cpu (of_first_epoch number))
    (length-awaited_after_report (of_first_epoch r.tag) r.awaited cpu (of_first_epoch number))
    (λ k there.
    let left = sym
    (is_in-awaited_after_report (of_first_epoch r.tag) r.awaited cpu (of_first_epoch number) k)
    ∙ there in
    (and_parts (is_in r.awaited k) (not (cpu == k && same_number number r.tag)) left).0) kept)
    (λ rests. kept)
kept_next r (Depart cpu) made accepted kept =
    kept_cut r (slice_set r.awaited cpu false) (length-set r.awaited cpu false)
    (λ k there. (and_parts (is_in r.awaited k) (not (cpu == k))
    (sym (is_in-remove r.awaited cpu k) ∙ there)).0) kept
kept_next r End made accepted kept = record {
  started = kept.started;
  within = kept.within;
  latest = kept.latest ∙ rw (end_runs r accepted) (grind (arith, nat_tests));
  fresh = kept.fresh;
  idle = λ rests. nobody_in r.awaited (end_awaits_nobody r accepted);
}
kept_next r (Merge other) made accepted kept =
    kept_cut r (intersection r.awaited other.awaited) (length-intersection r.awaited other.awaited)
    (λ k there.
    let both = sym (is_in-intersection r.awaited other.awaited k) ∙ there in
    (and_parts (is_in r.awaited k) (is_in other.awaited k) both).0) kept
