-- The awaited processors after a refused end, and after a merge was tried.
use Rattle.std.proofs.Common.{◌≡◌, ◌⊎◌, ℕ, ◌==◌, ◌&&◌, Bool, false, List, length, Some, refl, sym}
use Rattle.std.proofs.Common.{ap, ◌∙◌, inl, inr}
use Rattle.std.proofs.lemmas.Bool.{cases_Bool, true≢false}
use Rattle.rcu_seq.specs.declared.fault.Fault.TheVariants.{Waiting}
use Rattle.rcu_node.specs.CpuSet.{intersection, is_in, size_of}
use Rattle.rcu_node.proofs.CpuSetLemmas.{is_in-intersection, length-intersection, size_of-empty}
use Rattle.rcu_report.specs.Replica.{Replicated, End, refusal}

-- if a processor is awaited, a grace period runs, and its end is refused for that
pub refused_while_awaited : (r : Replicated)
    → (r.periods.running ≡ false → (cpu : ℕ) → is_in r.awaited cpu ≡ false)
    → (size_of r.awaited == 0) ≡ false → refusal r End ≡ Some Waiting
refused_while_awaited r idle e = elim (cases_Bool r.periods.running) [
  | inl runs ↦ rw runs (rw e refl)
  | inr rests ↦ absurd
      (true≢false (sym (ap (λ (n : ℕ). n == 0) (size_of-empty r.awaited (λ cpu l. idle rests cpu)))
      ∙ e))
]

-- a merged set is the processors in both, or was refused and is the same
abbrev pub IsMerged : List Bool → List Bool → List Bool → Type 0
IsMerged old other now = (now ≡ intersection old other) ⊎ (now ≡ old)

-- it has as many flags
pub length-merged : (old other now : List Bool) → IsMerged old other now → length now ≡ length old
length-merged old other now h = elim h [
  | inl e ↦ ap (λ (s : List Bool). length s) e ∙ length-intersection old other
  | inr e ↦ ap (λ (s : List Bool). length s) e
]

-- a set stays empty
pub none_merged : (old other now : List Bool) → IsMerged old other now
    → ((cpu : ℕ) → is_in old cpu ≡ false) → (cpu : ℕ)
    → is_in now cpu ≡ false
none_merged old other now h none cpu = elim h [
  | inl e ↦ ap (λ (s : List Bool). is_in s cpu) e ∙ is_in-intersection old other cpu
      ∙ ap (λ x. x && is_in other cpu) (none cpu)
  | inr e ↦ ap (λ (s : List Bool). is_in s cpu) e ∙ none cpu
]
