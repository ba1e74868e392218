-- Replicas that merge one another.
use Rattle.std.proofs.Common.{◌≡◌, true, None, refl, sym, ap, ◌∙◌}
use Rattle.rcu_node.specs.CpuSet.{intersection}
use Rattle.rcu_node.specs.Merging.{Standing, are_alike, after_merge}
use Rattle.rcu_node.proofs.MergingLemmas.{are_alike-back, merged-again, merged-alike_second}
use Rattle.rcu_node.proofs.MergingLemmas.{merged-commutes}
use Rattle.rcu_report.specs.Replica.{Replicated, Merge, after_call, refusal, standing_of}
use Rattle.rcu_report.proofs.Replicas.{merging_alike}

-- the other one is alike too
other_alike : (x y : Replicated) → refusal x (Merge y) ≡ None
    → are_alike (standing_of y) (standing_of x) ≡ true
other_alike x y e = are_alike-back (standing_of x) (standing_of y) (merging_alike x y e)

-- also once it was taken in
other_still_alike : (x y : Replicated) → refusal x (Merge y) ≡ None
    → are_alike (standing_of y) (after_merge (standing_of x) (standing_of y)) ≡ true
other_still_alike x y e =
    merged-alike_second (standing_of y) (standing_of x) (standing_of y) ∙ other_alike x y e

-- so it may merge this one, as it was
pub accepted_back : (x y : Replicated) → refusal x (Merge y) ≡ None → refusal y (Merge x) ≡ None
accepted_back x y e = let alike = other_alike x y e in rw alike refl

-- and as it became
pub accepted_after : (x y : Replicated) → refusal x (Merge y) ≡ None
    → refusal y (Merge (after_call x (Merge y))) ≡ None
accepted_after x y e = let alike = other_still_alike x y e in rw alike refl

-- both await the same, if each merges the other as it was
pub same_apart : (x y : Replicated) → refusal x (Merge y) ≡ None
    → intersection x.awaited y.awaited ≡ intersection y.awaited x.awaited
same_apart x y e =
    ap (λ (s : Standing). s.awaited)
    (merged-commutes (standing_of x) (standing_of y) (merging_alike x y e))

-- and if the other merges what the first became
pub same_in_turn : (x y : Replicated) → refusal x (Merge y) ≡ None
    → intersection x.awaited y.awaited ≡ intersection y.awaited (intersection x.awaited y.awaited)
same_in_turn x y e =
    let one = standing_of x in
    let two = standing_of y in
    ap (λ (s : Standing). s.awaited)
    (sym (merged-again one two)
    ∙ sym (merged-commutes two (after_merge one two) (other_still_alike x y e)))
