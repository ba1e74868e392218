-- The cause of a refusal, for callers.
use Rattle.std.proofs.Common.{◌≡◌, ℕ, ◌==◌, Bool, true, false, [], ◌∷◌, length, refl, ap}
use Rattle.std.proofs.Common.{◌∙◌, arith}
use Rattle.std.specs.Prelude.{◌&&◌, not, nat_lt, Some, if◌then◌else◌}
use Rattle.std.proofs.lemmas.Bool.Decides.{nat_tests}
use Rattle.rcu_seq.specs.Fault.{first_fault}
use Rattle.rcu_seq.specs.declared.fault.Fault.{Fault}
use Rattle.rcu_seq.specs.declared.fault.Fault.TheVariants as fault
use Rattle.rcu_cblist.specs.SegList.{is_empty, take_answer}
use Rattle.rcu_barrier.specs.Lists.{AllLists, ListsWithRooms, has_room_in, is_marking, is_visited}
use Rattle.rcu_barrier.specs.Lists.{leaving_list, list_of, migrate_refusal, queue_fault}
use Rattle.rcu_barrier.specs.Lists.{queue_refusal, run_refusal, visit_answer, visit_fault}
use Rattle.rcu_barrier.specs.Lists.{visit_refusal}
use Rattle.rcu_barrier.specs.declared.lists.Visit.TheVariants as visit

-- the one cause holds
one_cause : (cause : Bool) (f met : Fault) → first_fault ((cause, f) ∷ []) ≡ Some met →
    (cause ≡ true) × (met ≡ f)
one_cause true f met is = (refl, cc)
one_cause false f met is = absurd cc

-- the first cause holds, or the second one does
two_causes : (first second : Bool) (f h met : Fault) →
    first_fault ((first, f) ∷ (second, h) ∷ []) ≡ Some met → met ≡ (if first then f else h)
two_causes true second f h met is = cc
two_causes false true f h met is = cc
two_causes false false f h met is = absurd cc

second_cause : (first second : Bool) (f h met : Fault) →
    first_fault ((first, f) ∷ (second, h) ∷ []) ≡ Some met → first ≡ false → second ≡ true
second_cause true second f h met is not_first = absurd cc
second_cause false true f h met is not_first = refl
second_cause false false f h met is not_first = absurd cc

-- both hold
both_hold : (a b : Bool) → (a && b) ≡ true → (a ≡ true) × (b ≡ true)
both_hold true true is = (refl, refl)
both_hold true false is = absurd cc
both_hold false b is = absurd cc

is_not : (a : Bool) → not a ≡ true → a ≡ false
is_not true is = absurd cc
is_not false is = refl

module _ {X : Type 0} (lists : ListsWithRooms X) (cpu : ℕ) (met : Fault) where
  -- the fault of a queue call that was refused
  pub queue_met : queue_refusal lists cpu ≡ Some met → met ≡ queue_fault lists.all
  queue_met is =
      two_causes (lists.all.queued == lists.all.most) (not (has_room_in lists cpu 1))
      fault.CallbacksFull fault.NoMemory met is

  -- the fault of a visit that was refused
  pub visit_met : visit_refusal lists cpu ≡ Some met → met ≡ visit_fault lists.all
  visit_met is =
      two_causes (not lists.all.running) (is_marking lists.all cpu && not (has_room_in lists cpu 1))
      fault.NoBarrier fault.NoMemory met is ∙ turned lists.all.running
    where
      turned : (running : Bool) → (if not running then fault.NoBarrier else fault.NoMemory)
          ≡ (if running then fault.NoMemory else fault.NoBarrier)
      turned true = refl
      turned false = refl

  -- if a barrier runs, it would put a marker
  pub visit_marks : visit_refusal lists cpu ≡ Some met → lists.all.running ≡ true →
      visit_answer lists.all cpu ≡ visit.Marked
  visit_marks is runs =
      let visited = is_visited lists.all cpu in
      let none = is_empty (list_of lists.all cpu) in
      let full = not (has_room_in lists cpu 1) in
      let marking = is_marking lists.all cpu in
      let not_idle = ap not runs in
      let cause =
      second_cause (not lists.all.running) (marking && full) fault.NoBarrier fault.NoMemory met is
      not_idle in
      let both = both_hold (not visited) (not none) (both_hold marking full cause).0 in
      rw (is_not visited both.0, is_not none both.1) refl

  -- a list that did not move has items, and memory was refused
  pub migrate_met : migrate_refusal lists cpu ≡ Some met →
      (is_empty (list_of lists.all cpu) ≡ false) × (met ≡ fault.NoMemory)
  migrate_met is =
      let some = not (is_empty (list_of lists.all cpu)) in
      let full = not (has_room_in lists 0 (length (leaving_list lists.all cpu))) in
      let cause = one_cause (some && full) fault.NoMemory met is in
      (is_not (is_empty (list_of lists.all cpu)) (both_hold some full cause.0).0, cause.1)

-- a run that was refused has a callback to hand out, and memory was refused
pub run_met : {X : Type 0} (all : AllLists X) (cpu most : ℕ) (met : Fault) →
    run_refusal all cpu most ≡ Some met →
    (take_answer (list_of all cpu) most ≡ [] → ⊥) × (met ≡ fault.NoMemory)
run_met all cpu most met is =
    let calls = length (take_answer (list_of all cpu) most) in
    let cause = one_cause (nat_lt 0 calls) fault.NoMemory met is in
    (λ none. above calls cause.0 (ap length none), cause.1)
  where
    above : (n : ℕ) → nat_lt 0 n ≡ true → n ≡ 0 → ⊥
    above n some none = absurd (grind (arith, nat_tests))
