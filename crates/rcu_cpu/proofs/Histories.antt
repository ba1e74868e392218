-- The state of a processor after accepted calls.
use Rattle.std.proofs.Common.{◌≡◌, ℕ, ◌+◌, ◌-◌, ◌<◌, ◌≤◌, ◌==◌, ◌↔◌, Bool, true, false, not, cond}
use Rattle.std.proofs.Common.{◌&&◌, ◌||◌, List, []}
use Rattle.std.proofs.Common.{◌∷◌, count_by, refl, sym, ap, ◌∙◌, arith}
use Rattle.std.proofs.Math.Bool.{and-true}
use Rattle.std.proofs.lemmas.Bool.{true≢false}
use Rattle.std.proofs.lemmas.Bool.Decides.{nat_tests}
use Rattle.std.proofs.lemmas.List.Sums.{sum_by-cons}
use Rattle.rcu_cpu.specs.CpuData.{Call, Enter, Exit, Note, Quiesce, Arrive, Depart, Idle, Wake}
use Rattle.rcu_cpu.specs.CpuData.{IsAccepted, AreAccepted}
use Rattle.rcu_cpu.specs.CpuData.{after_calls, report_of}
use Rattle.rcu_cpu.specs.Sections.{enters, exits, nesting, is_idle, is_open, is_online, last_noted}
use Rattle.rcu_cpu.proofs.Accepted.{accepted_depart, accepted_enter, accepted_exit, accepted_idle}
use Rattle.rcu_cpu.proofs.Accepted.{accepted_quiesce, exit_accepted, quiesce_accepted}

-- one call more counts 1 if it passes the test
count_by-cons : (test : Call → Bool) (call : Call) (earlier : List Call) →
    count_by test (call ∷ earlier) ≡ cond (test call) 1 0 + count_by test earlier
count_by-cons test call earlier = sum_by-cons (λ c. cond (test c) 1 0) call earlier

-- the depth and the exits are together the enters
depth_and_exits : (cpu : ℕ) (online : Bool) (calls : List Call) → AreAccepted cpu online calls →
    (after_calls cpu online calls).depth + count_by exits calls ≡ count_by enters calls
depth_and_exits cpu online [] accepted = refl
depth_and_exits cpu online (Enter ∷ earlier) accepted =
    let before = depth_and_exits cpu online earlier accepted.1 in
    omega (arith, count_by-cons enters Enter earlier, count_by-cons exits Enter earlier)
depth_and_exits cpu online (Exit ∷ earlier) accepted =
    let before = depth_and_exits cpu online earlier accepted.1 in
    let deep = accepted_exit (after_calls cpu online earlier) accepted.0 in
    omega (arith, count_by-cons enters Exit earlier, count_by-cons exits Exit earlier)
depth_and_exits cpu online (call ∷ earlier) accepted =
    let before = depth_and_exits cpu online earlier accepted.1 in
    omega (arith, count_by-cons enters call earlier, count_by-cons exits call earlier)

-- the depth is the enters less the exits
pub depth_is_nesting : (cpu : ℕ) (online : Bool) (calls : List Call) → AreAccepted cpu online calls
    → (after_calls cpu online calls).depth ≡ nesting calls
depth_is_nesting cpu online calls accepted =
    let both = depth_and_exits cpu online calls accepted in omega arith

-- a processor exits at most as often as it enters
pub exits_within_enters : (cpu : ℕ) (online : Bool) (calls : List Call)
    → AreAccepted cpu online calls
    → count_by exits calls ≤ count_by enters calls
exits_within_enters cpu online calls accepted =
    let both = depth_and_exits cpu online calls accepted in omega arith

-- after an enter a section is open
entered : (depth nested : ℕ) (was_open : Bool) → depth ≡ nested → was_open ≡ not (depth == 0) →
    ((nested == 0) || (was_open && true)) ≡ not (depth + 1 == 0)
entered depth nested was_open same before = grind (arith, nat_tests)

-- after an exit a section is open if the remaining depth is not 0
exited : (depth nested : ℕ) (was_open : Bool) → 0 < depth → depth - 1 ≡ nested
    → was_open ≡ not (depth == 0)
    → (was_open && not (nested == 0)) ≡ not (depth - 1 == 0)
exited depth nested was_open deep same before = grind (arith, nat_tests)

-- a section is open exactly if the depth is not 0
pub open_where_nested : (cpu : ℕ) (online : Bool) (calls : List Call) → AreAccepted cpu online calls
    → is_open calls ≡ not ((after_calls cpu online calls).depth == 0)
open_where_nested cpu online [] accepted = refl
open_where_nested cpu online (Enter ∷ earlier) accepted =
    entered _ _ _ (depth_is_nesting cpu online earlier accepted.1)
    (open_where_nested cpu online earlier accepted.1)
open_where_nested cpu online (Exit ∷ earlier) accepted =
    let left = depth_is_nesting cpu online (Exit ∷ earlier) accepted in
    exited _ _ _ (accepted_exit (after_calls cpu online earlier) accepted.0) left
    (open_where_nested cpu online earlier accepted.1)
open_where_nested cpu online (_ ∷ earlier) accepted =
    and-true _ ∙ open_where_nested cpu online earlier accepted.1

-- a number above 1, less 1, is not 0
above_1 : (depth : ℕ) → 1 < depth → not (depth - 1 == 0) ≡ true
above_1 depth above = grind (arith, nat_tests)

-- an exit from above depth 1 leaves the section open
pub open_after_inner_exit : (cpu : ℕ) (online : Bool) (calls : List Call)
    → AreAccepted cpu online calls
    → 1 < (after_calls cpu online calls).depth → is_open (Exit ∷ calls) ≡ true
open_after_inner_exit cpu online calls accepted deep =
    let exit = exit_accepted (after_calls cpu online calls) (omega arith) in
    open_where_nested cpu online (Exit ∷ calls) (exit, accepted) ∙ above_1 _ deep

-- an exit from depth 1 leaves none open
pub closed_after_outer_exit : (cpu : ℕ) (online : Bool) (calls : List Call)
    → AreAccepted cpu online calls
    → (after_calls cpu online calls).depth ≡ 1 → is_open (Exit ∷ calls) ≡ false
closed_after_outer_exit cpu online calls accepted one =
    let exit = exit_accepted (after_calls cpu online calls) (omega arith) in
    open_where_nested cpu online (Exit ∷ calls) (exit, accepted)
    ∙ ap (λ depth. not (depth - 1 == 0)) one

-- the processor is online if it is by the calls
online_as_said : (cpu : ℕ) (online : Bool) (calls : List Call)
    → (after_calls cpu online calls).online ≡ is_online online calls
online_as_said cpu online [] = refl
online_as_said cpu online (Arrive _ ∷ earlier) = refl
online_as_said cpu online (Depart ∷ earlier) = refl
online_as_said cpu online (_ ∷ earlier) = online_as_said cpu online earlier

-- an offline processor has depth 0
offline_at_depth_0 : (cpu : ℕ) (online : Bool) (calls : List Call) → AreAccepted cpu online calls →
    (after_calls cpu online calls).online ≡ false → (after_calls cpu online calls).depth ≡ 0
offline_at_depth_0 cpu online [] accepted offline = refl
offline_at_depth_0 cpu online (Enter ∷ earlier) accepted offline = cc
offline_at_depth_0 cpu online (Exit ∷ earlier) accepted offline =
    let none = offline_at_depth_0 cpu online earlier accepted.1 offline in omega arith
offline_at_depth_0 cpu online (Arrive _ ∷ earlier) accepted offline = cc
offline_at_depth_0 cpu online (Depart ∷ earlier) accepted offline =
    (accepted_depart (after_calls cpu online earlier) accepted.0).1
offline_at_depth_0 cpu online (_ ∷ earlier) accepted offline =
    offline_at_depth_0 cpu online earlier accepted.1 offline

-- no section is open on an offline processor
pub closed_where_offline : (cpu : ℕ) (online : Bool) (calls : List Call)
    → AreAccepted cpu online calls
    → is_online online calls ≡ false → is_open calls ≡ false
closed_where_offline cpu online calls accepted offline =
    let none = offline_at_depth_0 cpu online calls accepted
    (online_as_said cpu online calls ∙ offline) in
    open_where_nested cpu online calls accepted ∙ ap (λ depth. not (depth == 0)) none

-- the processor is idle if it is by the calls
pub idle_as_said : (cpu : ℕ) (online : Bool) (calls : List Call)
    → (after_calls cpu online calls).idle ≡ is_idle calls
idle_as_said cpu online [] = refl
idle_as_said cpu online (Idle ∷ earlier) = refl
idle_as_said cpu online (Wake ∷ earlier) = refl
idle_as_said cpu online (Depart ∷ earlier) = refl
idle_as_said cpu online (Arrive _ ∷ earlier) = refl
idle_as_said cpu online (_ ∷ earlier) = idle_as_said cpu online earlier

-- an idle processor is online, at depth 0
idle_at_depth_0 : (cpu : ℕ) (online : Bool) (calls : List Call) → AreAccepted cpu online calls →
    (after_calls cpu online calls).idle ≡ true
    → ((after_calls cpu online calls).online ≡ true) × ((after_calls cpu online calls).depth ≡ 0)
idle_at_depth_0 cpu online [] accepted idle = cc
idle_at_depth_0 cpu online (Enter ∷ earlier) accepted idle =
    absurd (true≢false (sym idle ∙ (accepted_enter (after_calls cpu online earlier) accepted.0).1))
idle_at_depth_0 cpu online (Exit ∷ earlier) accepted idle =
    let before = idle_at_depth_0 cpu online earlier accepted.1 idle in (before.0, omega arith)
idle_at_depth_0 cpu online (Arrive _ ∷ earlier) accepted idle = cc
idle_at_depth_0 cpu online (Depart ∷ earlier) accepted idle = cc
idle_at_depth_0 cpu online (Idle ∷ earlier) accepted idle =
    let quiet = accepted_idle (after_calls cpu online earlier) accepted.0 in (quiet.0, quiet.2)
idle_at_depth_0 cpu online (Wake ∷ earlier) accepted idle = cc
idle_at_depth_0 cpu online (_ ∷ earlier) accepted idle =
    idle_at_depth_0 cpu online earlier accepted.1 idle

-- an idle processor is online
pub online_where_idle : (cpu : ℕ) (online : Bool) (calls : List Call) → AreAccepted cpu online calls
    → is_idle calls ≡ true → is_online online calls ≡ true
online_where_idle cpu online calls accepted idle =
    sym (online_as_said cpu online calls)
    ∙ (idle_at_depth_0 cpu online calls accepted (idle_as_said cpu online calls ∙ idle)).0

-- no section is open on an idle processor
pub closed_where_idle : (cpu : ℕ) (online : Bool) (calls : List Call) → AreAccepted cpu online calls
    → is_idle calls ≡ true → is_open calls ≡ false
closed_where_idle cpu online calls accepted idle =
    let none = (idle_at_depth_0 cpu online calls accepted (idle_as_said cpu online calls ∙ idle)).1
    in
    open_where_nested cpu online calls accepted ∙ ap (λ depth. not (depth == 0)) none

-- a number that is not tested to differ from 0 is 0
not_tested : (depth : ℕ) → not (depth == 0) ≡ false → depth ≡ 0
not_tested depth test = grind (arith, nat_tests)

-- a quiescent state is reported exactly if the processor is online and not idle and no section is
-- open
pub accepted_outside_sections : (cpu : ℕ) (online : Bool) (calls : List Call)
    → AreAccepted cpu online calls
    → IsAccepted (after_calls cpu online calls) Quiesce
    ↔ ((is_online online calls ≡ true) × (is_idle calls ≡ false) × (is_open calls ≡ false))
accepted_outside_sections cpu online calls accepted =
    let there = online_as_said cpu online calls in
    let awake = idle_as_said cpu online calls in
    let nested = open_where_nested cpu online calls accepted in (
      λ quiesces.
          let quiet = accepted_quiesce (after_calls cpu online calls) quiesces in (
            sym there ∙ quiet.0,
            sym awake ∙ quiet.1,
            nested ∙ ap (λ depth. not (depth == 0)) quiet.2,
          ),
      λ quiet.
          quiesce_accepted (after_calls cpu online calls) (there ∙ quiet.0) (awake ∙ quiet.1)
          (not_tested _ (sym nested ∙ quiet.2)),
    )

-- the processor keeps its number
cpu_stays : (cpu : ℕ) (online : Bool) (calls : List Call) → (after_calls cpu online calls).cpu ≡ cpu
cpu_stays cpu online [] = refl
cpu_stays cpu online (Enter ∷ earlier) = cpu_stays cpu online earlier
cpu_stays cpu online (_ ∷ earlier) = cpu_stays cpu online earlier

-- the noted number is that of the last note or arrival
noted_as_said : (cpu : ℕ) (online : Bool) (calls : List Call)
    → (after_calls cpu online calls).noted ≡ last_noted calls
noted_as_said cpu online [] = refl
noted_as_said cpu online (Note _ ∷ earlier) = refl
noted_as_said cpu online (Arrive _ ∷ earlier) = refl
noted_as_said cpu online (_ ∷ earlier) = noted_as_said cpu online earlier

-- the report is of the processor and of the number of the last note or arrival
pub report_as_said : (cpu : ℕ) (online : Bool) (calls : List Call) → AreAccepted cpu online calls →
    report_of (after_calls cpu online calls) ≡ record { cpu = cpu; tag = last_noted calls }
report_as_said cpu online calls accepted =
    rw (cpu_stays cpu online calls, noted_as_said cpu online calls)
