-- Facts that hold after every history of accepted events.
use Rattle.std.proofs.Common.{◌≡◌, ℕ, ◌+◌, ◌<◌, ◌≤◌, Bool, true, false, cond, eqb, [], ◌∷◌, None}
use Rattle.std.proofs.Common.{subst, arith}
use Rattle.std.proofs.lemmas.Bool.Decides.{nat_tests}
use Rattle.std.proofs.lemmas.List.Sums.{sum_by-cons}
use Rattle.rcu_core.specs.History.{History, begins, ends, enters, exits, enter_count, exit_count}
use Rattle.rcu_core.specs.History.{depth, awaits, is_idle}
use Rattle.std.specs.Prelude.{count_by}
use Rattle.rcu_core.specs.Callbacks.{queue_count, queues}
use Rattle.rcu_core.specs.Replies.{Size, fault_in, AreAccepted}
use Rattle.rcu_core.specs.Situation.{situation}
use Rattle.rcu_core.specs.declared.event.Event.{Event}
use Rattle.rcu_core.specs.declared.event.Event.TheVariants.{Enter, Exit, Quiesce, Offline, Begin}
use Rattle.rcu_core.specs.declared.event.Event.TheVariants.{End, Queue, Idle, Scan}
use Rattle.rcu_core.proofs.Counting.{none_passes}

-- one event more, counted if it passes the test
counted : (test : Event → Bool) (e : Event) (h : History)
    → count_by test (e ∷ h) ≡ cond (test e) 1 0 + count_by test h
counted test e h = sum_by-cons (λ e. cond (test e) 1 0) e h

-- a begin, an end, an enter, an exit and a queue event are counted
pub begin_counts : (h : History) → count_by begins (Begin ∷ h) ≡ 1 + count_by begins h
begin_counts h = counted begins Begin h

pub end_counts : (h : History) → count_by ends (End ∷ h) ≡ 1 + count_by ends h
end_counts h = counted ends End h

pub enter_counts : (c d : ℕ) (h : History)
    → enter_count c (Enter d ∷ h) ≡ cond (eqb d c) 1 0 + enter_count c h
enter_counts c d h = counted (enters c) (Enter d) h

pub exit_counts : (c d : ℕ) (h : History)
    → exit_count c (Exit d ∷ h) ≡ cond (eqb d c) 1 0 + exit_count c h
exit_counts c d h = counted (exits c) (Exit d) h

pub queue_counts : (c value : ℕ) (h : History) → queue_count (Queue c value ∷ h) ≡ 1 + queue_count h
queue_counts c value h = counted queues (Queue c value) h

-- grace periods begin and end in turn
pub record Turns (h : History) : Type 0 where
  pub ends_le : count_by ends h ≤ count_by begins h
  pub begins_le : count_by begins h ≤ count_by ends h + 1

pub turns_step : (s : Size) (e : Event) (h : History) → fault_in s (situation h) e ≡ None → Turns h
    → Turns (e ∷ h)
turns_step s Begin h p t = let n = begin_counts h in
    record { ends_le = grind (arith, nat_tests); begins_le = grind (arith, nat_tests) }
turns_step s End h p t = let n = end_counts h in
    record { ends_le = grind (arith, nat_tests); begins_le = grind (arith, nat_tests) }
turns_step s _ h p t = record { ends_le = omega arith; begins_le = omega arith }

pub turns : (s : Size) (h : History) → AreAccepted s h → Turns h
turns s [] p = record { ends_le = omega arith; begins_le = omega arith }
turns s (e ∷ h) p = turns_step s e h p.0 (turns s h p.1)

-- if a grace period may end, no processor is awaited
pub none_awaited : (s : Size) (h : History)
    → fault_in s (situation h) End ≡ None → (c : ℕ) → c < s.cpus → awaits c h ≡ false
none_awaited s h p c l = none_passes s.cpus (λ d. awaits d h) (grind (arith, nat_tests)) c l

-- a section is open if an exit is accepted
is_inside : (s : Size) (c d : ℕ) (h : History) → fault_in s (situation h) (Exit d) ≡ None → d ≡ c
    → 0 < depth c h
is_inside s c d h p e = subst (λ k. 0 < depth k h) e (grind (arith, nat_tests))

-- none is open when a report is made, or when the processor departs
pub quiet_where_reported : (s : Size) (c d : ℕ) (h : History)
    → fault_in s (situation h) (Quiesce d) ≡ None → d ≡ c → depth c h ≡ 0
quiet_where_reported s c d h p e = subst (λ k. depth k h ≡ 0) e (grind (arith, nat_tests))

pub quiet_where_departed : (s : Size) (c d : ℕ) (h : History)
    → fault_in s (situation h) (Offline d) ≡ None → d ≡ c → depth c h ≡ 0
quiet_where_departed s c d h p e = subst (λ k. depth k h ≡ 0) e (grind (arith, nat_tests))

-- none is open when the processor goes idle, or when a scan finds it idle
pub quiet_where_idle : (s : Size) (c d : ℕ) (h : History)
    → fault_in s (situation h) (Idle d) ≡ None → d ≡ c → depth c h ≡ 0
quiet_where_idle s c d h p e = subst (λ k. depth k h ≡ 0) e (grind (arith, nat_tests))

pub idle_where_scanned : (s : Size) (c d : ℕ) (h : History)
    → fault_in s (situation h) (Scan d) ≡ None → d ≡ c → is_idle c h ≡ true
idle_where_scanned s c d h p e = subst (λ k. is_idle k h ≡ true) e (grind (arith, nat_tests))

-- a processor exits at most as often as it entered
pub exits_step : (s : Size) (c : ℕ) (e : Event) (h : History) → fault_in s (situation h) e ≡ None
    → exit_count c h ≤ enter_count c h → exit_count c (e ∷ h) ≤ enter_count c (e ∷ h)
exits_step s c (Enter d) h p le = let n = enter_counts c d h in grind (arith, nat_tests)
exits_step s c (Exit d) h p le =
    let n = exit_counts c d h in let q = is_inside s c d h p in grind (arith, nat_tests)
exits_step s c _ h p le = omega arith

pub exits_le : (s : Size) (c : ℕ) (h : History) → AreAccepted s h → exit_count c h ≤ enter_count c h
exits_le s c [] p = omega arith
exits_le s c (e ∷ h) p = exits_step s c e h p.0 (exits_le s c h p.1)
