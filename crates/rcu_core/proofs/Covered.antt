-- While a barrier runs, each callback from before its begin has a marker behind it if its list was
-- visited.
use Rattle.std.proofs.Common.{◌≡◌, ℕ, zero, suc, ◌+◌, ◌<◌, ◌≤◌, Bool, true, false, not, ◌&&◌, ◌||◌}
use Rattle.std.proofs.Common.{List, [], ◌∷◌, ◌++◌, length, None, Some, refl, ◌∙◌, arith, cond, eqb}
use Rattle.std.proofs.Common.{get_or, inl, inr}
use Rattle.std.specs.Prelude.{sum_by}
use Rattle.std.specs.List.{range_with_len}
use Rattle.std.proofs.lemmas.Bool.{eqb-true}
use Rattle.std.proofs.lemmas.List.FromFn.{length-range_with_len, get_or-range_with_len}
use Rattle.std.proofs.lemmas.List.Sums.{get_or-le-sum_by}
use Rattle.rcu_seq.specs.declared.fault.Fault.TheVariants as fault
use Rattle.rcu_cblist.specs.SegList.{Item, Of, Unmarked, after_migrate, after_take, as_it_leaves}
use Rattle.rcu_cblist.specs.SegList.{mark_renumbered, markers, take_answer}
use Rattle.rcu_barrier.specs.Tending.{mark_after_tend, after_tend}
use Rattle.rcu_barrier.proofs.Covering.{Covered, covered-append, covered-from, covered-leaving}
use Rattle.rcu_barrier.proofs.Covering.{covered-moved, covered-remarked, none_left}
use Rattle.rcu_barrier.proofs.Places.{lies}
use Rattle.rcu_core.specs.Callbacks.{barrier_runs, is_owed, list, queue_count}
use Rattle.rcu_core.specs.Callbacks.{queued_before_barrier, times_handed_out, was_visited}
use Rattle.rcu_core.specs.History.{History, number, tag_now}
use Rattle.rcu_core.specs.Replies.{Size, fault_in, how_many, or_fault, waits_for, AreAccepted}
use Rattle.rcu_core.specs.Replies.{IsLegalReply}
use Rattle.rcu_core.specs.Situation.{situation}
use Rattle.rcu_core.specs.Runs.{IsLegalRun, history, Run as Trace}
use Rattle.rcu_core.specs.declared.event.Event.{Event}
use Rattle.rcu_core.specs.declared.event.Event.TheVariants.{Offline, Queue, Tend, Run, BarBegin}
use Rattle.rcu_core.specs.declared.event.Event.TheVariants.{Visit, BarTest, Renumber}
use Rattle.rcu_core.specs.declared.reply.Reply.TheVariants as reply
use Rattle.rcu_core.proofs.Counting.{none_passes}
use Rattle.rcu_core.proofs.Kept.{queue_counts}
use Rattle.rcu_core.proofs.Once.{sum_below, then_once}
use Rattle.rcu_core.proofs.Readers.{possible}

covered-cond : (b : ℕ) (t : Bool) (xs ys : List (Item ℕ))
    → (t ≡ true → Covered b xs) → (t ≡ false → Covered b ys) → Covered b (cond t xs ys)
covered-cond b true xs ys f g = f refl
covered-cond b false xs ys f g = g refl

or_rest : (a b : Bool) → a ≡ false → (a || b) ≡ true → b ≡ true
or_rest true b e v = absurd (cc)
or_rest false b e v = v

-- while a barrier runs, the list of each processor that it visited is covered
record Barrier (h : History) : Type 0 where
  pub covered : barrier_runs h ≡ true → (c : ℕ) → was_visited c h ≡ true
      → Covered (queued_before_barrier h) (list c h)
  pub before_le : queued_before_barrier h ≤ queue_count h

abbrev new_item : ℕ → History → Item ℕ
new_item y h = Of (record { ord = queue_count h + 1; at = tag_now h; value = y }) Unmarked

barrier_step : (s : Size) (e : Event) (h : History) → fault_in s (situation h) e ≡ None → Barrier h
    → Barrier (e ∷ h)
barrier_step s BarBegin h p f = record { covered = λ r c v. absurd (cc); before_le = omega arith }
barrier_step s BarTest h p f = record { covered = λ r c v. absurd (cc); before_le = f.before_le }
barrier_step s (Queue d y) h p f = let n = queue_counts d y h in let b = queued_before_barrier h in
    let k = f.before_le in record {
      covered = λ r c v. covered-cond b (eqb d c) (list c h ++ new_item y h ∷ []) (list c h)
          (λ e. covered-append b (list c h) (new_item y h ∷ []) (f.covered r c v)
          ((λ l. absurd (omega (arith, k, l))), tt))
          (λ e. f.covered r c v);
      before_le = omega (arith, k, n);
    }
barrier_step s (Tend d) h p f =
    let b = queued_before_barrier h in
    record {
      covered = λ r c v. covered-cond b (eqb d c) (after_tend (list c h) (number h)) (list c h)
          (λ e. covered-remarked b (mark_after_tend (number h)) (list c h) (f.covered r c v))
          (λ e. f.covered r c v);
      before_le = f.before_le;
    }
barrier_step s (Run d m) h p f =
    let b = queued_before_barrier h in
    record {
      covered = λ r c v. covered-cond b (eqb d c) (after_take (list c h) m) (list c h)
          (λ e. covered-from b (length (take_answer (list c h) m)) (list c h) (f.covered r c v))
          (λ e. f.covered r c v);
      before_le = f.before_le;
    }
barrier_step s (Visit d) h p f = let b = queued_before_barrier h in record {
  covered = λ r c v. covered-cond b (eqb d c) (as_it_leaves (list c h) (is_owed d h)) (list c h)
      (λ e. covered-leaving b (barrier_runs h) (was_visited d h) (list c h) r
      (λ w. f.covered r c (rw (← eqb-true d c e) w)))
      (λ e. f.covered r c (or_rest (eqb d c) (was_visited c h) e v));
  before_le = f.before_le;
}
barrier_step s (Offline d) h p f =
    let b = queued_before_barrier h in
    let xs = as_it_leaves (list d h) (is_owed d h) in
    record {
      covered = λ r c v. covered-cond b (eqb d c) []
          (cond (eqb c 0) (after_migrate (list c h) xs) (list c h)) (λ e. tt)
          (λ e.
          let old = f.covered r c (or_rest (eqb d c) (was_visited c h) e v) in
          covered-cond b (eqb c 0) (after_migrate (list c h) xs) (list c h)
          (λ z. covered-moved b xs (list c h)
          (covered-leaving b (barrier_runs h) (was_visited d h) (list d h) r (λ w. f.covered r d w))
          old)
          (λ z. old));
      before_le = f.before_le;
    }
barrier_step s Renumber h p f = record {
  covered = λ r c v.
      covered-remarked (queued_before_barrier h) mark_renumbered (list c h) (f.covered r c v);
  before_le = f.before_le;
}
barrier_step s _ h p f = record { covered = f.covered; before_le = f.before_le }

barrier_each : (s : Size) (h : History) → AreAccepted s h → Barrier h
barrier_each s [] p = record { covered = λ r c v. absurd (cc); before_le = omega arith }
barrier_each s (e ∷ h) p = barrier_step s e h p.0 (barrier_each s h p.1)

pub sum_zero : (n : ℕ) (f : ℕ → ℕ) → ((c : ℕ) → c < n → f c ≡ 0) → sum_below n f ≡ 0
sum_zero zero f h = refl
sum_zero (suc n) f h =
    let a = h n (omega arith) in
    let b = sum_zero n f (λ c l. h c (omega arith)) in
    omega (arith, a, b)

-- if a sum over the processors is 0, each part is
zero_each : (n : ℕ) (f : ℕ → ℕ) → sum_by f (range_with_len 0 n) ≡ 0 → (c : ℕ) → c < n → f c ≡ 0
zero_each n f e c l =
    let here : c < length (range_with_len 0 n) = omega (arith, length-range_with_len 0 n) in
    let le : f (get_or (range_with_len 0 n) c 0) ≤ sum_by f (range_with_len 0 n) =
    get_or-le-sum_by f (range_with_len 0 n) c 0 here in
    let at : get_or (range_with_len 0 n) c 0 ≡ c = get_or-range_with_len 0 n c 0 l ∙ omega arith in
    let m : f c ≤ sum_by f (range_with_len 0 n) = rw at at le in
    omega (arith, m, e)

-- if the test of a running barrier finds nothing, every callback from before its begin was handed
-- out
covered_once : (s : Size) (h : History) (j : ℕ) → AreAccepted s h → barrier_runs h ≡ true
    → waits_for s (situation h) ≡ 0 → 0 < j → j ≤ queued_before_barrier h → times_handed_out j h ≡ 1
covered_once s h j p r u z b =
    let f = barrier_each s h p in
    let k = f.before_le in
    let m : sum_by (λ c. markers (list c h)) (range_with_len 0 s.cpus) ≡ 0 = omega (arith, u) in
    let o : how_many s (λ c. is_owed c h) ≡ 0 = omega (arith, u) in
    then_once s j h p z (omega (arith, k, b))
    (sum_zero s.cpus (λ c. lies j (list c h)) (λ c l.
    none_left (queued_before_barrier h) j (list c h)
    (f.covered r c
    (not_owed (barrier_runs h) (was_visited c h) r (none_passes s.cpus (λ c. is_owed c h) o c l)))
    (zero_each s.cpus (λ c. markers (list c h)) m c l) b))
  where
    not_owed : (a v : Bool) → a ≡ true → (a && not v) ≡ false → v ≡ true
    not_owed true true e f = refl
    not_owed true false e f = absurd (cc)
    not_owed false v e f = absurd (cc)

told_done : (b : Bool) (n : ℕ)
    → eqb n 0 ≡ b → reply.BarDone ≡ cond b reply.BarDone (reply.BarWaits n) → n ≡ 0
told_done true n i e = eqb-true n 0 i
told_done false n i e = absurd (cc)

done_parts : (r : Bool) (n : ℕ)
    → reply.BarDone
    ≡ or_fault (cond (not r) (Some fault.NoBarrier) None)
    (cond (eqb n 0) reply.BarDone (reply.BarWaits n))
    → (r ≡ true) × (n ≡ 0)
done_parts true n e = (refl, told_done (eqb n 0) n refl e)
done_parts false n e = absurd (cc)

test_done : (s : Size) (h : History) → IsLegalReply s (situation h) BarTest reply.BarDone
    → (barrier_runs h ≡ true) × (waits_for s (situation h) ≡ 0)
test_done s h (inl i) = done_parts (barrier_runs h) (waits_for s (situation h)) i
test_done s h (inr i) = absurd (cc)

pub earlier_are_handed : (s : Size) (run : Trace) (j : ℕ)
    → IsLegalRun s ((BarTest, reply.BarDone) ∷ run)
    → 0 < j
    → j ≤ queued_before_barrier (history run)
    → times_handed_out j (history run) ≡ 1
earlier_are_handed s run j l z b =
    let h = history run in
    let q = test_done s h l.0 in
    covered_once s h j (possible s run l.1) q.0 q.1 z b
