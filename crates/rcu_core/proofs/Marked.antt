-- Once each processor was visited, and each callback queued before that was handed out, no marker
-- is left.
use Rattle.std.proofs.Common.{◌≡◌, ℕ, zero, suc, ◌+◌, ◌<◌, ◌≤◌, Bool, true, false, not, ◌&&◌, ◌||◌}
use Rattle.std.proofs.Common.{List, [], ◌∷◌, ◌++◌, length, None, Some, refl, ap, ◌∙◌, arith}
use Rattle.std.proofs.Common.{cond, eqb, inl, inr}
use Rattle.std.specs.Prelude.{All}
use Rattle.std.specs.List.{list_any}
use Rattle.std.proofs.lemmas.Bool.{or_parts}
use Rattle.std.proofs.lemmas.Bool.Decides.{nat_tests}
use Rattle.std.proofs.lemmas.List.Elements.{All-head, All-tail}
use Rattle.rcu_cblist.specs.SegList.{Item, Of, Marker, Unmarked}
use Rattle.rcu_cblist.specs.SegList.{after_migrate, after_take, as_it_leaves}
use Rattle.rcu_cblist.specs.SegList.{mark_renumbered, markers, take_answer}
use Rattle.rcu_barrier.specs.Tending.{mark_after_tend, after_tend}
use Rattle.rcu_barrier.proofs.EachCallback.{Each}
use Rattle.rcu_barrier.proofs.Led.{AtMost, Led, led-append, led-from, led-leaving, led-more}
use Rattle.rcu_barrier.proofs.Led.{led-moved, led-remarked, led-unowed, no_marker}
use Rattle.rcu_barrier.proofs.Places.{lies, lies-append, lies-cut, lies-leaving, lies-moved}
use Rattle.rcu_barrier.proofs.Places.{lies-remarked}
use Rattle.rcu_core.specs.Callbacks.{barrier_runs, ends_barrier, is_owed, list, queue_count}
use Rattle.rcu_core.specs.Callbacks.{times_handed_out, was_visited}
use Rattle.rcu_core.specs.History.{History, number, tag_now}
use Rattle.rcu_core.specs.Replies.{Size, fault_in, waits_for, AreAccepted, IsLegalReply, or_fault}
use Rattle.rcu_seq.specs.declared.fault.Fault.TheVariants as fault
use Rattle.rcu_core.specs.Situation.{situation}
use Rattle.rcu_core.specs.declared.event.Event.{Event}
use Rattle.rcu_core.specs.declared.event.Event.TheVariants.{Offline, Queue, Tend, Run, BarBegin}
use Rattle.rcu_core.specs.declared.event.Event.TheVariants.{Visit, BarTest, Renumber}
use Rattle.rcu_core.specs.declared.reply.Reply.{Reply}
use Rattle.rcu_core.specs.declared.reply.Reply.TheVariants as reply
use Rattle.rcu_core.proofs.Covered.{sum_zero}
use Rattle.rcu_core.proofs.Finishing.{earlier_accepted}
use Rattle.rcu_core.proofs.Kept.{queue_counts}
use Rattle.rcu_core.proofs.Lost.{sums_are}
use Rattle.rcu_core.proofs.Maturing.{one_part, queued_later}
use Rattle.rcu_core.proofs.Once.{queued_once}
use Rattle.rcu_core.proofs.Waited.{KeptItem, lists_kept}

led_cond : (q : ℕ) (b : Bool) (xs ys : List (Item ℕ)) → Led q false xs → Led q false ys
    → Led q false (cond b xs ys)
led_cond q true xs ys l m = l
led_cond q false xs ys l m = m

lies_if : (j : ℕ) (b : Bool) (xs ys : List (Item ℕ)) → lies j xs ≡ 0 → lies j ys ≡ 0
    → lies j (cond b xs ys) ≡ 0
lies_if j true xs ys i k = i
lies_if j false xs ys i k = k

-- places count from 1
zero_nowhere : (h : History) (c : ℕ) → lies 0 (list c h) ≡ 0
zero_nowhere [] c = refl
zero_nowhere (Queue d y ∷ h) c =
    let i = zero_nowhere h c in
    let new : Item ℕ =
    Of (record { ord = queue_count h + 1; at = tag_now h; value = y }) Unmarked in
    let a = lies-append 0 (list c h) (new ∷ []) in
    let n : lies 0 (new ∷ []) ≡ 0 = not_zero (queue_count h) in
    lies_if 0 (eqb d c) (list c h ++ new ∷ []) (list c h) (omega (arith, i, a, n)) i
  where
    not_zero : (n : ℕ) → cond {A = ℕ} (eqb (n + 1) 0) 1 0 + 0 ≡ 0
    not_zero n = grind (arith, nat_tests)
zero_nowhere (Tend d ∷ h) c =
    let i = zero_nowhere h c in
    lies_if 0 (eqb d c) (after_tend (list c h) (number h)) (list c h)
    (lies-remarked 0 (mark_after_tend (number h)) (list c h) ∙ i) i
zero_nowhere (Run d m ∷ h) c =
    let i = zero_nowhere h c in
    let a = lies-cut 0 m (list c h) in
    lies_if 0 (eqb d c) (after_take (list c h) m) (list c h) (omega (arith, a, i)) i
zero_nowhere (Visit d ∷ h) c =
    let i = zero_nowhere h c in
    lies_if 0 (eqb d c) (as_it_leaves (list c h) (is_owed d h)) (list c h)
    (lies-leaving 0 (is_owed d h) (list c h) ∙ i) i
zero_nowhere (Offline d ∷ h) c =
    let i = zero_nowhere h c in
    let xs = as_it_leaves (list d h) (is_owed d h) in
    let k = lies-leaving 0 (is_owed d h) (list d h) in
    let l = zero_nowhere h d in
    let a = lies-moved 0 xs (list c h) in
    lies_if 0 (eqb d c) [] (cond (eqb c 0) (after_migrate (list c h) xs) (list c h)) refl
    (lies_if 0 (eqb c 0) (after_migrate (list c h) xs) (list c h) (omega (arith, a, k, l, i)) i)
zero_nowhere (Renumber ∷ h) c = lies-remarked 0 mark_renumbered (list c h) ∙ zero_nowhere h c
zero_nowhere (e ∷ h) c = zero_nowhere h c

-- in every history each marker is behind a callback that was queued
at_most_each : (s : Size) (h : History) (xs : List (Item ℕ)) → All (KeptItem s h) xs
    → Each (AtMost (queue_count h)) xs
at_most_each s h [] a = tt
at_most_each s h (Marker ∷ xs) a = at_most_each s h xs (All-tail (KeptItem s h) Marker xs a)
at_most_each s h (Of call mark ∷ xs) a = (
  (All-head (KeptItem s h) (Of call mark) xs a).was,
  at_most_each s h xs (All-tail (KeptItem s h) (Of call mark) xs a),
)

led_step : (s : Size) (e : Event) (h : History) → AreAccepted s h
    → ((c : ℕ) → Led (queue_count h) false (list c h))
    → (c : ℕ) → Led (queue_count (e ∷ h)) false (list c (e ∷ h))
led_step s (Queue d y) h p f c =
    let n = queue_counts d y h in
    let q = queue_count h in
    let new : Item ℕ =
    Of (record { ord = queue_count h + 1; at = tag_now h; value = y }) Unmarked in
    led-more q (queue_count (Queue d y ∷ h)) false false
    (cond (eqb d c) (list c h ++ new ∷ []) (list c h)) (omega (arith, n)) (λ i. i)
    (led_cond q (eqb d c) (list c h ++ new ∷ []) (list c h)
    (led-append q false (list c h) (new ∷ []) (f c) tt) (f c))
led_step s (Tend d) h p f c =
    led_cond (queue_count h) (eqb d c) (after_tend (list c h) (number h)) (list c h)
    (led-remarked (queue_count h) false (mark_after_tend (number h)) (list c h) (f c)) (f c)
led_step s (Run d m) h p f c =
    led_cond (queue_count h) (eqb d c) (after_take (list c h) m) (list c h)
    (led-from (queue_count h) false (length (take_answer (list c h) m)) (list c h) (f c)) (f c)
led_step s (Visit d) h p f c =
    led_cond (queue_count h) (eqb d c) (as_it_leaves (list c h) (is_owed d h)) (list c h)
    (led-leaving (queue_count h) (is_owed d h) (list c h)
    (at_most_each s h (list c h) (lists_kept s h p c)) (f c))
    (f c)
led_step s (Offline d) h p f c =
    let xs = as_it_leaves (list d h) (is_owed d h) in
    let q = queue_count h in
    let l = led-leaving q (is_owed d h) (list d h)
    (at_most_each s h (list d h) (lists_kept s h p d)) (f d) in
    led_cond q (eqb d c) [] (cond (eqb c 0) (after_migrate (list c h) xs) (list c h)) tt
    (led_cond q (eqb c 0) (after_migrate (list c h) xs) (list c h)
    (led-moved q xs (list c h) l (f c)) (f c))
led_step s Renumber h p f c =
    led-remarked (queue_count h) false mark_renumbered (list c h) (f c)
led_step s e h p f c = f c

led_each : (s : Size) (h : History) → AreAccepted s h → (c : ℕ)
    → Led (queue_count h) false (list c h)
led_each s [] p c = tt
led_each s (e ∷ h) p c = led_step s e h p.1 (led_each s h p.1) c

-- a barrier that visited each processor
pub record Visited (s : Size) (q : ℕ) (h : History) : Type 0 where
  pub runs : barrier_runs h ≡ true
  pub none : (c : ℕ) → c < s.cpus → is_owed c h ≡ false
  pub led : (c : ℕ) → Led q false (list c h)

still_visited : (r v w : Bool) → r ≡ true → (r && not v) ≡ false → (r && not (w || v)) ≡ false
still_visited true true true i j = refl
still_visited true true false i j = refl
still_visited true false w i j = absurd (cc)
still_visited false v w i j = refl

visited_step : (s : Size) (q : ℕ) (e : Event) (h : History) → fault_in s (situation h) e ≡ None
    → ends_barrier e ≡ false → Visited s q h → Visited s q (e ∷ h)
visited_step s q BarBegin h p n f = let r = f.runs in absurd (grind (arith, nat_tests))
visited_step s q BarTest h p n f = absurd (cc)
visited_step s q (Queue d y) h p n f =
    let new : Item ℕ =
    Of (record { ord = queue_count h + 1; at = tag_now h; value = y }) Unmarked in
    record {
      runs = f.runs;
      none = f.none;
      led = λ c. led_cond q (eqb d c) (list c h ++ new ∷ []) (list c h)
          (led-append q false (list c h) (new ∷ []) (f.led c) tt) (f.led c);
    }
visited_step s q (Tend d) h p n f = record {
  runs = f.runs;
  none = f.none;
  led = λ c. led_cond q (eqb d c) (after_tend (list c h) (number h)) (list c h)
      (led-remarked q false (mark_after_tend (number h)) (list c h) (f.led c)) (f.led c);
}
visited_step s q (Run d m) h p n f = record {
  runs = f.runs;
  none = f.none;
  led = λ c. led_cond q (eqb d c) (after_take (list c h) m) (list c h)
      (led-from q false (length (take_answer (list c h) m)) (list c h) (f.led c)) (f.led c);
}
visited_step s q (Visit d) h p n f =
    let inside : d < s.cpus = grind (arith, nat_tests) in
    record {
      runs = f.runs;
      none = λ c l. still_visited (barrier_runs h) (was_visited c h) (eqb d c) f.runs (f.none c l);
      led = λ c. led_cond q (eqb d c) (as_it_leaves (list c h) (is_owed d h)) (list c h)
          (led-unowed q (is_owed d h) (list c h) (f.none d inside) (f.led c)) (f.led c);
    }
visited_step s q (Offline d) h p n f =
    let inside : d < s.cpus = grind (arith, nat_tests) in
    let xs = as_it_leaves (list d h) (is_owed d h) in
    let l = led-unowed q (is_owed d h) (list d h) (f.none d inside) (f.led d) in
    record {
      runs = f.runs;
      none = λ c l. still_visited (barrier_runs h) (was_visited c h) (eqb d c) f.runs (f.none c l);
      led = λ c. led_cond q (eqb d c) []
          (cond (eqb c 0) (after_migrate (list c h) xs) (list c h)) tt
          (led_cond q (eqb c 0) (after_migrate (list c h) xs) (list c h)
          (led-moved q xs (list c h) l (f.led c)) (f.led c));
    }
visited_step s q Renumber h p n f = record {
  runs = f.runs;
  none = f.none;
  led = λ c. led-remarked q false mark_renumbered (list c h) (f.led c);
}
visited_step s q e h p n f = record { runs = f.runs; none = f.none; led = f.led }

visited_later : (s : Size) (q : ℕ) (later h : History) → AreAccepted s (later ++ h)
    → list_any ends_barrier later ≡ false → Visited s q h → Visited s q (later ++ h)
visited_later s q [] h p n f = f
visited_later s q (e ∷ later) h p n f =
    let o = or_parts (ends_barrier e) (list_any ends_barrier later) n in
    visited_step s q e (later ++ h) p.0 o.0 (visited_later s q later h p.1 o.1 f)

-- a callback that was handed out is in no list
lies_nowhere : (s : Size) (later h : History) (j c : ℕ) → AreAccepted s (later ++ h)
    → c < s.cpus → 0 < j → j ≤ queue_count h → times_handed_out j (later ++ h) ≡ 1
    → lies j (list c (later ++ h)) ≡ 0
lies_nowhere s later h j c p l z b t =
    let k = later ++ h in
    let o = queued_once s j k p z (queued_later j later h b) in
    let m = one_part s.cpus (λ c. lies j (list c k)) c l in
    omega (arith, o, m, t)

pub nothing_left : (s : Size) (later h : History) → AreAccepted s (later ++ h)
    → barrier_runs h ≡ true
    → ((c : ℕ) → c < s.cpus → is_owed c h ≡ false)
    → list_any ends_barrier later ≡ false
    → ((j : ℕ) → 0 < j → j ≤ queue_count h → times_handed_out j (later ++ h) ≡ 1)
    → (barrier_runs (later ++ h) ≡ true) × (waits_for s (situation (later ++ h)) ≡ 0)
nothing_left s later h p r v n out =
    let k = later ++ h in
    let q = queue_count h in
    let a = earlier_accepted s later h p in
    let f = visited_later s q later h p n (record { runs = r; none = v; led = led_each s h a }) in
    let none : (c : ℕ) → c < s.cpus → markers (list c k) ≡ 0 =
    λ c l. no_marker q (list c k) (gone c l) (f.led c) in
    let m = sums_are s.cpus (λ c. markers (list c k)) (λ c. markers (list c k)) (λ c. refl) in
    let x = sum_zero s.cpus (λ c. markers (list c k)) none in
    let u = sums_are s.cpus (λ c. cond (is_owed c k) 1 0) (λ c. cond (is_owed c k) 1 0)
    (λ c. refl) in
    let y = sum_zero s.cpus (λ c. cond (is_owed c k) 1 0)
    (λ c l. ap (λ b. cond {A = ℕ} b 1 0) (f.none c l)) in
    (f.runs, omega (arith, m, x, u, y))
  where
    gone : (c : ℕ) → c < s.cpus → (j : ℕ) → j ≤ queue_count h → lies j (list c (later ++ h)) ≡ 0
    gone c l zero b = zero_nowhere (later ++ h) c
    gone c l (suc j) b =
        lies_nowhere s later h (suc j) c p l (omega arith) b (out (suc j) (omega arith) b)

test_said : (s : Size) (h : History) (r : Reply) → barrier_runs h ≡ true
    → waits_for s (situation h) ≡ 0 → IsLegalReply s (situation h) BarTest r → r ≡ reply.BarDone
test_said s h r b w (inl i) = i ∙ said (barrier_runs h) (waits_for s (situation h)) b w
  where
    said : (b : Bool) (n : ℕ) → b ≡ true → n ≡ 0
        → or_fault (cond (not b) (Some fault.NoBarrier) None)
        (cond (eqb n 0) reply.BarDone (reply.BarWaits n))
        ≡ reply.BarDone
    said b n i j = rw (i, j) refl
test_said s h r b w (inr i) = absurd (cc)

pub barrier_finishes : (s : Size) (later h : History) (r : Reply) → AreAccepted s (later ++ h)
    → barrier_runs h ≡ true
    → ((c : ℕ) → c < s.cpus → is_owed c h ≡ false)
    → list_any ends_barrier later ≡ false
    → ((j : ℕ) → 0 < j → j ≤ queue_count h → times_handed_out j (later ++ h) ≡ 1)
    → IsLegalReply s (situation (later ++ h)) BarTest r
    → r ≡ reply.BarDone
barrier_finishes s later h r p b v n out l =
    let o = nothing_left s later h p b v n out in test_said s (later ++ h) r o.0 o.1 l
