-- After a tend, a full grace period and a tend, each callback that was in the list is done.
use Rattle.std.proofs.Common.{◌≡◌, ◌≢◌, ℕ, zero, suc, ◌+◌, ◌<◌, ◌≤◌, true, false, List, [], ◌∷◌}
use Rattle.std.proofs.Common.{◌++◌, length, None, refl, sym, ap, ◌∙◌, subst, arith, cond, eqb, ◌*◌}
use Rattle.std.proofs.Common.{◌%◌, append-nil, inl, inr, ne_eqb, eq-eqb}
use Rattle.std.specs.Prelude.{All}
use Rattle.std.specs.List.{list_any}
use Rattle.std.proofs.Math.Nat.{eq-or-lt_of_le}
use Rattle.std.proofs.lemmas.Bool.{cases_eq, or_parts}
use Rattle.std.proofs.lemmas.Bool.Decides.{nat_tests}
use Rattle.std.proofs.lemmas.List.{take_all}
use Rattle.std.proofs.lemmas.List.Elements.{All-nil, All-push, All-weaker, All-map}
use Rattle.rcu_seq.specs.Numbers.{snapshot}
use Rattle.rcu_cblist.specs.SegList.{Item, Of, Unmarked, behind, after_migrate, after_take}
use Rattle.rcu_cblist.specs.SegList.{as_it_leaves, callbacks, front, mark_renumbered, remarked}
use Rattle.rcu_cblist.specs.SegList.{take_answer}
use Rattle.rcu_cblist.proofs.SegListLemmas.{each_moved, each_untaken}
use Rattle.rcu_barrier.specs.Runs.{copies}
use Rattle.rcu_barrier.specs.Tending.{mark_after_tend, after_tend}
use Rattle.rcu_barrier.proofs.Maturing.{MarkedBy, Parted, Soon, each_leaving, lies_cond}
use Rattle.rcu_barrier.proofs.Maturing.{marked_anew, marked_later, marked_tended, none_behind}
use Rattle.rcu_barrier.proofs.Maturing.{parted_append}
use Rattle.rcu_barrier.proofs.Maturing.{parted_cond, parted_from, parted_leaving, parted_moved}
use Rattle.rcu_barrier.proofs.Maturing.{parted_remarked, soon_at_first, soon_tended, unmarked_by}
use Rattle.rcu_barrier.proofs.Places.{copies_are, lies, lies-append, lies-cut, lies-leaving}
use Rattle.rcu_barrier.proofs.Places.{lies-moved, lies-parts, lies-remarked}
use Rattle.rcu_core.specs.Callbacks.{has_full_period, is_owed, list, queue_count, times_handed_out}
use Rattle.rcu_core.specs.History.{History, departs, epoch, number, renumbers, tag_now}
use Rattle.rcu_core.specs.Replies.{Size, fault_in, AreAccepted}
use Rattle.rcu_core.specs.Situation.{situation}
use Rattle.rcu_core.specs.declared.event.Event.{Event}
use Rattle.rcu_core.specs.declared.event.Event.TheVariants.{Offline, Begin, End, Queue, Tend, Run}
use Rattle.rcu_core.specs.declared.event.Event.TheVariants.{Visit, Renumber}
use Rattle.rcu_core.proofs.Clocks.{base_is_by_fours, clock, in_epoch}
use Rattle.rcu_core.proofs.Finishing.{earlier_accepted, passed}
use Rattle.rcu_core.proofs.Kept.{Turns, begin_counts, end_counts, queue_counts, turns}
use Rattle.rcu_core.proofs.Once.{at_most_once, queued_once, sum_below}
use Rattle.rcu_core.proofs.Writes.{eqb_self}
use Rattle.rcu_core.proofs.Waited.{each_cond}

-- the number rises in its epoch
number_step : (s : Size) (e : Event) (h : History) → fault_in s (situation h) e ≡ None → Turns h
    → renumbers e ≡ false → number h ≤ number (e ∷ h)
number_step s Begin h p t n = let u = begin_counts h in grind (arith, nat_tests)
number_step s End h p t n = let u = end_counts h in grind (arith, nat_tests)
number_step s Renumber h p t n = absurd (cc)
number_step s e h p t n = omega arith

snapshot_le : (a b : ℕ) → a ≤ b → snapshot a ≤ snapshot b
snapshot_le a b l = omega (arith, l)

marked_step : (s : Size) (e : Event) (h : History) → fault_in s (situation h) e ≡ None → Turns h
    → ((c : ℕ) → All (MarkedBy (snapshot (number h))) (list c h))
    → (c : ℕ) → All (MarkedBy (snapshot (number (e ∷ h)))) (list c (e ∷ h))
marked_step s (Queue d y) h p t a c =
    let K = MarkedBy (snapshot (number h)) in
    each_cond K (eqb d c) (list c h ++ Of (record {
      ord = queue_count h + 1;
      at = tag_now h;
      value = y;
    }) Unmarked ∷ []) (list c h) (All-push K (list c h) _ (a c) tt) (a c)
marked_step s (Tend d) h p t a c =
    let K = MarkedBy (snapshot (number h)) in
    let change = remarked (mark_after_tend (number h)) in
    each_cond K (eqb d c) (after_tend (list c h) (number h)) (list c h)
    (All-map K change (list c h)
    (All-weaker K (λ x. K (change x)) (marked_tended (number h)) (list c h) (a c)))
    (a c)
marked_step s (Run d m) h p t a c =
    let K = MarkedBy (snapshot (number h)) in
    each_cond K (eqb d c) (after_take (list c h) m) (list c h)
    (each_untaken K m (list c h) (a c)) (a c)
marked_step s (Visit d) h p t a c =
    let K = MarkedBy (snapshot (number h)) in
    each_cond K (eqb d c) (as_it_leaves (list c h) (is_owed d h)) (list c h)
    (each_leaving K (is_owed d h) (list c h) tt (a c)) (a c)
marked_step s (Offline d) h p t a c =
    let K = MarkedBy (snapshot (number h)) in
    let xs = as_it_leaves (list d h) (is_owed d h) in
    each_cond K (eqb d c) [] (cond (eqb c 0) (after_migrate (list c h) xs) (list c h)) (All-nil K)
    (each_cond K (eqb c 0) (after_migrate (list c h) xs) (list c h)
    (each_moved K xs (list c h) (λ x b. unmarked_by (snapshot (number h)) x)
    (each_leaving K (is_owed d h) (list d h) tt (a d)) (a c))
    (a c))
marked_step s Renumber h p t a c =
    let n = snapshot (number (Renumber ∷ h)) in let K = MarkedBy n in
    let change = remarked mark_renumbered in
    All-map K change (list c h)
    (All-weaker (MarkedBy (snapshot (number h))) (λ x. K (change x)) (λ x b. marked_anew n x)
    (list c h) (a c))
marked_step s Begin h p t a c =
    let l = snapshot_le (number h) (number (Begin ∷ h)) (number_step s Begin h p t refl) in
    All-weaker (MarkedBy (snapshot (number h))) (MarkedBy (snapshot (number (Begin ∷ h))))
    (marked_later (snapshot (number h)) (snapshot (number (Begin ∷ h))) l) (list c h) (a c)
marked_step s End h p t a c =
    let l = snapshot_le (number h) (number (End ∷ h)) (number_step s End h p t refl) in
    All-weaker (MarkedBy (snapshot (number h))) (MarkedBy (snapshot (number (End ∷ h))))
    (marked_later (snapshot (number h)) (snapshot (number (End ∷ h))) l) (list c h) (a c)
marked_step s e h p t a c = a c

lists_marked : (s : Size) (h : History) → AreAccepted s h → (c : ℕ)
    → All (MarkedBy (snapshot (number h))) (list c h)
lists_marked s [] p c = All-nil (MarkedBy (snapshot (number [])))
lists_marked s (e ∷ h) p c = marked_step s e h p.0 (turns s h p.1) (lists_marked s h p.1) c

-- one part of a sum, and two
pub one_part : (n : ℕ) (f : ℕ → ℕ) (c : ℕ) → c < n → f c ≤ sum_below n f
one_part zero f c l = absurd (omega (arith, l))
one_part (suc n) f c l = elim (eq-or-lt_of_le {n = c} {m = n} (omega (arith, l))) [
  | inl i ↦ let q = ap f i in omega (arith, q)
  | inr i ↦ let o = one_part n f c i in omega (arith, o)
]

two_parts : (n : ℕ) (f : ℕ → ℕ) (c d : ℕ) → c < n → d < n → c ≢ d → f c + f d ≤ sum_below n f
two_parts zero f c d l m e = absurd (omega (arith, l))
two_parts (suc n) f c d l m e = elim (eq-or-lt_of_le {n = c} {m = n} (omega (arith, l))) [
  | inl i ↦
      elim (eq-or-lt_of_le {n = d} {m = n} (omega (arith, m))) [
        | inl k ↦ absurd (e (i ∙ sym k))
        | inr k ↦ let o = one_part n f d k in let q = ap f i in omega (arith, o, q)
      ]
  | inr i ↦
      elim (eq-or-lt_of_le {n = d} {m = n} (omega (arith, m))) [
        | inl k ↦ let o = one_part n f c i in let q = ap f k in omega (arith, o, q)
        | inr k ↦ let o = two_parts n f c d i k e in omega (arith, o)
      ]
]

-- the callback of this place was handed out or is in this list, the list in two parts
pub record Stays (j n c : ℕ) (h : History) : Type 0 where
  pub kept : 1 ≤ times_handed_out j h + lies j (list c h)
  pub parted : Parted j n (list c h)

-- so it is in no other list
nowhere_else : (s : Size) (j n c d : ℕ) (h : History) → AreAccepted s h → 0 < j
    → j ≤ queue_count h → c < s.cpus → d < s.cpus → c ≢ d → Stays j n c h
    → lies j (list d h) ≡ 0
nowhere_else s j n c d h p z b l m e f =
    let t = queued_once s j h p z b in
    let o = two_parts s.cpus (λ c. lies j (list c h)) c d l m e in
    let k = f.kept in
    omega (arith, t, o, k)

run_kept : (j c d m : ℕ) (h : History) → 1 ≤ times_handed_out j h + lies j (list c h)
    → 1 ≤ times_handed_out j (Run d m ∷ h) + lies j (list c (Run d m ∷ h))
run_kept j c d m h k = elim (cases_eq d c) [
  | inl e ↦
      let a = lies-cut j m (list c h) in
      let same = ap (λ x. copies j (take_answer (list x h) m)) e in
      let i : lies j (list c (Run d m ∷ h)) ≡ lies j (after_take (list c h) m) =
      ap (λ b. lies j (cond b (after_take (list c h) m) (list c h))) (eq-eqb d c e) in
      omega (arith, a, same, i, k)
  | inr e ↦
      let i : lies j (list c (Run d m ∷ h)) ≡ lies j (list c h) =
      ap (λ b. lies j (cond b (after_take (list c h) m) (list c h))) (ne_eqb d c e) in
      omega (arith, i, k)
]

new_elsewhere : (j y q : ℕ) (h : History) → j ≤ q
    → lies j (Of (record { ord = q + 1; at = tag_now h; value = y }) Unmarked ∷ []) ≡ 0
new_elsewhere j y q h l =
    let i : eqb (q + 1) j ≡ false = differs q j l in ap (λ b. cond {A = ℕ} b 1 0 + 0) i
  where
    differs : (q j : ℕ) → j ≤ q → eqb (q + 1) j ≡ false
    differs q j l = grind (arith, nat_tests)

follow_step : (s : Size) (j n c : ℕ) (e : Event) (h : History)
    → fault_in s (situation h) e ≡ None
    → AreAccepted s h
    → 0 < j
    → j ≤ queue_count h
    → c < s.cpus
    → renumbers e ≡ false
    → departs c e ≡ false
    → Stays j n c h
    → Stays j n c (e ∷ h)
follow_step s j n c (Queue d y) h p a z b l r g f =
    let new : Item ℕ =
    Of (record { ord = queue_count h + 1; at = tag_now h; value = y }) Unmarked in
    let x = lies-append j (list c h) (new ∷ []) in
    let k = f.kept in
    let more : lies j (list c h) ≤ lies j (list c h ++ new ∷ []) = omega (arith, x) in
    let q = lies_cond j (eqb d c) (list c h ++ new ∷ []) (list c h) (list c h) more
    (omega arith) in
    record {
      kept = omega (arith, k, q);
      parted = parted_cond j n (eqb d c) (list c h ++ new ∷ []) (list c h)
          (λ e. parted_append j n (list c h) (new ∷ []) (new_elsewhere j y (queue_count h) h b)
          f.parted)
          (λ e. f.parted);
    }
follow_step s j n c (Tend d) h p a z b l r g f =
    let x = lies-remarked j (mark_after_tend (number h)) (list c h) in
    let k = f.kept in
    let more : lies j (list c h) ≤ lies j (after_tend (list c h) (number h)) = omega (arith, x) in
    let q = lies_cond j (eqb d c) (after_tend (list c h) (number h)) (list c h) (list c h) more
    (omega arith) in
    record {
      kept = omega (arith, k, q);
      parted = parted_cond j n (eqb d c) (after_tend (list c h) (number h)) (list c h)
          (λ e. parted_remarked j n (mark_after_tend (number h)) (list c h)
          (soon_tended n (number h)) f.parted)
          (λ e. f.parted);
    }
follow_step s j n c (Run d m) h p a z b l r g f = record {
  kept = run_kept j c d m h f.kept;
  parted = parted_cond j n (eqb d c) (after_take (list c h) m) (list c h)
      (λ e. parted_from j n (length (take_answer (list c h) m)) (list c h) f.parted)
      (λ e. f.parted);
}
follow_step s j n c (Visit d) h p a z b l r g f =
    let x = lies-leaving j (is_owed d h) (list c h) in
    let k = f.kept in
    let more : lies j (list c h) ≤ lies j (as_it_leaves (list c h) (is_owed d h)) =
    omega (arith, x) in
    let q = lies_cond j (eqb d c) (as_it_leaves (list c h) (is_owed d h)) (list c h) (list c h)
    more (omega arith) in
    record {
      kept = omega (arith, k, q);
      parted = parted_cond j n (eqb d c) (as_it_leaves (list c h) (is_owed d h)) (list c h)
          (λ e. parted_leaving j n (is_owed d h) (list c h) f.parted) (λ e. f.parted);
    }
follow_step s j n c (Offline d) h p a z b l r g f =
    let xs = as_it_leaves (list d h) (is_owed d h) in
    let inside : d < s.cpus = grind (arith, nat_tests) in
    let away : c ≢ d = apart c d g in
    let none : lies j xs ≡ 0 =
    lies-leaving j (is_owed d h) (list d h) ∙ nowhere_else s j n c d h a z b l inside away f in
    let moved = lies-moved j xs (list c h) in
    let k = f.kept in
    let more : lies j (list c h) ≤ lies j (after_migrate (list c h) xs) = omega (arith, moved) in
    let q = lies_cond j (eqb c 0) (after_migrate (list c h) xs) (list c h) (list c h) more
    (omega arith) in
    let is : list c (Offline d ∷ h) ≡ cond (eqb c 0) (after_migrate (list c h) xs) (list c h) =
    ap (λ b. cond b [] (cond (eqb c 0) (after_migrate (list c h) xs) (list c h))) g in
    let same = ap (λ (ys : List (Item ℕ)). lies j ys) is in
    record {
      kept = omega (arith, k, q, same);
      parted = subst (λ ys. Parted j n ys) (sym is)
          (parted_cond j n (eqb c 0) (after_migrate (list c h) xs) (list c h)
          (λ e. parted_moved j n xs (list c h) none f.parted) (λ e. f.parted));
    }
  where
    apart : (c d : ℕ) → eqb d c ≡ false → c ≢ d
    apart c d g e = grind (arith, nat_tests)
follow_step s j n c Renumber h p a z b l r g f = absurd (cc)
follow_step s j n c e h p a z b l r g f = record { kept = f.kept; parted = f.parted }

pub queued_later : (j : ℕ) (later h : History) → j ≤ queue_count h → j ≤ queue_count (later ++ h)
queued_later j [] h b = b
queued_later j (Queue d y ∷ later) h b =
    let i = queued_later j later h b in let n = queue_counts d y (later ++ h) in
    omega (arith, i, n)
queued_later j (e ∷ later) h b = queued_later j later h b

follow : (s : Size) (j n c : ℕ) (later h : History)
    → AreAccepted s (later ++ h)
    → 0 < j
    → j ≤ queue_count h
    → c < s.cpus
    → list_any renumbers later ≡ false
    → list_any (departs c) later ≡ false
    → Stays j n c h
    → Stays j n c (later ++ h)
follow s j n c [] h p z b l r g f = f
follow s j n c (e ∷ later) h p z b l r g f =
    let x = or_parts (renumbers e) (list_any renumbers later) r in
    let y = or_parts (departs c e) (list_any (departs c) later) g in
    follow_step s j n c e (later ++ h) p.0 p.1 z (queued_later j later h b) l x.0 y.0
    (follow s j n c later h p.1 z b l x.1 y.1 f)

-- no renumbering: one epoch
same_epoch : (later h : History) → list_any renumbers later ≡ false → epoch (later ++ h) ≡ epoch h
same_epoch [] h r = refl
same_epoch (Renumber ∷ later) h r = absurd (cc)
same_epoch (e ∷ later) h r = same_epoch later h (or_parts (renumbers e) _ r).1

-- if a full grace period passed, the number has reached the snapshot of the number before
reached : (s : Size) (later h : History) → AreAccepted s (later ++ h)
    → list_any renumbers later ≡ false → has_full_period later ≡ true
    → snapshot (number h) ≤ number (later ++ h)
reached s later h p r f =
    let q = earlier_accepted s later h p in
    let i = (in_epoch s h q).ticks in
    let j = (in_epoch s (later ++ h) p).ticks in
    let base = ap (λ n. n * s.last) (same_epoch later h r) in
    let fours = base_is_by_fours s h q in
    let full = (passed s later h p).full f in
    above (epoch h * s.last) (number h) (number (later ++ h)) (clock h) (clock (later ++ h)) fours i
    (j ∙ ap (λ n. n + number (later ++ h)) base) full
  where
    above : (base n m a b : ℕ) → base % 4 ≡ 0 → a ≡ base + n → b ≡ base + m → snapshot a ≤ b
        → snapshot n ≤ m
    above base n m a b z i j l = omega (arith, z, i, j, l)

at_first : (s : Size) (j c : ℕ) (h : History) → AreAccepted s h
    → copies j (callbacks (list c h)) ≡ 1
    → Stays j (snapshot (number h)) c (Tend c ∷ h)
at_first s j c h p one =
    let n = snapshot (number h) in
    let change = remarked (mark_after_tend (number h)) in
    let is : list c (Tend c ∷ h) ≡ after_tend (list c h) (number h) =
    ap (λ b. cond b (after_tend (list c h) (number h)) (list c h)) (eqb_self c) in
    let same = ap (λ (ys : List (Item ℕ)). lies j ys) is in
    let a = copies_are j (list c h) in
    let b = lies-remarked j (mark_after_tend (number h)) (list c h) in
    record {
      kept = omega (arith, same, a, b, one);
      parted = record {
        soon = after_tend (list c h) (number h);
        rest = [];
        is = is ∙ sym (append-nil (after_tend (list c h) (number h)));
        each = All-map (Soon n) change (list c h)
            (All-weaker (MarkedBy n) (λ x. Soon n (change x)) (soon_at_first (number h)) (list c h)
            (lists_marked s h p c));
        none = refl;
      };
    }

-- both tends, and the grace period in between
pub none_waits : (s : Size) (later earlier : History) (c j : ℕ)
    → AreAccepted s (Tend c ∷ later ++ Tend c ∷ earlier)
    → 0 < j
    → j ≤ queue_count earlier
    → has_full_period later ≡ true
    → list_any renumbers later ≡ false
    → list_any (departs c) later ≡ false
    → copies j (callbacks (list c earlier)) ≡ 1
    → (lies j (behind (list c (Tend c ∷ later ++ Tend c ∷ earlier))) ≡ 0)
    × (1 ≤ times_handed_out j (later ++ Tend c ∷ earlier)
    + lies j (list c (Tend c ∷ later ++ Tend c ∷ earlier)))
none_waits s later earlier c j p z b full r g one =
    let h : History = Tend c ∷ earlier in
    let k : History = later ++ h in
    let q = earlier_accepted s later h p.1 in
    let l : c < s.cpus = within s c k p.0 in
    let n = snapshot (number earlier) in
    let f = follow s j n c later h p.1 z b l r g (at_first s j c earlier q.1 one) in
    let up = reached s later h p.1 r full in
    let is : list c (Tend c ∷ k) ≡ after_tend (list c k) (number k) =
    ap (λ b. cond b (after_tend (list c k) (number k)) (list c k)) (eqb_self c) in
    let same = ap (λ (ys : List (Item ℕ)). lies j ys) is in
    let many = lies-remarked j (mark_after_tend (number k)) (list c k) in
    let kept = f.kept in (
      ap (λ (ys : List (Item ℕ)). lies j (behind ys)) is
          ∙ none_behind j n (number k) (list c k) up f.parted,
      omega (arith, same, many, kept),
    )
  where
    within : (s : Size) (c : ℕ) (h : History) → fault_in s (situation h) (Tend c) ≡ None
        → c < s.cpus
    within s c h p = grind (arith, nat_tests)

pub then_handed_out : (s : Size) (later earlier : History) (c m j : ℕ)
    → AreAccepted s (Run c m ∷ Tend c ∷ later ++ Tend c ∷ earlier)
    → 0 < j
    → j ≤ queue_count earlier
    → has_full_period later ≡ true
    → list_any renumbers later ≡ false
    → list_any (departs c) later ≡ false
    → copies j (callbacks (list c earlier)) ≡ 1
    → length (callbacks (front (list c (Tend c ∷ later ++ Tend c ∷ earlier)))) ≤ m
    → times_handed_out j (Run c m ∷ Tend c ∷ later ++ Tend c ∷ earlier) ≡ 1
then_handed_out s later earlier c m j p z b full r g one enough =
    let h : History = Tend c ∷ later ++ Tend c ∷ earlier in
    let f = none_waits s later earlier c j p.1 z b full r g one in
    let none = f.0 in
    let kept = f.1 in
    let parts = lies-parts j (list c h) in
    let all = take_all m (callbacks (front (list c h))) enough in
    let taken = ap (λ calls. copies j calls) all in
    let are = copies_are j (front (list c h)) in
    let most = at_most_once s j (Run c m ∷ h) p in
    omega (arith, none, kept, parts, taken, are, most)

pub none_left_waiting : (s : Size) (later earlier : History) (c j : ℕ)
    → AreAccepted s (Tend c ∷ later ++ Tend c ∷ earlier)
    → 0 < j
    → j ≤ queue_count earlier
    → has_full_period later ≡ true
    → list_any renumbers later ≡ false
    → list_any (departs c) later ≡ false
    → copies j (callbacks (list c earlier)) ≡ 1
    → copies j (callbacks (behind (list c (Tend c ∷ later ++ Tend c ∷ earlier)))) ≡ 0
none_left_waiting s later earlier c j p z b full r g one =
    copies_are j (behind (list c (Tend c ∷ later ++ Tend c ∷ earlier)))
    ∙ (none_waits s later earlier c j p z b full r g one).0
