-- A callback stays as it was queued, and sections that are open when it is handed out began after
-- that.
use Rattle.std.proofs.Common.{◌≡◌, ℕ, ◌+◌, ◌<◌, ◌≤◌, Bool, true, false, ◌&&◌, List, [], ◌∷◌, ◌++◌}
use Rattle.std.proofs.Common.{length, Some, refl, subst, arith, cond, eqb, ne_eqb, slice_get, map}
use Rattle.std.proofs.Common.{inl, inr}
use Rattle.std.specs.Prelude.{All}
use Rattle.std.proofs.lemmas.Bool.{cases_eq}
use Rattle.std.proofs.lemmas.Bool.Decides.{nat_tests}
use Rattle.std.proofs.lemmas.List.{length-map}
use Rattle.std.proofs.lemmas.List.Elements.{All-nil, All-cons, All-head, All-tail, All-push}
use Rattle.std.proofs.lemmas.List.Elements.{All-weaker, All-take, All-map}
use Rattle.rcu_seq.specs.Numbers.{snapshot}
use Rattle.rcu_seq.specs.Tags.{clock_of, is_before}
use Rattle.rcu_cblist.specs.SegList.{mark_renumbered}
use Rattle.rcu_cblist.specs.declared.items.Queued.{Queued}
use Rattle.rcu_cblist.specs.SegList.{Item, Of, Marker, Mark, Unmarked, callbacks, front}
use Rattle.rcu_cblist.specs.SegList.{after_migrate, remarked, after_take, as_it_leaves}
use Rattle.rcu_cblist.proofs.SegListLemmas.{each_front, each_moved, each_untaken}
use Rattle.rcu_barrier.proofs.Maturing.{each_leaving}
use Rattle.rcu_barrier.specs.Tending.{mark_after_tend, after_tend}
use Rattle.rcu_core.specs.Callbacks.{handed_out, is_owed, list, queue_count}
use Rattle.rcu_core.specs.History.{History, depth, enters, epoch, number, opening, section, tag_now}
use Rattle.rcu_core.specs.Links.{queued_as}
use Rattle.rcu_core.specs.Replies.{Size, AreAccepted}
use Rattle.rcu_core.specs.Runs.{IsLegalRun, history, Run as Trace}
use Rattle.rcu_core.specs.declared.event.Event.{Event}
use Rattle.rcu_core.specs.declared.event.Event.TheVariants.{Enter, Offline, Queue, Tend, Run, Visit}
use Rattle.rcu_core.specs.declared.event.Event.TheVariants.{Renumber}
use Rattle.rcu_core.specs.declared.reply.Reply.TheVariants as reply
use Rattle.rcu_core.proofs.Clocks.{before_where_lower, clock, in_epoch, opening_accepted}
use Rattle.rcu_core.proofs.Clocks.{renumber_counts}
use Rattle.rcu_core.proofs.Facts.{Facts, facts}
use Rattle.rcu_core.proofs.Kept.{queue_counts}
use Rattle.rcu_core.proofs.Readers.{Open, open_from, possible}
use Rattle.rcu_state.proofs.Timely.{all_at}
use Rattle.rcu_core.proofs.Waited.{Waited, each_cond, front_waited, lists_kept, clock_at_queueing}
use Rattle.rcu_core.proofs.Waited.{ran_values}
use Rattle.rcu_core.proofs.Writes.{eqb_self}

-- the callback was queued, and is as it was then
record AsQueued (h : History) (call : Queued ℕ) : Type 0 where
  pub was : call.ord ≤ queue_count h
  pub found : queued_as call.ord h ≡ Some call
  pub epoch : call.at.epoch ≤ epoch h

-- the same of an item
abbrev IsAsQueued : History → Item ℕ → Type 0
IsAsQueued h (Of call mark) = AsQueued h call
IsAsQueued h Marker = Unit {0}

call_stays : (e : Event) (h : History) (call : Queued ℕ) → AsQueued h call → AsQueued (e ∷ h) call
call_stays (Queue c y) h call k =
    let n = queue_counts c y h in let w = k.was in
    let other = ne_eqb (queue_count h + 1) call.ord (λ i. absurd (omega (arith, i, w))) in
    record { was = omega (arith, n, w); found = rw other k.found; epoch = k.epoch }
call_stays Renumber h call k =
    let n = renumber_counts h in
    let le = k.epoch in record { was = k.was; found = k.found; epoch = omega (arith, n, le) }
call_stays _ h call k = record { was = k.was; found = k.found; epoch = k.epoch }

stays : (e : Event) (h : History) (x : Item ℕ) → IsAsQueued h x → IsAsQueued (e ∷ h) x
stays e h (Of call mark) k = call_stays e h call k
stays e h Marker k = tt

remarked_stays : (h : History) (f : Mark → Mark) (x : Item ℕ) → IsAsQueued h x
    → IsAsQueued h (remarked f x)
remarked_stays h f (Of call mark) k = k
remarked_stays h f Marker k = tt

queued_now : (c y : ℕ) (h : History)
    → AsQueued (Queue c y ∷ h) (record { ord = queue_count h + 1; at = tag_now h; value = y })
queued_now c y h =
    let n = queue_counts c y h in
    record {
      was = omega (arith, n);
      found = rw (eqb_self (queue_count h + 1)) refl;
      epoch = omega arith;
    }

lists_step : (e : Event) (h : History) → ((c : ℕ) → All (IsAsQueued h) (list c h)) → (c : ℕ)
    → All (IsAsQueued (e ∷ h)) (list c (e ∷ h))
lists_step (Queue d y) h a c =
    let P = IsAsQueued (Queue d y ∷ h) in
    let b = All-weaker (IsAsQueued h) P (stays (Queue d y) h) (list c h) (a c) in
    each_cond P (eqb d c)
    (list c h ++ Of (record { ord = queue_count h + 1; at = tag_now h; value = y }) Unmarked ∷ [])
    (list c h) (All-push P (list c h) _ b (queued_now d y h)) b
lists_step (Tend d) h a c =
    let P = IsAsQueued (Tend d ∷ h) in
    let b = All-weaker (IsAsQueued h) P (stays (Tend d) h) (list c h) (a c) in
    let change = remarked (mark_after_tend (number h)) in
    let same = remarked_stays (Tend d ∷ h) (mark_after_tend (number h)) in
    each_cond P (eqb d c) (after_tend (list c h) (number h)) (list c h)
    (All-map P change (list c h) (All-weaker P (λ x. P (change x)) same (list c h) b)) b
lists_step (Run d m) h a c =
    let P = IsAsQueued (Run d m ∷ h) in
    let b = All-weaker (IsAsQueued h) P (stays (Run d m) h) (list c h) (a c) in
    each_cond P (eqb d c) (after_take (list c h) m) (list c h)
    (each_untaken P m (list c h) b) b
lists_step (Visit d) h a c =
    let P = IsAsQueued (Visit d ∷ h) in
    let b = All-weaker (IsAsQueued h) P (stays (Visit d) h) (list c h) (a c) in
    each_cond P (eqb d c) (as_it_leaves (list c h) (is_owed d h)) (list c h)
    (each_leaving P (is_owed d h) (list c h) tt b) b
lists_step (Offline d) h a c =
    let P = IsAsQueued (Offline d ∷ h) in
    let b = λ (c : ℕ). All-weaker (IsAsQueued h) P (stays (Offline d) h) (list c h) (a c) in
    let xs = as_it_leaves (list d h) (is_owed d h) in
    each_cond P (eqb d c) [] (cond (eqb c 0) (after_migrate (list c h) xs) (list c h)) (All-nil P)
    (each_cond P (eqb c 0) (after_migrate (list c h) xs) (list c h)
    (each_moved P xs (list c h) (remarked_stays (Offline d ∷ h) (λ _. Unmarked))
    (each_leaving P (is_owed d h) (list d h) tt (b d)) (b c)) (b c))
lists_step Renumber h a c =
    let P = IsAsQueued (Renumber ∷ h) in
    let b = All-weaker (IsAsQueued h) P (stays Renumber h) (list c h) (a c) in
    let change = remarked mark_renumbered in
    All-map P change (list c h)
    (All-weaker P (λ x. P (change x)) (remarked_stays (Renumber ∷ h) mark_renumbered) (list c h) b)
lists_step e h a c = All-weaker (IsAsQueued h) (IsAsQueued (e ∷ h)) (stays e h) (list c h) (a c)

all_as_queued : (h : History) (c : ℕ) → All (IsAsQueued h) (list c h)
all_as_queued [] c = All-nil (IsAsQueued [])
all_as_queued (e ∷ h) c = lists_step e h (all_as_queued h) c

callbacks_as_queued : (h : History) (xs : List (Item ℕ)) → All (IsAsQueued h) xs
    → All (AsQueued h) (callbacks xs)
callbacks_as_queued h [] a = All-nil (AsQueued h)
callbacks_as_queued h (Marker ∷ xs) a =
    callbacks_as_queued h xs (All-tail (IsAsQueued h) Marker xs a)
callbacks_as_queued h (Of call mark ∷ xs) a =
    All-cons (AsQueued h) call (callbacks xs) (All-head (IsAsQueued h) (Of call mark) xs a)
    (callbacks_as_queued h xs (All-tail (IsAsQueued h) (Of call mark) xs a))

handed_as_queued : (h : History) (c m k : ℕ) (call : Queued ℕ)
    → slice_get (handed_out c m h) k ≡ Some call → AsQueued h call
handed_as_queued h c m k call e =
    let done = front (list c h) in
    let as_queued = each_front (IsAsQueued h) (list c h) (all_as_queued h c) in
    all_at (AsQueued h) (handed_out c m h) k call
    (All-take (AsQueued h) m (callbacks done) (callbacks_as_queued h done as_queued)) e

-- each callback that a run hands out is one that was queued
pub handed_was_queued : (s : Size) (run : Trace) (c m k : ℕ) (call : Queued ℕ)
    → IsLegalRun s run → slice_get (handed_out c m (history run)) k ≡ Some call
    → queued_as call.ord (history run) ≡ Some call
handed_was_queued s run c m k call l e = (handed_as_queued (history run) c m k call e).found

same_length : (values : List ℕ) (calls : List (Queued ℕ))
    → values ≡ map (λ (call : Queued ℕ). call.value) calls → length values ≡ length calls
same_length values calls i = rw i (length-map calls (λ (call : Queued ℕ). call.value))

pub as_many_values : (s : Size) (run : Trace) (c m : ℕ) (values : List ℕ)
    → IsLegalRun s ((Run c m, reply.Ran values) ∷ run)
    → length values ≡ length (handed_out c m (history run))
as_many_values s run c m values l =
    same_length values (handed_out c m (history run)) (ran_values s (history run) c m values l.0)

waited_when_handed : (s : Size) (h : History) (c m k : ℕ) (call : Queued ℕ) → AreAccepted s h
    → slice_get (handed_out c m h) k ≡ Some call → Waited s h call
waited_when_handed s h c m k call p e =
    all_at (Waited s h) (handed_out c m h) k call
    (All-take (Waited s h) m (callbacks (front (list c h)))
    (front_waited s h (list c h) (lists_kept s h p c)))
    e

later_clock : (at opened now : ℕ) → snapshot at ≤ now → now < snapshot opened → at < opened
later_clock at opened now l b = omega arith

opened_later : (s : Size) (h x : History) (reader : ℕ) (call : Queued ℕ)
    → Facts s reader h → Waited s h call → Open reader h x → clock_of s.last call.at < clock x
opened_later s h x reader call f w o =
    let b : clock h < snapshot (clock x) = rw o.at at (f.below_snap o.deep) in
    later_clock (clock_of s.last call.at) (clock x) (clock h) w.reached b

opened_later_run : (s : Size) (run : Trace) (c m k reader : ℕ) (call : Queued ℕ) (opened : History)
    → IsLegalRun s run
    → slice_get (handed_out c m (history run)) k ≡ Some call
    → section reader (history run) ≡ Some opened
    → clock_of s.last call.at < clock opened
opened_later_run s run c m k reader call opened l e o =
    let p = possible s run l in
    opened_later s (history run) opened reader call (facts s reader (history run) p)
    (waited_when_handed s (history run) c m k call p e)
    (open_from reader (history run) opened o)

-- a section that is open when a callback is handed out was opened at a later number than that at
-- which it was queued
pub readers_are_later : (s : Size) (run : Trace) (c m k reader : ℕ) (call : Queued ℕ)
    (opened : History)
    → IsLegalRun s run
    → slice_get (handed_out c m (history run)) k ≡ Some call
    → section reader (history run) ≡ Some opened
    → is_before call.at (tag_now opened) ≡ true
readers_are_later s run c m k reader call opened l e o =
    let p = possible s run l in
    let x = open_from reader (history run) opened o in
    let q = subst (λ g. AreAccepted s g) x.at (opening_accepted s reader (history run) p) in
    before_where_lower s call.at opened q
    (λ none.
    let le = (handed_as_queued (history run) c m k call e).epoch in
    let first = (in_epoch s (history run) p).alone none in omega (arith, le, first))
    (opened_later_run s run c m k reader call opened l e o)

pick : (b : Bool) (x y : History) (j n : ℕ) → j ≤ queue_count x → (n < clock y → j ≤ queue_count y)
    → n < clock (cond b x y)
    → j ≤ queue_count (cond b x y)
pick true x y j n p q l = p
pick false x y j n p q l = q l

-- a section that was opened at a later clock than a callback was queued at was opened after that
queued_before : (s : Size) (c j : ℕ) (h : History) → AreAccepted s h → j ≤ queue_count h
    → clock_at_queueing j h < clock (opening c h) → j ≤ queue_count (opening c h)
queued_before s c j [] p q l = q
queued_before s c j (Enter d ∷ h) p q l =
    pick (enters c (Enter d) && eqb (depth c h) 0) (Enter d ∷ h) (opening c h) j
    (clock_at_queueing j h) q (queued_before s c j h p.1 q) l
queued_before s c j (Queue d y ∷ h) p q l =
    let n = queue_counts d y h in
    let f = (facts s c h p.1).opening_le in
    let at = λ (b : Bool). cond b (clock h) (clock_at_queueing j h) in
    elim (cases_eq (queue_count h + 1) j) [
      | inl i ↦
          let u : clock h < clock (opening c h) =
          subst (λ b. at b < clock (opening c h)) (same i) l in
          absurd (omega (arith, u, f))
      | inr i ↦
          let before = subst (λ b. at b < clock (opening c h)) (ne_eqb (queue_count h + 1) j i) l in
          queued_before s c j h p.1 (omega (arith, n, q, i)) before
    ]
  where
    same : {a b : ℕ} → a ≡ b → eqb a b ≡ true
    same {a} {b} i = grind (arith, nat_tests)
queued_before s c j (_ ∷ h) p q l = queued_before s c j h p.1 q l

opened_after : (s : Size) (h x : History) (reader : ℕ) (call : Queued ℕ)
    → AreAccepted s h
    → AsQueued h call
    → Waited s h call
    → Open reader h x
    → clock_of s.last call.at < clock x
    → call.ord ≤ queue_count x
opened_after s h x reader call p a w o l =
    subst (λ g. call.ord ≤ queue_count g) o.at
    (queued_before s reader call.ord h p a.was (rw (← w.at, o.at) l))

pub readers_are_after : (s : Size) (run : Trace) (c m k reader : ℕ) (call : Queued ℕ)
    (opened : History)
    → IsLegalRun s run
    → slice_get (handed_out c m (history run)) k ≡ Some call
    → section reader (history run) ≡ Some opened
    → call.ord ≤ queue_count opened
readers_are_after s run c m k reader call opened l e o =
    let p = possible s run l in
    opened_after s (history run) opened reader call p (handed_as_queued (history run) c m k call e)
    (waited_when_handed s (history run) c m k call p e) (open_from reader (history run) opened o)
    (opened_later_run s run c m k reader call opened l e o)
