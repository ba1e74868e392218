-- Memory is refused only if the event would have stored something.
use Rattle.std.proofs.Common.{◌≡◌, ℕ, suc, ◌+◌, Bool, true, false, not, ◌&&◌, List, [], ◌∷◌, ◌++◌}
use Rattle.std.proofs.Common.{length, Some, None, refl, sym, ap, ◌∙◌, subst, arith, cond, eqb, ltb}
use Rattle.std.proofs.Common.{◌⊎◌, ◌<◌, inl, inr}
use Rattle.std.specs.List.{list_any, range_with_len}
use Rattle.std.proofs.lemmas.Bool.{or_parts}
use Rattle.std.proofs.lemmas.Bool.Decides.{nat_tests}
use Rattle.std.proofs.lemmas.List.{length-map}
use Rattle.std.proofs.lemmas.List.Sums.{length-filter}
use Rattle.rcu_seq.specs.Fault.{first_fault}
use Rattle.rcu_seq.specs.declared.fault.Fault.{Fault}
use Rattle.rcu_seq.specs.declared.fault.Fault.TheVariants as fault
use Rattle.rcu_cblist.specs.declared.items.Queued.{Queued}
use Rattle.rcu_cblist.specs.SegList.{Item, Of, Marker, Unmarked, after_migrate, after_take}
use Rattle.rcu_cblist.specs.SegList.{begins_with_marker, callbacks, is_empty, take_answer}
use Rattle.rcu_cblist.proofs.SegListLemmas.{first_from, first_moved, first_queued, first_remarked}
use Rattle.rcu_cblist.specs.SegList.{as_it_leaves, mark_renumbered}
use Rattle.rcu_barrier.specs.Tending.{mark_after_tend, after_tend}
use Rattle.rcu_barrier.specs.declared.lists.Visit.TheVariants.{Marked, Empty, Already}
use Rattle.rcu_core.specs.Callbacks.{is_owed, list, queue_count}
use Rattle.rcu_core.specs.History.{History, awaits, number, tag_now}
use Rattle.rcu_core.specs.Replies.{Size, accepted_reply, answer, causes, or_fault, fault_in}
use Rattle.rcu_core.specs.Situation.{Situation, situation}
use Rattle.rcu_core.specs.Replies.{stores, IsLegalReply}
use Rattle.rcu_core.specs.declared.event.Event.{Event}
use Rattle.rcu_core.specs.declared.event.Event.TheVariants.{Enter, Quiesce, Offline}
use Rattle.rcu_core.specs.declared.event.Event.TheVariants.{Turn, Awaits, Queue, Tend, Run}
use Rattle.rcu_core.specs.declared.event.Event.TheVariants.{Visit, BarTest, Renumber}
use Rattle.rcu_core.specs.declared.reply.Reply.{Reply}
use Rattle.rcu_core.specs.declared.reply.Reply.TheVariants as reply

-- memory is refused
abbrev is_want : Reply → Bool
is_want (reply.Fault fault.NoMemory) = true
is_want _ = false

-- one of the causes is refused memory
abbrev has_want : List (Bool × Fault) → Bool
has_want causes = list_any (λ cause. is_want (reply.Fault cause.1)) causes

pick_want : (b : Bool) (f : Fault) (o : Reply) (cs : List (Bool × Fault))
    → is_want (reply.Fault f) ≡ false → is_want (or_fault (first_fault cs) o) ≡ false
    → is_want (or_fault (cond b (Some f) (first_fault cs)) o) ≡ false
pick_want true f o cs i j = i
pick_want false f o cs i j = j

not_wanted : (cs : List (Bool × Fault)) (r : Reply) → has_want cs ≡ false → is_want r ≡ false
    → is_want (or_fault (first_fault cs) r) ≡ false
not_wanted [] r n i = i
not_wanted (cause ∷ cs) r n i =
    let q = or_parts (is_want (reply.Fault cause.1)) (has_want cs) n in
    pick_want cause.0 cause.1 r cs q.0 (not_wanted cs r q.1 i)

no_cause_wants : (s : Size) (v : Situation) (e : Event) → has_want (causes s v e) ≡ false
no_cause_wants s v (Enter c) = refl
no_cause_wants s v _ = refl

no_turn_wants : (a b d : Bool) (k l m n : ℕ) (r : Reply)
    → r ≡ cond a (cond b (reply.Ended k) (reply.Waiting l)) (cond d (reply.Begun m n) reply.Nothing)
    → is_want r ≡ false
no_turn_wants true true d k l m n r e = rw e refl
no_turn_wants true false d k l m n r e = rw e refl
no_turn_wants false b true k l m n r e = rw e refl
no_turn_wants false b false k l m n r e = rw e refl

no_test_wants : (b : Bool) (n : ℕ) (r : Reply) → r ≡ cond b reply.BarDone (reply.BarWaits n)
    → is_want r ≡ false
no_test_wants true n r e = rw e refl
no_test_wants false n r e = rw e refl

no_reply_wants : (s : Size) (v : Situation) (e : Event) → is_want (accepted_reply s v e) ≡ false
no_reply_wants s v Turn = no_turn_wants _ _ _ _ _ _ _ (accepted_reply s v Turn) refl
no_reply_wants s v BarTest = no_test_wants _ _ (accepted_reply s v BarTest) refl
no_reply_wants s v _ = refl

-- no answer is that of refused memory
no_answer_wants : (s : Size) (v : Situation) (e : Event) → is_want (answer s v e) ≡ false
no_answer_wants s v e =
    not_wanted (causes s v e) (accepted_reply s v e) (no_cause_wants s v e) (no_reply_wants s v e)

unled_if : (b : Bool) (xs ys : List (Item ℕ))
    → begins_with_marker xs ≡ false → begins_with_marker ys ≡ false
    → begins_with_marker (cond b xs ys) ≡ false
unled_if true xs ys i j = i
unled_if false xs ys i j = j

unled_leaving : (b : Bool) (xs : List (Item ℕ)) → begins_with_marker xs ≡ false
    → begins_with_marker (as_it_leaves xs b) ≡ false
unled_leaving false xs i = i
unled_leaving true [] i = refl
unled_leaving true (x ∷ xs) i = i

-- no list begins with a marker
unled : (h : History) (c : ℕ) → begins_with_marker (list c h) ≡ false
unled [] c = refl
unled (Queue d y ∷ h) c =
    unled_if (eqb d c)
    (list c h ++ Of (record { ord = queue_count h + 1; at = tag_now h; value = y }) Unmarked ∷ [])
    (list c h)
    (first_queued (list c h) (record { ord = queue_count h + 1; at = tag_now h; value = y })
    Unmarked (unled h c))
    (unled h c)
unled (Tend d ∷ h) c =
    unled_if (eqb d c) (after_tend (list c h) (number h)) (list c h)
    (first_remarked (mark_after_tend (number h)) (list c h) ∙ unled h c) (unled h c)
unled (Run d m ∷ h) c =
    unled_if (eqb d c) (after_take (list c h) m) (list c h)
    (first_from (length (take_answer (list c h) m)) (list c h)) (unled h c)
unled (Visit d ∷ h) c =
    unled_if (eqb d c) (as_it_leaves (list c h) (is_owed d h)) (list c h)
    (unled_leaving (is_owed d h) (list c h) (unled h c)) (unled h c)
unled (Offline d ∷ h) c =
    let xs = as_it_leaves (list d h) (is_owed d h) in
    unled_if (eqb d c) [] (cond (eqb c 0) (after_migrate (list c h) xs) (list c h)) refl
    (unled_if (eqb c 0) (after_migrate (list c h) xs) (list c h)
    (first_moved xs (list c h) (unled_leaving (is_owed d h) (list d h) (unled h d)) (unled h c))
    (unled h c))
unled (Renumber ∷ h) c = first_remarked mark_renumbered (list c h) ∙ unled h c
unled (_ ∷ h) c = unled h c

above : (n : ℕ) → ltb 0 (suc n) ≡ true
above n = grind (arith, nat_tests)

some_callback : (xs : List (Item ℕ)) → begins_with_marker xs ≡ false → not (is_empty xs) ≡ true
    → ltb 0 (length (callbacks xs)) ≡ true
some_callback [] i j = absurd (cc)
some_callback (Marker ∷ xs) i j = absurd (cc)
some_callback (Of call mark ∷ xs) i j = above (length (callbacks xs))

positive : (n : ℕ) → ltb 0 n ≡ true → 0 < n
positive n i = grind (arith, nat_tests)

does_mark : (owed empty : Bool) → (owed && not empty) ≡ true
    → cond (not owed) Already (cond empty Empty Marked) ≡ Marked
does_mark true true i = absurd (cc)
does_mark true false i = refl
does_mark false empty i = absurd (cc)

-- if memory is refused, the event stores something, and no fault holds
wanted_stores : (s : Size) (h : History) (e : Event)
    → IsLegalReply s (situation h) e (reply.Fault fault.NoMemory)
    → (stores s (situation h) e ≡ true) × (fault_in s (situation h) e ≡ None)
wanted_stores s h e (inl i) =
    absurd (let a = no_answer_wants s (situation h) e in let b = ap (λ r. is_want r) i in cc)
wanted_stores s h e (inr i) = (i.0, i.1)

is_accepted : (s : Size) (h : History) (e : Event) → fault_in s (situation h) e ≡ None
    → answer s (situation h) e ≡ accepted_reply s (situation h) e
is_accepted s h e n = ap (λ o. or_fault o (accepted_reply s (situation h) e)) n

storing : (s : Size) (h : History) (e : Event) → stores s (situation h) e ≡ true
    → (e ≡ Awaits) ⊎ ((c : ℕ) × ((e ≡ Quiesce c) ⊎ ((e ≡ Offline c) ⊎ ((e ≡ Visit c)
    ⊎ ((n : ℕ) × ((e ≡ Queue c n) ⊎ (e ≡ Run c n)))))))
storing s h (Quiesce c) i = inr (c, inl refl)
storing s h Awaits i = inl refl
storing s h (Offline c) i = inr (c, inr (inl refl))
storing s h (Queue c y) i = inr (c, inr (inr (inr (y, inl refl))))
storing s h (Run c m) i = inr (c, inr (inr (inr (m, inr refl))))
storing s h (Visit c) i = inr (c, inr (inr (inl refl)))
storing s h _ i = absurd (cc)

-- by six events
pub wanting_event : (s : Size) (h : History) (e : Event)
    → IsLegalReply s (situation h) e (reply.Fault fault.NoMemory)
    → (e ≡ Awaits) ⊎ ((c : ℕ) × ((e ≡ Quiesce c) ⊎ ((e ≡ Offline c) ⊎ ((e ≡ Visit c)
    ⊎ ((n : ℕ) × ((e ≡ Queue c n) ⊎ (e ≡ Run c n)))))))
wanting_event s h e l = storing s h e (wanted_stores s h e l).0

-- by a list of the awaited that is not empty
pub wants_to_list : (s : Size) (h : History)
    → IsLegalReply s (situation h) Awaits (reply.Fault fault.NoMemory)
    → (cpus : List ℕ) × (answer s (situation h) Awaits ≡ reply.Awaits cpus) × (0 < length cpus)
wants_to_list s h l =
    let i = wanted_stores s h Awaits l in
    let n = length-filter (λ c. awaits c h) (range_with_len 0 s.cpus) in
    (_, is_accepted s h Awaits i.1, positive _ (subst (λ n. ltb 0 n ≡ true) (sym n) i.0))

-- by a departure that moves callbacks
pub wants_to_move : (s : Size) (h : History) (c : ℕ)
    → IsLegalReply s (situation h) (Offline c) (reply.Fault fault.NoMemory)
    → (calls : ℕ) × (answer s (situation h) (Offline c) ≡ reply.Moved calls) × (0 < calls)
wants_to_move s h c l =
    let i = wanted_stores s h (Offline c) l in
    (_, is_accepted s h (Offline c) i.1, positive _ (some_callback (list c h) (unled h c) i.0))

-- by a run that hands out callbacks
pub wants_to_hand_out : (s : Size) (h : History) (c m : ℕ)
    → IsLegalReply s (situation h) (Run c m) (reply.Fault fault.NoMemory)
    → (values : List ℕ)
    × (answer s (situation h) (Run c m) ≡ reply.Ran values)
    × (0 < length values)
wants_to_hand_out s h c m l =
    let i = wanted_stores s h (Run c m) l in
    let n = length-map (take_answer (list c h) m) (λ (call : Queued ℕ). call.value) in
    (_, is_accepted s h (Run c m) i.1, positive _ (subst (λ n. ltb 0 n ≡ true) (sym n) i.0))

-- by a visit that puts a marker
pub wants_to_mark : (s : Size) (h : History) (c : ℕ)
    → IsLegalReply s (situation h) (Visit c) (reply.Fault fault.NoMemory)
    → answer s (situation h) (Visit c) ≡ reply.Visited Marked
wants_to_mark s h c l =
    let i = wanted_stores s h (Visit c) l in
    is_accepted s h (Visit c) i.1
    ∙ ap (λ v. reply.Visited v) (does_mark (is_owed c h) (is_empty (list c h)) i.0)
