-- Once a barrier visited each processor, and each callback that was queued before that was handed
-- out, its test answers done.
use Rattle.std.proofs.Common.{◌≡◌, ℕ, zero, suc, ◌+◌, ◌<◌, ◌≤◌, Bool, true, false, not, ◌&&◌, List}
use Rattle.std.proofs.Common.{[], ◌∷◌, ◌++◌, refl, sym, ap, ◌∙◌, subst, arith, cond, eqb, length}
use Rattle.std.proofs.Common.{set, get_or, replicate}
use Rattle.std.specs.List.{list_any}
use Rattle.std.specs.Prelude.{if◌then◌else◌}
use Rattle.std.proofs.lemmas.Bool.{or_parts}
use Rattle.std.proofs.lemmas.List.Sums.{get_or-le-sum_by, sum_by-cons}
use Rattle.rcu_cblist.specs.SegList.{Item, Of, Unmarked, after_entrain, after_migrate, as_it_leaves}
use Rattle.rcu_cblist.specs.SegList.{after_take, mark_renumbered, markers}
use Rattle.rcu_cblist.specs.SegList.{take_answer}
use Rattle.rcu_barrier.specs.Lists.{AllLists, barrier_left, barrier_test_answer, is_visited}
use Rattle.rcu_barrier.specs.Lists.{list_of, markers_in, owes_visit, unvisited, with_list}
use Rattle.rcu_barrier.specs.Runs.{Call, IsNew, IsRun, MayCall, after_call, begins_barrier}
use Rattle.rcu_barrier.specs.Runs.{lists_after, times_handed_out, Queue, Tend, Run, Migrate}
use Rattle.rcu_barrier.specs.Runs.{BarrierBegin, Visit, BarrierTest, Renumber}
use Rattle.rcu_barrier.specs.Tending.{after_tend, mark_after_tend}
use Rattle.rcu_barrier.specs.declared.lists.BarrierState.{BarrierState}
use Rattle.rcu_barrier.specs.declared.lists.BarrierState.TheVariants as state
use Rattle.rcu_barrier.proofs.AsQueued.{each_at_most, none_at_zero}
use Rattle.rcu_barrier.proofs.Barriers.{as_many_flags, none_in}
use Rattle.rcu_barrier.proofs.EachCallback.{at_set, renumbered_at}
use Rattle.rcu_barrier.proofs.Led.{Led, led-append, led-from, led-leaving, led-more, led-moved}
use Rattle.rcu_barrier.proofs.Led.{led-remarked, led-unowed, no_marker}
use Rattle.rcu_barrier.proofs.Handing.{as_many, queued_up}
use Rattle.rcu_barrier.proofs.Once.{once_each}
use Rattle.rcu_barrier.proofs.Places.{lies}

none_owed : (r v : Bool) → v ≡ true → (r && not v) ≡ false
none_owed true true i = refl
none_owed true false i = absurd (cc)
none_owed false v i = refl

none_unvisited : (flags : List Bool) → ((c : ℕ) → c < length flags → get_or flags c false ≡ true)
    → unvisited flags ≡ 0
none_unvisited [] f = refl
none_unvisited (true ∷ flags) f =
    let a = sum_by-cons (λ flag. cond {A = ℕ} (not flag) 1 0) true flags in
    let b = none_unvisited flags (λ c l. f (suc c) (omega (arith, l))) in
    omega (arith, a, b)
none_unvisited (false ∷ flags) f = absurd (let i = f 0 (omega arith) in cc)

is_owed : (r v : Bool) → r ≡ true → v ≡ false → (r && not v) ≡ true
is_owed true true i k = absurd (cc)
is_owed true false i k = refl
is_owed false v i k = absurd (cc)

told : (left : ℕ) → left ≡ 0
    → (if eqb left 0 then state.Done else state.Waits left) ≡ state.Done
told left i = rw i refl

none_led : (X : Type 0) (q n c : ℕ) → Led {X = X} q false (get_or (replicate n []) c [])
none_led X q zero c = tt
none_led X q (suc n) zero = tt
none_led X q (suc n) (suc c) = none_led X q n c

module _ {X : Type 0} where
  -- each marker of the lists is behind a callback of a place at most this
  AreLed : ℕ → AllLists X → Type 0
  AreLed q all = (c : ℕ) → Led q false (list_of all c)

  -- one of the lists becomes another
  led_set : (q : ℕ) (lists : List (List (Item X))) (d : ℕ) (xs : List (Item X)) → Led q false xs
      → ((c : ℕ) → Led q false (get_or lists c [])) → (c : ℕ)
      → Led q false (get_or (set lists d xs) c [])
  led_set q lists d xs new old c =
      at_set (Led q false) lists d c xs [] tt (λ _. new) (λ _. old c)

  led_visited : (q d : ℕ) (all : AllLists X) (flags : List Bool) (seen : Bool)
      → (seen ≡ false → Led q false (after_entrain (list_of all d))) → AreLed q all
      → AreLed q (cond seen all (record (with_list all d (after_entrain (list_of all d))) {
        visited = flags;
      }))
  unfolding AreLed
  led_visited q d all flags true new f = f
  led_visited q d all flags false new f =
      led_set q all.lists d (after_entrain (list_of all d)) (new refl) f

  led_tested : (q : ℕ) (all : AllLists X) (done : Bool) → AreLed q all
      → AreLed q (cond done (record all { running = false }) all)
  unfolding AreLed
  led_tested q all true f = f
  led_tested q all false f = f

  -- and so it is after a call, if it is of each list that the call gives a marker or moves
  led_step : (q : ℕ) (all : AllLists X) (call : Call X) → MayCall all call
      → ((d : ℕ) → d < length all.lists
      → Led q false (as_it_leaves (list_of all d) (owes_visit all d)))
      → AreLed q all → AreLed q (after_call all call)
  unfolding AreLed
  led_step q all (Queue d at value) may leaving f =
      let new : Item X = Of (record { ord = all.queued + 1; at = at; value = value }) Unmarked in
      led_set q all.lists d (list_of all d ++ new ∷ [])
      (led-append q false (list_of all d) (new ∷ []) (f d) tt) f
  led_step q all (Tend d number) may leaving f =
      led_set q all.lists d (after_tend (list_of all d) number)
      (led-remarked q false (mark_after_tend number) (list_of all d) (f d)) f
  led_step q all (Run d most) may leaving f =
      led_set q all.lists d (after_take (list_of all d) most)
      (led-from q false (length (take_answer (list_of all d) most)) (list_of all d) (f d)) f
  led_step q all (Migrate d) may leaving f =
      let xs = as_it_leaves (list_of all d) (owes_visit all d) in
      let new = after_migrate (list_of all 0) xs in
      led_set q (set all.lists 0 new) d [] tt
      (led_set q all.lists 0 new (led-moved q xs (list_of all 0) (leaving d may.1) (f 0)) f)
  led_step q all BarrierBegin may leaving f = f
  led_step q all (Visit d) may leaving f =
      led_visited q d all (set all.visited d true) (is_visited all d)
      (λ e. subst (λ b. Led q false (as_it_leaves (list_of all d) b))
      (is_owed all.running (is_visited all d) may.1 e) (leaving d may.0))
      f
  led_step q all BarrierTest may leaving f = led_tested q all (eqb (barrier_left all) 0) f
  led_step q all Renumber may leaving f =
      λ c. rw (renumbered_at all.lists c)
      (led-remarked q false mark_renumbered (list_of all c) (f c))

  -- in every run each marker is behind a callback that was queued
  led_each : (first : AllLists X) (calls : List (Call X)) → IsNew first → IsRun first calls
      → AreLed (lists_after first calls).queued (lists_after first calls)
  unfolding AreLed
  led_each first [] new is =
      subst (λ (all : AllLists X). (c : ℕ) → Led first.queued false (list_of all c)) (sym new)
      (λ c. none_led X first.queued (length first.lists) c)
  led_each first (call ∷ calls) new is =
      let all = lists_after first calls in
      let f = led_each first calls new is.1 in
      let q = all.queued in
      λ c.
      led-more q (after_call all call).queued false false (list_of (after_call all call) c)
      (queued_up all call) (λ i. i)
      (led_step q all call is.0
      (λ d l.
      led-leaving q (owes_visit all d) (list_of all d) (each_at_most first calls new d) (f d)) f c)

  -- a barrier visited each processor, and each marker is behind a callback of a place at most this
  record Visited (q : ℕ) (all : AllLists X) : Type 0 where
    pub seen : (c : ℕ) → c < length all.lists → is_visited all c ≡ true
    pub led : AreLed q all

  -- no call but a begin takes back a visit
  seen_step : (all : AllLists X) (call : Call X) → MayCall all call → begins_barrier call ≡ false
      → ((c : ℕ) → c < length all.lists → is_visited all c ≡ true) → (c : ℕ)
      → c < length all.lists → is_visited (after_call all call) c ≡ true
  seen_step all (Queue d at value) may keep f c l = f c l
  seen_step all (Tend d number) may keep f c l = f c l
  seen_step all (Run d most) may keep f c l = f c l
  seen_step all (Migrate d) may keep f c l =
      ap
      (λ (b : Bool). get_or (if b then set all.visited d true else all.visited) c false)
      (none_owed all.running (is_visited all d) (f d may.1))
      ∙ f c l
  seen_step all BarrierBegin may keep f c l = absurd (cc)
  seen_step all (Visit d) may keep f c l =
      ap
      (λ (b : Bool). is_visited (cond b all (record (with_list all d
      (after_entrain (list_of all d))) { visited = set all.visited d true })) c)
      (f d may.0)
      ∙ f c l
  seen_step all BarrierTest may keep f c l = tested c (eqb (barrier_left all) 0) (f c l)
    where
      tested : (c : ℕ) (done : Bool) → is_visited all c ≡ true
          → is_visited (cond done (record all { running = false }) all) c ≡ true
      tested c true i = i
      tested c false i = i
  seen_step all Renumber may keep f c l = f c l

  visited_later : (q : ℕ) (first : AllLists X) (later earlier : List (Call X))
      → IsRun first (later ++ earlier)
      → list_any begins_barrier later ≡ false
      → Visited q (lists_after first earlier)
      → Visited q (lists_after first (later ++ earlier))
  unfolding AreLed
  visited_later q first [] earlier is keep f = f
  visited_later q first (call ∷ later) earlier is keep f =
      let all = lists_after first (later ++ earlier) in
      let o = or_parts (begins_barrier call) (list_any begins_barrier later) keep in
      let g = visited_later q first later earlier is.1 o.1 f in
      let long = as_many all call in
      record {
        seen = λ c l. seen_step all call is.0 o.0 g.seen c (omega (arith, l, long));
        led = led_step q all call is.0
            (λ d l. led-unowed q (owes_visit all d) (list_of all d)
            (none_owed all.running (is_visited all d) (g.seen d l)) (g.led d))
            g.led;
      }

  run_before : (first : AllLists X) (later earlier : List (Call X)) → IsRun first (later ++ earlier)
      → IsRun first earlier
  run_before first [] earlier is = is
  run_before first (call ∷ later) earlier is = run_before first later earlier is.1

  -- a callback that was handed out is in no list
  gone : (first : AllLists X) (calls : List (Call X)) (q c : ℕ) → IsNew first → IsRun first calls
      → c < length (lists_after first calls).lists
      → ((j : ℕ) → 0 < j → j ≤ q → times_handed_out j first calls ≡ 1)
      → (j : ℕ) → j ≤ q → lies j (list_of (lists_after first calls) c) ≡ 0
  gone first calls q c new is l out zero b = none_at_zero first calls new c
  gone first calls q c new is l out (suc j) b =
      let all = lists_after first calls in
      let once = (once_each (suc j) first calls new is).once in
      let le = get_or-le-sum_by (lies (suc j)) all.lists c [] l in
      let one = out (suc j) (omega arith) b in
      omega (arith, once, le, one)

  pub barrier_finishes : (first : AllLists X) (later visited : List (Call X))
      → IsNew first
      → IsRun first (BarrierTest ∷ later ++ visited)
      → ((cpu : ℕ) → cpu < length (lists_after first visited).lists
      → is_visited (lists_after first visited) cpu ≡ true)
      → list_any begins_barrier later ≡ false
      → ((j : ℕ) → 0 < j → j ≤ (lists_after first visited).queued
      → times_handed_out j first (later ++ visited) ≡ 1)
      → barrier_test_answer (lists_after first (later ++ visited)) ≡ BarrierState.Done
  unfolding AreLed
  barrier_finishes first later visited new is seen keep out =
      let calls = later ++ visited in
      let all = lists_after first calls in
      let q = (lists_after first visited).queued in
      let f = visited_later q first later visited is.1 keep (record {
        seen = seen;
        led = led_each first visited new (run_before first later visited is.1);
      }) in
      let m : markers_in all.lists ≡ 0 =
      none_in markers all.lists (λ c l.
      no_marker q (list_of all c) (gone first calls q c new is.1 l out) (f.led c)) in
      let sized = as_many_flags first calls new is.1 in
      let u = none_unvisited all.visited (λ c l. f.seen c (omega (arith, l, sized))) in
      told (barrier_left all) (omega (arith, m, u))
