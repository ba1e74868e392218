-- After a tend, a full grace period and a tend, each callback that was in the list is done.
use Rattle.std.proofs.Common.{◌≡◌, ℕ, ◌<◌, ◌≤◌, Bool, true, false, List, [], ◌∷◌, ◌++◌}
use Rattle.std.proofs.Common.{refl, sym, ap, ap₂, ◌∙◌, arith, subst, length, zero, suc, get_or}
use Rattle.std.proofs.Common.{append_assoc}
use Rattle.std.specs.Prelude.{All, replicate, ◌==◌, if◌then◌else◌}
use Rattle.std.specs.List.{list_any}
use Rattle.std.proofs.lemmas.Bool.{or_parts}
use Rattle.std.proofs.lemmas.List.Elements.{All-nil, All-weaker}
use Rattle.rcu_seq.specs.Numbers.{number_at, snapshot}
use Rattle.rcu_cblist.specs.SegList.{IsAtMost, behind, callbacks, front, Item}
use Rattle.rcu_barrier.specs.Settled.{unsettles}
use Rattle.rcu_barrier.proofs.MarkedLists.{AreMarked, at_most_from, marked_migrate, marked_queue}
use Rattle.rcu_barrier.proofs.MarkedLists.{marked_run, marked_tend, marked_test, marked_visit}
use Rattle.rcu_barrier.proofs.Handing.{none_left_waiting as none_left}
use Rattle.rcu_barrier.proofs.Handing.{then_handed_out as handed_then}
use Rattle.rcu_barrier.proofs.Maturing.{MarkedBy, marked_later}
use Rattle.rcu_live.specs.Progress.{leaves}
use Rattle.rcu_live.specs.Runs.{after_call, Call, IsNew, IsRun, MayCall, engine_after}
use Rattle.rcu_live.specs.Runs.{times_handed_out, Begin, End, Turn, Drive}
use Rattle.rcu_live.specs.Runs.{Collect, CollectAwaited, StartPoll, Join, Leave, Depart, Look}
use Rattle.rcu_live.specs.Runs.{Queue, Tend, Run, BarrierBegin, Visit, BarrierTest}
use Rattle.rcu_live.proofs.Elapsed.{Moved, Stays, Begins, Ends, Passes, moved}
use Rattle.rcu_seq.specs.Seq.{Periods, number_of, tag_of}
use Rattle.rcu_node.specs.CpuSet.{is_in}
use Rattle.rcu_hotplug.specs.Hotplug.{Depart}
use Rattle.rcu_barrier.specs.Lists.{AllLists}
use Rattle.rcu_barrier.specs.Lists.{list_of, lists_after_migrate}
use Rattle.rcu_state.specs.GpState.{Grace}
use Rattle.rcu_state.specs.GpState.{with_call}
use Rattle.rcu_live.specs.Drive.{after_drive, after_collections}
use Rattle.rcu_live.specs.Engine.{Locked, after_begin, after_collect, after_end, after_turn}
use Rattle.rcu_live.specs.EngineLists.{after_departure, after_join}
use Rattle.rcu_barrier.specs.Runs as lists
use Rattle.rcu_barrier.specs.Runs.{copies}
use Rattle.rcu_live.proofs.ListRuns.{Keeps, as_many_lists, departed, kept_begin, kept_collect}
use Rattle.rcu_live.proofs.ListRuns.{kept_collections, kept_departure, kept_drive, kept_end}
use Rattle.rcu_live.proofs.ListRuns.{kept_join, kept_turn, list_calls}
use Rattle.rcu_live.proofs.ListRuns.{lists_new, on_lists, runs_onto}

-- a departure leaves the counter
seq_left : {X : Type 0} (b : Bool) (g : Grace X) (cpu : ℕ)
    → (if b then with_call g (Depart cpu) else g).seq ≡ g.seq
seq_left true g cpu = refl
seq_left false g cpu = refl

-- there is nothing in empty lists
nothing_at : {X : Type 0} (n c : ℕ) → get_or (replicate {A = List (Item X)} n []) c [] ≡ []
nothing_at zero c = refl
nothing_at (suc n) zero = refl
nothing_at (suc n) (suc c) = nothing_at n c

-- the number never falls
pub rises : (old new : Periods) → Moved old new → number_of old ≤ number_of new
rises old new (Stays is) = let e = ap number_of is in omega (arith, e)
rises old new (Begins idle is) =
    let e = ap number_of is in
    let was = ap (λ b. number_at old.ends b) idle in omega (arith, e, was)
rises old new (Ends runs is) =
    let e = ap number_of is in
    let was = ap (λ b. number_at old.ends b) runs in omega (arith, e, was)
rises old new (Passes idle is) =
    let e = ap number_of is in
    let was = ap (λ b. number_at old.ends b) idle in omega (arith, e, was)

snapshot_rises : (n m : ℕ) → n ≤ m → snapshot n ≤ snapshot m
snapshot_rises n m l = omega (arith, l)

module _ {C X : Type 0} where
  -- each callback of an engine's lists waits for at most the snapshot of its number
  abbrev AreAllMarked : Locked C X → Type 0
  AreAllMarked e = AreMarked (snapshot (number_of e.grace.seq)) e.grace.lists

  marked_same : (e f : Locked C X) → Moved e.grace.seq f.grace.seq → Keeps e f → AreAllMarked e
      → AreAllMarked f
  marked_same e f m k a = λ c.
      let n = snapshot (number_of e.grace.seq) in
      let up = snapshot_rises (number_of e.grace.seq) (number_of f.grace.seq)
      (rises e.grace.seq f.grace.seq m) in
      subst (λ all. All (MarkedBy (snapshot (number_of f.grace.seq))) (list_of all c)) (sym k.same)
      (All-weaker (MarkedBy n) (MarkedBy (snapshot (number_of f.grace.seq)))
      (marked_later n (snapshot (number_of f.grace.seq)) up) (list_of e.grace.lists c) (a c))

  marked_step : (e : Locked C X) (call : Call X) → MayCall e call → AreAllMarked e
      → AreAllMarked (after_call e call)
  marked_step e (Begin word) may a =
      marked_same e (after_begin e word) (moved e (Begin word) may) (kept_begin e word) a
  marked_step e End may a = marked_same e (after_end e) (moved e End may) (kept_end e) a
  marked_step e (Turn word) may a =
      marked_same e (after_turn e word) (moved e (Turn word) may) (kept_turn e word) a
  marked_step e (Drive w word) may a =
      marked_same e (after_drive e w word) (moved e (Drive w word) may) (kept_drive e w word) a
  marked_step e (Collect d word) may a =
      marked_same e (after_collect e d word) (moved e (Collect d word) may) (kept_collect e d word)
      a
  marked_step e (CollectAwaited word) may a =
      marked_same e (after_collections e word) (moved e (CollectAwaited word) may)
      (kept_collections e word) a
  marked_step e StartPoll may a = a
  marked_step e (Join d) may a =
      marked_same e (after_join e d) (moved e (Join d) may) (kept_join e d) a
  marked_step e (Depart d word) may a =
      marked_same e (after_departure e d word) (moved e (Depart d word) may)
      (kept_departure e d word) a
  marked_step e (Look d word) may a = a
  marked_step e (Leave d word) may a = λ c.
      let n = snapshot (number_of e.grace.seq) in
      let left = departed e.grace d in
      let seq = ap number_of (seq_left (is_in e.grace.processors.online d) e.grace d) in
      subst (λ k. All (MarkedBy (snapshot k)) (list_of (after_call e (Leave d word)).grace.lists c))
      (sym seq)
      (subst (λ all. All (MarkedBy n) (list_of (lists_after_migrate all d) c)) (sym left)
      (marked_migrate n e.grace.lists d a c))
  marked_step e (Queue d value) may a =
      marked_queue (snapshot (number_of e.grace.seq)) e.grace.lists d (tag_of e.grace.seq) value a
  marked_step e (Tend d) may a = marked_tend (number_of e.grace.seq) e.grace.lists d a
  marked_step e (Run d most) may a =
      marked_run (snapshot (number_of e.grace.seq)) e.grace.lists d most a
  marked_step e BarrierBegin may a = a
  marked_step e (Visit d) may a =
      marked_visit (snapshot (number_of e.grace.seq)) e.grace.lists d a
  marked_step e BarrierTest may a = marked_test (snapshot (number_of e.grace.seq)) e.grace.lists a

  marked_each : (first : Locked C X) (calls : List (Call X)) → IsNew first → IsRun first calls
      → AreAllMarked (engine_after first calls)
  marked_each first [] new is = λ c.
      let K = MarkedBy (snapshot (number_of first.grace.seq)) in
      subst (λ xs. All K xs)
      (sym (ap (λ all. list_of all c) new ∙ nothing_at first.cpus c)) (All-nil K)
  marked_each first (call ∷ calls) new is =
      marked_step (engine_after first calls) call is.0 (marked_each first calls new is.1)

  -- a run in two parts
  engines : (first : Locked C X) (later earlier : List (Call X))
      → engine_after first (later ++ earlier) ≡ engine_after (engine_after first earlier) later
  engines first [] earlier = refl
  engines first (call ∷ later) earlier = ap (λ e. after_call e call) (engines first later earlier)

  pub calls_split : (first : Locked C X) (later earlier : List (Call X))
      → list_calls first (later ++ earlier)
      ≡ list_calls (engine_after first earlier) later ++ list_calls first earlier
  calls_split first [] earlier = refl
  calls_split first (call ∷ later) earlier =
      let base = engine_after first earlier in
      ap₂ (λ e (rest : List (lists.Call X)). on_lists e call ++ rest) (engines first later earlier)
      (calls_split first later earlier)
      ∙ sym (append_assoc (on_lists (engine_after base later) call) (list_calls base later)
      (list_calls first earlier))

  settled : (e : Locked C X) (c : ℕ) (later : List (Call X)) → list_any (leaves c) later ≡ false
      → list_any (unsettles c) (list_calls e later) ≡ false
  settled e c [] u = refl
  settled e c (Leave d word ∷ later) u =
      let o = or_parts (d == c) (list_any (leaves c) later) u in
      rw (o.0, settled e c later o.1) refl
  settled e c (call ∷ later) u = settled e c later u

  pub is_run_before : (first : Locked C X) (later earlier : List (Call X))
      → IsRun first (later ++ earlier)
      → IsRun first earlier
  is_run_before first [] earlier is = is
  is_run_before first (call ∷ later) earlier is = is_run_before first later earlier is.1

module _ {C X : Type 0} (first : Locked C X) (later earlier : List (Call X)) (cpu place : ℕ)
    (new : IsNew first) where
  -- the calls on the lists by two tends and the calls between them
  between : List (lists.Call X)
  between = list_calls (engine_after first (Tend cpu ∷ earlier)) later

  at_tend : List (Call X) → ℕ
  at_tend calls = number_of (engine_after first calls).grace.seq

  tends_are : list_calls first (Tend cpu ∷ later ++ Tend cpu ∷ earlier)
      ≡ lists.Tend cpu (at_tend (later ++ Tend cpu ∷ earlier)) ∷ between
      ++ lists.Tend cpu (at_tend earlier) ∷ list_calls first earlier
  unfolding between at_tend
  tends_are =
      ap
      (λ (calls : List (lists.Call X)).
      lists.Tend cpu (number_of (engine_after first (later ++ Tend cpu ∷ earlier)).grace.seq)
      ∷ calls)
      (calls_split first later (Tend cpu ∷ earlier))

  -- no callback that was in the list waits
  pub none_left_waiting : IsRun first (Tend cpu ∷ later ++ Tend cpu ∷ earlier)
      → snapshot (number_of (engine_after first earlier).grace.seq)
      ≤ number_of (engine_after first (later ++ Tend cpu ∷ earlier)).grace.seq
      → list_any (leaves cpu) later ≡ false
      → 0 < place
      → place ≤ (engine_after first earlier).grace.lists.queued
      → copies place (callbacks (list_of (engine_after first earlier).grace.lists cpu)) ≡ 1
      → copies place (callbacks (behind
      (list_of (engine_after first (Tend cpu ∷ later ++ Tend cpu ∷ earlier)).grace.lists cpu)))
      ≡ 0
  unfolding between at_tend
  none_left_waiting is up u z b one =
      let sized = as_many_lists first [] place new in
      let calls : List (Call X) = Tend cpu ∷ later ++ Tend cpu ∷ earlier in
      let o = runs_onto first calls sized is in
      let ran = (is_run_before first later (Tend cpu ∷ earlier) is.1).1 in
      let e = runs_onto first earlier sized ran in
      let n = number_of (engine_after first earlier).grace.seq in
      let most = at_most_from (snapshot n) (list_of (engine_after first earlier).grace.lists cpu)
      (marked_each first earlier new ran cpu) in
      sym
      (ap (λ all. copies place (callbacks (behind (list_of all cpu))))
      (ap (λ run. lists.lists_after first.grace.lists run) (sym tends_are) ∙ o.leaves))
      ∙ none_left first.grace.lists between (list_calls first earlier) cpu n
      (number_of (engine_after first (later ++ Tend cpu ∷ earlier)).grace.seq) place
      (lists_new first [] place new)
      (subst (λ run. lists.IsRun first.grace.lists run) tends_are o.is)
      (subst (λ all. IsAtMost (snapshot n) (list_of all cpu)) (sym e.leaves) most) up
      (settled (engine_after first (Tend cpu ∷ earlier)) cpu later u) z
      (subst (λ (all : AllLists X). place ≤ all.queued) (sym e.leaves) b)
      (ap (λ all. copies place (callbacks (list_of all cpu))) e.leaves ∙ one)

  -- and a run of as many as are done hands it out
  pub then_handed_out : (most : ℕ)
      → IsRun first (Run cpu most ∷ Tend cpu ∷ later ++ Tend cpu ∷ earlier)
      → snapshot (number_of (engine_after first earlier).grace.seq)
      ≤ number_of (engine_after first (later ++ Tend cpu ∷ earlier)).grace.seq
      → list_any (leaves cpu) later ≡ false
      → 0 < place
      → place ≤ (engine_after first earlier).grace.lists.queued
      → copies place (callbacks (list_of (engine_after first earlier).grace.lists cpu)) ≡ 1
      → length (callbacks (front
      (list_of (engine_after first (Tend cpu ∷ later ++ Tend cpu ∷ earlier)).grace.lists cpu)))
      ≤ most
      → times_handed_out place first (Run cpu most ∷ Tend cpu ∷ later ++ Tend cpu ∷ earlier) ≡ 1
  unfolding between at_tend
  then_handed_out most is up u z b one enough =
      let sized = as_many_lists first [] place new in
      let calls : List (Call X) = Tend cpu ∷ later ++ Tend cpu ∷ earlier in
      let o = runs_onto first (Run cpu most ∷ calls) sized is in
      let t = runs_onto first calls sized is.1 in
      let ran = (is_run_before first later (Tend cpu ∷ earlier) is.1.1).1 in
      let e = runs_onto first earlier sized ran in
      let n = number_of (engine_after first earlier).grace.seq in
      let marked = at_most_from (snapshot n) (list_of (engine_after first earlier).grace.lists cpu)
      (marked_each first earlier new ran cpu) in
      let runs = ap (λ (run : List (lists.Call X)). lists.Run cpu most ∷ run) tends_are in
      let left = ap (λ run. lists.lists_after first.grace.lists run) (sym tends_are) ∙ t.leaves in
      sym (o.handed place)
      ∙ ap (λ run. lists.times_handed_out place first.grace.lists run) runs
      ∙ handed_then first.grace.lists between (list_calls first earlier) cpu n
      (number_of (engine_after first (later ++ Tend cpu ∷ earlier)).grace.seq) most place
      (lists_new first [] place new)
      (subst (λ run. lists.IsRun first.grace.lists run) runs o.is)
      (subst (λ all. IsAtMost (snapshot n) (list_of all cpu)) (sym e.leaves) marked) up
      (settled (engine_after first (Tend cpu ∷ earlier)) cpu later u) z
      (subst (λ (all : AllLists X). place ≤ all.queued) (sym e.leaves) b)
      (ap (λ all. copies place (callbacks (list_of all cpu))) e.leaves ∙ one)
      (subst (λ all. length (callbacks (front (list_of all cpu))) ≤ most) (sym left) enough)
