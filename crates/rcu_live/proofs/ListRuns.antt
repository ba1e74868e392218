-- A run of the engine is a run of calls on its lists, so the laws of those hold for it.
use Rattle.std.proofs.Common.{◌≡◌, ℕ, ◌+◌, ◌<◌, ◌≤◌, Bool, true, false, ◌&&◌, List, [], ◌∷◌, ◌++◌}
use Rattle.std.proofs.Common.{refl, sym, ap, ◌∙◌, arith, subst, length, set}
use Rattle.std.specs.Prelude.{◌==◌, if◌then◌else◌, Option, Some, slice_get}
use Rattle.std.proofs.lemmas.List.{length-replicate, length-set, length-map}
use Rattle.rcu_seq.specs.Seq.{number_of, tag_of}
use Rattle.rcu_node.specs.CpuSet.{is_in}
use Rattle.rcu_hotplug.specs.Hotplug.{Arrive, Depart}
use Rattle.rcu_cblist.specs.SegList.{Item, after_entrain, after_renumber, take_answer}
use Rattle.rcu_cblist.specs.declared.items.Queued.{Queued}
use Rattle.rcu_barrier.specs.Lists.{AllLists, at_first, barrier_left, barrier_test_answer}
use Rattle.rcu_barrier.specs.Lists.{is_visited, list_of, lists_after_migrate}
use Rattle.rcu_barrier.specs.declared.lists.BarrierState.{BarrierState}
use Rattle.rcu_state.specs.GpState.{Grace, after_current_report, after_start_poll, awaited_in}
use Rattle.rcu_state.specs.GpState.{periods_of, with_call}
use Rattle.rcu_state.specs.Periods.{wants_begin}
use Rattle.rcu_live.specs.Drive.{after_drive, after_collections, moved_on}
use Rattle.rcu_live.specs.Engine.{Locked, after_begin, after_collect, after_end, after_turn}
use Rattle.rcu_live.specs.EngineLists.{after_departure, after_join, after_load_own, on_grace}
use Rattle.rcu_live.specs.EngineLists.{with_departure}
use Rattle.rcu_live.specs.Numbers.{reports_quiescence}
use Rattle.rcu_barrier.specs.Runs as lists
use Rattle.rcu_barrier.specs.Runs.{copies}
use Rattle.rcu_live.specs.Runs.{Call, IsNew, IsRun, MayCall, engine_after, queued_as}
use Rattle.rcu_live.specs.Runs.{queued_before_barrier, times_handed_out, Begin, End, Turn, Drive}
use Rattle.rcu_live.specs.Runs.{Collect, CollectAwaited, StartPoll, Join, Leave, Depart, Look}
use Rattle.rcu_live.specs.Runs.{Queue, Tend, Run, BarrierBegin, Visit, BarrierTest}

module _ {X : Type 0} where
  heard : (b : Bool) (g h : Grace X) → h.lists ≡ g.lists → (if b then h else g).lists ≡ g.lists
  heard true g h same = same
  heard false g h same = refl

  arrived : (g : Grace X) (cpu : ℕ) (b : Bool)
      → (if b then g else with_call g (Arrive cpu)).lists ≡ g.lists
  arrived g cpu true = refl
  arrived g cpu false = refl

  pub departed : (g : Grace X) (cpu : ℕ) → (with_departure g cpu).lists ≡ g.lists
  departed g cpu = heard (is_in g.processors.online cpu) g (with_call g (Depart cpu)) refl

  visited_length : (all : AllLists X) (xs : List (List (Item X))) (flags : List Bool) (b : Bool)
      → length xs ≡ length all.lists
      → length (if b then all else (record all { lists = xs; visited = flags })).lists
      ≡ length all.lists
  visited_length all xs flags true same = refl
  visited_length all xs flags false same = same

  tested_length : (all : AllLists X) (b : Bool)
      → length (if b then (record all { running = false }) else all).lists ≡ length all.lists
  tested_length all true = refl
  tested_length all false = refl

  -- no call on the lists changes their number
  as_many : (all : AllLists X) (call : lists.Call X)
      → length (lists.after_call all call).lists ≡ length all.lists
  as_many all (lists.Queue cpu at value) = length-set all.lists cpu _
  as_many all (lists.Tend cpu number) = length-set all.lists cpu _
  as_many all (lists.Run cpu most) = length-set all.lists cpu _
  as_many all (lists.Migrate cpu) = length-set _ cpu [] ∙ length-set all.lists 0 _
  as_many all lists.BarrierBegin = refl
  as_many all (lists.Visit cpu) =
      visited_length all (set all.lists cpu (after_entrain (list_of all cpu)))
      (set all.visited cpu true) (is_visited all cpu) (length-set all.lists cpu _)
  as_many all lists.BarrierTest = tested_length all (barrier_left all == 0)
  as_many all lists.Renumber = length-map all.lists after_renumber

module _ {C X : Type 0} where
  -- a call that changes no list and no processor's count
  pub record Keeps (e f : Locked C X) : Type 0 where
    pub same : f.grace.lists ≡ e.grace.lists
    pub count : f.cpus ≡ e.cpus

  kept : (e : Locked C X) → Keeps e e
  kept e = record { same = refl; count = refl }

  kept_both : (e f g : Locked C X) → Keeps e f → Keeps f g → Keeps e g
  kept_both e f g k l = record { same = l.same ∙ k.same; count = l.count ∙ k.count }

  kept_if : (b : Bool) (e f g : Locked C X) → Keeps e f → Keeps e g → Keeps e (if b then f else g)
  kept_if true e f g k l = k
  kept_if false e f g k l = l

  pub kept_begin : (e : Locked C X) (word : ℕ → ℕ) → Keeps e (after_begin e word)
  kept_begin e word = record { same = refl; count = refl }

  pub kept_end : (e : Locked C X) → Keeps e (after_end e)
  kept_end e = record { same = refl; count = refl }

  pub kept_turn : (e : Locked C X) (word : ℕ → ℕ) → Keeps e (after_turn e word)
  kept_turn e word =
      let ended = kept_if (awaited_in e.grace == 0) e (after_end e) e (kept_end e) (kept e) in
      let begun = kept_if (wants_begin (periods_of e.grace)) e (after_begin e word) e
      (kept_begin e word) (kept e) in
      kept_if e.grace.seq.running e _ _ ended begun

  pub kept_collections : (e : Locked C X) (word : ℕ → ℕ) → Keeps e (after_collections e word)
  kept_collections e word = record { same = refl; count = refl }

  pub kept_drive : (e : Locked C X) (is_wanted : Bool) (word : ℕ → ℕ)
      → Keeps e (after_drive e is_wanted word)
  kept_drive e is_wanted word =
      let now = moved_on e is_wanted word in
      let begun = kept_if is_wanted e (after_begin e word) e (kept_begin e word) (kept e) in
      let moved : Keeps e now = kept_if e.grace.seq.running e _ _ (kept_collections e word) begun in
      kept_if (now.grace.seq.running && (awaited_in now.grace == 0)) e (after_end now) now
      (kept_both e now (after_end now) moved (kept_end now)) moved

  pub kept_collect : (e : Locked C X) (cpu word : ℕ) → Keeps e (after_collect e cpu word)
  kept_collect e cpu word =
      let told = reports_quiescence (number_of e.grace.seq) word in
      kept_if e.grace.seq.running e _ e
      (record { same = heard told e.grace (after_current_report e.grace cpu) refl; count = refl })
      (kept e)

  pub kept_join : (e : Locked C X) (cpu : ℕ) → Keeps e (after_join e cpu)
  kept_join e cpu = record {
    same = arrived e.grace cpu (is_in e.grace.processors.online cpu);
    count = refl;
  }

  pub kept_departure : (e : Locked C X) (cpu word : ℕ) → Keeps e (after_departure e cpu word)
  kept_departure e cpu word = record { same = departed e.grace cpu; count = refl }

  kept_start_poll : (e : Locked C X) → Keeps e (on_grace (λ g. after_start_poll g) e)
  kept_start_poll e = record { same = refl; count = refl }

  kept_look : (e : Locked C X) (cpu word : ℕ) → Keeps e (after_load_own e cpu word)
  kept_look e cpu word = record { same = refl; count = refl }

  -- which call on the lists a call of the engine is, if any
  abbrev pub on_lists : Locked C X → Call X → List (lists.Call X)
  on_lists e (Leave cpu word) = lists.Migrate cpu ∷ []
  on_lists e (Queue cpu value) = lists.Queue cpu (tag_of e.grace.seq) value ∷ []
  on_lists e (Tend cpu) = lists.Tend cpu (number_of e.grace.seq) ∷ []
  on_lists e (Run cpu most) = lists.Run cpu most ∷ []
  on_lists e BarrierBegin = lists.BarrierBegin ∷ []
  on_lists e (Visit cpu) = lists.Visit cpu ∷ []
  on_lists e BarrierTest = lists.BarrierTest ∷ []
  on_lists e _ = []

  -- the calls on the lists that a run makes
  abbrev pub list_calls : Locked C X → List (Call X) → List (lists.Call X)
  list_calls first [] = []
  list_calls first (call ∷ calls) =
      on_lists (engine_after first calls) call ++ list_calls first calls

  -- a run on the lists that leaves the lists of an engine, with the same callbacks queued and
  -- handed out as the run of the engine
  pub record Onto (first : AllLists X) (run : List (lists.Call X)) (e : Locked C X) (times : ℕ → ℕ)
      (before : ℕ) (queued : ℕ → Option (Queued X)) : Type 0 where
    pub leaves : lists.lists_after first run ≡ e.grace.lists
    pub is : lists.IsRun first run
    pub sized : length e.grace.lists.lists ≡ e.cpus
    pub handed : (j : ℕ) → lists.times_handed_out j first run ≡ times j
    pub began : lists.queued_before_barrier first run ≡ before
    pub found : (j : ℕ) → lists.queued_as j first run ≡ queued j

  keep : (first : AllLists X) (run : List (lists.Call X)) (e f : Locked C X) (times : ℕ → ℕ)
      (before : ℕ) (queued : ℕ → Option (Queued X))
      → Keeps e f
      → Onto first run e times before queued
      → Onto first run f times before queued
  keep first run e f times before queued k o = record {
    leaves = o.leaves ∙ sym k.same;
    is = o.is;
    sized = ap (λ (all : AllLists X). length all.lists) k.same ∙ (o.sized ∙ sym k.count);
    handed = o.handed;
    began = o.began;
    found = o.found;
  }

  called : (first : AllLists X) (run : List (lists.Call X)) (e f : Locked C X) (times after : ℕ → ℕ)
      (before since : ℕ) (queued known : ℕ → Option (Queued X)) (call : lists.Call X)
      → lists.MayCall e.grace.lists call
      → f.grace.lists ≡ lists.after_call e.grace.lists call
      → f.cpus ≡ e.cpus
      → ((j : ℕ) → lists.times_handed_out j first (call ∷ run) ≡ after j)
      → lists.queued_before_barrier first (call ∷ run) ≡ since
      → ((j : ℕ) → lists.queued_as j first (call ∷ run) ≡ known j)
      → Onto first run e times before queued
      → Onto first (call ∷ run) f after since known
  called first run e f times after before since queued known call may left count handed began
      found o = record {
        leaves = ap (λ all. lists.after_call all call) o.leaves ∙ sym left;
        is = (subst (λ all. lists.MayCall all call) (sym o.leaves) may, o.is);
        sized =
            ap (λ (all : AllLists X). length all.lists) left
            ∙ (as_many e.grace.lists call ∙ (o.sized ∙ sym count));
        handed = handed;
        began = began;
        found = found;
      }

  Stands : Locked C X → List (Call X) → Type 0
  Stands first calls =
      Onto first.grace.lists (list_calls first calls) (engine_after first calls)
      (λ j. times_handed_out j first calls) (queued_before_barrier first calls)
      (λ j. queued_as j first calls)

  step : (first : Locked C X) (call : Call X) (calls : List (Call X))
      → MayCall (engine_after first calls) call → Stands first calls → Stands first (call ∷ calls)
  unfolding Stands
  step first (Begin word) calls may o =
      let e = engine_after first calls in keep _ _ e _ _ _ _ (kept_begin e word) o
  step first End calls may o = let e = engine_after first calls in keep _ _ e _ _ _ _ (kept_end e) o
  step first (Turn word) calls may o =
      let e = engine_after first calls in keep _ _ e _ _ _ _ (kept_turn e word) o
  step first (Drive is_wanted word) calls may o =
      let e = engine_after first calls in keep _ _ e _ _ _ _ (kept_drive e is_wanted word) o
  step first (Collect cpu word) calls may o =
      let e = engine_after first calls in keep _ _ e _ _ _ _ (kept_collect e cpu word) o
  step first (CollectAwaited word) calls may o =
      let e = engine_after first calls in keep _ _ e _ _ _ _ (kept_collections e word) o
  step first StartPoll calls may o =
      let e = engine_after first calls in keep _ _ e _ _ _ _ (kept_start_poll e) o
  step first (Join cpu) calls may o =
      let e = engine_after first calls in keep _ _ e _ _ _ _ (kept_join e cpu) o
  step first (Depart cpu word) calls may o =
      let e = engine_after first calls in keep _ _ e _ _ _ _ (kept_departure e cpu word) o
  step first (Look cpu word) calls may o =
      let e = engine_after first calls in keep _ _ e _ _ _ _ (kept_look e cpu word) o
  step first (Leave cpu word) calls may o =
      let e = engine_after first calls in
      called _ _ e _ _ _ _ _ _ _ (lists.Migrate cpu) (may.0, omega (arith, may.1, o.sized))
      (ap (λ all. lists_after_migrate all cpu) (departed e.grace cpu)) refl o.handed o.began o.found
      o
  step first (Queue cpu value) calls may o =
      let e = engine_after first calls in
      called _ _ e _ _ _ _ _ _ _ (lists.Queue cpu (tag_of e.grace.seq) value)
      (omega (arith, may, o.sized)) refl refl o.handed o.began
      (λ j.
      ap (λ (n : ℕ).
      if n + 1 == j
      then Some (record { ord = n + 1; at = tag_of e.grace.seq; value = value })
      else lists.queued_as j first.grace.lists (list_calls first calls))
      (ap (λ (all : AllLists X). all.queued) o.leaves)
      ∙ ap (λ (q : Option (Queued X)).
      if e.grace.lists.queued + 1 == j
      then Some (record { ord = e.grace.lists.queued + 1; at = tag_of e.grace.seq; value = value })
      else q)
      (o.found j))
      o
  step first (Tend cpu) calls may o =
      let e = engine_after first calls in
      called _ _ e _ _ _ _ _ _ _ (lists.Tend cpu (number_of e.grace.seq))
      (omega (arith, may, o.sized)) refl refl o.handed o.began o.found o
  step first (Run cpu most) calls may o =
      let e = engine_after first calls in
      called _ _ e _ _ _ _ _ _ _ (lists.Run cpu most) (omega (arith, may, o.sized)) refl refl
      (λ j.
      let i = ap (λ all. copies j (take_answer (list_of all cpu) most)) o.leaves in
      let k = o.handed j in omega (arith, i, k))
      o.began o.found o
  step first BarrierBegin calls may o =
      let e = engine_after first calls in
      called _ _ e _ _ _ _ _ _ _ lists.BarrierBegin may refl refl o.handed
      (ap (λ (all : AllLists X). all.queued) o.leaves) o.found o
  step first (Visit cpu) calls may o =
      let e = engine_after first calls in
      called _ _ e _ _ _ _ _ _ _ (lists.Visit cpu) (omega (arith, may.0, o.sized), may.1) refl refl
      o.handed o.began o.found o
  step first BarrierTest calls may o =
      let e = engine_after first calls in
      called _ _ e _ _ _ _ _ _ _ lists.BarrierTest may refl refl o.handed o.began o.found o

  each : (first : Locked C X) (calls : List (Call X))
      → length first.grace.lists.lists ≡ first.cpus → IsRun first calls → Stands first calls
  unfolding Stands
  each first [] sized is = record {
    leaves = refl;
    is = tt;
    sized = sized;
    handed = λ j. refl;
    began = refl;
    found = λ j. refl;
  }
  each first (call ∷ calls) sized is = step first call calls is.0 (each first calls sized is.1)

  pub runs_onto : (first : Locked C X) (calls : List (Call X))
      → length first.grace.lists.lists ≡ first.cpus
      → IsRun first calls
      → Onto first.grace.lists (list_calls first calls) (engine_after first calls)
      (λ j. times_handed_out j first calls) (queued_before_barrier first calls)
      (λ j. queued_as j first calls)
  unfolding Stands
  runs_onto first calls sized is = each first calls sized is

module _ {C X : Type 0} (first : Locked C X) (calls : List (Call X)) (place : ℕ)
    (new : IsNew first) where
  -- there are as many lists as processors, and they are as at first
  pub as_many_lists : length first.grace.lists.lists ≡ first.cpus
  as_many_lists = ap (λ (all : AllLists X). length all.lists) new ∙ length-replicate first.cpus []

  pub lists_new : lists.IsNew first.grace.lists
  lists_new = new ∙ ap (λ n. at_first n first.grace.lists.most) (sym as_many_lists)

  -- no callback is handed out twice
  pub at_most_once : ((all : AllLists X) (run : List (lists.Call X)) (j : ℕ)
      → lists.IsNew all → lists.IsRun all run → lists.times_handed_out j all run ≤ 1)
      → IsRun first calls
      → times_handed_out place first calls ≤ 1
  unfolding Stands
  at_most_once law is =
      let o = each first calls as_many_lists is in
      let once = law first.grace.lists (list_calls first calls) place lists_new o.is in
      let same = o.handed place in
      omega (arith, once, same)

  -- none is lost
  pub none_lost : ((all : AllLists X) (run : List (lists.Call X)) (j : ℕ)
      → lists.IsNew all → lists.IsRun all run → 0 < j → j ≤ (lists.lists_after all run).queued
      → lists.times_handed_out j all run + lists.times_listed j (lists.lists_after all run) ≡ 1)
      → IsRun first calls
      → 0 < place
      → place ≤ (engine_after first calls).grace.lists.queued
      → times_handed_out place first calls
      + lists.times_listed place (engine_after first calls).grace.lists
      ≡ 1
  unfolding Stands
  none_lost law is z b =
      let o = each first calls as_many_lists is in
      let count = ap (λ (all : AllLists X). all.queued) o.leaves in
      let once = law first.grace.lists (list_calls first calls) place lists_new o.is z
      (omega (arith, b, count)) in
      let same = o.handed place in
      let listed = ap (λ all. lists.times_listed place all) o.leaves in
      omega (arith, once, same, listed)

  -- a barrier covers the callbacks that were queued before it
  pub earlier_are_handed : ((all : AllLists X) (run : List (lists.Call X)) (j : ℕ)
      → lists.IsNew all
      → lists.IsRun all (lists.BarrierTest ∷ run)
      → barrier_test_answer (lists.lists_after all run) ≡ BarrierState.Done
      → 0 < j
      → j ≤ lists.queued_before_barrier all run
      → lists.times_handed_out j all run ≡ 1)
      → IsRun first (BarrierTest ∷ calls)
      → barrier_test_answer (engine_after first calls).grace.lists ≡ BarrierState.Done
      → 0 < place
      → place ≤ queued_before_barrier first calls
      → times_handed_out place first calls ≡ 1
  unfolding Stands
  earlier_are_handed law is told z b =
      let o = each first calls as_many_lists is.1 in
      let may = subst (λ all. lists.MayCall all lists.BarrierTest) (sym o.leaves) is.0 in
      let done = ap (λ all. barrier_test_answer all) o.leaves ∙ told in
      let began = o.began in
      let once = law first.grace.lists (list_calls first calls) place lists_new (may, o.is) done z
      (omega (arith, b, began)) in
      let same = o.handed place in
      omega (arith, once, same)

  -- a callback that is handed out is as it was queued
  pub handed_was_queued : (cpu most : ℕ) (handed : Queued X)
      → ((all : AllLists X) (run : List (lists.Call X))
      → lists.IsNew all
      → lists.IsRun all run
      → slice_get (take_answer (list_of (lists.lists_after all run) cpu) most) place ≡ Some handed
      → lists.queued_as handed.ord all run ≡ Some handed)
      → IsRun first calls
      → slice_get (take_answer (list_of (engine_after first calls).grace.lists cpu) most) place
      ≡ Some handed
      → queued_as handed.ord first calls ≡ Some handed
  unfolding Stands
  handed_was_queued cpu most handed law is there =
      let o = each first calls as_many_lists is in
      sym (o.found handed.ord)
      ∙ law first.grace.lists (list_calls first calls) lists_new o.is
      (ap (λ all. slice_get (take_answer (list_of all cpu) most) place) o.leaves ∙ there)
