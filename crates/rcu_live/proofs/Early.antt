-- The callbacks that a run hands out have waited: the marks of each callback stay timely.
use Rattle.std.proofs.Common.{◌≡◌, ℕ, zero, suc, ◌+◌, ◌≤◌, Bool, true, false, ◌&&◌, List, [], ◌∷◌}
use Rattle.std.proofs.Common.{Some, refl, sym, ◌∙◌, subst, arith, cond, set, get_or}
use Rattle.std.specs.Prelude.{◌==◌, if◌then◌else◌, replicate, slice_get}
use Rattle.rcu_seq.specs.Numbers.{number_at}
use Rattle.rcu_seq.specs.Seq.{number_of, tag_of}
use Rattle.rcu_seq.specs.declared.tag.Tag.{Tag}
use Rattle.rcu_node.specs.CpuSet.{is_in}
use Rattle.rcu_hotplug.specs.Hotplug.{Arrive, Depart}
use Rattle.rcu_cblist.specs.SegList.{Item, Of, Unmarked, after_entrain, after_migrate, as_it_leaves}
use Rattle.rcu_cblist.specs.SegList.{take_answer}
use Rattle.rcu_cblist.specs.declared.items.Queued.{Queued}
use Rattle.rcu_barrier.specs.Lists.{AllLists, barrier_left, is_visited, list_of, owes_visit}
use Rattle.rcu_barrier.specs.Lists.{with_list}
use Rattle.rcu_state.specs.GpState.{AreTimely, Grace, HasWaited, after_current_report, awaited_in}
use Rattle.rcu_state.specs.GpState.{periods_of, with_call}
use Rattle.rcu_state.specs.Periods.{wants_begin}
use Rattle.rcu_state.proofs.Timely.{all_at, taken_waited, timely_append, timely_entrained}
use Rattle.rcu_state.proofs.Timely.{timely_later, timely_leaving, timely_moved, timely_tended}
use Rattle.rcu_state.proofs.Timely.{timely_untaken}
use Rattle.rcu_live.specs.Drive.{after_drive, after_collections, moved_on}
use Rattle.rcu_live.specs.Engine.{Locked, after_begin, after_collect, after_end, after_turn}
use Rattle.rcu_live.specs.EngineLists.{after_join, with_departure}
use Rattle.rcu_live.specs.Numbers.{reports_quiescence}
use Rattle.rcu_barrier.proofs.EachCallback.{at_set}
use Rattle.rcu_live.specs.Runs.{Call, IsNew, after_call, engine_after, Begin, End, Turn, Drive}
use Rattle.rcu_live.specs.Runs.{Collect, CollectAwaited, StartPoll, Join, Leave, Depart, Look}
use Rattle.rcu_live.specs.Runs.{Queue, Tend, Run, BarrierBegin, Visit, BarrierTest}

begun_is_more : (n : ℕ) (b : Bool) → number_at n b ≤ number_at n true
begun_is_more n true = omega arith
begun_is_more n false = omega arith

ended_is_more : (n : ℕ) (b : Bool) → number_at n b ≤ number_at (n + 1) false
ended_is_more n true = omega arith
ended_is_more n false = omega arith

none : (X : Type 0) (now : Tag) (n c : ℕ) → AreTimely {X = X} now (get_or (replicate n []) c [])
none X now zero c = tt
none X now (suc n) zero = tt
none X now (suc n) (suc c) = none X now n c

module _ {X : Type 0} where
  -- the number rises in its epoch, and the lists stay
  record Rises (g h : Grace X) : Type 0 where
    pub same : h.lists ≡ g.lists
    pub epoch : g.seq.epoch ≡ h.seq.epoch
    pub number : number_of g.seq ≤ number_of h.seq

  risen : (g : Grace X) → Rises g g
  risen g = record { same = refl; epoch = refl; number = omega arith }

  risen_both : (g h k : Grace X) → Rises g h → Rises h k → Rises g k
  risen_both g h k a b =
      let m = a.number in let n = b.number in
      record { same = b.same ∙ a.same; epoch = a.epoch ∙ b.epoch; number = omega (arith, m, n) }

  risen_if : (b : Bool) (g h k : Grace X) → Rises g h → Rises g k → Rises g (if b then h else k)
  risen_if true g h k a c = a
  risen_if false g h k a c = c

  -- each callback of each list is timely now
  AllTimely : Grace X → Type 0
  AllTimely g = (cpu : ℕ) → AreTimely (tag_of g.seq) (list_of g.lists cpu)

  later : (g h : Grace X) → Rises g h → AllTimely g → AllTimely h
  unfolding AllTimely
  later g h r a cpu =
      timely_later (tag_of g.seq) (tag_of h.seq) (list_of h.lists cpu) r.epoch r.number
      (subst (λ all. AreTimely (tag_of g.seq) (list_of all cpu)) (sym r.same) (a cpu))

  relisted : (now : Tag) (lists : List (List (Item X))) (cpu : ℕ) (xs : List (Item X))
      → AreTimely now xs → ((c : ℕ) → AreTimely now (get_or lists c [])) → (c : ℕ)
      → AreTimely now (get_or (set lists cpu xs) c [])
  relisted now lists cpu xs new old c =
      at_set (AreTimely now) lists cpu c xs [] tt (λ e. new) (λ n. old c)

  visited : (now : Tag) (all : AllLists X) (cpu : ℕ) (flags : List Bool) (seen : Bool)
      → ((c : ℕ) → AreTimely now (list_of all c))
      → (c : ℕ)
      → AreTimely now
      (list_of
      (cond seen all
      (record (with_list all cpu (after_entrain (list_of all cpu))) { visited = flags }))
      c)
  visited now all cpu flags true a = a
  visited now all cpu flags false a =
      relisted now all.lists cpu (after_entrain (list_of all cpu))
      (timely_entrained now (list_of all cpu) (a cpu)) a

  tested : (now : Tag) (all : AllLists X) (done : Bool)
      → ((c : ℕ) → AreTimely now (list_of all c)) → (c : ℕ)
      → AreTimely now (list_of (cond done (record all { running = false }) all) c)
  tested now all true a = a
  tested now all false a = a

  rises_departure : (g : Grace X) (cpu : ℕ) → Rises g (with_departure g cpu)
  rises_departure g cpu =
      let departed : Rises g (with_call g (Depart cpu)) = record {
        same = refl;
        epoch = refl;
        number = omega arith;
      } in
      risen_if (is_in g.processors.online cpu) g _ g departed (risen g)

module _ {C X : Type 0} where
  rises_begin : (e : Locked C X) (word : ℕ → ℕ) → Rises e.grace (after_begin e word).grace
  rises_begin e word = record {
    same = refl;
    epoch = refl;
    number = begun_is_more e.grace.seq.ends e.grace.seq.running;
  }

  rises_end : (e : Locked C X) → Rises e.grace (after_end e).grace
  rises_end e = record {
    same = refl;
    epoch = refl;
    number = ended_is_more e.grace.seq.ends e.grace.seq.running;
  }

  grace_if : (b : Bool) (g : Grace X) (e f : Locked C X) → Rises g e.grace → Rises g f.grace
      → Rises g (if b then e else f).grace
  grace_if true g e f a c = a
  grace_if false g e f a c = c

  rises_turn : (e : Locked C X) (word : ℕ → ℕ) → Rises e.grace (after_turn e word).grace
  rises_turn e word =
      let ended =
      grace_if (awaited_in e.grace == 0) e.grace (after_end e) e (rises_end e) (risen e.grace) in
      let begun = grace_if (wants_begin (periods_of e.grace)) e.grace (after_begin e word) e
      (rises_begin e word) (risen e.grace) in
      grace_if e.grace.seq.running e.grace _ _ ended begun

  rises_collections : (e : Locked C X) (word : ℕ → ℕ)
      → Rises e.grace (after_collections e word).grace
  rises_collections e word = record { same = refl; epoch = refl; number = omega arith }

  rises_drive : (e : Locked C X) (is_wanted : Bool) (word : ℕ → ℕ)
      → Rises e.grace (after_drive e is_wanted word).grace
  rises_drive e is_wanted word =
      let now = moved_on e is_wanted word in
      let begun =
      grace_if is_wanted e.grace (after_begin e word) e (rises_begin e word) (risen e.grace) in
      let moved : Rises e.grace now.grace =
      grace_if e.grace.seq.running e.grace _ _ (rises_collections e word) begun in
      grace_if (now.grace.seq.running && (awaited_in now.grace == 0)) e.grace (after_end now) now
      (risen_both e.grace now.grace (after_end now).grace moved (rises_end now)) moved

  rises_collect : (e : Locked C X) (cpu word : ℕ) → Rises e.grace (after_collect e cpu word).grace
  rises_collect e cpu word =
      let told = reports_quiescence (number_of e.grace.seq) word in
      let heard : Rises e.grace (after_current_report e.grace cpu) = record {
        same = refl;
        epoch = refl;
        number = omega arith;
      } in
      grace_if e.grace.seq.running e.grace _ e
      (risen_if told e.grace _ e.grace heard (risen e.grace)) (risen e.grace)

  rises_join : (e : Locked C X) (cpu : ℕ) → Rises e.grace (after_join e cpu).grace
  rises_join e cpu =
      let arrived : Rises e.grace (with_call e.grace (Arrive cpu)) = record {
        same = refl;
        epoch = refl;
        number = omega arith;
      } in
      risen_if (is_in e.grace.processors.online cpu) e.grace e.grace _ (risen e.grace) arrived

  step : (e : Locked C X) (call : Call X) → AllTimely e.grace → AllTimely (after_call e call).grace
  unfolding AllTimely
  step e (Begin word) a = later e.grace _ (rises_begin e word) a
  step e End a = later e.grace _ (rises_end e) a
  step e (Turn word) a = later e.grace _ (rises_turn e word) a
  step e (Drive is_wanted word) a = later e.grace _ (rises_drive e is_wanted word) a
  step e (Collect cpu word) a = later e.grace _ (rises_collect e cpu word) a
  step e (CollectAwaited word) a = later e.grace _ (rises_collections e word) a
  step e StartPoll a = a
  step e (Join cpu) a = later e.grace _ (rises_join e cpu) a
  step e (Depart cpu word) a = later e.grace _ (rises_departure e.grace cpu) a
  step e (Look cpu word) a = a
  step e (Leave cpu word) a =
      let g = with_departure e.grace cpu in
      let b = later e.grace g (rises_departure e.grace cpu) a in
      let now = tag_of g.seq in
      let owed = owes_visit g.lists cpu in
      let xs = as_it_leaves (list_of g.lists cpu) owed in
      let ys = after_migrate (list_of g.lists 0) xs in
      relisted now (set g.lists.lists 0 ys) cpu [] tt
      (relisted now g.lists.lists 0 ys
      (timely_moved now xs (list_of g.lists 0)
      (timely_leaving now owed (list_of g.lists cpu) (b cpu)) (b 0))
      b)
  step e (Queue cpu value) a =
      let now = tag_of e.grace.seq in let all = e.grace.lists in
      relisted now all.lists cpu _
      (timely_append now (list_of all cpu)
      (Of (record { ord = all.queued + 1; at = now; value = value }) Unmarked ∷ []) (a cpu)
      ((omega arith, λ same. omega arith), tt))
      a
  step e (Tend cpu) a =
      let now = tag_of e.grace.seq in let all = e.grace.lists in
      relisted now all.lists cpu _ (timely_tended now (list_of all cpu) (a cpu)) a
  step e (Run cpu most) a =
      let now = tag_of e.grace.seq in let all = e.grace.lists in
      relisted now all.lists cpu _ (timely_untaken now most (list_of all cpu) (a cpu)) a
  step e BarrierBegin a = a
  step e (Visit cpu) a =
      let all = e.grace.lists in
      visited (tag_of e.grace.seq) all cpu (set all.visited cpu true) (is_visited all cpu) a
  step e BarrierTest a =
      let all = e.grace.lists in tested (tag_of e.grace.seq) all (barrier_left all == 0) a

  each : (first : Locked C X) (calls : List (Call X)) → IsNew first
      → AllTimely (engine_after first calls).grace
  unfolding AllTimely
  each first [] new =
      λ c. subst (λ all. AreTimely (tag_of first.grace.seq) (list_of all c)) (sym new)
      (none X (tag_of first.grace.seq) first.cpus c)
  each first (call ∷ calls) new = step (engine_after first calls) call (each first calls new)

  pub has_waited : (first : Locked C X) (calls : List (Call X)) (cpu most at : ℕ)
      (handed : Queued X)
      → IsNew first
      → slice_get (take_answer (list_of (engine_after first calls).grace.lists cpu) most) at
      ≡ Some handed
      → HasWaited (tag_of (engine_after first calls).grace.seq) handed.at
  unfolding AllTimely
  has_waited first calls cpu most at handed new is =
      let e = engine_after first calls in
      let now = tag_of e.grace.seq in
      let xs = list_of e.grace.lists cpu in
      all_at (λ (c : Queued X). HasWaited now c.at) (take_answer xs most) at handed
      (taken_waited now most xs (take_answer xs most) (each first calls new cpu) refl) is
