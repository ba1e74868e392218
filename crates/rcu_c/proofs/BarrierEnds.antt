-- Waiting for a barrier ends: the items that it waits for after each of four calls.
use Rattle.std.proofs.Common.{◌≡◌, ℕ, ◌+◌, ◌<◌, ◌≤◌, true, List, [], ◌++◌, refl}
use Rattle.std.proofs.Common.{sym, ap, ◌∙◌, subst, arith, inl, inr, length}
use Rattle.std.specs.Prelude.{◌==◌, if◌then◌else◌}
use Rattle.std.proofs.lemmas.List.Elements.{All-weaker}
use Rattle.rcu_seq.specs.Numbers.{snapshot}
use Rattle.rcu_seq.specs.Seq.{Periods, number_of}
use Rattle.rcu_cblist.specs.SegList.{IsAtMost, Item, markers, numbers}
use Rattle.rcu_barrier.specs.Lists.{AllLists, barrier_left, is_visited, list_of}
use Rattle.rcu_barrier.specs.declared.lists.BarrierState.TheVariants as state
use Rattle.rcu_barrier.proofs.Maturing.{Soon, done_tended, soon_tended}
use Rattle.rcu_live.specs.Engine.{Locked}
use Rattle.rcu_live.specs.Runs.{Call, IsNew, IsRun, engine_after}
use Rattle.rcu_live.proofs.ListRuns.{as_many_lists, list_calls, lists_new, runs_onto}
use Rattle.rcu_live.proofs.Quieting.{two_ends_reach}
use Rattle.rcu_c.specs.Answers.{left_of}
use Rattle.rcu_c.specs.BarrierSteps.{after_driving, before_drive, begun, step_answer, visits}
use Rattle.rcu_c.specs.Progress.{AreQuiet, HandedOut, Waited, runs}
use Rattle.rcu_c.proofs.Ahead.{Ahead, Ready, ahead_tended, none_ahead, none_left, ready_tended}
use Rattle.rcu_c.proofs.Ahead.{whole_ahead}
use Rattle.rcu_c.proofs.BarrierLaws.{cpus_at, cpus_tended, ready_is_a_run}
use Rattle.rcu_c.proofs.BarrierRuns.{appended}
use Rattle.rcu_c.proofs.Driven.{ends_or_needless}
use Rattle.rcu_c.proofs.EachInTurn.{each_run, each_tended}
use Rattle.rcu_c.proofs.MostAwaited.{at_most_snapshot}
use Rattle.rcu_c.proofs.Visited.{At, HasFlags, Nothing, ahead_by, flags_each}
use Rattle.rcu_c.proofs.Visited.{nothing_left, stays}
use Rattle.rcu_c.proofs.WaitSteps.{all_seen, earlier_run, ends_waited, flags_begun}
use Rattle.rcu_c.proofs.WaitSteps.{joined, later_run}
use Rattle.rcu_c.proofs.WaitSteps.{needed_ready, number_over, number_ready, number_visiting}
use Rattle.rcu_c.proofs.WaitSteps.{number_waited}
use Rattle.rcu_c.proofs.WaitSteps.{quiet_ready, ready, ready_is, runs_on, soon_ready, stays_driven}
use Rattle.rcu_c.proofs.WaitSteps.{stays_ready, stays_waited, visited_tended, visiting}
use Rattle.rcu_c.proofs.WaitSteps.{visiting_on, visiting_run}

module _ {X : Type 0} where
  lasts : (v : ℕ) (x : Item X) → Nothing x → Nothing x
  lasts v x none = none

  pub weaker : (n m : ℕ) → n ≤ m → (xs : List (Item X)) → IsAtMost n xs → IsAtMost m xs
  weaker n m l xs a =
      All-weaker (λ k. k ≤ n) (λ k. k ≤ m) (λ k b. omega (arith, l, b)) (numbers xs) a

  zero_left : (all : AllLists X) (n : ℕ) → n ≡ 0
      → left_of (if n == 0 then state.Done else state.Waits n) ≡ 0
  zero_left all n z = rw z refl

module _ {C X : Type 0} (first : Locked C X) (new : IsNew first) where
  -- after a run there are a list and a flag for each processor
  pub lists_sized : (calls : List (Call X)) → IsRun first calls
      → length (engine_after first calls).grace.lists.lists ≡ (engine_after first calls).cpus
  lists_sized calls is = (runs_onto first calls (as_many_lists first [] 0 new) is).sized

  flags_sized : (calls : List (Call X)) → IsRun first calls
      → length (engine_after first calls).grace.lists.visited ≡ (engine_after first calls).cpus
  flags_sized calls is =
      let o = runs_onto first calls (as_many_lists first [] 0 new) is in
      let f = flags_each first.grace.lists (list_calls first calls) (lists_new first [] 0 new) in
      subst (λ all. HasFlags all) o.leaves f ∙ o.sized

  module _ (calls : List (Call X)) (is : IsRun first calls) where
    -- up to the first step of driving
    run_ready : IsRun first (before_drive (engine_after first calls) ++ calls)
    run_ready =
        joined first calls (before_drive (engine_after first calls)) is
        (ready_is_a_run (engine_after first calls))

    ready_last : engine_after first (before_drive (engine_after first calls) ++ calls)
        ≡ ready (engine_after first calls)
    ready_last = appended first (before_drive (engine_after first calls)) calls

    visiting_sized : length (engine_after (engine_after first calls)
        (visiting (engine_after first calls))).grace.lists.lists
        ≡ (engine_after first calls).cpus
    visiting_sized =
        let e = engine_after first calls in
        let run = joined first calls (visiting e) is (visiting_run e) in
        let long = lists_sized (visiting e ++ calls) run in
        sym
        (ap (λ (x : Locked C X). length x.grace.lists.lists) (appended first (visiting e) calls))
        ∙ long
        ∙ ap (λ (x : Locked C X). x.cpus) (appended first (visiting e) calls)
        ∙ cpus_at e e.cpus

    ready_seen : (c : ℕ) → c < (engine_after first calls).cpus
        → is_visited (ready (engine_after first calls)).grace.lists c ≡ true
    ready_seen c l =
        let e = engine_after first calls in
        let b = engine_after e (begun e) in
        let v = engine_after e (visiting e) in
        let flags =
        flags_begun e e.grace.lists.running (flags_sized calls is) (lists_sized calls is) in
        ap (λ (x : Locked C X). is_visited x.grace.lists c) (ready_is e)
        ∙ visited_tended v e.cpus c
        ∙ ap (λ (x : Locked C X). is_visited x.grace.lists c) (appended e (visits e.cpus) (begun e))
        ∙ all_seen b e.cpus (omega (arith, flags)) c l

    first_ready : (m : ℕ)
        → ((c : ℕ) → c < (engine_after first calls).cpus
        → IsAtMost m (list_of (ready (engine_after first calls)).grace.lists c))
        → At (Soon m) (engine_after first calls).cpus (ready (engine_after first calls))
    first_ready m few =
        let e = engine_after first calls in
        let cpus : (ready e).cpus ≡ e.cpus = cpus_tended e e.cpus in
        let long = lists_sized (before_drive e ++ calls) run_ready in
        let flags = flags_sized (before_drive e ++ calls) run_ready in
        let same_long = ap (λ (x : Locked C X). length x.grace.lists.lists) ready_last in
        let same_flags = ap (λ (x : Locked C X). length x.grace.lists.visited) ready_last in
        let same_cpus = ap (λ (x : Locked C X). x.cpus) ready_last in record {
          cpus = cpus;
          all = record {
            sized = sym same_long ∙ long ∙ same_cpus ∙ cpus;
            flags = sym same_flags ∙ flags ∙ same_cpus ∙ cpus;
            seen = ready_seen;
            ahead = λ c l.
                whole_ahead (Soon m) (list_of (ready e).grace.lists c)
                (soon_ready e.cpus m e refl visiting_sized few c l);
          };
        }

module _ {C X : Type 0} where
  -- the third call finds all items ahead of a marker done, and the fourth finds none
  then_done : (n k : ℕ) (third rest fourth : Locked C X) (w3 w4 : ℕ → ℕ)
      → At (Soon k) n third
      → k ≤ number_of third.grace.seq
      → third.grace.lists.running ≡ true
      → Waited third w3 rest
      → HandedOut rest fourth
      → left_of (step_answer fourth w4) ≡ 0
  then_done n k third rest fourth w3 w4 a reached runs_third w h =
      let v = engine_after third (visiting third) in
      let at_v = stays (Soon k) (λ m. soon_tended k m) n third (visiting third) (visiting_run third)
      (visiting_on third runs_third) a in
      let at_ready = stays_ready (Soon k) (λ m. soon_tended k m) n third runs_third a in
      let number_v = ap number_of (number_visiting third) in
      let few : third.cpus ≤ length v.grace.lists.lists =
      omega (arith, a.cpus, at_v.all.sized) in
      let done = ahead_by (Soon k) Ready n (ready third) at_ready (λ c l.
      subst (λ xs. Ahead Ready xs)
      (sym (ap (λ (x : Locked C X). list_of x.grace.lists c) (ready_is third)
      ∙ each_tended v third.cpus c few (omega (arith, l, a.cpus))))
      (ahead_tended (Soon k) Ready (number_of v.grace.seq) (list_of v.grace.lists c)
      (done_tended k (number_of v.grace.seq) (omega (arith, reached, number_v)))
      (at_v.all.ahead c l))) in
      let at_rest = stays_waited Ready ready_tended n third rest w3 w done in
      let g = engine_after rest (runs h.most rest.cpus) in
      let at_g = stays Ready ready_tended n rest (runs h.most rest.cpus)
      (earlier_run rest h.later (runs h.most rest.cpus) h.run) (runs_on X h.most rest.cpus) at_rest
      in
      let few_rest : rest.cpus ≤ length rest.grace.lists.lists =
      omega (arith, at_rest.cpus, at_rest.all.sized) in
      let none = ahead_by Ready Nothing n g at_g (λ c l.
      let inside : c < rest.cpus = omega (arith, l, at_rest.cpus) in
      none_ahead Nothing (list_of g.grace.lists c)
      (ap (λ xs. markers xs) (each_run rest h.most rest.cpus c few_rest inside)
      ∙ none_left (h.most c) (list_of rest.grace.lists c) (at_rest.all.ahead c l)
      (h.enough c inside))) in
      let at_fourth : At Nothing n fourth =
      subst (λ x. At Nothing n x)
      (sym (h.state ∙ appended rest h.later (runs h.most rest.cpus)))
      (stays Nothing lasts n g h.later (later_run rest h.later (runs h.most rest.cpus) h.run)
      h.others none) in
      let last = stays_driven Nothing lasts n fourth w4
      (stays_ready Nothing lasts n fourth h.running at_fourth) in
      let all = (engine_after fourth (after_driving fourth w4)).grace.lists in
      zero_left all (barrier_left all) (nothing_left n all last.all)

  -- the second call finds the awaited number reached, or ends the second grace period
  then_reached : (n k ends : ℕ) (second third rest fourth : Locked C X) (w2 w3 w4 : ℕ → ℕ)
      → At (Soon k) n second
      → ((now : Locked C X) → ends + 2 ≤ now.grace.seq.ends → k ≤ number_of now.grace.seq)
      → ends + 1 ≤ second.grace.seq.ends
      → second.grace.lists.running ≡ true
      → AreQuiet second w2
      → Waited second w2 third
      → Waited third w3 rest
      → HandedOut rest fourth
      → left_of (step_answer fourth w4) ≡ 0
  then_reached n k ends second third rest fourth w2 w3 w4 a enough more runs_second quiet w x h =
      let r = ready second in
      let at_ready = stays_ready (Soon k) (λ m. soon_tended k m) n second runs_second a in
      let up = number_waited second third w2 w in
      let ends_up = ends_waited second third w2 w in
      let same = ap (λ (p : Periods). p.ends) (number_ready second) in
      elim (ends_or_needless r w2 (quiet_ready second w2 quiet)) [
        | inl one ↦
            let e = ap (λ (p : Periods). p.ends) one in
            then_done n k third rest fourth w3 w4
            (stays_waited (Soon k) (λ m. soon_tended k m) n second third w2 w at_ready)
            (enough third (omega (arith, more, e, same, ends_up)))
            w.running x h
        | inr none ↦
            let m = number_of r.grace.seq in
            let v = engine_after second (visiting second) in
            let at_v = stays (Soon k) (λ m. soon_tended k m) n second (visiting second)
            (visiting_run second) (visiting_on second runs_second) a in
            let now = ahead_by (Soon k) (Soon m) n r at_ready (λ c l.
            whole_ahead (Soon m) (list_of r.grace.lists c)
            (soon_ready n m second a.cpus at_v.all.sized
            (λ d i. weaker r.grace.needed m none.0 (list_of r.grace.lists d)
            (needed_ready n second a.cpus at_v.all.sized d i)) c l)) in
            let still = ap number_of none.1 in
            then_done n m third rest fourth w3 w4
            (stays_waited (Soon m) (λ v. soon_tended m v) n second third w2 w now)
            (omega (arith, up, still)) w.running x h
      ]

  -- four calls are enough
  pub fourth_is_done : (first e second third rest fourth : Locked C X) (calls : List (Call X))
      (w1 w2 w3 w4 : ℕ → ℕ)
      → IsNew first
      → IsRun first calls
      → e ≡ engine_after first calls
      → AreQuiet e w1
      → Waited e w1 second
      → AreQuiet second w2
      → Waited second w2 third
      → Waited third w3 rest
      → HandedOut rest fourth
      → left_of (step_answer fourth w4) ≡ 0
  fourth_is_done first e second third rest fourth calls w1 w2 w3 w4 new is at q1 x1 q2 x2 x3 h =
      let b = engine_after first calls in
      let n = b.cpus in
      let r = ready b in
      let y1 = subst (λ x. Waited x w1 second) at x1 in
      let quiet = quiet_ready b w1 (subst (λ x. AreQuiet x w1) at q1) in
      let up = number_waited b second w1 y1 in
      let ends_up = ends_waited b second w1 y1 in
      let run = run_ready first new calls is in
      let last = ready_last first new calls is in
      elim (ends_or_needless r w1 quiet) [
        | inl one ↦
            let k = snapshot (number_of r.grace.seq) in
            let few = λ (c : ℕ) (l : c < n).
            subst
            (λ (x : Locked C X).
            IsAtMost (snapshot (number_of x.grace.seq)) (list_of x.grace.lists c))
            last (at_most_snapshot first (before_drive b ++ calls) new run c) in
            let e = ap (λ (p : Periods). p.ends) one in
            then_reached n k r.grace.seq.ends second third rest fourth w2 w3 w4
            (stays_waited (Soon k) (λ m. soon_tended k m) n b second w1 y1
            (first_ready first new calls is k few))
            (λ now l. two_ends_reach r now l) (omega (arith, e, ends_up)) x1.running q2 x2 x3 h
        | inr none ↦
            let k = number_of r.grace.seq in
            let few = λ (c : ℕ) (l : c < n).
            weaker r.grace.needed k none.0 (list_of r.grace.lists c)
            (needed_ready n b refl (visiting_sized first new calls is) c l) in
            let still = ap number_of none.1 in
            let a = stays_waited (Soon k) (λ m. soon_tended k m) n b second w1 y1
            (first_ready first new calls is k few) in
            let at_third = stays_waited (Soon k) (λ m. soon_tended k m) n second third w2 x2
            (stays_ready (Soon k) (λ m. soon_tended k m) n second x1.running a) in
            let more = number_over second third w2 x2 in
            then_done n k third rest fourth w3 w4 at_third (omega (arith, up, still, more))
            x2.running x3 h
      ]
