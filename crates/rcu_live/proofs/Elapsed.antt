-- A full grace period lies between the number at which a callback was queued and the snapshot of
-- that number.
use Rattle.std.proofs.Common.{◌≡◌, ℕ, ◌+◌, ◌*◌, ◌<◌, ◌≤◌, Bool, true, false, not, ◌&&◌, ◌||◌, List}
use Rattle.std.proofs.Common.{[], ◌∷◌, ◌++◌, Option, Some, refl, sym, ap, ◌∙◌, subst, arith, inl}
use Rattle.std.proofs.Common.{inr}
use Rattle.std.specs.Prelude.{◌==◌, if◌then◌else◌, nat_lt}
use Rattle.std.specs.List.{list_any}
use Rattle.std.proofs.lemmas.Bool.{cases_Bool, true_from_ne_false, true≢false}
use Rattle.std.proofs.lemmas.Bool.Decides.{nat_tests}
use Rattle.rcu_seq.specs.Numbers.{number_at, snapshot}
use Rattle.rcu_seq.specs.Seq as turn
use Rattle.rcu_seq.specs.Seq.{Periods, Turn, begins, has_full_period, number_of, tag_of}
use Rattle.rcu_seq.specs.declared.tag.Tag.{Tag}
use Rattle.rcu_node.specs.CpuSet.{is_in}
use Rattle.rcu_hotplug.specs.Hotplug.{Arrive, Depart as Departs}
use Rattle.rcu_cblist.specs.declared.items.Queued.{Queued}
use Rattle.rcu_state.specs.GpState.{Grace, HasWaited, after_current_report, awaited_in, periods_of}
use Rattle.rcu_state.specs.GpState.{with_call}
use Rattle.rcu_state.specs.Periods.{wants_begin}
use Rattle.rcu_live.specs.Drive.{after_drive, after_collections, moved_on}
use Rattle.rcu_live.specs.Engine.{Locked, after_begin, after_collect, after_end, after_turn}
use Rattle.rcu_live.specs.EngineLists.{with_departure}
use Rattle.rcu_live.specs.Numbers.{reports_quiescence}
use Rattle.rcu_live.specs.Runs.{Call, IsRun, MayCall, after_call, engine_after, queued_as}
use Rattle.rcu_live.specs.Runs.{turns_between, turns_since, Begin, End, Turn as Turns, Drive}
use Rattle.rcu_live.specs.Runs.{Collect, CollectAwaited, StartPoll, Join, Leave, Depart, Look}
use Rattle.rcu_live.specs.Runs.{Queue, Tend, Run, BarrierBegin, Visit, BarrierTest}

-- the counter after an end
abbrev pub ended : Periods → Periods
ended p = record p { ends = p.ends + 1; running = false }

-- the effect of one call on the counter: nothing, a begin, an end, or both
pub data Moved (old new : Periods) : Type 0 where
  Stays : new ≡ old → Moved old new
  Begins : old.running ≡ false → new ≡ record old { running = true } → Moved old new
  Ends : old.running ≡ true → new ≡ ended old → Moved old new
  Passes : old.running ≡ false → new ≡ ended old → Moved old new

-- if no full grace period lies in the turns since a tag, the number is below the snapshot of the
-- tag
record Elapsed (at : Tag) (turns : List Turn) (p : Periods) : Type 0 where
  pub epoch : p.epoch ≡ at.epoch
  pub below : has_full_period turns ≡ false → number_of p < snapshot at.number
  pub before : has_full_period turns ≡ false → list_any begins turns ≡ false
      → number_of p + 4 ≤ snapshot at.number
  pub runs : has_full_period turns ≡ false → list_any begins turns ≡ true → p.running ≡ true

-- the turns between two counters, by their parts
abbrev between : Bool → Bool → Bool → List Turn
between more was is =
    if more
    then turn.End ∷ (if was then [] else turn.Begin ∷ [])
    else (if is && not was then turn.Begin ∷ [] else [])

none_between : (more was : Bool) → more ≡ false → between more was was ≡ []
none_between true was m = absurd (cc)
none_between false true m = refl
none_between false false m = refl

begin_between : (more was : Bool) → more ≡ false → was ≡ false
    → between more was true ≡ turn.Begin ∷ []
begin_between true was m w = absurd (cc)
begin_between false true m w = absurd (cc)
begin_between false false m w = refl

end_between : (more was : Bool) → more ≡ true → was ≡ true → between more was false ≡ turn.End ∷ []
end_between true true m w = refl
end_between true false m w = absurd (cc)
end_between false was m w = absurd (cc)

both_between : (more was : Bool) → more ≡ true → was ≡ false
    → between more was false ≡ turn.End ∷ turn.Begin ∷ []
both_between true true m w = absurd (cc)
both_between true false m w = refl
both_between false was m w = absurd (cc)

no_more : (n : ℕ) → nat_lt n n ≡ false
no_more n = grind (arith, nat_tests)

one_more : (n : ℕ) → nat_lt n (n + 1) ≡ true
one_more n = grind (arith, nat_tests)

or_parts : (a b : Bool) → (a || b) ≡ false → (a ≡ false) × (b ≡ false)
or_parts true b e = absurd (cc)
or_parts false b e = (refl, e)

begun_elapsed : (at : Tag) (turns : List Turn) (p : Periods)
    → p.running ≡ false → Elapsed at turns p
    → Elapsed at (turn.Begin ∷ turns) (record p { running = true })
begun_elapsed at turns p idle e =
    let was : number_of p ≡ 4 * p.ends = ap (λ b. number_at p.ends b) idle ∙ omega arith in record {
      epoch = e.epoch;
      below = λ u. elim (cases_Bool (list_any begins turns)) [
        | inl b ↦ absurd (true≢false (sym (e.runs u b) ∙ idle))
        | inr n ↦ (let x = e.before u n in omega (arith, was, x))
      ];
      before = λ u n. absurd (cc);
      runs = λ u b. refl;
    }

ended_elapsed : (at : Tag) (turns : List Turn) (p : Periods) → p.running ≡ true → Elapsed at turns p
    → Elapsed at (turn.End ∷ turns) (ended p)
ended_elapsed at turns p runs e =
    let was : number_of p ≡ 4 * p.ends + 1 = ap (λ b. number_at p.ends b) runs in
    record {
      epoch = e.epoch;
      below = λ u. let both = or_parts (list_any begins turns) (has_full_period turns) u in
          let x = e.before both.1 both.0 in omega (arith, was, x);
      before = λ u n. let both = or_parts (list_any begins turns) (has_full_period turns) u in
          let x = e.before both.1 both.0 in omega (arith, was, x);
      runs = λ u b.
          absurd
          (true≢false (sym b ∙ (or_parts (list_any begins turns) (has_full_period turns) u).0));
    }

passed_elapsed : (at : Tag) (turns : List Turn) (p : Periods) → Elapsed at turns p
    → Elapsed at (turn.End ∷ turn.Begin ∷ turns) (ended p)
passed_elapsed at turns p e = record {
  epoch = e.epoch;
  below = λ u. absurd (cc);
  before = λ u n. absurd (cc);
  runs = λ u b. absurd (cc);
}

elapsed : (at : Tag) (turns : List Turn) (old new : Periods) → Moved old new → Elapsed at turns old
    → Elapsed at (turns_between old new ++ turns) new
elapsed at turns old new (Stays is) e =
    subst (λ p. Elapsed at (turns_between old p ++ turns) p) (sym is)
    (subst (λ ts. Elapsed at (ts ++ turns) old)
    (sym (none_between (nat_lt old.ends old.ends) old.running (no_more old.ends))) e)
elapsed at turns old new (Begins idle is) e =
    subst (λ p. Elapsed at (turns_between old p ++ turns) p) (sym is)
    (subst (λ ts. Elapsed at (ts ++ turns) (record old { running = true }))
    (sym (begin_between (nat_lt old.ends old.ends) old.running (no_more old.ends) idle))
    (begun_elapsed at turns old idle e))
elapsed at turns old new (Ends runs is) e =
    subst (λ p. Elapsed at (turns_between old p ++ turns) p) (sym is)
    (subst (λ ts. Elapsed at (ts ++ turns) (ended old))
    (sym (end_between (nat_lt old.ends (old.ends + 1)) old.running (one_more old.ends) runs))
    (ended_elapsed at turns old runs e))
elapsed at turns old new (Passes idle is) e =
    subst (λ p. Elapsed at (turns_between old p ++ turns) p) (sym is)
    (subst (λ ts. Elapsed at (ts ++ turns) (ended old))
    (sym (both_between (nat_lt old.ends (old.ends + 1)) old.running (one_more old.ends) idle))
    (passed_elapsed at turns old e))

-- one more end
moved_end : (old new : Periods) → Moved old new → new.running ≡ true → Moved old (ended new)
moved_end old new (Stays is) runs = Ends (sym (ap (λ p. p.running) is) ∙ runs) (ap ended is)
moved_end old new (Begins idle is) runs = Passes idle (ap ended is)
moved_end old new (Ends was is) runs = absurd (true≢false (sym runs ∙ ap (λ p. p.running) is))
moved_end old new (Passes idle is) runs = absurd (true≢false (sym runs ∙ ap (λ p. p.running) is))

left_of_both : (a b : Bool) → (a && b) ≡ true → a ≡ true
left_of_both true b e = refl
left_of_both false b e = e

-- when the callback is queued
queued_now : (p : Periods) → Elapsed (tag_of p) [] p
queued_now p = record {
  epoch = refl;
  below = λ u. omega arith;
  before = λ u n. omega arith;
  runs = λ u b. absurd (cc);
}

module _ {X : Type 0} where
  same_grace : (b : Bool) (old : Periods) (g h : Grace X) → g.seq ≡ old → h.seq ≡ old
      → (if b then g else h).seq ≡ old
  same_grace true old g h a c = a
  same_grace false old g h a c = c

  departed : (g : Grace X) (cpu : ℕ) → (with_departure g cpu).seq ≡ g.seq
  departed g cpu =
      same_grace (is_in g.processors.online cpu) g.seq (with_call g (Departs cpu)) g refl refl

  -- since the callback was queued, or then
  queued_or : (here : Bool) (p : Periods) (turns : List Turn) (j : ℕ) (call handed : Queued X)
      (earlier : Option (Queued X))
      → call.at ≡ tag_of p
      → (if here then Some call else earlier) ≡ Some handed
      → (earlier ≡ Some handed → Elapsed handed.at turns p)
      → Elapsed handed.at (if here then [] else turns_between p p ++ turns) p
  queued_or true p turns j call handed earlier at is old =
      let same : call ≡ handed = cc in
      subst (λ t. Elapsed t [] p) (sym at ∙ ap (λ (q : Queued X). q.at) same) (queued_now p)
  queued_or false p turns j call handed earlier at is old =
      elapsed handed.at turns p p (Stays refl) (old is)

module _ {C X : Type 0} where
  by_test : (b : Bool) (old : Periods) (e f : Locked C X) → (b ≡ true → Moved old e.grace.seq)
      → (b ≡ false → Moved old f.grace.seq) → Moved old (if b then e else f).grace.seq
  by_test true old e f here there = here refl
  by_test false old e f here there = there refl

  moved_turn : (e : Locked C X) (word : ℕ → ℕ) → Moved e.grace.seq (after_turn e word).grace.seq
  moved_turn e word =
      by_test e.grace.seq.running e.grace.seq _ _
      (λ runs. by_test (awaited_in e.grace == 0) e.grace.seq (after_end e) e (λ _. Ends runs refl)
      (λ _. Stays refl))
      (λ idle. by_test (wants_begin (periods_of e.grace)) e.grace.seq (after_begin e word) e
      (λ _. Begins idle refl) (λ _. Stays refl))

  moved_drive : (e : Locked C X) (is_wanted : Bool) (word : ℕ → ℕ)
      → Moved e.grace.seq (after_drive e is_wanted word).grace.seq
  moved_drive e is_wanted word =
      let now = moved_on e is_wanted word in
      let first : Moved e.grace.seq now.grace.seq =
      by_test e.grace.seq.running e.grace.seq (after_collections e word) _ (λ _. Stays refl)
      (λ idle. by_test is_wanted e.grace.seq (after_begin e word) e (λ _. Begins idle refl)
      (λ _. Stays refl)) in
      by_test (now.grace.seq.running && (awaited_in now.grace == 0)) e.grace.seq (after_end now) now
      (λ both.
      moved_end e.grace.seq now.grace.seq first (left_of_both now.grace.seq.running _ both))
      (λ _. first)

  moved_collect : (e : Locked C X) (cpu word : ℕ)
      → Moved e.grace.seq (after_collect e cpu word).grace.seq
  moved_collect e cpu word =
      by_test e.grace.seq.running e.grace.seq _ e
      (λ _. Stays (same_grace (reports_quiescence (number_of e.grace.seq) word) e.grace.seq
      (after_current_report e.grace cpu) e.grace refl refl)) (λ _. Stays refl)

  pub moved : (e : Locked C X) (call : Call X) → MayCall e call
      → Moved e.grace.seq (after_call e call).grace.seq
  moved e (Begin word) may = Begins may refl
  moved e End may = Ends may refl
  moved e (Turns word) may = moved_turn e word
  moved e (Drive is_wanted word) may = moved_drive e is_wanted word
  moved e (Collect cpu word) may = moved_collect e cpu word
  moved e (CollectAwaited word) may = Stays refl
  moved e StartPoll may = Stays refl
  moved e (Join cpu) may =
      Stays (same_grace (is_in e.grace.processors.online cpu) e.grace.seq e.grace
      (with_call e.grace (Arrive cpu)) refl refl)
  moved e (Leave cpu word) may = Stays (departed e.grace cpu)
  moved e (Depart cpu word) may = Stays (departed e.grace cpu)
  moved e (Look cpu word) may = Stays refl
  moved e (Queue cpu value) may = Stays refl
  moved e (Tend cpu) may = Stays refl
  moved e (Run cpu most) may = Stays refl
  moved e BarrierBegin may = Stays refl
  moved e (Visit cpu) may = Stays refl
  moved e BarrierTest may = Stays refl

  since : (first : Locked C X) (calls : List (Call X)) (j : ℕ) (handed : Queued X)
      → IsRun first calls → queued_as j first calls ≡ Some handed
      → Elapsed handed.at (turns_since j first calls) (engine_after first calls).grace.seq
  since first [] j handed is q = absurd (cc)
  since first (Queue cpu value ∷ calls) j handed is q =
      let e = engine_after first calls in
      queued_or (e.grace.lists.queued + 1 == j) e.grace.seq (turns_since j first calls) j
      (record { ord = e.grace.lists.queued + 1; at = tag_of e.grace.seq; value = value }) handed
      (queued_as j first calls) refl q (λ old. since first calls j handed is.1 old)
  since first (Begin word ∷ calls) j handed is q =
      elapsed handed.at _ _ _ (moved (engine_after first calls) (Begin word) is.0)
      (since first calls j handed is.1 q)
  since first (End ∷ calls) j handed is q =
      elapsed handed.at _ _ _ (moved (engine_after first calls) End is.0)
      (since first calls j handed is.1 q)
  since first (Turns word ∷ calls) j handed is q =
      elapsed handed.at _ _ _ (moved (engine_after first calls) (Turns word) is.0)
      (since first calls j handed is.1 q)
  since first (Drive is_wanted word ∷ calls) j handed is q =
      elapsed handed.at _ _ _ (moved (engine_after first calls) (Drive is_wanted word) is.0)
      (since first calls j handed is.1 q)
  since first (Collect cpu word ∷ calls) j handed is q =
      elapsed handed.at _ _ _ (moved (engine_after first calls) (Collect cpu word) is.0)
      (since first calls j handed is.1 q)
  since first (CollectAwaited word ∷ calls) j handed is q =
      elapsed handed.at _ _ _ (moved (engine_after first calls) (CollectAwaited word) is.0)
      (since first calls j handed is.1 q)
  since first (StartPoll ∷ calls) j handed is q =
      elapsed handed.at _ _ _ (moved (engine_after first calls) StartPoll is.0)
      (since first calls j handed is.1 q)
  since first (Join cpu ∷ calls) j handed is q =
      elapsed handed.at _ _ _ (moved (engine_after first calls) (Join cpu) is.0)
      (since first calls j handed is.1 q)
  since first (Leave cpu word ∷ calls) j handed is q =
      elapsed handed.at _ _ _ (moved (engine_after first calls) (Leave cpu word) is.0)
      (since first calls j handed is.1 q)
  since first (Depart cpu word ∷ calls) j handed is q =
      elapsed handed.at _ _ _ (moved (engine_after first calls) (Depart cpu word) is.0)
      (since first calls j handed is.1 q)
  since first (Look cpu word ∷ calls) j handed is q =
      elapsed handed.at _ _ _ (moved (engine_after first calls) (Look cpu word) is.0)
      (since first calls j handed is.1 q)
  since first (Tend cpu ∷ calls) j handed is q =
      elapsed handed.at _ _ _ (moved (engine_after first calls) (Tend cpu) is.0)
      (since first calls j handed is.1 q)
  since first (Run cpu most ∷ calls) j handed is q =
      elapsed handed.at _ _ _ (moved (engine_after first calls) (Run cpu most) is.0)
      (since first calls j handed is.1 q)
  since first (BarrierBegin ∷ calls) j handed is q =
      elapsed handed.at _ _ _ (moved (engine_after first calls) BarrierBegin is.0)
      (since first calls j handed is.1 q)
  since first (Visit cpu ∷ calls) j handed is q =
      elapsed handed.at _ _ _ (moved (engine_after first calls) (Visit cpu) is.0)
      (since first calls j handed is.1 q)
  since first (BarrierTest ∷ calls) j handed is q =
      elapsed handed.at _ _ _ (moved (engine_after first calls) BarrierTest is.0)
      (since first calls j handed is.1 q)

  -- a callback that has waited was queued before a full grace period
  pub period_passed : (first : Locked C X) (calls : List (Call X)) (j : ℕ) (handed : Queued X)
      → IsRun first calls
      → queued_as j first calls ≡ Some handed
      → HasWaited (tag_of (engine_after first calls).grace.seq) handed.at
      → has_full_period (turns_since j first calls) ≡ true
  period_passed first calls j handed is q waited =
      let e = since first calls j handed is q in
      let reached = waited.1 (sym e.epoch) in
      true_from_ne_false (has_full_period (turns_since j first calls))
      (λ u. let low = e.below u in omega (arith, low, reached))
