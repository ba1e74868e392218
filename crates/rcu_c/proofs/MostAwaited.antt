-- No callback of a run's lists waits for a number above the snapshot of the engine's.
use Rattle.std.proofs.Common.{◌≡◌, ℕ, zero, suc, ◌≤◌, List, [], ◌∷◌, ◌++◌, refl, sym, ap, ◌∙◌}
use Rattle.std.proofs.Common.{arith, get_or, subst}
use Rattle.std.specs.Prelude.{All, replicate}
use Rattle.std.proofs.lemmas.List.Elements.{All-nil, All-weaker}
use Rattle.rcu_seq.specs.Numbers.{snapshot}
use Rattle.rcu_seq.specs.Seq.{number_of, tag_of}
use Rattle.rcu_cblist.specs.SegList.{IsAtMost, Item}
use Rattle.rcu_barrier.specs.Lists.{AllLists, list_of}
use Rattle.rcu_barrier.specs.Runs as lists
use Rattle.rcu_barrier.proofs.MarkedLists.{AreMarked, at_most_from, marked_migrate, marked_queue}
use Rattle.rcu_barrier.proofs.MarkedLists.{marked_run, marked_tend, marked_test, marked_visit}
use Rattle.rcu_barrier.proofs.Maturing.{MarkedBy, marked_later}
use Rattle.rcu_live.specs.Engine.{Locked}
use Rattle.rcu_live.specs.Runs.{BarrierTest, Call, IsNew, IsRun, Leave, Queue, Run}
use Rattle.rcu_live.specs.Runs.{Tend, Visit, after_call, engine_after}
use Rattle.rcu_live.proofs.Elapsed.{moved}
use Rattle.rcu_live.proofs.Handing.{rises}
use Rattle.rcu_live.proofs.ListRuns.{as_many_lists, on_lists, runs_onto}

nothing_at : {X : Type 0} (n c : ℕ) → get_or (replicate {A = List (Item X)} n []) c [] ≡ []
nothing_at zero c = refl
nothing_at (suc n) zero = refl
nothing_at (suc n) (suc c) = nothing_at n c

module _ {C X : Type 0} where
  -- the lists wait for at most the snapshot of the number, also after a call
  on_call : (e : Locked C X) (call : Call X)
      → AreMarked (snapshot (number_of e.grace.seq)) e.grace.lists
      → AreMarked (snapshot (number_of e.grace.seq))
      (lists.lists_after e.grace.lists (on_lists e call ++ []))
  on_call e (Leave d word) a = marked_migrate (snapshot (number_of e.grace.seq)) e.grace.lists d a
  on_call e (Queue d value) a =
      marked_queue (snapshot (number_of e.grace.seq)) e.grace.lists d (tag_of e.grace.seq) value a
  on_call e (Tend d) a = marked_tend (number_of e.grace.seq) e.grace.lists d a
  on_call e (Run d most) a =
      marked_run (snapshot (number_of e.grace.seq)) e.grace.lists d most a
  on_call e (Visit d) a = marked_visit (snapshot (number_of e.grace.seq)) e.grace.lists d a
  on_call e BarrierTest a = marked_test (snapshot (number_of e.grace.seq)) e.grace.lists a
  on_call e call a = a

  most_awaited : (first : Locked C X) (calls : List (Call X)) → IsNew first → IsRun first calls
      → AreMarked (snapshot (number_of (engine_after first calls).grace.seq))
      (engine_after first calls).grace.lists
  most_awaited first [] new is = λ c.
      let n = snapshot (number_of first.grace.seq) in
      subst (λ xs. All (MarkedBy n) xs)
      (sym (ap (λ (all : AllLists X). list_of all c) new ∙ nothing_at first.cpus c))
      (All-nil (MarkedBy n))
  most_awaited first (call ∷ calls) new is = λ c.
      let e = engine_after first calls in
      let now = after_call e call in
      let n = snapshot (number_of e.grace.seq) in
      let m = snapshot (number_of now.grace.seq) in
      let sized = (runs_onto first calls (as_many_lists first [] 0 new) is.1).sized in
      let made = (runs_onto e (call ∷ []) sized (is.0, tt)).leaves in
      let up = rises e.grace.seq now.grace.seq (moved e call is.0) in
      subst (λ all. All (MarkedBy m) (list_of all c)) made
      (All-weaker (MarkedBy n) (MarkedBy m) (marked_later n m (later (number_of e.grace.seq)
      (number_of now.grace.seq) up))
      (list_of (lists.lists_after e.grace.lists (on_lists e call ++ [])) c)
      (on_call e call (most_awaited first calls new is.1) c))
    where
      later : (n m : ℕ) → n ≤ m → snapshot n ≤ snapshot m
      later n m l = omega (arith, l)

  pub at_most_snapshot : (first : Locked C X) (calls : List (Call X)) → IsNew first
      → IsRun first calls
      → (c : ℕ)
      → IsAtMost (snapshot (number_of (engine_after first calls).grace.seq))
      (list_of (engine_after first calls).grace.lists c)
  at_most_snapshot first calls new is c =
      at_most_from (snapshot (number_of (engine_after first calls).grace.seq))
      (list_of (engine_after first calls).grace.lists c) (most_awaited first calls new is c)
