-- A tend, two steps of driving and a tend leave a list done, if every word reports a quiescent
-- state.
use Rattle.std.proofs.Common.{◌≡◌, ℕ, ◌<◌, ◌≤◌, ◌&&◌, Bool, true, false, List, [], ◌∷◌}
use Rattle.std.proofs.Common.{refl, sym, ap, ◌∙◌, subst, arith, inl, inr, length, append-nil}
use Rattle.std.specs.Prelude.{◌==◌, if◌then◌else◌, All}
use Rattle.std.proofs.lemmas.List.{get_or-set_same, length-set, take_all}
use Rattle.std.proofs.lemmas.List.Elements.{All-map, All-weaker}
use Rattle.rcu_seq.specs.Numbers.{snapshot}
use Rattle.rcu_seq.specs.Seq.{Periods, number_of}
use Rattle.rcu_cblist.specs.SegList.{IsAtMost, Item, behind, callbacks, front, remarked}
use Rattle.rcu_cblist.specs.SegList.{take_answer}
use Rattle.rcu_barrier.specs.Lists.{AllLists, list_of}
use Rattle.rcu_barrier.specs.Tending.{after_tend, mark_after_tend}
use Rattle.rcu_barrier.proofs.Maturing.{Soon, done_tended}
use Rattle.rcu_state.specs.GpState as grace
use Rattle.rcu_state.specs.GpState.{awaited_in}
use Rattle.rcu_live.specs.Drive.{after_collections, after_drive, moved_on, wants_begin}
use Rattle.rcu_live.specs.Engine.{Locked, after_begin, after_end}
use Rattle.rcu_live.specs.Runs.{Call, Drive, IsNew, IsRun, Tend, engine_after}
use Rattle.rcu_live.proofs.ListRuns.{kept_drive}
use Rattle.rcu_live.proofs.Quieting.{two_ends_reach}
use Rattle.rcu_c.specs.Progress.{AreQuiet}
use Rattle.rcu_c.proofs.Ahead.{Ready, behind_ready, front_ready, tended_soon}
use Rattle.rcu_c.proofs.BarrierEnds.{lists_sized, weaker}
use Rattle.rcu_c.proofs.Driven.{ends_or_needless, number_goes_up}
use Rattle.rcu_c.proofs.EachInTurn.{tend_needs}
use Rattle.rcu_c.proofs.MostAwaited.{at_most_snapshot}

module _ {X : Type 0} where
  -- a list of which all is done
  all_taken : (most : ℕ) (xs : List (Item X)) → All Ready xs
      → length (callbacks (front xs)) ≤ most → take_answer xs most ≡ callbacks xs
  all_taken most xs a enough =
      let all : front xs ≡ xs =
      ap (λ (ys : List (Item X)). front ys) (sym (append-nil xs))
      ∙ front_ready xs [] a
      ∙ append-nil xs in
      take_all most (callbacks (front xs)) enough ∙ ap (λ (ys : List (Item X)). callbacks ys) all

module _ {C X : Type 0} where
  -- a step of driving asks for no grace period, and keeps the lists
  needed_driven : (e : Locked C X) (wanted : Bool) (word : ℕ → ℕ)
      → (after_drive e wanted word).grace.needed ≡ e.grace.needed
  needed_driven e wanted word =
      let now = moved_on e wanted word in
      let moved : now.grace.needed ≡ e.grace.needed =
      either e.grace.seq.running (after_collections e word)
      (if wanted then after_begin e word else e) refl
      (either wanted (after_begin e word) e refl refl) in
      either (now.grace.seq.running && (awaited_in now.grace == 0)) (after_end now) now moved moved
    where
      either : (b : Bool) (x y : Locked C X) → x.grace.needed ≡ e.grace.needed
          → y.grace.needed ≡ e.grace.needed
          → (if b then x else y).grace.needed ≡ e.grace.needed
      either true x y i j = i
      either false x y i j = j

  -- the number that a list waits for is reached
  reached_by : (k cpu : ℕ) (e now : Locked C X) → now.grace.lists ≡ e.grace.lists
      → cpu < length e.grace.lists.lists
      → All (Soon k) (list_of e.grace.lists cpu)
      → k ≤ number_of now.grace.seq
      → All Ready (list_of (grace.after_tend now.grace cpu).lists cpu)
  reached_by k cpu e now same inside soon reached =
      let v = number_of now.grace.seq in
      let change = remarked (mark_after_tend v) in
      let xs = list_of now.grace.lists cpu in
      let long = ap (λ (all : AllLists X). length all.lists) same in
      subst (λ ys. All Ready ys)
      (sym (get_or-set_same now.grace.lists.lists cpu (after_tend xs v) []
      (omega (arith, inside, long))))
      (All-map Ready change xs
      (All-weaker (Soon k) (λ x. Ready (change x)) (done_tended k v reached) xs
      (subst (λ all. All (Soon k) (list_of all cpu)) (sym same) soon)))

module _ {C X : Type 0} (first e driven now : Locked C X) (calls : List (Call X)) (cpu : ℕ)
    (word later : ℕ → ℕ) (new : IsNew first) (is : IsRun first calls)
    (inside : cpu < (engine_after first calls).cpus)
    (at : e ≡ engine_after first (Tend cpu ∷ calls)) (quiet : AreQuiet e word)
    (once : driven ≡ after_drive e (wants_begin e.grace) word) (still : AreQuiet driven later)
    (twice : now ≡ after_drive driven (wants_begin driven.grace) later) where
  -- the list after the second tend
  all_ready : All Ready (list_of (grace.after_tend now.grace cpu).lists cpu)
  all_ready =
      let b = engine_after first calls in
      let long = lists_sized first new calls is in
      let tended : list_of e.grace.lists cpu
      ≡ after_tend (list_of b.grace.lists cpu) (number_of b.grace.seq) =
      ap (λ (x : Locked C X). list_of x.grace.lists cpu) at
      ∙ get_or-set_same b.grace.lists.lists cpu
      (after_tend (list_of b.grace.lists cpu) (number_of b.grace.seq)) []
      (omega (arith, inside, long)) in
      let soon = λ (m : ℕ) (few : IsAtMost m (list_of e.grace.lists cpu)).
      subst (λ xs. All (Soon m) xs) (sym tended)
      (tended_soon (number_of b.grace.seq) m (list_of b.grace.lists cpu)
      (subst (λ xs. IsAtMost m xs) tended few)) in
      let asked : IsAtMost e.grace.needed (list_of e.grace.lists cpu) =
      subst (λ (x : Locked C X). IsAtMost x.grace.needed (list_of x.grace.lists cpu)) (sym at)
      (tend_needs b cpu).1 in
      let marked : IsAtMost (snapshot (number_of e.grace.seq)) (list_of e.grace.lists cpu) =
      subst
      (λ (x : Locked C X).
      IsAtMost (snapshot (number_of x.grace.seq)) (list_of x.grace.lists cpu)) (sym at)
      (at_most_snapshot first (Tend cpu ∷ calls) new (inside, is) cpu) in
      let w1 = wants_begin e.grace in
      let w2 = wants_begin driven.grace in
      let lists : now.grace.lists ≡ e.grace.lists =
      ap (λ (x : Locked C X). x.grace.lists) twice
      ∙ (kept_drive driven w2 later).same
      ∙ ap (λ (x : Locked C X). x.grace.lists) once
      ∙ (kept_drive e w1 word).same in
      let room : cpu < length e.grace.lists.lists =
      let same = ap (λ (x : Locked C X). length x.grace.lists.lists) at in
      let kept = length-set b.grace.lists.lists cpu
      (after_tend (list_of b.grace.lists cpu) (number_of b.grace.seq)) in
      omega (arith, inside, long, same, kept) in
      let number_once = ap (λ (x : Locked C X). number_of x.grace.seq) once in
      let number_twice = ap (λ (x : Locked C X). number_of x.grace.seq) twice in
      let up_once = number_goes_up e (Drive w1 word ∷ []) (tt, tt) in
      let up_twice = number_goes_up driven (Drive w2 later ∷ []) (tt, tt) in
      let ends_once = ap (λ (x : Locked C X). x.grace.seq.ends) once in
      let ends_twice = ap (λ (x : Locked C X). x.grace.seq.ends) twice in
      elim (ends_or_needless e word quiet) [
        | inr none ↦
            let m = number_of e.grace.seq in
            reached_by m cpu e now lists room
            (soon m (weaker e.grace.needed m none.0 (list_of e.grace.lists cpu) asked))
            (omega (arith, number_once, number_twice, up_once, up_twice))
        | inl one ↦ elim (ends_or_needless driven later still) [
          | inr none ↦
              let m = number_of driven.grace.seq in
              let same = ap (λ (x : Locked C X). x.grace.needed) once ∙ needed_driven e w1 word in
              reached_by m cpu e now lists room
              (soon m (weaker e.grace.needed m (omega (arith, none.0, same))
              (list_of e.grace.lists cpu) asked))
              (omega (arith, number_twice, up_twice))
          | inl two ↦
              let a = ap (λ (p : Periods). p.ends) one in
              let c = ap (λ (p : Periods). p.ends) two in
              reached_by (snapshot (number_of e.grace.seq)) cpu e now lists room
              (soon (snapshot (number_of e.grace.seq)) marked)
              (two_ends_reach e now (omega (arith, a, c, ends_once, ends_twice)))
        ]
      ]

  pub none_waits : behind (list_of (grace.after_tend now.grace cpu).lists cpu) ≡ []
  none_waits = behind_ready (list_of (grace.after_tend now.grace cpu).lists cpu) all_ready

  pub all_handed : (most : ℕ)
      → length (callbacks (front (list_of (grace.after_tend now.grace cpu).lists cpu))) ≤ most
      → take_answer (list_of (grace.after_tend now.grace cpu).lists cpu) most
      ≡ callbacks (list_of (grace.after_tend now.grace cpu).lists cpu)
  all_handed most enough =
      all_taken most (list_of (grace.after_tend now.grace cpu).lists cpu) all_ready enough
