-- The effect of a step of waiting for a barrier on its lists and on the number.
use Rattle.std.proofs.Common.{◌≡◌, ◌≢◌, ℕ, zero, suc, ◌<◌, ◌≤◌, Bool, true, false, List, []}
use Rattle.std.proofs.Common.{◌∷◌, ◌++◌, refl, sym, ap, ◌∙◌, subst, arith, inl, inr, set}
use Rattle.std.proofs.Common.{length}
use Rattle.std.specs.Prelude.{if◌then◌else◌, All}
use Rattle.std.specs.List.{list_any}
use Rattle.std.proofs.Math.Nat.{eq-or-lt_of_le}
use Rattle.std.proofs.lemmas.List.{get_or-set_other, get_or-set_same, length-replicate}
use Rattle.std.proofs.lemmas.List.{length-set}
use Rattle.rcu_seq.specs.Seq.{Periods, number_of}
use Rattle.rcu_cblist.specs.SegList.{IsAtMost, Item, after_entrain}
use Rattle.rcu_barrier.specs.Lists.{AllLists, is_visited, list_of, with_list}
use Rattle.rcu_barrier.specs.Tending.{after_tend}
use Rattle.rcu_barrier.proofs.Maturing.{Soon}
use Rattle.rcu_live.specs.Drive.{wants_begin}
use Rattle.rcu_live.specs.Engine.{Locked}
use Rattle.rcu_live.specs.Numbers.{reports_quiescence}
use Rattle.rcu_live.specs.Runs.{BarrierBegin, BarrierTest, Call, Drive, IsRun, MayCall}
use Rattle.rcu_live.specs.Runs.{engine_after}
use Rattle.rcu_c.specs.BarrierSteps.{after_driving, before_drive, begun, tends}
use Rattle.rcu_c.specs.BarrierSteps.{visits, whole_step}
use Rattle.rcu_c.specs.Progress.{AreQuiet, Waited, puts_off, runs}
use Rattle.rcu_c.proofs.Ahead.{tended_soon}
use Rattle.rcu_c.proofs.BarrierLaws.{ready_is_a_run, step_is_a_run}
use Rattle.rcu_c.proofs.BarrierRuns.{appended}
use Rattle.rcu_c.proofs.Driven.{ends_go_up, number_goes_up}
use Rattle.rcu_c.proofs.EachInTurn.{each_needed, each_tended, number_tended}
use Rattle.rcu_c.proofs.Visited.{At, IsLasting, stays}

module _ {X : Type 0} where
  -- none of these calls delays the end of a barrier
  abbrev pub PutOffNothing : List (Call X) → Type 0
  PutOffNothing calls = list_any puts_off calls ≡ false

  tends_on : (n : ℕ) (calls : List (Call X)) → PutOffNothing calls
      → PutOffNothing (tends n ++ calls)
  tends_on zero calls u = u
  tends_on (suc n) calls u = tends_on n calls u

  visits_on : (n : ℕ) (calls : List (Call X)) → PutOffNothing calls
      → PutOffNothing (visits n ++ calls)
  visits_on zero calls u = u
  visits_on (suc n) calls u = visits_on n calls u

pub runs_on : (X : Type 0) (most : ℕ → ℕ) (n : ℕ) → PutOffNothing {X = X} (runs most n)
runs_on X most zero = refl
runs_on X most (suc n) = runs_on X most n

joins : (X : Type 0) (b : Bool) → b ≡ true
    → PutOffNothing {X = X} (if b then [] else BarrierBegin ∷ [])
joins X true is = refl
joins X false is = absurd (cc)

module _ {C X : Type 0} where
  -- runs in two parts
  pub joined : (first : Locked C X) (calls more : List (Call X)) → IsRun first calls
      → IsRun (engine_after first calls) more → IsRun first (more ++ calls)
  joined first calls [] before later = before
  joined first calls (call ∷ more) before later = (
    subst (λ e. MayCall e call) (sym (appended first more calls)) later.0,
    joined first calls more before later.1,
  )

  pub earlier_run : (e : Locked C X) (later earlier : List (Call X)) → IsRun e (later ++ earlier)
      → IsRun e earlier
  earlier_run e [] earlier is = is
  earlier_run e (call ∷ later) earlier is = earlier_run e later earlier is.1

  pub later_run : (e : Locked C X) (later earlier : List (Call X)) → IsRun e (later ++ earlier)
      → IsRun (engine_after e earlier) later
  later_run e [] earlier is = tt
  later_run e (call ∷ later) earlier is = (
    subst (λ x. MayCall x call) (appended e later earlier) is.0,
    later_run e later earlier is.1,
  )

  -- runs of all lists may be made
  pub runs_are_a_run : (e : Locked C X) (most : ℕ → ℕ) (n : ℕ) → n ≤ e.cpus
      → IsRun e (runs most n) × ((engine_after e (runs most n)).cpus ≡ e.cpus)
  runs_are_a_run e most zero few = (tt, refl)
  runs_are_a_run e most (suc n) few =
      let so_far = runs_are_a_run e most n (omega (arith, few)) in
      ((omega (arith, few, so_far.1), so_far.0), so_far.1)

  -- up to its step of driving, a step of waiting keeps the number
  number_begun : (e : Locked C X) (b : Bool)
      → (engine_after e (if b then [] else BarrierBegin ∷ [])).grace.seq ≡ e.grace.seq
  number_begun e true = refl
  number_begun e false = refl

  number_visited : (e : Locked C X) (n : ℕ) → (engine_after e (visits n)).grace.seq ≡ e.grace.seq
  number_visited e zero = refl
  number_visited e (suc n) = number_visited e n

  abbrev pub visiting : Locked C X → List (Call X)
  visiting e = visits e.cpus ++ begun e

  pub number_visiting : (e : Locked C X) → (engine_after e (visiting e)).grace.seq ≡ e.grace.seq
  number_visiting e =
      ap (λ (x : Locked C X). x.grace.seq) (appended e (visits e.cpus) (begun e))
      ∙ number_visited (engine_after e (begun e)) e.cpus
      ∙ number_begun e e.grace.lists.running

  abbrev pub ready : Locked C X → Locked C X
  ready e = engine_after e (before_drive e)

  pub ready_is : (e : Locked C X)
      → ready e ≡ engine_after (engine_after e (visiting e)) (tends e.cpus)
  ready_is e = appended e (tends e.cpus) (visiting e)

  pub number_ready : (e : Locked C X) → (ready e).grace.seq ≡ e.grace.seq
  number_ready e =
      ap (λ (x : Locked C X). x.grace.seq) (ready_is e)
      ∙ number_tended (engine_after e (visiting e)) e.cpus
      ∙ number_visiting e

  pub quiet_ready : (e : Locked C X) (word : ℕ → ℕ) → AreQuiet e word → AreQuiet (ready e) word
  quiet_ready e word quiet = λ c.
      subst
      (λ (p : Periods).
      reports_quiescence (number_of (record p { running = true })) (word c) ≡ true)
      (sym (number_ready e)) (quiet c)

  pub visiting_on : (e : Locked C X) → e.grace.lists.running ≡ true
      → PutOffNothing (visiting e)
  visiting_on e is = visits_on e.cpus (begun e) (joins X e.grace.lists.running is)

  pub visiting_run : (e : Locked C X) → IsRun e (visiting e)
  visiting_run e = earlier_run e (tends e.cpus) (visiting e) (ready_is_a_run e)

  -- its lists stay so until it drives
  pub stays_ready : (P : Item X → Type 0) → IsLasting P → (n : ℕ) (e : Locked C X)
      → e.grace.lists.running ≡ true → At P n e → At P n (ready e)
  stays_ready P k n e is a =
      stays P k n e (before_drive e) (ready_is_a_run e)
      (tends_on e.cpus (visiting e) (visiting_on e is)) a

  -- each list has been tended when it drives
  pub soon_ready : (n m : ℕ) (e : Locked C X) → e.cpus ≡ n
      → length (engine_after e (visiting e)).grace.lists.lists ≡ n
      → ((c : ℕ) → c < n → IsAtMost m (list_of (ready e).grace.lists c))
      → (c : ℕ) → c < n → All (Soon m) (list_of (ready e).grace.lists c)
  soon_ready n m e cpus long few c l =
      let v = engine_after e (visiting e) in
      let here : list_of (ready e).grace.lists c
      ≡ after_tend (list_of v.grace.lists c) (number_of v.grace.seq) =
      ap (λ (x : Locked C X). list_of x.grace.lists c) (ready_is e)
      ∙ each_tended v e.cpus c (omega (arith, cpus, long)) (omega (arith, cpus, l)) in
      subst (λ xs. All (Soon m) xs) (sym here)
      (tended_soon (number_of v.grace.seq) m (list_of v.grace.lists c)
      (subst (λ xs. IsAtMost m xs) here (few c l)))

  pub needed_ready : (n : ℕ) (e : Locked C X) → e.cpus ≡ n
      → length (engine_after e (visiting e)).grace.lists.lists ≡ n
      → (c : ℕ) → c < n
      → IsAtMost (ready e).grace.needed (list_of (ready e).grace.lists c)
  needed_ready n e cpus long c l =
      let v = engine_after e (visiting e) in
      subst (λ (x : Locked C X). IsAtMost x.grace.needed (list_of x.grace.lists c))
      (sym (ready_is e))
      (each_needed v e.cpus c (omega (arith, cpus, long)) (omega (arith, cpus, l)))

  -- and once it drove, and was tested
  pub stays_driven : (P : Item X → Type 0) → IsLasting P → (n : ℕ) (e : Locked C X) (word : ℕ → ℕ)
      → At P n (ready e) → At P n (engine_after e (after_driving e word))
  stays_driven P k n e word a =
      stays P k n (ready e) (Drive (wants_begin (ready e).grace) word ∷ []) (tt, tt) refl a

  pub stays_waited : (P : Item X → Type 0) → IsLasting P → (n : ℕ) (e now : Locked C X)
      (word : ℕ → ℕ) → Waited e word now → At P n (ready e) → At P n now
  stays_waited P k n e now word w a =
      let over = engine_after e (whole_step e word) in
      let tested = stays P k n (engine_after e (after_driving e word)) (BarrierTest ∷ [])
      ((step_is_a_run e word).0, tt) refl (stays_driven P k n e word a) in
      subst (λ x. At P n x) (sym (w.state ∙ appended e w.later (whole_step e word)))
      (stays P k n over w.later (later_run e w.later (whole_step e word) w.run) w.others tested)

  -- the number, and how many ended, behind the step of driving
  pub ends_waited : (e now : Locked C X) (word : ℕ → ℕ) → Waited e word now
      → (engine_after e (after_driving e word)).grace.seq.ends ≤ now.grace.seq.ends
  ends_waited e now word w =
      let up = ends_go_up (engine_after e (whole_step e word)) w.later
      (later_run e w.later (whole_step e word) w.run) in
      let is = ap (λ (x : Locked C X). x.grace.seq.ends)
      (w.state ∙ appended e w.later (whole_step e word)) in
      omega (arith, up, is)

  pub number_waited : (e now : Locked C X) (word : ℕ → ℕ) → Waited e word now
      → number_of (engine_after e (after_driving e word)).grace.seq ≤ number_of now.grace.seq
  number_waited e now word w =
      let up = number_goes_up (engine_after e (whole_step e word)) w.later
      (later_run e w.later (whole_step e word) w.run) in
      let is = ap (λ (x : Locked C X). number_of x.grace.seq)
      (w.state ∙ appended e w.later (whole_step e word)) in
      omega (arith, up, is)

  pub number_over : (e now : Locked C X) (word : ℕ → ℕ) → Waited e word now
      → number_of e.grace.seq ≤ number_of now.grace.seq
  number_over e now word w =
      let up = number_goes_up e (w.later ++ whole_step e word) w.run in
      let is = ap (λ (x : Locked C X). number_of x.grace.seq) w.state in
      omega (arith, up, is)

  -- the first n processors are visited
  flags_kept : (e : Locked C X) (n : ℕ)
      → length (engine_after e (visits n)).grace.lists.visited ≡ length e.grace.lists.visited
  flags_kept e zero = refl
  flags_kept e (suc n) =
      let f = engine_after e (visits n) in
      either f.grace.lists n (is_visited f.grace.lists n) ∙ flags_kept e n
    where
      either : (all : AllLists X) (d : ℕ) (b : Bool)
          → length (if b then all else (record (with_list all d (after_entrain (list_of all d))) {
            visited = set all.visited d true;
          })).visited ≡ length all.visited
      either all d true = refl
      either all d false = length-set all.visited d true

  pub all_seen : (e : Locked C X) (n : ℕ) → n ≤ length e.grace.lists.visited → (c : ℕ) → c < n
      → is_visited (engine_after e (visits n)).grace.lists c ≡ true
  all_seen e zero few c l = absurd (omega (arith, l))
  all_seen e (suc n) few c l =
      let f = engine_after e (visits n) in
      let long = flags_kept e n in
      elim (eq-or-lt_of_le {n = c} {m = n} (omega (arith, l))) [
        | inl i ↦
            ap (λ k. is_visited (engine_after e (visits (suc n))).grace.lists k) i
            ∙ here f.grace.lists n (is_visited f.grace.lists n) refl (omega (arith, few, long))
        | inr i ↦
            there f.grace.lists n c (is_visited f.grace.lists n) (λ j. absurd (omega (arith, i, j)))
            ∙ all_seen e n (omega (arith, few)) c i
      ]
    where
      here : (all : AllLists X) (d : ℕ) (b : Bool) → is_visited all d ≡ b
          → d < length all.visited
          → is_visited (if b then all
          else (record (with_list all d (after_entrain (list_of all d))) {
            visited = set all.visited d true;
          })) d ≡ true
      here all d true is l = is
      here all d false is l = get_or-set_same all.visited d true false l

      there : (all : AllLists X) (d c : ℕ) (b : Bool) → c ≢ d
          → is_visited (if b then all
          else (record (with_list all d (after_entrain (list_of all d))) {
            visited = set all.visited d true;
          })) c ≡ is_visited all c
      there all d c true other = refl
      there all d c false other = get_or-set_other all.visited d c true false other

  pub visited_tended : (e : Locked C X) (n c : ℕ)
      → is_visited (engine_after e (tends n)).grace.lists c ≡ is_visited e.grace.lists c
  visited_tended e zero c = refl
  visited_tended e (suc n) c = visited_tended e n c

  pub flags_begun : (e : Locked C X) (b : Bool) → length e.grace.lists.visited ≡ e.cpus
      → length e.grace.lists.lists ≡ e.cpus
      → length (engine_after e (if b then [] else BarrierBegin ∷ [])).grace.lists.visited ≡ e.cpus
  flags_begun e true flags long = flags
  flags_begun e false flags long = length-replicate (length e.grace.lists.lists) false ∙ long
