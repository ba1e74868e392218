-- Runs of a step of waiting for a barrier.
use Rattle.std.proofs.Common.{◌≡◌, ◌≢◌, ℕ, zero, suc, ◌+◌, ◌<◌, ◌++◌, Bool, true, false, List, []}
use Rattle.std.proofs.Common.{◌∷◌, refl, sym, ap, ◌∙◌, subst, Option, Some}
use Rattle.std.proofs.Common.{Result, Ok, Err, OnOk, arith}
use Rattle.std.specs.Result.{result_err}
use Rattle.std.proofs.lemmas.Bool.Decides.{nat_tests}
use Rattle.rcu_seq.specs.Fault.{fault_number}
use Rattle.rcu_seq.specs.declared.fault.Fault.{Fault}
use Rattle.rcu_barrier.specs.Lists.{is_visited, visit_answer}
use Rattle.rcu_barrier.specs.declared.lists.Visit.TheVariants.{Marked}
use Rattle.rcu_live.specs.Drive.{after_drive, wants_begin}
use Rattle.rcu_live.specs.Engine.{Locked, cpu_refusal}
use Rattle.rcu_live.specs.Runs.{BarrierTest, Call, Makes, Tend, Visit, after_call, engine_after}
use Rattle.rcu_graph.specs.declared.known.Planned.{Planned}
use Rattle.rcu_c.specs.Answers.{number_for}
use Rattle.rcu_c.specs.BarrierSteps.{IsCutOff, before_drive, begun, tends, visits, whole_step}
use Rattle.rcu_c.specs.Engines.{EngineAndSeats}
use Rattle.rcu_c.specs.Holding.{on_engine}
use Rattle.rcu_c.specs.declared.contents.Contents.{Contents}
use Rattle.rcu_c.specs.declared.contents.Contents.TheVariants as contents

module _ {C X : Type 0} where
  -- a run behind another
  pub appended : (e : Locked C X) (later earlier : List (Call X))
      → engine_after e (later ++ earlier) ≡ engine_after (engine_after e earlier) later
  appended e [] earlier = refl
  appended e (call ∷ calls) earlier = ap (λ x. after_call x call) (appended e calls earlier)

  visited_once : (e : Locked C X) (cpu : ℕ) (b : Bool)
      → is_visited e.grace.lists cpu ≡ b → e.grace.lists.running ≡ true
      → (after_call e (Visit cpu)).grace.lists.running ≡ true
  visited_once e cpu true is running = rw is running
  visited_once e cpu false is running = rw is running

  -- a barrier still runs after visits
  pub still_runs : (e : Locked C X) (n : ℕ) → e.grace.lists.running ≡ true
      → (engine_after e (visits n)).grace.lists.running ≡ true
  still_runs e zero running = running
  still_runs e (suc n) running =
      visited_once (engine_after e (visits n)) n _ refl (still_runs e n running)

  pub as_many : (e : Locked C X) (n : ℕ) → (engine_after e (visits n)).cpus ≡ e.cpus
  as_many e zero = refl
  as_many e (suc n) = as_many e n

  pub as_many_tended : (e : Locked C X) (n : ℕ) → (engine_after e (tends n)).cpus ≡ e.cpus
  as_many_tended e zero = refl
  as_many_tended e (suc n) = as_many_tended e n

  -- tending ends no barrier, and begins none
  pub same_barrier : (e : Locked C X) (n : ℕ)
      → (engine_after e (tends n)).grace.lists.running ≡ e.grace.lists.running
  same_barrier e zero = refl
  same_barrier e (suc n) = same_barrier e n

  -- a barrier that runs has visited all, and all lists are tended
  pub made_ready : (e started visited now : Locked C X)
      → started ≡ engine_after e (begun e)
      → started.cpus ≡ e.cpus
      → visited ≡ engine_after started (visits started.cpus)
      → now ≡ engine_after visited (tends visited.cpus)
      → now ≡ engine_after e (before_drive e)
  made_ready e started visited now is same each tended =
      let all : visited ≡ engine_after e (visits e.cpus ++ begun e) =
      each
      ∙ ap (λ n. engine_after started (visits n)) same
      ∙ ap (λ x. engine_after x (visits e.cpus)) is
      ∙ sym (appended e (visits e.cpus) (begun e)) in
      let cpus : visited.cpus ≡ e.cpus =
      ap (λ (x : Locked C X). x.cpus) each ∙ as_many started started.cpus ∙ same in
      tended
      ∙ ap (λ n. engine_after visited (tends n)) cpus
      ∙ ap (λ x. engine_after x (tends e.cpus)) all
      ∙ sym (appended e (tends e.cpus) (visits e.cpus ++ begun e))

  -- one that is cut off has visited those before a processor
  pub cut_off : (e started now : Locked C X) (cpu : ℕ)
      → started ≡ engine_after e (begun e)
      → started.cpus ≡ e.cpus
      → cpu < started.cpus
      → now ≡ engine_after started (visits cpu)
      → visit_answer now.grace.lists cpu ≡ Marked
      → IsCutOff e now
  cut_off e started now cpu is same inside state marks = record {
    cpu = cpu;
    inside = subst (λ (n : ℕ). cpu < n) same inside;
    state =
        state ∙ ap (λ x. engine_after x (visits cpu)) is ∙ sym (appended e (visits cpu) (begun e));
    marks = marks;
  }

  -- a list of an existing processor is tended
  pub one_tended : {U : Type 0} (e now : Locked C X) (cpu : ℕ) (o : Result U Fault)
      → cpu < e.cpus → OnOk o (Makes (Tend cpu) e now) → result_err o ≡ cpu_refusal e cpu
      → now ≡ after_call e (Tend cpu)
  one_tended e now cpu (Ok u) inside made refused = made.left
  one_tended e now cpu (Err fault) inside made refused =
      absurd (grind (arith, nat_tests, inside, refused))

  pub tended_more : (e now next : Locked C X) (n : ℕ)
      → now ≡ engine_after e (tends n) → next ≡ after_call now (Tend n)
      → next ≡ engine_after e (tends (n + 1))
  tended_more e now next n so_far one =
      let more : suc n ≡ n + 1 = omega arith in
      one ∙ ap (λ x. after_call x (Tend n)) so_far ∙ ap (λ k. engine_after e (tends k)) more

  -- the step of driving and the test follow
  pub whole : (e ready now : Locked C X) (word : ℕ → ℕ) → ready ≡ engine_after e (before_drive e)
      → now ≡ after_call (after_drive ready (wants_begin ready.grace) word) BarrierTest
      → now ≡ engine_after e (whole_step e word)
  whole e ready now word is taken =
      taken ∙ ap (λ x. after_call (after_drive x (wants_begin x.grace) word) BarrierTest) is

-- a fault's number is not 0, which says that a call was accepted
not_zero : (fault : Fault) → fault_number fault ≢ 0
not_zero fault is = grind (arith, is)

pub accepted : {U P : Type 0} (o : Result U Fault) (n : ℕ)
    → n ≡ number_for (result_err o) → n ≡ 0 → OnOk o P → P
accepted (Ok u) n is none p = p
accepted (Err fault) n is none p = absurd (not_zero fault (sym is ∙ none))

-- a handle whose running engine took a step
pub on_inner : (held : Option Contents) (o inside : EngineAndSeats) (now : Locked Planned ℕ)
    (step : Locked Planned ℕ → Locked Planned ℕ)
    → held ≡ Some (contents.Engine o)
    → inside ≡ o
    → now ≡ step inside.engine
    → Some (contents.Engine (record inside { engine = now })) ≡ on_engine step held
on_inner held o inside now step holds same is =
    ap (λ x. Some (contents.Engine (record inside { engine = x }))) is
    ∙ ap (λ (p : EngineAndSeats). Some (contents.Engine (record p { engine = step p.engine }))) same
    ∙ sym (ap (on_engine step) holds)
