-- Steps of driving if every word reports a quiescent state: one ends a grace period, or none is
-- needed.
use Rattle.std.proofs.Common.{◌≡◌, ◌⊎◌, ℕ, ◌≤◌, ◌&&◌, Bool, true, false, not, nat_lt, List, []}
use Rattle.std.proofs.Common.{◌∷◌, if◌then◌else◌, sym, ap, ◌∙◌, subst, arith, inl, inr}
use Rattle.std.specs.Prelude.{◌==◌}
use Rattle.std.proofs.lemmas.Bool.{cases_Bool}
use Rattle.std.proofs.lemmas.Bool.Decides.{nat_tests}
use Rattle.rcu_seq.specs.Numbers.{number_at}
use Rattle.rcu_seq.specs.Seq.{number_of}
use Rattle.rcu_state.specs.GpState.{awaited_in}
use Rattle.rcu_live.specs.Drive.{after_collections, after_drive, wants_begin}
use Rattle.rcu_live.specs.Engine.{Locked, after_end, next_number}
use Rattle.rcu_live.specs.Numbers.{reports_quiescence}
use Rattle.rcu_live.specs.Runs.{Call, IsRun, after_call, engine_after}
use Rattle.rcu_live.proofs.Driving.{one_ends}
use Rattle.rcu_live.proofs.Elapsed.{ended, moved}
use Rattle.rcu_live.proofs.Handing.{rises}
use Rattle.rcu_live.proofs.Quieting.{driven, nobody_left}
use Rattle.rcu_c.specs.Progress.{AreQuiet}

needless : (r : Bool) (n m : ℕ) → r ≡ false → (not r && nat_lt n m) ≡ false → m ≤ n
needless true n m i w = absurd (cc)
needless false n m i w = grind (arith, nat_tests)

module _ {C X : Type 0} where
  -- a step that is not wanted does nothing if none runs
  idle_stays : (e : Locked C X) (word : ℕ → ℕ) → e.grace.seq.running ≡ false
      → (after_drive e false word).grace.seq ≡ e.grace.seq
  idle_stays e word r =
      ap
      (λ (now : Locked C X).
      (if now.grace.seq.running && (awaited_in now.grace == 0)
      then after_end now
      else now).grace.seq)
      (ap (λ (b : Bool). if b then after_collections e word else e) r)
      ∙ ap
      (λ (b : Bool). (if b && (awaited_in e.grace == 0) then after_end e else e).grace.seq) r

  pub ends_or_needless : (e : Locked C X) (word : ℕ → ℕ) → AreQuiet e word
      → ((after_drive e (wants_begin e.grace) word).grace.seq ≡ ended e.grace.seq)
      ⊎ ((e.grace.needed ≤ number_of e.grace.seq)
      × ((after_drive e (wants_begin e.grace) word).grace.seq ≡ e.grace.seq))
  ends_or_needless e word quiet = elim (cases_Bool (wants_begin e.grace)) [
    | inl w ↦
        inl (ap (λ (b : Bool). (after_drive e b word).grace.seq) w ∙ one_ends e word quiet)
    | inr w ↦ elim (cases_Bool e.grace.seq.running) [
      | inl r ↦
          let here : number_of e.grace.seq ≡ next_number e.grace =
          ap (λ b. number_at e.grace.seq.ends b) r in
          inl (ap (λ (y : Locked C X). y.grace.seq)
          (driven e (wants_begin e.grace) word r
          (nobody_left e word
          (λ c i. subst (λ n. reports_quiescence n (word c) ≡ true) (sym here) (quiet c)))))
      | inr r ↦
          inr (
            needless e.grace.seq.running (number_of e.grace.seq) e.grace.needed r w,
            ap (λ (b : Bool). (after_drive e b word).grace.seq) w ∙ idle_stays e word r,
          )
    ]
  ]

  -- as calls go on, the number is no lower, and no fewer grace periods have ended
  pub number_goes_up : (e : Locked C X) (calls : List (Call X)) → IsRun e calls
      → number_of e.grace.seq ≤ number_of (engine_after e calls).grace.seq
  number_goes_up e [] is = omega arith
  number_goes_up e (call ∷ calls) is =
      let x = engine_after e calls in
      let up = rises x.grace.seq (after_call x call).grace.seq (moved x call is.0) in
      let was = number_goes_up e calls is.1 in
      omega (arith, up, was)

  pub ends_go_up : (e : Locked C X) (calls : List (Call X)) → IsRun e calls
      → e.grace.seq.ends ≤ (engine_after e calls).grace.seq.ends
  ends_go_up e calls is =
      let x = engine_after e calls in
      by_number e.grace.seq.ends x.grace.seq.ends e.grace.seq.running x.grace.seq.running
      (number_goes_up e calls is)
    where
      by_number : (m n : ℕ) (a b : Bool) → number_at m a ≤ number_at n b → m ≤ n
      by_number m n a b l = grind (arith, nat_tests)
