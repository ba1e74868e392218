-- The end of a grace period by a step of driving, as returned to C.
use Rattle.std.proofs.Common.{◌≡◌, ℕ, ◌+◌, ◌≤◌, ◌&&◌, Bool, true, false, not, List, [], ◌∷◌, refl}
use Rattle.std.proofs.Common.{sym, ap, ◌∙◌, arith, Option, Some, None}
use Rattle.std.specs.Prelude.{◌==◌, if◌then◌else◌}
use Rattle.std.proofs.lemmas.Bool.Decides.{nat_tests}
use Rattle.rcu_seq.specs.Fault.{first_fault}
use Rattle.rcu_seq.specs.Numbers.{number_at}
use Rattle.rcu_seq.specs.Seq.{Periods, number_of}
use Rattle.rcu_seq.specs.Tags.{is_done_first}
use Rattle.rcu_seq.specs.declared.fault.Fault.TheVariants.{Exhausted}
use Rattle.rcu_node.specs.CpuSet.{is_in}
use Rattle.rcu_state.specs.GpState.{awaited_in}
use Rattle.rcu_state.specs.declared.gp_state.Turned.TheVariants as turned
use Rattle.rcu_live.specs.Drive.{after_collections, after_drive, drive_answer, drive_refusal}
use Rattle.rcu_live.specs.Drive.{moved_on, wants_begin}
use Rattle.rcu_live.specs.Engine.{Locked, after_begin, after_end}
use Rattle.rcu_live.specs.Numbers.{reports_quiescence}
use Rattle.rcu_live.proofs.Elapsed.{ended}
use Rattle.rcu_live.proofs.Quieting.{drive_says, driven, nobody_left}
use Rattle.rcu_c.specs.Answers.{cookie_in_c, number_for, turn_of}
use Rattle.rcu_c.specs.Holding.{engine_of, grace_of, on_engine}
use Rattle.rcu_c.specs.Refusals.{engine_number}
use Rattle.rcu_c.specs.declared.contents.Contents.{Contents}
use Rattle.rcu_c.specs.declared.contents.Contents.TheVariants as contents

-- while a grace period runs no fault is met
no_fault : (running wanted : Bool) → running ≡ true
    → number_for (first_fault ((not running && wanted, Exhausted) ∷ [])) ≡ 0
no_fault true wanted is = refl
no_fault false wanted is = absurd (cc)

pub drive_accepted : (rcu : Option Contents) → (grace_of rcu).seq.running ≡ true
    → engine_number rcu
    (number_for (drive_refusal (grace_of rcu) (wants_begin (grace_of rcu))))
    ≡ 0
drive_accepted None is = absurd (cc)
drive_accepted (Some (contents.Engine o)) is = no_fault o.engine.grace.seq.running _ is
drive_accepted (Some (contents.Seat s)) is = absurd (cc)
drive_accepted (Some (contents.Replica r)) is = absurd (cc)
drive_accepted (Some contents.Room) is = absurd (cc)

-- a cookie up to a number is done at it
done_at : (cookie number : ℕ) → cookie ≤ number → is_done_first (cookie_in_c cookie) number ≡ true
done_at cookie number l = grind (arith, nat_tests)

-- a step of driving with this effect, which finds these words, each of which reports an awaited
-- processor
module _ (rcu now : Option Contents) (word : ℕ → ℕ)
    (is : now ≡ on_engine (λ e. after_drive e (wants_begin e.grace) word) rcu)
    (runs : (grace_of rcu).seq.running ≡ true)
    (told : (cpu : ℕ) → is_in (grace_of rcu).processors.awaited cpu ≡ true
    → reports_quiescence (number_of (grace_of rcu).seq) (word cpu) ≡ true) where
  pub seq_then : (grace_of now).seq ≡ ended (grace_of rcu).seq
  seq_then =
      let e = engine_of rcu in
      ap (λ h. (grace_of h).seq) is
      ∙ ap (λ x. x.grace.seq) (driven e (wants_begin e.grace) word runs (nobody_left e word told))

  pub awaited_then : awaited_in (grace_of now) ≡ 0
  awaited_then =
      let e = engine_of rcu in
      ap (λ h. awaited_in (grace_of h)) is
      ∙ ap (λ x. awaited_in x.grace)
      (driven e (wants_begin e.grace) word runs (nobody_left e word told))
      ∙ nobody_left e word told

  pub told_then : turn_of (drive_answer (engine_of rcu) (wants_begin (grace_of rcu)) word)
      ≡ record { what = 2; awaited = 0; number = number_of (grace_of now).seq }
  told_then =
      let e = engine_of rcu in
      ap turn_of (drive_says e (wants_begin e.grace) word runs told)
      ∙ ap (λ h. turn_of (turned.Ended (number_of (grace_of h).seq))) (sym is)

  pub number_then : number_of (grace_of now).seq ≡ number_of (grace_of rcu).seq + 3
  number_then =
      let was = ap (λ b. number_at (grace_of rcu).seq.ends b) runs in
      let new = ap number_of seq_then in
      omega (arith, was, new)

  pub done_then : (cookie : ℕ) → cookie ≤ number_of (grace_of rcu).seq + 3
      → is_done_first (cookie_in_c cookie) (number_of (grace_of now).seq) ≡ true
  done_then cookie l =
      let n = number_then in done_at cookie (number_of (grace_of now).seq) (omega (arith, l, n))

-- the result of an end for C
ended_if : (runs none was : Bool) (number awaited next : ℕ)
    → (turn_of (if not runs
    then turned.Nothing
    else (if none
    then turned.Ended number
    else (if was then turned.Waiting awaited else turned.Begun next awaited)))).what
    ≡ 2
    → (runs && none) ≡ true
ended_if true true was number awaited next is = refl
ended_if true false true number awaited next is = absurd (cc)
ended_if true false false number awaited next is = absurd (cc)
ended_if false none was number awaited next is = absurd (cc)

module _ {C X : Type 0} where
  ends_moved : (e : Locked C X) (wanted : Bool) (word : ℕ → ℕ)
      → (moved_on e wanted word).grace.seq.ends ≡ e.grace.seq.ends
  ends_moved e wanted word =
      either e.grace.seq.running (after_collections e word)
      (if wanted then after_begin e word else e) refl
      (either wanted (after_begin e word) e refl refl)
    where
      either : (b : Bool) (x y : Locked C X) → x.grace.seq.ends ≡ e.grace.seq.ends
          → y.grace.seq.ends ≡ e.grace.seq.ends
          → (if b then x else y).grace.seq.ends ≡ e.grace.seq.ends
      either true x y i j = i
      either false x y i j = j

  pub ended_counts : (e : Locked C X) (wanted : Bool) (word : ℕ → ℕ)
      → (turn_of (drive_answer e wanted word)).what ≡ 2
      → (after_drive e wanted word).grace.seq.ends ≡ e.grace.seq.ends + 1
  ended_counts e wanted word is =
      let now = moved_on e wanted word in
      let both = ended_if now.grace.seq.running (awaited_in now.grace == 0) e.grace.seq.running
      _ _ _ is in
      ap (λ (b : Bool). (if b then after_end now else now).grace.seq.ends) both
      ∙ ap (λ n. n + 1) (ends_moved e wanted word)
