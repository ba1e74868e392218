use Rattle.std.proofs.Common.{[], ap, refl, ◌∙◌, arith, eq-eqb, cond}
use Rattle.rcu_live.specs.Engine.{loaded_word}
use Rattle.rcu_live.specs.View.{cpu_seat, engine_seat}
use Rattle.rcu_live.specs.Words.{own_word_index}
use Rattle.rcu_live.proofs.Openings.{starts}
use Rattle.rcu_live.proofs.QuietSeats.{only_view}
use Rattle.rcu_live.proofs.definition_laws.a_load_is_made_at_a_moment.Goals as goal

pub returns-clause-loads : goal.returns-clause-loads
returns-clause-loads c = record {
  kept = starts (λ _ _. Unit {0}) 1 [] [] tt (omega arith) tt;
  id = 0;
  engine = engine_seat 1 0 tt;
  here = refl;
  role = refl;
  number = refl;
  found = refl;
}

pub returns-clause-word : goal.returns-clause-word
returns-clause-word c = λ load. let e = load.found in cc

pub returns-clause-number : goal.returns-clause-number
returns-clause-number c = λ load.
    let e = only_view (engine_seat 1 0 tt) load.id load.engine load.here in
    let n = load.number in
    let seen = ap (λ v. v.seen) e in
    absurd (omega (arith, seen, n))

pub returns-clause-no_engine : goal.returns-clause-no_engine
returns-clause-no_engine c = λ load.
    let e = only_view (cpu_seat 0 0 tt) load.id load.engine load.here in
    let r = ap (λ v. v.role) e ∙ load.role in
    cc

pub returns-clause-latest : goal.returns-clause-latest
returns-clause-latest c = λ v cpu word.
    ap (λ b. cond b word (loaded_word v.own_word_loads cpu))
    (eq-eqb (own_word_index cpu) (own_word_index cpu) refl)
