use Rattle.std.proofs.Common.{◌≡◌, ℕ, [], inr, refl, arith}
use Rattle.rcu_live.specs.View.{after_store, cpu_seat}
use Rattle.rcu_live.proofs.QuietSeats.{not_by_earlier, not_of_another, of_the_only_seat}
use Rattle.rcu_live.proofs.definition_laws.a_moment_tells_who_is_quiet.Goals as goal

pub returns-clause-quiet : goal.returns-clause-quiet
returns-clause-quiet c = record {
  id = 0;
  seat = after_store (cpu_seat 0 1 tt) 6;
  here = refl;
  role = refl;
  own = refl;
  quiet = inr (inr (5, omega arith, refl));
}

pub returns-clause-earlier : goal.returns-clause-earlier
returns-clause-earlier c = λ q.
    not_by_earlier 5 4 (omega arith) (omega arith)
    (of_the_only_seat (after_store (cpu_seat 0 1 tt) 5) [] [] 5 1 q)

pub returns-clause-other : goal.returns-clause-other
returns-clause-other c = λ q.
    let other : ◌≡◌ {A = ℕ} 1 0 → ⊥ = λ e. omega (arith, e) in
    not_of_another (after_store (cpu_seat 0 1 tt) 6) [] [] 5 0 other q
