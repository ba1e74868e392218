use Rattle.std.proofs.Common.{◌≡◌, ℕ, Bool, true, false, sym, ap, ◌∙◌, arith}
use Rattle.rcu_seq.specs.Numbers.{Number}
use Rattle.rcu_defer.specs.Histories.{Call, Defer, Tend, Take}
use Rattle.rcu_defer.proofs.definition_laws.a_tend_is_at_the_number_of_its_moment.Goals as goal

-- the number of a tend
abbrev tended : {X : Type 0} → Call X → Number
tended (Defer x) = 0
tended (Tend n) = n
tended (Take most) = 0

abbrev is_tend : {X : Type 0} → Call X → Bool
is_tend (Defer x) = false
is_tend (Tend n) = true
is_tend (Take most) = false

pub returns-clause-tend : goal.returns-clause-tend
returns-clause-tend g c = λ plan cpus m kept is. record {
  kept = kept;
  number = λ n tends. ap tended (sym tends ∙ is);
}

pub returns-clause-defer : goal.returns-clause-defer
returns-clause-defer g c = λ plan cpus m value kept is. record {
  kept = kept;
  number = λ n tends. let e = ap is_tend (sym tends ∙ is) in absurd (cc);
}

pub returns-clause-take : goal.returns-clause-take
returns-clause-take g c = λ plan cpus m most kept is. record {
  kept = kept;
  number = λ n tends. let e = ap is_tend (sym tends ∙ is) in absurd (cc);
}

pub returns-clause-other_number : goal.returns-clause-other_number
returns-clause-other_number g c = λ plan cpus m n is other moment. other (moment.number n is)
