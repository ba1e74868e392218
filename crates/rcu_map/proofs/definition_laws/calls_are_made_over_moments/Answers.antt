use Rattle.rcu_map.proofs.Beside.{throughout_had}
use Rattle.rcu_map.proofs.definition_laws.calls_are_made_over_moments.Goals as goal

pub returns-clause-begun : goal.returns-clause-begun
returns-clause-begun g c = λ plan opened t moments now map. (λ made. made, λ made. made)

pub returns-clause-changed : goal.returns-clause-changed
returns-clause-changed g c = λ plan opened s t moments before now run by map made from is.
    (is, s, from, made)

pub returns-clause-in_order : goal.returns-clause-in_order
returns-clause-in_order g c = λ plan opened t moments before now run by map made.
    (made.1, made.2, made.3)

pub returns-clause-had : goal.returns-clause-had
returns-clause-had g c = λ plan opened key now run has.
    throughout_had g.E.Invariant.holds plan opened key now run has

pub returns-clause-had_at_first : goal.returns-clause-had_at_first
returns-clause-had_at_first g c = λ plan opened key now map had. had

pub returns-clause-had_entry : goal.returns-clause-had_entry
returns-clause-had_entry g c = λ plan opened words now map had. had
