use Rattle.std.proofs.Common.{ap, cond, refl}
use Rattle.rcu_core.specs.Progress.{steps_left}
use Rattle.rcu_core.proofs.definition_laws.a_way_out_has_each_next_event.Goals as goal

pub returns-clause-whole : goal.returns-clause-whole
returns-clause-whole c = λ last most. (refl, (refl, (refl, (refl, refl))))

pub returns-clause-part : goal.returns-clause-part
returns-clause-part c = λ last most reached w. let rest = w.1.1.1 in absurd (cc)

pub returns-clause-other : goal.returns-clause-other
returns-clause-other c = λ last most events reached w. let first = w.0 in absurd (cc)

pub returns-clause-none : goal.returns-clause-none
returns-clause-none c = λ size h r. ap (λ b. cond b (steps_left size h) 0) r
