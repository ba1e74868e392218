use Rattle.std.proofs.lemmas.Result.{IfErr-at_err}
use Rattle.rcu_graph.proofs.opening.Graph+F.open.Goals as goal

pub returns-clause-bad_sizes : goal.returns-clause-bad_sizes
returns-clause-bad_sizes g c = (
  λ is. absurd (IfErr-at_err (λ _. ⊥) is tt),
  λ unsized. absurd
      (IfErr-at_err (λ _. ⊥) (c.in_ok-opened.ensures.bad_sizes.1 unsized) tt),
)
