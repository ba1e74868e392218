use Rattle.std.proofs.Common.{◌≡◌, ℕ, true, [], ◌∷◌, ◌++◌, arith}
use Rattle.std.proofs.lemmas.Bool.Decides.{nat_tests}
use Rattle.rcu_core.specs.Stories.{Story, Replied, Publish, Load, publishes}
use Rattle.rcu_core.proofs.version_laws.a_story_publishes_what_it_has.Goals as goal

-- a publication is one whatever came later
published : (version : ℕ) (later before : Story)
    → publishes version (later ++ Publish version ∷ before) ≡ true
published version [] before = grind (arith, nat_tests)
published version (Replied e r ∷ later) before = published version later before
published version (Publish other ∷ later) before =
    let more = published version later before in grind (arith, nat_tests)
published version (Load cpu ∷ later) before = published version later before

pub returns-clause-published : goal.returns-clause-published
returns-clause-published g = λ version later before. published version later before
