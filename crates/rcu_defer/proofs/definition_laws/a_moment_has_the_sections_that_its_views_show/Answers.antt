use Rattle.std.proofs.Common.{◌≡◌, None, Option, Some, sym, ap, ◌∙◌}
use mathlib.Core.Option.{some-injective}
use Rattle.rcu_seq.specs.Numbers.{Number}
use Rattle.rcu_live.specs.declared.view.View.{View}
use Rattle.rcu_defer.proofs.definition_laws.a_moment_has_the_sections_that_its_views_show.Goals
    as goal

pub returns-clause-open : goal.returns-clause-open
returns-clause-open g c = λ m seat at view is role section.
    record { view = view; is = is; cpu = role; section = section }

pub returns-clause-outside : goal.returns-clause-outside
returns-clause-outside g c = λ m seat at view is none shown.
    let same : shown.view ≡ view = some-injective shown.view view (sym shown.is ∙ is) in
    let shows : Some at ≡ None =
    sym shown.section ∙ ap (λ v. v.section) same ∙ none in
    absurd (cc)
