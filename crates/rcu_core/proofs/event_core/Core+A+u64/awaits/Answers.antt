use Rattle.std.proofs.Common.{◌<◌, rules}
use Rattle.std.proofs.lemmas.Result.{err_from_is_err_and}
use Rattle.rcu_state.specs.GpState.{awaited_in}
use Rattle.rcu_core.proofs.Steps.{does_want, refused_along}
use Rattle.rcu_core.proofs.event_core.Core+A+u64.awaits.Goals as goal

pub returns-in_err-list_awaited : goal.returns-in_err-list_awaited
returns-in_err-list_awaited g c =
    let p = err_from_is_err_and c.from_residual.result c.from_residual.ensures.1 in
    let some : 0 < awaited_in c.self.inside.gp.grace = search rules in
    rw (p.1, p.2) (refused_along _ _ _ _ c.self.view_is (does_want _ some))
