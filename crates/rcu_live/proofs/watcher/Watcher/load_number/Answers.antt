use Rattle.std.proofs.Common.{None, Some, subst, sym}
use Rattle.rcu_live.specs.Board.{Object}
use Rattle.rcu_live.specs.Client.{AllowsNumber}
use Rattle.rcu_live.specs.View.{if_cpu}
use Rattle.rcu_live.specs.Watcher.{Watching}
use Rattle.rcu_live.proofs.ClientSteps.{allows_number_of_watcher}
use Rattle.rcu_live.proofs.watcher.Watcher.load_number.Goals as goal

pub load_number-requires-clause-allowed : goal.load_number-requires-clause-allowed
load_number-requires-clause-allowed g c =
    let holds = g.P.Client.holds (g.L.Shared.object c.args.live.now).plan in
    let v = c.self.inside.seat.me.0 in
    let allowed =
    subst (λ (w : Watching g.row.P-Known.Denot).
    AllowsNumber holds None None w.view.client (g.M.NumberStep.then w.view.client))
    (sym c.self.view_is) c.requires.allowed in
    subst (λ (o : Object g.row.P-Plan.Denot). AllowsNumber (g.P.Client.holds o.plan)
    (if_cpu v.role (Some v.cpu)) (if_cpu v.role v.section) v.client (g.M.NumberStep.then v.client))
    (sym c.board.ensures)
    (allows_number_of_watcher holds _ _ _ _ _ c.self.invariant.role allowed)
