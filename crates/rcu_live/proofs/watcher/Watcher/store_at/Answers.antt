use Rattle.std.proofs.Common.{None, subst, sym}
use Rattle.rcu_live.specs.Client.{AllowsAt}
use Rattle.rcu_live.specs.Watcher.{Watching}
use Rattle.rcu_live.proofs.ClientSteps.{allows_word_of_watcher}
use Rattle.rcu_live.proofs.watcher.Watcher.store_at.Goals as goal

pub store_word-requires-clause-allowed : goal.store_word-requires-clause-allowed
store_word-requires-clause-allowed g c =
    let holds = g.P.Client.holds c.args.board.now.plan in
    let x = c.args.value in
    let allowed = subst (λ (w : Watching g.row.P-Known.Denot).
    AllowsAt holds None None w.view.client c.args.board.now.base c.args.index (λ _. x)
    (λ p _. g.M.WordStep.then p w.view.client x))
    (sym c.self.view_is) c.requires.allowed in (
      allowed.0,
      allowed.1,
      allows_word_of_watcher holds _ _ _ _ allowed.0 (λ _. x)
          (λ _. g.M.WordStep.then allowed.0 c.self.inside.seat.me.0.client x) c.self.invariant.role
          allowed.2,
    )
