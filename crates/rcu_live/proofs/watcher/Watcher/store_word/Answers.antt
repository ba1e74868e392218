use Rattle.std.proofs.Common.{None, ℕ, ◌+◌, ap, subst, sym}
use Rattle.rcu_live.specs.Board.{Object}
use Rattle.rcu_live.specs.Client.{AllowsWord}
use Rattle.rcu_live.proofs.watcher.Watcher.store_word.Goals as goal

pub store_at-requires-clause-allowed : goal.store_at-requires-clause-allowed
store_at-requires-clause-allowed g c =
    let s = c.args.self.now in (
      c.args.word,
      ap (λ (n : ℕ). n + c.args.word) c.base.ensures,
      subst (λ (o : Object g.row.P-Plan.Denot).
          AllowsWord (g.P.Client.holds o.plan) None None s.view.client c.args.word
          (λ _. c.args.value) (λ _. g.M.WordStep.then c.args.word s.view.client c.args.value))
          (sym c.board-board.ensures) c.requires.allowed,
    )
