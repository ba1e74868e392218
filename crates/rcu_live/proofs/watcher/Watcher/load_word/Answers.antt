use Rattle.std.proofs.Common.{None, ℕ, ◌+◌, ap, subst, sym}
use Rattle.rcu_live.specs.Board.{Object}
use Rattle.rcu_live.specs.Client.{AllowsWord}
use Rattle.rcu_live.proofs.watcher.Watcher.load_word.Goals as goal

pub load_at-requires-clause-allowed : goal.load_at-requires-clause-allowed
load_at-requires-clause-allowed g c =
    let s = c.args.self.now in (
      c.args.word,
      ap (λ (n : ℕ). n + c.args.word) c.base.ensures,
      subst (λ (o : Object g.row.P-Plan.Denot).
          AllowsWord (g.P.Client.holds o.plan) None None s.view.client c.args.word
          (λ n. n) (g.M.WordStep.then c.args.word s.view.client))
          (sym c.board-board.ensures) c.requires.allowed,
    )
