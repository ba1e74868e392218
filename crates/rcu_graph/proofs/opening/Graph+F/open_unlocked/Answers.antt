use Rattle.std.specs.Arc.{arc_value}
use Rattle.rcu_live.specs.Board.{Object}
use Rattle.rcu_live.specs.Words.{base_of}
use Rattle.rcu_graph.specs.declared.plan.Plan.{Plan}
use Rattle.rcu_graph.proofs.Keeping.{keeps_first}
use Rattle.rcu_graph.proofs.opening.Graph+F.open_unlocked.Goals as goal

pub returns-clause-writer : goal.returns-clause-writer
returns-clause-writer g c =
    let shared : Object Plan = arc_value c.in_ok-board.field-0.board in
    let opened = c.in_ok-board.ensures.opened in
    keeps_first c.args.plan (base_of c.args.cpus) (g.F.Shape.first shared.plan) shared
    c.in_ok-board.field-0.own c.claim.new.seat opened.dealt.size.base c.in_ok-board.ensures.plan
    opened.alone c.claim.ensures
