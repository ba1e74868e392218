use Rattle.std.proofs.Common.{◌∙◌, [], ap, arith, rules, subst, sym}
use Rattle.rcu_live.specs.Board.{Object}
use Rattle.rcu_live.specs.Watcher.{Watching}
use Rattle.rcu_graph.specs.Writer.{IsWriterOf}
use Rattle.rcu_graph.specs.Nodes.{first_nodes}
use Rattle.rcu_graph.specs.declared.known.Known.TheVariants.{Writer}
use Rattle.rcu_graph.specs.declared.known.Planned.{Planned}
use Rattle.rcu_graph.specs.declared.plan.Plan.{Plan}
use Rattle.rcu_graph.specs.Opening.{writer_at_first}
use Rattle.rcu_cell.specs.Opening.{ShowsFirst}
use Rattle.rcu_cell.proofs.opening.Cell+F+W.open.Goals as goal

pub keep-requires : goal.keep-requires
keep-requires g c =
    let e = c.in_ok-opened.ensures in
    let over = c.over-cell.ensures in
    let same = ap (λ (o : Object Plan). o.plan) over ∙ e.plan in
    let nodes = ap (λ (p : Plan). p.nodes) (same ∙ c.in-Some.ensures.1) in
    let several = c.in-Some.ensures.0 in
    let writer = subst (λ (o : Object Plan). IsWriterOf o c.in_ok-opened.opened.own) (sym over)
    e.writer in
    let claimed =
    ap (λ (w : Watching Planned). w.view.client.known) e.own
    ∙ ap (λ (p : Plan). Writer 0
    (first_nodes p.links p.words (λ _. g.F.Version.first) p.roots p.nodes) [])
    (sym same) in (
      omega arith,
      (
        omega arith,
        (
          search rules,
          (omega arith, (writer, (claimed, (omega (arith, nodes, several), c.requires.whole)))),
        ),
      ),
    )

pub returns-clause-shown : goal.returns-clause-shown
returns-clause-shown g c =
    let e = c.in_ok-opened.ensures in
    subst (λ (k : Watching Planned). ShowsFirst k c.args.words.now c.in-Ok.writer)
    (e.own
    ∙ (ap (λ (o : Object Plan). writer_at_first (λ _. g.F.Version.first) o.table c.args.cpus
    c.in-Some.plan)
    (sym c.over-cell.ensures)
    ∙ ap (λ (p : Plan). writer_at_first (λ _. g.F.Version.first) c.over-cell.result.table
    c.args.cpus p)
    c.in-Some.ensures.1))
    c.in-Ok.ensures
