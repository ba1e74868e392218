use Rattle.std.proofs.Common.{◌<◌, length, sym, ◌∙◌, ap, subst, arith, length-set}
use Rattle.rcu_live.specs.Board.{Object}
use Rattle.rcu_live.specs.CpuSeat.{Seated}
use Rattle.rcu_graph.specs.Nodes.{IsOn}
use Rattle.rcu_graph.specs.declared.plan.Plan.{Plan}
use Rattle.rcu_graph.specs.declared.plan.Layout.{Layout}
use Rattle.rcu_map.specs.Keys.{root_words}
use Rattle.rcu_map.proofs.Rows.{read_all, read_more}
use Rattle.rcu_map.proofs.map.Map.read_words.Goals as goal

pub loop-word-preserved : goal.loop-word-preserved
loop-word-preserved g c =
    let i = c.loop-word.invariant in
    record {
      same = c.read.ensures.same ∙ i.same;
      size = length-set c.loop-word.entry c.loop-word.word c.read.result ∙ i.size;
      told = λ words on is.
          let size = i.size
          ∙ (length-set c.args.entry.now 0 c.args.key ∙ c.requires.room) in
          let many = ap (λ (r : Layout). r.plan.words) c.layout-layout.ensures in
          let low : c.loop-word.word < length c.loop-word.entry = omega (arith, size, many) in
          read_more c.loop-word.entry words c.loop-word.word c.read.result low (i.told words on is)
          (c.read.ensures.told words
          (subst (λ (map : Object Plan). IsOn (root_words map.plan.words) map.plan.roots
          (g.P.Within.lens.get c.loop-word.seat.view.client).known c.args.node words)
          (sym c.self.view_is)
          (subst (λ (s : Seated g.row.P-Whole-Known.Denot). IsOn (root_words
          c.args.self.now.plan.words)
          c.args.self.now.plan.roots (g.P.Within.lens.get s.view.client).known c.args.node words)
          (sym i.same) on)));
    }

pub returns-clause-told : goal.returns-clause-told
returns-clause-told g c = λ words on whole is. let i = c.loop-word.invariant in
    let many = ap (λ (r : Layout). r.plan.words) c.layout-layout.ensures in
    let wide = c.kept.ensures.of_map.wide in
    read_all c.loop-word.entry words c.args.self.now.plan.words
    (i.size ∙ (length-set c.args.entry.now 0 c.args.key ∙ c.requires.room)) whole.sized
    (λ j low. i.told words on is j (omega (arith, low, many, wide)))
