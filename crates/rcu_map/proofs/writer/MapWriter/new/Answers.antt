use Rattle.std.proofs.Common.{◌∙◌, ℕ, List, ap, arith, subst, sym}
use Rattle.rcu_live.specs.Board.{Object}
use Rattle.rcu_live.specs.InPart.{watcher_part}
use Rattle.rcu_live.specs.Watcher.{Watching}
use Rattle.rcu_graph.specs.Writer.{IsWriterOf}
use Rattle.rcu_graph.specs.Nodes.{first_nodes, nodes_in}
use Rattle.rcu_graph.specs.Steps.{IsClaimed}
use Rattle.rcu_graph.specs.declared.known.Planned.{Planned}
use Rattle.rcu_graph.specs.declared.known.Node.{Node}
use Rattle.rcu_graph.specs.declared.plan.Plan.{Plan}
use Rattle.rcu_map.specs.Chains.{IsKept}
use Rattle.rcu_map.specs.Keys.{root_words}
use Rattle.rcu_map.proofs.Reclaims.{is_map_first, none_first}
use Rattle.rcu_map.proofs.Openings.{roots_are_whole}
use Rattle.rcu_map.proofs.writer.MapWriter.new.Goals as goal

pub keep-requires : goal.keep-requires
keep-requires g c = record {
  one = c.map.invariant.one;
  writer = subst (λ (o : Object Plan). IsWriterOf o (watcher_part g.P.Within.lens c.args.seat))
      (sym c.map.view_is) c.requires.writer;
  nodes = subst (λ (o : Object Plan). IsClaimed (root_words o.plan.words) o.plan.roots
      o.plan.links o.plan.words o.plan.nodes (g.P.Within.lens.get c.args.seat.view.client).known)
      (sym c.map.view_is) c.requires.nodes;
  whole = roots_are_whole g.E.Invariant.holds c.map.inside.graph.plan;
}

pub invariant_of-result : goal.invariant_of-result
invariant_of-result g c =
    let back = sym c.map.view_is in
    let k = c.map.invariant in
    let kept = c.in_ok-nodes.ensures in
    let p : Plan = c.map.inside.graph.plan in
    let nodes : List Node = nodes_in c.in_ok-nodes.nodes.view.client.known in
    let writer = subst (λ (o : Object Plan).
    IsWriterOf o (watcher_part g.P.Within.lens c.args.seat)) back c.requires.writer in
    let planned = ap (λ (w : Watching Planned). w.view.client.plan) kept.same
    ∙ writer.watches.planned in
    let claimed = subst (λ (o : Object Plan). IsClaimed (root_words o.plan.words) o.plan.roots
    o.plan.links o.plan.words o.plan.nodes (g.P.Within.lens.get c.args.seat.view.client).known)
    back c.requires.nodes in
    let e = ap (λ (w : Watching Planned). nodes_in w.view.client.known) kept.same
    ∙ (ap nodes_in claimed
    ∙ ap (λ (links : ℕ). first_nodes links p.words (root_words p.words) p.roots p.nodes) k.one) in
    let wide = k.wide in
    subst (λ (q : Plan). IsKept g.E.Invariant.holds g.row.W q nodes 0) (sym planned) (record {
      some = k.some;
      one = k.one;
      wide = k.wide;
      words = k.words;
      map = is_map_first g.E.Invariant.holds p.roots p.seed p.words p.nodes nodes e kept.kept
          (omega (arith, wide));
      count = sym (none_first g.E.Invariant.holds p.roots p.seed p.words p.nodes nodes e kept.kept);
      most = omega arith;
    })
