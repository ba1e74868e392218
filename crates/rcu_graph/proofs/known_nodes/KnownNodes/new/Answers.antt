use Rattle.std.proofs.Common.{◌∙◌, ◌≤◌, List, ap, arith, subst, sym}
use Rattle.rcu_graph.specs.Mirror.{AreBy}
use Rattle.rcu_graph.specs.Nodes.{first_nodes, latest_in, nodes_in}
use Rattle.rcu_graph.specs.declared.known.Known.{Known}
use Rattle.rcu_graph.specs.declared.known.Node.{Node}
use Rattle.rcu_graph.specs.declared.plan.Plan.{Plan}
use Rattle.rcu_graph.proofs.Standings.{by_first}
use Rattle.rcu_graph.proofs.known_nodes.KnownNodes.new.Goals as goal

pub invariant_of-result : goal.invariant_of-result
invariant_of-result g c =
    let made = c.in_ok-mirror.mirror in
    let e = c.in_ok-mirror.ensures in
    let k = c.requires.writer in
    let p : Plan = c.args.graph.now.plan in
    let planned = e.plan ∙ c.plan.ensures.plan in
    let is = e.nodes
    ∙ ap (λ (q : Plan). first_nodes q.links q.words (g.F.Shape.first q) q.roots q.nodes)
    c.plan.ensures.plan in
    let first = c.requires.nodes in
    record {
      planned = k.watches.planned ∙ sym planned;
      role = k.role;
      keeps = k.keeps;
      few = k.few ∙ sym (ap (λ (q : Plan). q.nodes) planned);
      late = subst (λ (x : Known). latest_in x ≤ c.args.seat.view.seen) (sym first) (omega arith);
      same = ap nodes_in first ∙ sym is;
      by =
          subst (λ (x : Known). AreBy (latest_in x) made.nodes) (sym first)
          (subst (λ (l : List Node). AreBy 0 l) (sym is)
          (by_first p.links p.words (g.F.Shape.first p) p.roots p.nodes));
    }
