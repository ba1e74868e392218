use Rattle.std.proofs.Common.{◌≡◌, ◌∙◌, ◌≤◌, List, ℕ, ap, arith, length, subst, sym}
use Rattle.std.specs.Prelude.{max}
use Rattle.std.proofs.Math.Nat.{le-max_left, max-le}
use lib.ListN.{length-map}
use Rattle.rcu_live.specs.Watcher.{Watching}
use Rattle.rcu_graph.specs.Mirror.{AreBy}
use Rattle.rcu_graph.specs.Nodes.{latest_in, nodes_in, reclaimed, reclaimed_node}
use Rattle.rcu_graph.specs.declared.known.Known.{Known}
use Rattle.rcu_graph.specs.declared.known.Planned.{Planned}
use Rattle.rcu_graph.specs.declared.known.Node.{Node}
use Rattle.rcu_graph.specs.declared.plan.Plan.{Plan}
use Rattle.rcu_graph.proofs.Standings.{by_reclaimed}
use Rattle.rcu_graph.proofs.known_nodes.KnownNodes.look.Goals as goal

pub invariant_of-self : goal.invariant_of-self
invariant_of-self g c =
    let k = c.self.invariant in
    let e = c.look-number.ensures in
    let n : ℕ = c.look-number.result in
    let was : Known = (g.P.Within.lens.get c.self.inside.seat.view.client).known in
    let seen = k.late in
    let later = e.later in
    let low : latest_in was ≤ n = omega (arith, seen, later) in
    let up : max n (latest_in was) ≤ n =
    max-le {a = n} {b = latest_in was} {k = n} (omega arith) low in
    let over : n ≤ max n (latest_in was) = le-max_left n (latest_in was) in
    let same : max n (latest_in was) ≡ n = omega (arith, up, over) in
    let latest : latest_in (g.P.Within.lens.get c.look-number.new.seat.view.client).known ≡ n =
    ap (λ (w : Watching Planned). latest_in w.view.client.known) e.state ∙ same in
    let now : c.look-number.new.seat.view.seen ≡ n =
    ap (λ (w : Watching Planned). w.view.seen) e.state in
    record {
      planned = ap (λ (w : Watching Planned). w.view.client.plan) e.state
          ∙ (k.planned ∙ sym c.reclaim.ensures.plan);
      role = e.writer.role;
      keeps = e.writer.keeps;
      few =
          ap (λ (w : Watching Planned). length (nodes_in w.view.client.known)) e.state
          ∙ (length-map (nodes_in was) (reclaimed_node n (max n (latest_in was)))
          ∙ (k.few ∙ ap (λ (q : Plan). q.nodes) (sym c.reclaim.ensures.plan)));
      late = omega (arith, latest, now);
      same =
          ap (λ (w : Watching Planned). nodes_in w.view.client.known) e.state
          ∙ (ap (λ (m : ℕ). reclaimed n m (nodes_in was)) same
          ∙ (ap (λ (l : List Node). reclaimed n n l) k.same ∙ sym c.reclaim.ensures.nodes));
      by =
          subst (λ (m : ℕ). AreBy m c.reclaim.new.self.nodes) (sym latest)
          (subst (λ (l : List Node). AreBy n l) (sym c.reclaim.ensures.nodes)
          (by_reclaimed (latest_in was) n c.self.inside.mirror.nodes low k.by));
    }
