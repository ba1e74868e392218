use Rattle.std.proofs.Common.{◌≡◌, ◌<◌, ◌≤◌, ◌-◌, ℕ, List}
use Rattle.std.specs.Prelude.{slice_index}
use Rattle.rcu_live.specs.CpuSeat.{after_word_step}
use Rattle.rcu_graph.specs.Nodes.{IsOn, IsReader}
use Rattle.rcu_graph.proofs.Searching.{IsOnPath}
use Rattle.rcu_graph.proofs.graph.Graph.find.Given as goal

abbrev pub invariant-chain : goal.invariant-chain
invariant-chain g l = record {
  same : l.seat ≡ after_word_step l.initial.seat
      (g.P.Within.lens.set l.initial.seat.view.client (g.P.Within.lens.get l.seat.view.client));
  planned : (g.P.Within.lens.get l.seat.view.client).plan
      ≡ (g.P.Within.lens.get l.initial.seat.view.client).plan;
  reader : IsReader (g.P.Within.lens.get l.seat.view.client).known;
  inside : l.on < l.self.plan.nodes;
  on : (words : List ℕ)
      × IsOn (g.F.Shape.first l.self.plan) l.self.plan.roots
      (g.P.Within.lens.get l.seat.view.client).known l.on words
      × (l.least ≤ slice_index words 0);
  path : IsOnPath l.root l.key (g.P.Within.lens.get l.initial.seat.view.client).known
      (g.P.Within.lens.get l.seat.view.client).known l.on;
}

abbrev pub decreases-chain : goal.decreases-chain
decreases-chain g l = l.key - l.least
