use Rattle.std.proofs.Common.{false, length, ap, ◌∙◌, arith}
use Rattle.std.proofs.lemmas.List.{length-replicate}
use Rattle.rcu_barrier.specs.Lists.{unvisited}
use Rattle.rcu_barrier.proofs.Markers.{unvisited_none}
use Rattle.rcu_barrier.proofs.lists.Lists.barrier_begin.Goals as goal

pub invariant_of-self : goal.invariant_of-self
invariant_of-self g c =
    let i = c.self.inside in
    let k = c.self.invariant in
    let cleared = c.clear.ensures in
    let none = k.1.idle c.if-self.false in
    let left = ap unvisited cleared ∙ unvisited_none (length i.visits) in
    let sized = k.1.sized in (
      k.0,
      record {
        some = k.1.some;
        few = k.1.few;
        sized = ap length cleared ∙ (length-replicate (length i.visits) false ∙ k.1.sized);
        within = omega arith;
        idle = λ off. cc;
        counted = k.1.counted;
        most_some = k.1.most_some;
        most_few = k.1.most_few;
        fours = k.1.fours;
      },
    )
