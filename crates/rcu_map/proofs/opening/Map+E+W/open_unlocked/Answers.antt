use Rattle.std.proofs.Common.{subst, sym}
use Rattle.rcu_graph.specs.Opening.{IsSized}
use Rattle.rcu_map.specs.Keys.{multiplier_of}
use Rattle.rcu_map.proofs.Openings.{has_sizes, is_sized}
use Rattle.rcu_map.proofs.opening.Map+E+W.open_unlocked.Goals as goal

pub returns-clause-bad_sizes : goal.returns-clause-bad_sizes
returns-clause-bad_sizes g c =
    let seed = multiplier_of c.args.seed in
    let planned = c.in_ok-plan.ensures in (
      λ is has. c.open_planned.ensures.bad_sizes.0 is
          (subst IsSized (sym planned.plan)
          (is_sized c.args.buckets g.row.W c.args.entries seed has)),
      λ none. c.open_planned.ensures.bad_sizes.1
          (λ sized. none (has_sizes c.args.buckets g.row.W c.args.entries seed planned.some
          planned.wide (subst IsSized planned.plan sized))),
    )

pub returns-clause-fault : goal.returns-clause-fault
returns-clause-fault g c = λ has.
    c.open_planned.ensures.fault
    (subst IsSized (sym c.in_ok-plan.ensures.plan)
    (is_sized c.args.buckets g.row.W c.args.entries (multiplier_of c.args.seed) has))
