use Rattle.std.proofs.Common.{arith}
use Rattle.rcu_map.proofs.Linked.{has_linked, is_linked}
use Rattle.rcu_map.proofs.laws.keys_of_a_map_are_linked.Goals as goal

pub returns : goal.returns
returns g c = λ buckets seed key count nodes some up map.
    let room = g.met.E.Entry.roomy in (
      is_linked g.E.Invariant.holds buckets seed g.row.W count nodes map key some
          (omega (arith, room)) up,
      has_linked g.E.Invariant.holds buckets seed g.row.W count nodes map key some
          (omega (arith, room)) up,
    )
