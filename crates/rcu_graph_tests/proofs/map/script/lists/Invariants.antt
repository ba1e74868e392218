use Rattle.std.proofs.Common.{◌≡◌}
use Rattle.rcu_live.specs.CpuSeat.{after_word_step}
use Rattle.rcu_live.specs.Several.{whole}
use Rattle.rcu_graph.specs.Planned.{knowing}
use Rattle.rcu_map.specs.Listed.{known_in, listing}
use Rattle.rcu_graph_tests.proofs.map.script.lists.Given as goal

-- the seat is still lent, and only the knowledge of its section changes
abbrev pub invariant-loop-route : goal.invariant-loop-route
invariant-loop-route g l = record {
  map : (listing l.entries).map ≡ (listing l.initial.entries).map;
  name : (listing l.entries).name ≡ (listing l.initial.entries).name;
  seat : (listing l.entries).seat
      ≡ after_word_step (listing l.initial.entries).seat
      (knowing (listing l.initial.entries).seat.view.client (known_in whole (listing l.entries)));
}
