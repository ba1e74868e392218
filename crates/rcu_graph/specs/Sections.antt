-- A whole section that reads a graph.
use Rattle.std.specs.Prelude.{◌+◌, None}
use Rattle.rcu_seq.specs.Numbers.{Number}
use Rattle.rcu_live.specs.CpuSeat.{Seated}
use Rattle.rcu_graph.specs.Planned.{knowing}
use Rattle.rcu_graph.specs.declared.known.Planned.{Planned}
use Rattle.rcu_graph.specs.declared.known.Known.TheVariants.{Idle}

-- the seat of a processor whose section was opened, made some hops and was closed again: its last
-- load saw n
abbrev pub after_section : Seated Planned → Number → Seated Planned
after_section s n = record s {
  view = record s.view {
    seen = n;
    loads = s.view.loads + 2;
    section = None;
    client = knowing s.view.client Idle;
  };
}
