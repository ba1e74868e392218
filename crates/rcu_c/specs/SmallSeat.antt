-- A seat beside the small run of a map, which reads in that run's section.
use Rattle.std.specs.Prelude.{ℕ, Option, Some}
use Rattle.rcu_live.specs.CpuSeat.{after_word_step}
use Rattle.rcu_graph.specs.Planned.{of_plan}
use Rattle.rcu_graph.specs.declared.known.Known.TheVariants.{Reader}
use Rattle.rcu_map.specs.SmallMap.{small_hops, small_plan}
use Rattle.rcu_c.specs.Holding.{on_cpu}
use Rattle.rcu_c.specs.Seats.{Seat}
use Rattle.rcu_c.specs.declared.contents.Contents.{Contents}
use Rattle.rcu_c.specs.declared.contents.Contents.TheVariants as contents

-- the handle of any seat, if it reads the map of the small run, and its section made this number of
-- hops
abbrev pub small_seat : Seat → ℕ → Option Contents
small_seat seat hops = on_cpu
    (λ s. after_word_step s (of_plan small_plan (Reader (small_hops hops))))
    (Some (contents.Seat (record seat { words = record seat.words { plan = small_plan } })))
