use Rattle.std.proofs.Common.{◌≡◌, map}
use Rattle.std.specs.List.{range_with_len}
use Rattle.rcu_live.specs.CpuSeat.{at_first}
use Rattle.rcu_live.specs.TableSeat.{IsSeatAt}
use Rattle.rcu_live.specs.View.{engine_seat}
use Rattle.rcu_live.specs.Watcher.{watcher_at_first}
use Rattle.rcu_live.specs.Words.{base_of}
use Rattle.rcu_live.proofs.seats.deal.Given as goal

abbrev pub invariant-loop-cpu : goal.invariant-loop-cpu
invariant-loop-cpu g l =
    IsSeatAt l.board.table (engine_seat l.cpus l.cpu (g.P.Client.first l.board.plan)) l.engine
    × (l.seats.items
    ≡ map (at_first l.board.table (base_of l.cpus) (g.P.Client.idle
    (g.P.Client.first l.board.plan))) (range_with_len 0 l.cpu))
    × (l.watchers.items
    ≡ map (λ _. watcher_at_first l.board.table (base_of l.cpus)
    (g.P.Client.idle (g.P.Client.first l.board.plan)))
    (range_with_len 0 l.cpu))
