use Rattle.std.proofs.Common.{ℕ, ◌+◌, ap, sym, ◌∙◌}
use Rattle.rcu_live.specs.CpuSeat.{at_first}
use Rattle.rcu_live.specs.View.{engine_seat}
use Rattle.rcu_live.specs.Watcher.{watcher_at_first}
use Rattle.rcu_live.specs.Words.{base_of}
use Rattle.rcu_live.proofs.RowLemmas.{one_more}
use Rattle.rcu_live.proofs.seats.deal.Goals as goal

pub loop-cpu-preserved : goal.loop-cpu-preserved
loop-cpu-preserved g c =
    let i = c.loop-cpu.invariant in
    let d = c.deal_next-seat.ensures in
    let cpus = sym c.requires.cpus in
    let table = c.args.board.now.table in
    let first = g.P.Client.first c.args.board.now.plan in
    let idle = g.P.Client.idle first in (
      record {
        at_table = d.engine.at_table;
        has_view =
            d.engine.has_view
            ∙ ap (λ (n : ℕ). engine_seat n (c.loop-cpu.cpu + 1) first) cpus;
      },
      one_more _ _ _ _ _ i.1 c.in_ok-push.ensures.items
          (d.seat ∙ ap (λ (n : ℕ). at_first table (base_of n) idle c.loop-cpu.cpu) cpus),
      one_more _ _ _ _ _ i.2 c.in_ok-push-2.ensures.items
          (d.watcher ∙ ap (λ (n : ℕ). watcher_at_first table (base_of n) idle) cpus),
    )
