use Rattle.std.proofs.Common.{◌≡◌, ◌∙◌, ap, map, subst, sym}
use Rattle.std.specs.Arc.{arc_value}
use Rattle.std.specs.List.{range_with_len}
use Rattle.rcu_live.specs.Board.{IsSized, Object}
use Rattle.rcu_live.specs.CpuSeat.{at_first}
use Rattle.rcu_live.specs.Watcher.{watcher_at_first}
use Rattle.rcu_live.specs.Words.{base_of}
use Rattle.rcu_live.proofs.Dealt.{are_dealt}
use Rattle.rcu_live.proofs.seats.open_board.Goals as goal

pub returns-clause-dealt : goal.returns-clause-dealt
returns-clause-dealt g c =
    let cpus = c.args.cpus in
    let board = arc_value c.in_ok-board-2.board in
    let idle = λ (plan : g.row.P-Plan.Denot). g.P.Client.idle (g.P.Client.first plan) in
    let sized =
    subst (IsSized cpus c.args.last c.args.most (g.P.Client.size c.args.plan))
    (sym c.in_ok-board-2.ensures.ok) c.in_ok-board.ensures.size in
    let plan =
    ap (λ (o : Object g.row.P-Plan.Denot). o.plan) c.in_ok-board-2.ensures.ok
    ∙ c.in_ok-board.ensures.plan in
    let seats = subst (λ (p : g.row.P-Plan.Denot).
    c.in_ok-seats.seats.items
    ≡ map (at_first board.table (base_of cpus) (idle p)) (range_with_len 0 cpus))
    plan
    (subst (λ (o : Object g.row.P-Plan.Denot).
    c.in_ok-seats.seats.items
    ≡ map (at_first o.table (base_of cpus) (idle o.plan)) (range_with_len 0 cpus))
    c.deref.ensures c.in_ok-seats.ensures.seats) in
    let watchers = subst (λ (p : g.row.P-Plan.Denot).
    c.in_ok-seats.watchers.items
    ≡ map (λ _. watcher_at_first board.table (base_of cpus) (idle p)) (range_with_len 0 cpus))
    plan
    (subst (λ (o : Object g.row.P-Plan.Denot).
    c.in_ok-seats.watchers.items
    ≡ map (λ _. watcher_at_first o.table (base_of cpus) (idle o.plan)) (range_with_len 0 cpus))
    c.deref.ensures c.in_ok-seats.ensures.watchers) in
    are_dealt cpus _ _ _ (idle c.args.plan) board _ _ sized seats watchers
