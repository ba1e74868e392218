use Rattle.std.proofs.Common.{◌≡◌}
use Rattle.std.proofs.lemmas.List.Elements.{All-take}
use Rattle.rcu_live_tests.proofs.live.stress.try_hard.Goals as goal

-- the seats and the watchers that are left are of the engine, as all are
pub waiter-waiter-requires-clause-each_seat : goal.waiter-waiter-requires-clause-each_seat
waiter-waiter-requires-clause-each_seat g c =
    rw c.truncate.ensures.items
    (All-take (λ seat. seat.table ≡ c.opened-live.result.0.table) 4 c.opened-live.result.1.items
    c.opened-live.ensures.seats)

pub waiter-waiter-requires-clause-each_watcher : goal.waiter-waiter-requires-clause-each_watcher
waiter-waiter-requires-clause-each_watcher g c =
    rw c.truncate-2.ensures.items
    (All-take (λ watcher. watcher.table ≡ c.opened-live.result.0.table) 4
    c.opened-live.result.2.items c.opened-live.ensures.watchers)
