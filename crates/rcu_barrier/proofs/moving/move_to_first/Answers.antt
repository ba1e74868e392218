use Rattle.std.proofs.Common.{ap}
use Rattle.std.proofs.lemmas.Result.{err_from_is_err_and}
use Rattle.rcu_barrier.proofs.Rooms.{two_grow, two_moved, two_same}
use Rattle.rcu_barrier.proofs.moving.move_to_first.Goals as goal

pub returns-in_err-move_into-clause-unchanged : goal.returns-in_err-move_into-clause-unchanged
returns-in_err-move_into-clause-unchanged g c =
    let halves = c.split_at_mut-first in
    let moved = c.move_into.new in
    let p = err_from_is_err_and c.from_residual.result c.from_residual.ensures.1 in
    rw (p.1)
    (two_same c.args.lists.now halves.result.0.now halves.result.1.now c.args.from moved.target
    moved.self c.index-first-0.result c.index-others-from.result halves.ensures.front
    halves.ensures.back c.requires.0 c.requires.1 c.in_err-move_into.ensures.unchanged.1
    (ap (λ l. l.items) c.in_err-move_into.ensures.unchanged.0))

pub returns-in_err-move_into-clause-room : goal.returns-in_err-move_into-clause-room
returns-in_err-move_into-clause-room g c =
    let halves = c.split_at_mut-first in
    two_grow c.args.lists.now halves.result.0.now halves.result.1.now c.args.from
    c.move_into.new.target c.move_into.new.self c.index-first-0.result c.index-others-from.result
    halves.ensures.front halves.ensures.back c.requires.0 c.requires.1 c.move_into.ensures.room
    (ap (λ l. l.room) c.in_err-move_into.ensures.unchanged.0)

pub returns-clause-state : goal.returns-clause-state
returns-clause-state g c =
    let halves = c.split_at_mut-first in
    let moved = c.move_into.new in
    two_moved c.args.lists.now halves.result.0.now halves.result.1.now c.args.from c.args.owed
    moved.target moved.self c.index-first-0.result c.index-others-from.result halves.ensures.front
    halves.ensures.back c.requires.0 c.requires.1 c.in_ok-move_into.ensures.target
    (ap (λ l. l.items) c.in_ok-move_into.ensures.state)

pub returns-clause-room : goal.returns-clause-room
returns-clause-room g c =
    let halves = c.split_at_mut-first in
    two_grow c.args.lists.now halves.result.0.now halves.result.1.now c.args.from
    c.move_into.new.target c.move_into.new.self c.index-first-0.result c.index-others-from.result
    halves.ensures.front halves.ensures.back c.requires.0 c.requires.1 c.move_into.ensures.room
    (ap (λ l. l.room) c.in_ok-move_into.ensures.state)
