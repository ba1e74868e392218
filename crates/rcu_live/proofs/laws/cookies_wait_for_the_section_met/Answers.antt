use Rattle.std.proofs.Common.{arith}
use Rattle.rcu_live.proofs.Meetings.{began_by, not_done}
use Rattle.rcu_live.proofs.laws.cookies_wait_for_the_section_met.Goals as goal

pub returns : goal.returns
returns c = λ first later at taken polled met up again low.
    let began =
    began_by at first.seen met.1 in
    not_done at later.seen taken polled again.1 (omega (arith, began, up)) low
