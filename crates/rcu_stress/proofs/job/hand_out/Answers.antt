use Rattle.std.proofs.Common.{ap, arith}
use Rattle.rcu_stress.specs.Ledger.{Counts}
use Rattle.rcu_stress.proofs.TortureLemmas.{none_early}
use Rattle.rcu_stress.proofs.job.hand_out.Goals as goal

pub returns-clause-none_early : goal.returns-clause-none_early
returns-clause-none_early g c =
    let none =
    none_early c.in_ok-ran.ran.number c.in_ok-ran.ran.calls.items c.in_ok-ran.ensures.due.waited in
    let noted = ap (λ (s : Counts). s.early) c.take_down.ensures in
    let kept = ap (λ (s : Counts). s.early) c.make_room.ensures.rest in
    omega (arith, none, noted, kept)
