use Rattle.std.proofs.Common.{Some, None, arith}
use Rattle.std.proofs.lemmas.List.FromFn.{get_or-map-range_with_len}
use Rattle.rcu_c.specs.Seats.{seat_at_first}
use Rattle.rcu_c.proofs.laws.dealt_seats_are_of_their_engine.Goals as goal

pub returns-clause-waits : goal.returns-clause-waits
returns-clause-waits c identity table requests plan cpus last cpu low =
    get_or-map-range_with_len (λ k. Some (seat_at_first identity table requests plan cpus k)) 0 cpus
    cpu cpu None low (omega arith)
