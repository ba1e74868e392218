use Rattle.rcu_c.proofs.KeptLemmas.{first_places, first_seats}
use Rattle.rcu_c.proofs.kept_seats.KeptSeats.new.Goals as goal

pub invariant_of-result : goal.invariant_of-result
invariant_of-result c = first_places c.args.shared.words c.args.places.items c.requires

pub returns-clause-seats : goal.returns-clause-seats
returns-clause-seats c = first_seats c.args.shared c.args.places.items c.requires
