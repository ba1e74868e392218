use Rattle.std.proofs.lemmas.List.Elements.{All-set}
use Rattle.rcu_c.specs.Places.{IsPlaceOf}
use Rattle.rcu_c.proofs.KeptLemmas.{now_kept}
use Rattle.rcu_c.proofs.kept_seats.KeptSeats.take_back.Goals as goal

pub invariant_of-self-2 : goal.invariant_of-self-2
invariant_of-self-2 c =
    All-set (IsPlaceOf c.self.inside.shared.words) c.self.inside.places.items c.args.cpu
    c.keep.new.self (c.keep.ensures.place c.self.inside.shared.words) c.self.invariant

pub returns-clause-seats : goal.returns-clause-seats
returns-clause-seats c =
    now_kept c.self.inside.shared c.self.inside.places.items c.args.cpu c.args.seat
    c.args.self.now c.self.view_is c.keep.new.self (c.keep.ensures.seat c.self.inside.shared)
