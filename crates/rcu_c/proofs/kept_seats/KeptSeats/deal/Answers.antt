use Rattle.rcu_c.proofs.KeptLemmas.{now_dealt}
use Rattle.rcu_c.proofs.kept_seats.KeptSeats.deal.Goals as goal

pub returns-clause-dealt : goal.returns-clause-dealt
returns-clause-dealt c =
    now_dealt c.self.inside.shared c.self.inside.places.items c.args.cpu c.deal.new.self
    c.args.self.now c.deal.result c.self.view_is c.deal.ensures.dealt
