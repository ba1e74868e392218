use Rattle.rcu_map.proofs.entry.words_are_two.Goals as goal

pub returns : goal.returns
returns g c = g.met.E.Entry.roomy
