use Rattle.std.proofs.Common.{◌∙◌, subst, sym}
use Rattle.rcu_c.specs.Belonging.{BelongsTo}
use Rattle.rcu_c.proofs.laws.seats_stay_of_their_engine.Goals as goal

pub returns-clause-map : goal.returns-clause-map
returns-clause-map c = λ seat rcu now is same b. subst (BelongsTo seat) (sym is)
    (record {
      words = record { table = b.words.table; cpus = b.words.cpus };
      map = record { table = b.map.table ∙ sym same.table; plan = b.map.plan ∙ sym same.plan };
      requests = b.requests;
      taken = b.taken;
    })
