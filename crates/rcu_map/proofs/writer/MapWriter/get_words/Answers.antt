use Rattle.std.proofs.Common.{ap, refl, sym, ◌∙◌}
use Rattle.rcu_map.specs.Keys.{key_in}
use Rattle.rcu_map.proofs.writer.MapWriter.get_words.Goals as goal

pub returns-clause-there : goal.returns-clause-there
returns-clause-there g c = (λ e. (c.in-Some.node, c.in-Some.ensures), λ has. refl)

pub returns-clause-found : goal.returns-clause-found
returns-clause-found g c = λ there.
    let of = c.in-Some.ensures in record {
      words = c.copy_words.new.entry;
      has = record { node = c.in-Some.node; entry = of.entry; is = sym c.copy_words.ensures.same };
      is = ap key_in c.copy_words.ensures.same ∙ of.is;
      told = refl;
    }
