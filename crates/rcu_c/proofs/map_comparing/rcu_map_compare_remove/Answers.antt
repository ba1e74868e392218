use Rattle.std.proofs.Common.{rules, ◌∙◌}
use Rattle.rcu_map.specs.Compared.{words_found}
use Rattle.rcu_c.proofs.ToldChanged.{told_of_one}
use Rattle.rcu_c.proofs.map_comparing.rcu_map_compare_remove.Goals as goal

pub returns-clause-changed : goal.returns-clause-changed
returns-clause-changed c = λ other.
    let found = c.compare_remove_words-found.result in
    let read = c.compare_remove_words-found.new.read in
    record {
      another = search rules;
      had = words_found found read;
      is_told = c.answer.ensures.told ∙ told_of_one found c.args.old.now read
          c.compare_remove_words-found.ensures.unchanged;
      by = record { state = search rules; removed = search rules };
    }
