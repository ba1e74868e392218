use Rattle.std.proofs.Common.{rules, ◌∙◌}
use Rattle.rcu_map.specs.Words.{words_if}
use Rattle.rcu_c.proofs.Told.{told_once}
use Rattle.rcu_c.proofs.map_updates.rcu_map_find.Goals as goal

pub returns-clause-found : goal.returns-clause-found
returns-clause-found c = λ done.
    let there = c.get_words-there.result in
    let read = c.get_words-there.new.entry in
    record {
      found = words_if there read;
      is_told = c.tell.ensures ∙ told_once there c.args.entry.now read
          c.get_words-there.ensures.unchanged;
      holds = search rules;
    }
