use Rattle.std.proofs.Common.{rules, ◌∙◌}
use Rattle.rcu_map.specs.Words.{words_if}
use Rattle.rcu_c.proofs.Told.{some_there, told_once}
use Rattle.rcu_c.proofs.map_updates.rcu_map_remove.Goals as goal

pub returns-clause-removed : goal.returns-clause-removed
returns-clause-removed c = λ done.
    let there = c.remove_words-there.result in
    let read = c.remove_words-there.new.old in
    record {
      had = words_if there read;
      is_told = c.tell.ensures ∙ told_once there c.args.old.now read
          c.remove_words-there.ensures.left;
      state = search rules;
      same = search rules;
      holds = search rules;
      removed = λ some.
          let changed = c.remove_words-there.ensures.removed (some_there there read some) in
          search (rules, changed);
      unchanged = search rules;
    }
