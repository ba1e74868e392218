use Rattle.std.proofs.Common.{rules, ◌∙◌}
use Rattle.rcu_map.specs.Words.{words_if}
use Rattle.rcu_c.proofs.Told.{told_once}
use Rattle.rcu_c.proofs.map_updates.put.Goals as goal

pub returns-clause-put : goal.returns-clause-put
returns-clause-put c = λ done.
    let there = c.in-Ok-put_words.there in
    let read = c.put_words.new.old in
    record {
      had = words_if there read;
      is_told = c.tell.ensures ∙ told_once there c.args.old.now read (search rules);
      by = record { state = search rules; answered = search rules };
    }
