use Rattle.std.proofs.Common.{rules, ◌∙◌}
use Rattle.rcu_map.specs.Words.{words_if}
use Rattle.rcu_c.proofs.Told.{told_once}
use Rattle.rcu_c.proofs.map_reads.rcu_map_get.Goals as goal

pub returns-clause-got : goal.returns-clause-got
returns-clause-got c = λ done.
    let there = c.get_words-there.result in
    let read = c.get_words-there.new.entry in
    record {
      found = words_if there read;
      is_told = c.tell.ensures ∙ told_once there c.args.entry.now read
          c.get_words-there.ensures.unchanged;
      none = search rules;
      got = search rules;
    }
