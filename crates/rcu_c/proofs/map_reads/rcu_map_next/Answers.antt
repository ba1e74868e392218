use Rattle.std.proofs.Common.{rules, ◌∙◌}
use Rattle.rcu_map.specs.Words.{words_if}
use Rattle.rcu_c.proofs.Told.{told_once}
use Rattle.rcu_c.proofs.map_reads.rcu_map_next.Goals as goal

pub returns-clause-next : goal.returns-clause-next
returns-clause-next c = λ done.
    let there = c.next_words_after-there.result in
    let read = c.next_words_after-there.new.entry in
    record {
      found = words_if there read;
      is_told = c.tell.ensures ∙ told_once there c.args.entry.now read
          c.next_words_after-there.ensures.unchanged;
      next = search rules;
    }
