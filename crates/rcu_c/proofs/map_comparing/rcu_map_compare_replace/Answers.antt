use Rattle.std.proofs.Common.{rules, ◌∙◌, Ok, ap}
use Rattle.rcu_map.specs.Compared.{words_found}
use Rattle.rcu_c.proofs.ToldChanged.{not_as_read, nothing_changed, replaced_what_was_read}
use Rattle.rcu_c.proofs.ToldChanged.{told_of_one}
use Rattle.rcu_c.proofs.map_comparing.rcu_map_compare_replace.Goals as goal

pub returns-clause-replaced : goal.returns-clause-replaced
returns-clause-replaced c = λ done.
    let call = c.compare_replace_words in
    let is = c.in-Ok-compare_replace_words.is ∙ ap Ok (c.answer.ensures.same.0 done) in
    let was = call.ensures.as_read is in
    let by = replaced_what_was_read call.result call.new.read c.args.old.now c.args.entry.now _ _
    call.ensures.replaced is call.ensures.unchanged in
    record {
      as_read = search (rules, was);
      by = record { state = search rules; replaced = search (rules, by) };
    }

pub returns-clause-changed : goal.returns-clause-changed
returns-clause-changed c = λ other.
    let call = c.compare_replace_words in
    let found = c.in-Ok-compare_replace_words.found in
    let not = not_as_read call.result call.new.read c.args.old.now c.args.entry.now _ _
    call.ensures.replaced found c.in-Ok-compare_replace_words.is (λ same. search rules)
    call.ensures.another in
    record {
      another = search (rules, not);
      had = words_found found call.new.read;
      is_told = c.answer.ensures.told ∙ told_of_one found c.args.old.now call.new.read
          (search rules);
      by = record { state = search rules; replaced = search rules };
    }

pub returns-clause-unchanged : goal.returns-clause-unchanged
returns-clause-unchanged c = λ other.
    let call = c.compare_replace_words in
    let found = c.in-Ok-compare_replace_words.found in
    let not = not_as_read call.result call.new.read c.args.old.now c.args.entry.now _ _
    call.ensures.replaced found c.in-Ok-compare_replace_words.is (λ same. search rules)
    call.ensures.another in
    let still = nothing_changed call.result call.new.read c.args.old.now c.args.entry.now _ _
    call.ensures.replaced found c.in-Ok-compare_replace_words.is not in
    search (rules, still)
