use Rattle.std.proofs.Common.{◌∙◌}
use Rattle.rcu_text.proofs.NumberLemmas.{long_read}
use Rattle.rcu_text.proofs.words.long_number.Goals as goal

pub returns : goal.returns
returns c =
    c.ok.ensures.value
    ∙ long_read c.args.word.now _ _ _ _ _ _ c.try_from.result c.requires c.split_at.ensures.front
    c.split_at.ensures.back c.in_ok-digits.ensures.value c.in_ok-digits-2.ensures.value
    c.from.ensures c.from-2.ensures c.try_from.ensures
