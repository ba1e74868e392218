use Rattle.std.proofs.Common.{◌<◌, ◌∙◌, arith}
use Rattle.rcu_text.proofs.PlaceLemmas.{place_there}
use Rattle.rcu_text.proofs.WordLemmas.{space, words_first}
use Rattle.rcu_text.proofs.words.next_word.Goals as goal

pub split_at-requires : goal.split_at-requires
split_at-requires c =
    (place_there space c.loop-text.text.now _ _ c.first_space.ensures c.unwrap_or-length.ensures).1

pub returns-clause-some : goal.returns-clause-some
returns-clause-some c =
    let some : 0 < c.unwrap_or-length.result = omega arith in
    let place =
    place_there space c.loop-text.text.now _ _ c.first_space.ensures c.unwrap_or-length.ensures in
    let first = words_first c.loop-text.text.now c.unwrap_or-length.result place.0 some in
    c.loop-text.invariant.same ∙ rw (← c.split_at.ensures.front, ← c.split_at.ensures.back) at first
