use Rattle.std.proofs.Common.{◌<◌, arith, rules}
use Rattle.rcu_text.proofs.NumberLemmas.{next_digit_fits}
use Rattle.rcu_text.proofs.words.digits.Goals as goal

pub overflow_mul-value : goal.overflow_mul-value
overflow_mul-value c =
    let at : c.loop-b.b-index < 19 = omega arith in
    let fits =
    next_digit_fits c.loop-b.value c.loop-b.b-index 0 c.loop-b.invariant.small at (omega arith) in
    omega arith

pub overflow_add-value : goal.overflow_add-value
overflow_add-value c =
    let at : c.loop-b.b-index < 19 = omega arith in
    let digit : c.from.result < 10 = search rules in
    let fits = next_digit_fits c.loop-b.value c.loop-b.b-index c.from.result
    c.loop-b.invariant.small at digit in
    omega arith
