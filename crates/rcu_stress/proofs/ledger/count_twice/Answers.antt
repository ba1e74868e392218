use Rattle.std.proofs.Common.{◌-◌, ◌∙◌, ap, arith, eqb, length, rules}
use Rattle.std.specs.Cmp.{nat_eq_equiv}
use Rattle.std.specs.HashSet as bag
use Rattle.std.proofs.lemmas.Map.Made.{distinct_count-le, hash_set_len-from_list}
use Rattle.rcu_stress.proofs.ledger.count_twice.Goals as goal

pub overflow_sub-result : goal.overflow_sub-result
overflow_sub-result c =
    let made : bag.IsFromIterResult eqb c.args.ids.now c.in_ok-different.different = search rules in
    let count =
    hash_set_len-from_list nat_eq_equiv c.args.ids.now c.in_ok-different.different made in
    omega (arith, c.len.ensures.len, count, distinct_count-le eqb c.args.ids.now)

pub returns : goal.returns
returns c =
    let made : bag.IsFromIterResult eqb c.args.ids.now c.in_ok-different.different = search rules in
    let count =
    hash_set_len-from_list nat_eq_equiv c.args.ids.now c.in_ok-different.different made in
    ap (λ n. length c.args.ids.now - n) (c.len.ensures.len ∙ count)
