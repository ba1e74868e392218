use Rattle.std.proofs.Common.{◌≡◌, arith, rules, sym, replicate}
use Rattle.std.proofs.lemmas.Grind.{div_ceil_times}
use Rattle.rcu_node.proofs.Words.{zeros}
use Rattle.rcu_node.proofs.cpu_set.CpuSet.new.Goals as goal

pub invariant_of-result : goal.invariant_of-result
invariant_of-result c =
    let made : c.in_ok-words.words.items ≡ replicate c.div_ceil.result 0 = search rules in
    let bounds = div_ceil_times c.args.cpus 64 (omega arith) in
    let empty =
    zeros c.args.cpus c.div_ceil.result c.in_ok-words.words.items made (omega (arith, bounds)) in
    record {
      some = grind (arith, c.if-cpus-eq0.false);
      few = c.if-cpus-gt-MOST_CPUS.false;
      enough = omega (arith, bounds, empty.length);
      no_more = omega (arith, bounds, empty.length);
      none_beyond = empty.none_beyond;
      counted = sym empty.size;
    }

pub returns-clause-state : goal.returns-clause-state
returns-clause-state c =
    let made : c.in_ok-words.words.items ≡ replicate c.div_ceil.result 0 = search rules in
    let bounds = div_ceil_times c.args.cpus 64 (omega arith) in
    let empty =
    zeros c.args.cpus c.div_ceil.result c.in_ok-words.words.items made (omega (arith, bounds)) in
    empty.flags
