use Rattle.std.proofs.Common.{arith, ap, ◌∙◌, sym, replicate, false}
use Rattle.rcu_node.proofs.Words.{cpus-is, zeros}
use Rattle.rcu_node.proofs.cpu_set.CpuSet.clear.Goals as goal

pub invariant_of-self : goal.invariant_of-self
invariant_of-self c =
    let s = c.self.inside in
    let kept = c.self.invariant in
    let empty =
    zeros s.cpus s.words.len c.fill.new.self.items (c.fill.ensures.items (λ y e. e))
    (omega (arith, s.words.ok)) in
    let same = s.words.ok in
    record {
      some = kept.some;
      few = kept.few;
      enough = omega (arith, empty.length);
      no_more = omega (arith, empty.length);
      none_beyond = empty.none_beyond;
      counted = sym empty.size;
    }

pub returns : goal.returns
returns c =
    let s = c.self.inside in
    let kept = c.self.invariant in
    let empty =
    zeros s.cpus s.words.len c.fill.new.self.items (c.fill.ensures.items (λ y e. e))
    (omega (arith, s.words.ok)) in
    empty.flags
    ∙ ap (λ n. replicate n false) (cpus-is s.cpus s.words.items c.args.self.now c.self.view_is)
