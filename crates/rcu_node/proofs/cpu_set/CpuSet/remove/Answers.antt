use Rattle.std.proofs.Common.{arith, rules, ap, ◌∙◌, ◌<◌, length, List, Bool}
use Rattle.std.proofs.lemmas.List.{length-set}
use Rattle.rcu_node.specs.CpuSet.{size_of}
use Rattle.rcu_node.proofs.CpuSetLemmas.{size_of-remove}
use Rattle.rcu_node.proofs.Words.{cpus-is, word_below, remove-is, none_beyond-remove}
use Rattle.rcu_node.proofs.cpu_set.CpuSet.remove.Goals as goal

pub index_mut-requires : goal.index_mut-requires
index_mut-requires c =
    let s = c.self.inside in
    let size = cpus-is s.cpus s.words.items c.args.self.now c.self.view_is in
    omega (
      arith,
      s.words.ok,
      word_below s.cpus c.args.cpu (length s.words.items) (omega arith) c.self.invariant.enough,
    )

pub returns-clause-set : goal.returns-clause-set
returns-clause-set c =
    let s = c.self.inside in
    let size = cpus-is s.cpus s.words.items c.args.self.now c.self.view_is in
    let below : c.args.cpu < s.cpus = omega arith in
    remove-is s.cpus s.words.items c.args.self.now c.args.cpu c.index_mut.result.now c.self.view_is
    below c.self.invariant.enough c.index_mut.ensures.value

pub invariant_of-self : goal.invariant_of-self
invariant_of-self c =
    let s = c.self.inside in
    let kept = c.self.invariant in
    let before = kept.counted ∙ ap (λ (set : List Bool). size_of set) c.self.view_is in
    let after = ap (λ (set : List Bool). size_of set) (returns-clause-set c) in
    let less =
    size_of-remove c.args.self.now c.args.cpu c.requires
    (let there = c.contains.ensures in let found = c.if-not-contains.false in search rules) in
    let stays = length-set s.words.items in
    let size = cpus-is s.cpus s.words.items c.args.self.now c.self.view_is in
    let below : c.args.cpu < s.cpus = omega arith in
    let none_beyond = none_beyond-remove s.cpus s.words.items c.args.cpu c.index_mut.result.now
    below kept.enough c.index_mut.ensures.value kept.none_beyond in
    record {
      some = kept.some;
      few = kept.few;
      enough = omega (arith, stays);
      no_more = omega (arith, stays);
      none_beyond = none_beyond;
      counted = omega (arith, before, after, less);
    }
