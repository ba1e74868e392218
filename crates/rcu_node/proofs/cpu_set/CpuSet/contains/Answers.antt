use Rattle.std.proofs.Common.{arith, ◌<◌, length}
use Rattle.rcu_node.proofs.Words.{cpus-is, word_below, contains-is}
use Rattle.rcu_node.proofs.cpu_set.CpuSet.contains.Goals as goal

pub index-word-requires : goal.index-word-requires
index-word-requires c =
    let s = c.self.inside in
    let size = cpus-is s.cpus s.words.items c.args.self.now c.self.view_is in
    omega (
      arith,
      s.words.ok,
      word_below s.cpus c.args.cpu (length s.words.items) (omega arith) c.self.invariant.enough,
    )

pub returns : goal.returns
returns c =
    let s = c.self.inside in
    let size = cpus-is s.cpus s.words.items c.args.self.now c.self.view_is in
    let below : c.args.cpu < s.cpus = omega arith in
    contains-is s.cpus s.words.items c.args.self.now c.args.cpu c.index-word.result.now
    c.self.view_is below c.self.invariant.enough c.index-word.ensures
