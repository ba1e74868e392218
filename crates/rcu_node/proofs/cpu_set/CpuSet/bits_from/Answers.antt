use Rattle.std.proofs.Common.{◌≡◌, ◌<◌, ◌/◌, ◌+◌, arith, rules, length, slice_index, ◌∙◌}
use Rattle.std.proofs.lemmas.Grind.{common_steps}
use Rattle.std.proofs.lemmas.List.{get_or_read}
use Rattle.rcu_node.proofs.Words.{cpus-is, word_below}
use Rattle.rcu_node.proofs.Cut.{bits_from-is}
use Rattle.rcu_node.proofs.cpu_set.CpuSet.bits_from.Goals as goal

pub index-word-requires : goal.index-word-requires
index-word-requires c =
    let s = c.self.inside in
    let size = cpus-is s.cpus s.words.items c.args.self.now c.self.view_is in
    omega (
      arith,
      s.words.ok,
      word_below s.cpus c.args.from (length s.words.items) (omega arith) c.self.invariant.enough,
    )

pub returns : goal.returns
returns c =
    let s = c.self.inside in
    let size = cpus-is s.cpus s.words.items c.args.self.now c.self.view_is in
    let below : c.args.from < s.cpus = omega arith in
    let here : c.args.from / 64 < length s.words.items =
    word_below s.cpus c.args.from (length s.words.items) below c.self.invariant.enough in
    let word = get_or_read s.words.items (c.args.from / 64) c.index-word.result.now here
    c.index-word.ensures 0 in
    let next : c.unwrap_or-next.result ≡ slice_index s.words.items (c.args.from / 64 + 1) =
    let e = c.deref.ensures.value in let f = c.get.ensures in search (rules, common_steps) in
    λ bit.
    c.cut.ensures bit
    ∙ bits_from-is s.cpus s.words.items c.args.self.now c.args.from c.args.width bit
    c.index-word.result.now c.unwrap_or-next.result c.self.view_is c.self.invariant.none_beyond
    c.requires.width word next
