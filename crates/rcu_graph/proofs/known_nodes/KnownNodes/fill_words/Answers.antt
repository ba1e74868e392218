use Rattle.std.proofs.Common.{arith, get_or, refl}
use Rattle.rcu_graph.specs.Mirror.{with_words_to}
use Rattle.rcu_graph.proofs.Filling.{can_store, low_in, no_word_filled, word_filled}
use Rattle.rcu_graph.proofs.Filling.{words_filled}
use Rattle.rcu_graph.proofs.known_nodes.KnownNodes.fill_words.Goals as goal

pub loop-word-init : goal.loop-word-init
loop-word-init g c =
    no_word_filled c.args.self.now c.args.node c.args.words.now c.requires.free.keeps

pub loop-word-preserved : goal.loop-word-preserved
loop-word-preserved g c =
    let k = c.loop-word.word in
    let words = c.args.words.now in
    let can = c.requires.free in
    let low = low_in c.args.node c.args.graph.now.plan.nodes _ can.few can.inside in
    let inside = low_in k c.args.graph.now.plan.words _ can.word_count
    (omega (arith, c.loop-word-test.true, c.requires.words)) in
    let small = low_in k c.args.graph.now.plan.words _ c.requires.words
    (omega (arith, c.loop-word-test.true, c.requires.words)) in
    word_filled c.args.self.now c.args.node k (get_or words k 0) words c.loop-word.self
    c.write.new.self low inside small refl c.loop-word.invariant c.write.ensures

pub write-requires : goal.write-requires
write-requires g c =
    can_store c.args.self.now c.args.node c.args.graph.now.plan.words c.loop-word.word
    c.args.graph.now c.loop-word.self (with_words_to c.loop-word.word c.args.words.now)
    c.requires.free refl c.loop-word.invariant
    (omega (arith, c.loop-word-test.true, c.requires.words))

pub returns : goal.returns
returns g c =
    words_filled c.args.self.now c.args.node c.args.graph.now.plan.words c.loop-word.word
    c.args.words.now c.loop-word.self
    (omega (arith, c.loop-word-test.false, c.loop-word.auto.word-end, c.requires.words))
    c.requires.words
    c.requires.free.word_count c.loop-word.invariant
