use Rattle.std.proofs.Common.{◌≡◌, List, ◌∙◌, ℕ, ap, arith, get_or, refl}
use Rattle.std.specs.Prelude.{slice_index}
use Rattle.rcu_graph.specs.Mirror.{with_words_to}
use Rattle.rcu_graph.specs.Nodes.{renewed, worded}
use Rattle.rcu_graph.specs.declared.known.Node.{Node}
use Rattle.rcu_graph.specs.declared.plan.Plan.{Plan}
use Rattle.rcu_graph.proofs.Mirrors.{no_words_yet, words_more, words_all}
use Rattle.rcu_graph.proofs.mirror.Mirror.set_first_words.Goals as goal

pub loop-word-init : goal.loop-word-init
loop-word-init g c = record {
  plan = refl;
  nodes = no_words_yet c.args.self.now.nodes c.args.root
      (g.F.Shape.first c.args.self.now.plan c.args.root);
}

pub loop-word-preserved : goal.loop-word-preserved
loop-word-preserved g c =
    let i = c.loop-word.invariant in
    let p = c.plan-plan.ensures in
    let words : List ℕ = g.F.Shape.first c.args.self.now.plan c.args.root in
    let size = p.sized c.args.root c.requires.node in
    let end : c.plan-plan.result.words ≡ c.args.self.now.plan.words =
    ap (λ (q : Plan). q.words) p.plan in
    let word_is : c.first_word.result ≡ get_or words c.loop-word.word 0 =
    c.first_word.ensures
    ∙ ap (λ (q : Plan). slice_index (g.F.Shape.first q c.args.root) c.loop-word.word) p.plan in
    record {
      plan = c.set_word.ensures.plan ∙ i.plan;
      nodes =
          c.set_word.ensures.nodes
          ∙ (ap (λ (x : ℕ).
          renewed c.loop-word.self.nodes c.args.root (worded c.loop-word.word x)) word_is
          ∙ (ap (λ (l : List Node).
          renewed l c.args.root (worded c.loop-word.word (get_or words c.loop-word.word 0)))
          i.nodes
          ∙ words_more c.args.self.now.nodes c.args.root c.loop-word.word words
          (omega (arith, c.requires.node, p.few)) (omega (
            arith,
            size.1,
            end,
            c.loop-word-test.true,
          ))
          (omega (arith, c.requires.sized, end, c.loop-word-test.true))));
    }

pub returns-clause-nodes : goal.returns-clause-nodes
returns-clause-nodes g c =
    let p = c.plan-plan.ensures in
    let words : List ℕ = g.F.Shape.first c.args.self.now.plan c.args.root in
    let size = p.sized c.args.root c.requires.node in
    let end : c.plan-plan.result.words ≡ c.args.self.now.plan.words =
    ap (λ (q : Plan). q.words) p.plan in
    c.loop-word.invariant.nodes
    ∙ (ap (λ (n : ℕ). renewed c.args.self.now.nodes c.args.root (with_words_to n words))
    (omega (arith, end, c.loop-word-test.false, c.loop-word.auto.word-end))
    ∙ words_all c.args.self.now.nodes c.args.root c.args.self.now.plan.words words c.requires.sized
    size.1)
