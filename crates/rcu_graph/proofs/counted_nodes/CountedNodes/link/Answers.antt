use Rattle.std.proofs.Common.{◌≡◌, ◌∙◌, ◌<◌, ◌∷◌, [], ℕ, List, ap, arith, subst, suc, sym}
use Rattle.std.specs.Prelude.{slice_index}
use Rattle.rcu_live.specs.Watcher.{Watching}
use Rattle.rcu_graph.specs.Counts.{counted_up}
use Rattle.rcu_graph.specs.Graph.{IsWatcherOf, word_to}
use Rattle.rcu_graph.specs.Writer.{after_link}
use Rattle.rcu_graph.specs.Nodes.{IsTarget, linked_to, node_at, nodes_in, renewed}
use Rattle.rcu_graph.specs.Collecting.{IsCollecting}
use Rattle.rcu_graph.specs.declared.known.Planned.{Planned}
use Rattle.rcu_graph.specs.declared.known.Node.{Node}
use Rattle.rcu_graph.specs.declared.plan.Plan.{Plan}
use Rattle.rcu_graph.proofs.Cascade.{collected_on, count_fits, counted_after, relinked_starts}
use Rattle.rcu_graph.proofs.Cascade.{relinked_whole, same_collecting, target_inside, word_fits}
use Rattle.rcu_graph.proofs.Tending.{are_led, collected}
use Rattle.rcu_graph.proofs.counted_nodes.CountedNodes.link.Goals as goal

pub word_of-word-requires : goal.word_of-word-requires
word_of-word-requires g c =
    let s = c.kept.ensures in
    word_fits c.args.to c.args.graph.now.plan.nodes _
    (target_inside (g.F.Shape.fits c.args.graph.now.plan) (g.F.Shape.joins c.args.graph.now.plan)
    c.args.graph.now.plan.nodes c.args.graph.now.plan.roots c.args.graph.now.plan.links
    (nodes_in c.args.self.now.nodes.view.client.known) c.args.link _ (word_to c.args.to)
    s.writer.few c.requires.target)
    (omega (arith, c.kept.ensures.nodes_fit))

pub link-requires : goal.link-requires
link-requires g c = record {
  graph = c.requires.watches;
  node = c.requires.from_inside;
  link = c.requires.link_inside;
  live = c.requires.live;
  target = subst (λ (x : ℕ).
      IsTarget (g.F.Shape.joins c.args.graph.now.plan c.args.link)
      (node_at (nodes_in c.args.self.now.nodes.view.client.known) c.args.from).words
      (nodes_in c.args.self.now.nodes.view.client.known) x)
      (sym c.word_of-word.ensures) c.requires.target;
}

pub count-requires-clause-inside : goal.count-requires-clause-inside
count-requires-clause-inside g c =
    let s = c.kept.ensures in
    let p : Plan = c.args.graph.now.plan in
    let nodes : List Node = nodes_in c.args.self.now.nodes.view.client.known in
    let inside : (k : ℕ) → c.word_of-word.result ≡ suc k → k < p.nodes =
    λ k is. target_inside (g.F.Shape.fits p) (g.F.Shape.joins p) p.nodes p.roots p.links nodes
    c.args.link _ (word_to c.args.to) s.writer.few c.requires.target k
    (sym c.word_of-word.ensures ∙ is) in
    λ k is. let low = inside k is in omega (arith, low, c.requires.counted.many)

pub count-requires-clause-few : goal.count-requires-clause-few
count-requires-clause-few g c =
    let s = c.kept.ensures in
    let p : Plan = c.args.graph.now.plan in
    let nodes : List Node = nodes_in c.args.self.now.nodes.view.client.known in
    let inside : (k : ℕ) → c.word_of-word.result ≡ suc k → k < p.nodes =
    λ k is. target_inside (g.F.Shape.fits p) (g.F.Shape.joins p) p.nodes p.roots p.links nodes
    c.args.link _ (word_to c.args.to) s.writer.few c.requires.target k
    (sym c.word_of-word.ensures ∙ is) in
    λ k is.
    let low = inside k is in
    let a = count_fits (g.F.Shape.fits p) (g.F.Shape.joins p) p.nodes p.roots p.links p.words
    nodes c.args.self.now.counts.items c.args.self.now.unlinking.items s.writer.few s.sized
    c.requires.counted k low in
    let fit = s.links_fit in
    omega (arith, a, fit)

pub collect_unreachable-requires : goal.collect_unreachable-requires
collect_unreachable-requires g c =
    let s = c.kept.ensures in
    let nodes : List Node = nodes_in c.args.self.now.nodes.view.client.known in
    let counts : List ℕ = c.args.self.now.counts.items in
    let unlinking : List ℕ = c.args.self.now.unlinking.items in
    let x : ℕ = word_to c.args.to in
    let stored : List Node = renewed nodes c.args.from (linked_to c.args.link x) in
    let now : Watching Planned = c.count.new.self.nodes in
    let nodes_is : nodes_in now.view.client.known ≡ stored =
    ap (λ (w : Watching Planned). nodes_in w.view.client.known) c.count.ensures.nodes
    ∙ (ap (λ (w : Watching Planned). nodes_in w.view.client.known) c.link.ensures.state
    ∙ ap (λ (w : ℕ). renewed nodes c.args.from (linked_to c.args.link w)) c.word_of-word.ensures) in
    let counts_is : c.count.new.self.counts.items ≡ counted_up counts x =
    c.count.ensures.counts ∙ ap (λ (w : ℕ). counted_up counts w) c.word_of-word.ensures in
    let unlinking_is : c.count.new.self.unlinking.items ≡ unlinking =
    ap (λ v. v.items) c.count.ensures.unlinking in
    record {
      graph = subst (λ (w : Watching Planned). IsWatcherOf c.args.graph.now w)
          (sym c.count.ensures.nodes) c.link.ensures.graph;
      collecting =
          same_collecting c.args.graph.now.plan.nodes c.args.graph.now.plan.roots
          c.args.graph.now.plan.links (nodes_in now.view.client.known) stored
          (nodes_in now.view.client.known) stored c.count.new.self.counts.items
          (counted_up counts x)
          c.count.new.self.unlinking.items unlinking 0 0 (c.link-before.result ∷ [])
          (slice_index (node_at nodes c.args.from).links c.args.link ∷ []) nodes_is nodes_is
          counts_is unlinking_is (ap (λ (w : ℕ). w ∷ []) (c.link-before.ensures
          ∙ ap (λ (ns : List Node). slice_index (node_at ns c.args.from).links c.args.link)
          c.mirror.ensures.nodes))
          (relinked_starts (g.F.Shape.fits c.args.graph.now.plan)
          (g.F.Shape.joins c.args.graph.now.plan) c.args.graph.now.plan.nodes
          c.args.graph.now.plan.roots c.args.graph.now.plan.links c.args.graph.now.plan.words
          nodes
          counts unlinking s.writer.few s.sized c.requires.counted c.args.from c.args.link x
          c.requires.live c.requires.link_inside c.requires.target);
    }

pub returns : goal.returns
returns g c =
    let s = c.kept.ensures in
    let nodes : List Node = nodes_in c.args.self.now.nodes.view.client.known in
    let counts : List ℕ = c.args.self.now.counts.items in
    let unlinking : List ℕ = c.args.self.now.unlinking.items in
    let x : ℕ = word_to c.args.to in
    let stored : List Node = renewed nodes c.args.from (linked_to c.args.link x) in
    let nodes_is : nodes_in c.count.new.self.nodes.view.client.known ≡ stored =
    ap (λ (w : Watching Planned). nodes_in w.view.client.known) c.count.ensures.nodes
    ∙ (ap (λ (w : Watching Planned). nodes_in w.view.client.known) c.link.ensures.state
    ∙ ap (λ (w : ℕ). renewed nodes c.args.from (linked_to c.args.link w)) c.word_of-word.ensures) in
    let t = c.collect_unreachable.ensures.collecting in
    let whole = relinked_whole (g.F.Shape.fits c.args.graph.now.plan)
    (g.F.Shape.joins c.args.graph.now.plan) c.args.graph.now.plan.nodes
    c.args.graph.now.plan.roots c.args.graph.now.plan.links c.args.graph.now.plan.words nodes
    counts unlinking s.writer.few s.sized c.requires.counted c.args.from c.args.link x
    c.requires.live c.requires.link_inside c.requires.target in
    record {
      watches = c.collect_unreachable.ensures.graph;
      state =
          collected_on c.args.self.now.nodes c.count.new.self.nodes
          c.collect_unreachable.new.self.nodes stored
          (c.count.ensures.nodes ∙ (c.link.ensures.state
          ∙ ap (λ (w : ℕ). after_link c.args.self.now.nodes c.args.from c.args.link w)
          c.word_of-word.ensures))
          c.collect_unreachable.ensures.state;
      counted =
          counted_after (g.F.Shape.fits c.args.graph.now.plan)
          (g.F.Shape.joins c.args.graph.now.plan) c.args.graph.now.plan.nodes
          c.args.graph.now.plan.roots c.args.graph.now.plan.links c.args.graph.now.plan.words stored
          (nodes_in c.collect_unreachable.new.self.nodes.view.client.known)
          c.collect_unreachable.new.self.counts.items
          c.collect_unreachable.new.self.unlinking.items t.0
          whole
          (subst (λ (l : List Node). IsCollecting c.args.graph.now.plan.nodes
          c.args.graph.now.plan.roots c.args.graph.now.plan.links l
          (nodes_in c.collect_unreachable.new.self.nodes.view.client.known)
          c.collect_unreachable.new.self.counts.items
          c.collect_unreachable.new.self.unlinking.items t.0 t.0 [])
          nodes_is t.1);
      led = are_led (g.F.Shape.fits c.args.graph.now.plan) (g.F.Shape.joins c.args.graph.now.plan)
          c.args.graph.now.plan.nodes c.args.graph.now.plan.roots c.args.graph.now.plan.links
          c.args.graph.now.plan.words stored whole;
      collected =
          collected (g.F.Shape.fits c.args.graph.now.plan) (g.F.Shape.joins c.args.graph.now.plan)
          c.args.graph.now.plan.nodes c.args.graph.now.plan.roots c.args.graph.now.plan.links
          c.args.graph.now.plan.words stored
          (nodes_in c.collect_unreachable.new.self.nodes.view.client.known)
          c.collect_unreachable.new.self.counts.items
          c.collect_unreachable.new.self.unlinking.items t.0
          whole
          (subst (λ (l : List Node). IsCollecting c.args.graph.now.plan.nodes
          c.args.graph.now.plan.roots c.args.graph.now.plan.links l
          (nodes_in c.collect_unreachable.new.self.nodes.view.client.known)
          c.collect_unreachable.new.self.counts.items
          c.collect_unreachable.new.self.unlinking.items t.0 t.0 [])
          nodes_is t.1);
    }
