use Rattle.std.proofs.Common.{◌≡◌, ◌∙◌, ◌<◌, ◌∷◌, [], ℕ, List, ap, arith, subst, suc, sym}
use Rattle.std.specs.Prelude.{slice_index}
use Rattle.rcu_live.specs.Watcher.{Watching}
use Rattle.rcu_graph.specs.Counts.{counted_up}
use Rattle.rcu_graph.specs.Graph.{IsWatcherOf}
use Rattle.rcu_graph.specs.Writer.{IsReady, after_publish}
use Rattle.rcu_graph.specs.Nodes.{node_at, nodes_in, state_at}
use Rattle.rcu_graph.specs.Tended.{published}
use Rattle.rcu_graph.specs.Collecting.{IsCollecting}
use Rattle.rcu_graph.specs.declared.known.Planned.{Planned}
use Rattle.rcu_graph.specs.declared.known.Node.{Node}
use Rattle.rcu_graph.specs.declared.plan.Plan.{Plan}
use Rattle.rcu_graph.specs.declared.node_state.NodeState.TheVariants.{Live}
use Rattle.rcu_graph.proofs.Cascade.{collected_on, counted_after, counts_fit, new_fits}
use Rattle.rcu_graph.proofs.Cascade.{published_starts, published_whole, ready_inside}
use Rattle.rcu_graph.proofs.Cascade.{same_collecting}
use Rattle.rcu_graph.proofs.Tending.{are_led, collected}
use Rattle.rcu_graph.proofs.counted_nodes.CountedNodes.publish.Goals as goal

pub count_links_of-requires : goal.count_links_of-requires
count_links_of-requires g c =
    let s = c.kept.ensures in
    let p : Plan = c.args.graph.now.plan in
    let nodes : List Node = nodes_in c.args.self.now.nodes.view.client.known in
    let counts : List ℕ = c.args.self.now.counts.items in
    let unlinking : List ℕ = c.args.self.now.unlinking.items in
    record {
      graph = c.requires.watches;
      node = c.requires.to_inside;
      many = c.requires.counted.many;
      inside =
          ready_inside (g.F.Shape.fits p) (g.F.Shape.joins p) p.nodes p.roots p.links p.words
          nodes counts
          unlinking s.writer.few s.sized c.requires.counted c.args.from c.args.link c.args.to
          c.requires.to_inside c.requires.ready;
      few = λ k low.
          let a = counts_fit (g.F.Shape.fits p) (g.F.Shape.joins p) p.nodes p.roots p.links
          p.words
          nodes counts unlinking s.writer.few s.sized c.requires.counted c.args.from c.args.link
          c.args.to
          c.requires.to_inside c.requires.ready k low in
          let fit = s.links_fit in
          omega (arith, a, fit);
    }

pub publish-requires : goal.publish-requires
publish-requires g c =
    let e = c.count_links_of.ensures.nodes in
    record {
      watches = subst (λ (w : Watching Planned). IsWatcherOf c.args.graph.now w) (sym e)
          c.requires.watches;
      from_inside = c.requires.from_inside;
      to_inside = c.requires.to_inside;
      link_inside = c.requires.link_inside;
      live =
          subst (λ (w : Watching Planned). state_at (nodes_in w.view.client.known) c.args.from ≡
          Live)
          (sym e) c.requires.live;
      ready = subst (λ (w : Watching Planned).
          IsReady (g.F.Shape.fits c.args.graph.now.plan) (g.F.Shape.joins c.args.graph.now.plan)
          c.args.graph.now.plan.links (nodes_in w.view.client.known)
          c.args.to)
          (sym e) c.requires.ready;
      joined = subst (λ (w : Watching Planned).
          g.F.Shape.joins c.args.graph.now.plan c.args.link
          (node_at (nodes_in w.view.client.known) c.args.from).words
          (node_at (nodes_in w.view.client.known) c.args.to).words)
          (sym e) c.requires.joined;
    }

pub word_of-requires : goal.word_of-requires
word_of-requires g c = omega (arith, c.requires.to_inside, c.kept.ensures.nodes_fit)

pub count-requires-clause-inside : goal.count-requires-clause-inside
count-requires-clause-inside g c =
    let s = c.kept.ensures in
    let n = c.count_links_of.ensures in
    let p : Plan = c.args.graph.now.plan in
    let nodes : List Node = nodes_in c.args.self.now.nodes.view.client.known in
    let counts : List ℕ = c.args.self.now.counts.items in
    let unlinking : List ℕ = c.args.self.now.unlinking.items in
    let inside : (k : ℕ) → c.word_of.result ≡ suc k → k < p.nodes =
    λ k is.
    let e : suc c.args.to ≡ suc k = sym c.word_of.ensures ∙ is in
    omega (arith, e, c.requires.to_inside) in
    λ k is. let low = inside k is in omega (arith, low, n.many)

pub count-requires-clause-few : goal.count-requires-clause-few
count-requires-clause-few g c =
    let s = c.kept.ensures in
    let n = c.count_links_of.ensures in
    let p : Plan = c.args.graph.now.plan in
    let nodes : List Node = nodes_in c.args.self.now.nodes.view.client.known in
    let counts : List ℕ = c.args.self.now.counts.items in
    let unlinking : List ℕ = c.args.self.now.unlinking.items in
    let inside : (k : ℕ) → c.word_of.result ≡ suc k → k < p.nodes =
    λ k is.
    let e : suc c.args.to ≡ suc k = sym c.word_of.ensures ∙ is in
    omega (arith, e, c.requires.to_inside) in
    λ k is.
    let a = new_fits (g.F.Shape.fits p) (g.F.Shape.joins p) p.nodes p.roots p.links p.words
    nodes counts unlinking s.writer.few s.sized c.requires.counted c.args.from c.args.link c.args.to
    c.requires.to_inside c.requires.ready c.count_links_of.new.self.counts.items n.many n.counts
    c.requires.live c.requires.link_inside c.requires.joined k (inside k is) in
    let fit = s.links_fit in
    omega (arith, a, fit)

pub collect_unreachable-requires : goal.collect_unreachable-requires
collect_unreachable-requires g c =
    let s = c.kept.ensures in
    let n = c.count_links_of.ensures in
    let nodes : List Node = nodes_in c.args.self.now.nodes.view.client.known in
    let counts : List ℕ = c.args.self.now.counts.items in
    let new : List ℕ = c.count_links_of.new.self.counts.items in
    let unlinking : List ℕ = c.args.self.now.unlinking.items in
    let stored : List Node = published nodes c.args.from c.args.link c.args.to in
    let now : Watching Planned = c.count.new.self.nodes in
    let stored_is : c.publish.new.self
    ≡ after_publish c.args.self.now.nodes c.args.from c.args.link c.args.to =
    c.publish.ensures.state
    ∙ ap (λ (w : Watching Planned). after_publish w c.args.from c.args.link c.args.to) n.nodes in
    let nodes_is : nodes_in now.view.client.known ≡ stored =
    ap (λ (w : Watching Planned). nodes_in w.view.client.known)
    (c.count.ensures.nodes ∙ stored_is) in
    let counts_is : c.count.new.self.counts.items ≡ counted_up new (suc c.args.to) =
    c.count.ensures.counts ∙ ap (λ (w : ℕ). counted_up new w) c.word_of.ensures in
    let unlinking_is : c.count.new.self.unlinking.items ≡ unlinking =
    ap (λ v. v.items) c.count.ensures.unlinking ∙ ap (λ v. v.items) n.unlinking in
    record {
      graph = subst (λ (w : Watching Planned). IsWatcherOf c.args.graph.now w)
          (sym c.count.ensures.nodes) c.publish.ensures.graph;
      collecting =
          same_collecting c.args.graph.now.plan.nodes c.args.graph.now.plan.roots
          c.args.graph.now.plan.links (nodes_in now.view.client.known) stored
          (nodes_in now.view.client.known) stored c.count.new.self.counts.items
          (counted_up new (suc c.args.to)) c.count.new.self.unlinking.items unlinking 0 0
          (c.link-before.result ∷ [])
          (slice_index (node_at nodes c.args.from).links c.args.link ∷ []) nodes_is nodes_is
          counts_is unlinking_is (ap (λ (w : ℕ). w ∷ []) (c.link-before.ensures
          ∙ ap (λ (ns : List Node). slice_index (node_at ns c.args.from).links c.args.link)
          c.mirror.ensures.nodes))
          (published_starts (g.F.Shape.fits c.args.graph.now.plan)
          (g.F.Shape.joins c.args.graph.now.plan) c.args.graph.now.plan.nodes
          c.args.graph.now.plan.roots c.args.graph.now.plan.links c.args.graph.now.plan.words
          nodes
          counts unlinking s.writer.few s.sized c.requires.counted c.args.from c.args.link c.args.to
          c.requires.to_inside c.requires.ready new n.many n.counts c.requires.live
          c.requires.link_inside c.requires.joined);
    }

pub returns : goal.returns
returns g c =
    let s = c.kept.ensures in
    let n = c.count_links_of.ensures in
    let nodes : List Node = nodes_in c.args.self.now.nodes.view.client.known in
    let counts : List ℕ = c.args.self.now.counts.items in
    let new : List ℕ = c.count_links_of.new.self.counts.items in
    let unlinking : List ℕ = c.args.self.now.unlinking.items in
    let stored : List Node = published nodes c.args.from c.args.link c.args.to in
    let nodes_is : nodes_in c.count.new.self.nodes.view.client.known ≡ stored =
    ap (λ (w : Watching Planned). nodes_in w.view.client.known)
    (c.count.ensures.nodes
    ∙ (c.publish.ensures.state
    ∙ ap (λ (w : Watching Planned). after_publish w c.args.from c.args.link c.args.to) n.nodes)) in
    let t = c.collect_unreachable.ensures.collecting in
    let whole = published_whole (g.F.Shape.fits c.args.graph.now.plan)
    (g.F.Shape.joins c.args.graph.now.plan) c.args.graph.now.plan.nodes
    c.args.graph.now.plan.roots c.args.graph.now.plan.links c.args.graph.now.plan.words nodes
    counts unlinking s.writer.few s.sized c.requires.counted c.args.from c.args.link c.args.to
    c.requires.to_inside c.requires.ready new n.many n.counts c.requires.live
    c.requires.link_inside c.requires.joined in
    record {
      watches = c.collect_unreachable.ensures.graph;
      state =
          collected_on c.args.self.now.nodes c.count.new.self.nodes
          c.collect_unreachable.new.self.nodes stored
          (c.count.ensures.nodes
          ∙ (c.publish.ensures.state
          ∙ ap (λ (w : Watching Planned). after_publish w c.args.from c.args.link c.args.to)
          n.nodes))
          c.collect_unreachable.ensures.state;
      counted =
          counted_after (g.F.Shape.fits c.args.graph.now.plan)
          (g.F.Shape.joins c.args.graph.now.plan) c.args.graph.now.plan.nodes
          c.args.graph.now.plan.roots c.args.graph.now.plan.links c.args.graph.now.plan.words stored
          (nodes_in c.collect_unreachable.new.self.nodes.view.client.known)
          c.collect_unreachable.new.self.counts.items
          c.collect_unreachable.new.self.unlinking.items t.0
          whole
          (subst (λ (l : List Node). IsCollecting c.args.graph.now.plan.nodes
          c.args.graph.now.plan.roots c.args.graph.now.plan.links l
          (nodes_in c.collect_unreachable.new.self.nodes.view.client.known)
          c.collect_unreachable.new.self.counts.items
          c.collect_unreachable.new.self.unlinking.items t.0 t.0 [])
          nodes_is t.1);
      led = are_led (g.F.Shape.fits c.args.graph.now.plan) (g.F.Shape.joins c.args.graph.now.plan)
          c.args.graph.now.plan.nodes c.args.graph.now.plan.roots c.args.graph.now.plan.links
          c.args.graph.now.plan.words stored whole;
      collected =
          collected (g.F.Shape.fits c.args.graph.now.plan) (g.F.Shape.joins c.args.graph.now.plan)
          c.args.graph.now.plan.nodes c.args.graph.now.plan.roots c.args.graph.now.plan.links
          c.args.graph.now.plan.words stored
          (nodes_in c.collect_unreachable.new.self.nodes.view.client.known)
          c.collect_unreachable.new.self.counts.items
          c.collect_unreachable.new.self.unlinking.items t.0
          whole
          (subst (λ (l : List Node). IsCollecting c.args.graph.now.plan.nodes
          c.args.graph.now.plan.roots c.args.graph.now.plan.links l
          (nodes_in c.collect_unreachable.new.self.nodes.view.client.known)
          c.collect_unreachable.new.self.counts.items
          c.collect_unreachable.new.self.unlinking.items t.0 t.0 [])
          nodes_is t.1);
    }
