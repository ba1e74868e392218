use Rattle.std.proofs.Common.{subst, sym}
use Rattle.rcu_live.specs.Watcher.{Watching}
use Rattle.rcu_graph.specs.Filling.{CanFill}
use Rattle.rcu_graph.specs.Graph.{IsWatcherOf}
use Rattle.rcu_graph.specs.declared.known.Planned.{Planned}
use Rattle.rcu_graph.proofs.Keeping.{watches_on}
use Rattle.rcu_graph.proofs.Filling.{all_filled, can_fill_on, low_in}
use Rattle.rcu_graph.proofs.known_nodes.KnownNodes.fill.Goals as goal

pub fill_words-requires : goal.fill_words-requires
fill_words-requires g c = record {
  free = record {
    watches = c.requires.graph;
    keeps = c.kept.ensures.writer.keeps;
    few = c.kept.ensures.writer.few;
    inside = c.requires.node;
    free = c.requires.free;
    link_count = (c.kept.ensures.sized c.args.node c.requires.node).0;
    word_count = (c.kept.ensures.sized c.args.node c.requires.node).1;
  };
  words = c.requires.words;
}

pub fill_links-requires : goal.fill_links-requires
fill_links-requires g c =
    let can : CanFill c.args.graph.now c.args.self.now c.args.node = record {
      watches = c.requires.graph;
      keeps = c.kept.ensures.writer.keeps;
      few = c.kept.ensures.writer.few;
      inside = c.requires.node;
      free = c.requires.free;
      link_count = (c.kept.ensures.sized c.args.node c.requires.node).0;
      word_count = (c.kept.ensures.sized c.args.node c.requires.node).1;
    } in
    record {
      free = can_fill_on c.args.self.now c.args.node c.args.graph.now c.args.words.now
          c.fill_words.new.self can c.requires.words c.fill_words.ensures;
      inside = c.requires.inside;
      links = c.requires.links;
    }

pub returns-clause-graph : goal.returns-clause-graph
returns-clause-graph g c =
    subst (λ (w : Watching Planned). IsWatcherOf c.args.graph.now w) (sym c.fill_links.ensures)
    (watches_on c.args.graph.now c.fill_words.new.self _
    (subst (λ (w : Watching Planned). IsWatcherOf c.args.graph.now w) (sym c.fill_words.ensures)
    (watches_on c.args.graph.now c.args.self.now _ c.requires.graph)))

pub returns-clause-state : goal.returns-clause-state
returns-clause-state g c =
    all_filled c.args.self.now c.args.node c.args.words.now c.args.links.now c.fill_words.new.self
    c.fill_links.new.self
    (low_in c.args.node c.args.graph.now.plan.nodes _ c.kept.ensures.writer.few c.requires.node)
    c.fill_words.ensures c.fill_links.ensures
