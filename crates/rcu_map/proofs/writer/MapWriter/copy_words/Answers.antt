use Rattle.std.proofs.Common.{◌≡◌, ◌<◌, ◌∙◌, ap, length, subst, sym, arith, length-set}
use Rattle.rcu_live.specs.Watcher.{Watching}
use Rattle.rcu_graph.specs.Nodes.{node_at, nodes_in}
use Rattle.rcu_graph.specs.declared.known.Planned.{Planned}
use Rattle.rcu_graph.specs.declared.plan.Plan.{Plan}
use Rattle.rcu_map.specs.Chains.{buckets_in}
use Rattle.rcu_map.specs.Entries.{IsEntry}
use Rattle.rcu_map.proofs.Chains.{entry_fits, inside, sized}
use Rattle.rcu_map.proofs.Rows.{read_all, read_more}
use Rattle.rcu_map.proofs.writer.MapWriter.copy_words.Goals as goal

pub word-requires-clause-node : goal.word-requires-clause-node
word-requires-clause-node g c =
    let own : IsEntry (buckets_in c.self.inside.nodes)
    (nodes_in c.self.inside.nodes.view.client.known) c.args.node =
    subst (λ (w : Watching Planned). IsEntry (buckets_in w) (nodes_in w.view.client.known)
    c.args.node)
    (sym c.self.view_is) c.requires.node in
    inside _ _ _ _ _ _ c.self.invariant.map c.args.node own.live

pub loop-word-preserved : goal.loop-word-preserved
loop-word-preserved g c =
    let i = c.loop-word.invariant in
    record {
      size = length-set c.loop-word.entry c.loop-word.word c.word.result ∙ i.size;
      told =
          let size = i.size in
          let room = c.requires.room in
          let many = ap (λ (p : Plan). p.words) c.plan-word-end.ensures in
          let view = ap (λ (w : Watching Planned). w.view.client.plan.words) c.self.view_is in
          let low : c.loop-word.word < length c.loop-word.entry =
          omega (arith, size, room, many, view) in
          read_more c.loop-word.entry
          (node_at (nodes_in c.self.inside.nodes.view.client.known) c.args.node).words
          c.loop-word.word
          c.word.result low i.told c.word.ensures;
    }

pub returns : goal.returns
returns g c =
    let i = c.loop-word.invariant in
    let own : IsEntry (buckets_in c.self.inside.nodes) (nodes_in
    c.self.inside.nodes.view.client.known) c.args.node =
    subst (λ (w : Watching Planned). IsEntry (buckets_in w) (nodes_in w.view.client.known)
    c.args.node)
    (sym c.self.view_is) c.requires.node in
    let many = ap (λ (p : Plan). p.words) c.plan-word-end.ensures in
    let all : c.loop-word.entry
    ≡ (node_at (nodes_in c.self.inside.nodes.view.client.known) c.args.node).words =
    read_all c.loop-word.entry
    (node_at (nodes_in c.self.inside.nodes.view.client.known) c.args.node).words
    c.self.inside.nodes.view.client.plan.words
    (i.size
    ∙ (c.requires.room
    ∙ ap (λ (w : Watching Planned). w.view.client.plan.words) (sym c.self.view_is)))
    (sized _ _ _ _ _ _ c.self.invariant.map c.args.node own.live)
    (λ j low. i.told j (omega (arith, low, many))) in
    record {
      same =
          all
          ∙ ap (λ (w : Watching Planned). (node_at (nodes_in w.view.client.known)
          c.args.node).words)
          c.self.view_is;
      whole = subst g.E.Invariant.holds (sym all)
          (entry_fits _ _ _ _ _ _ c.self.invariant.map c.args.node own);
    }
