use Rattle.std.proofs.Common.{◌≡◌, ◌∙◌, ap, arith, refl, subst, sym}
use Rattle.rcu_live.specs.Watcher.{Watching}
use Rattle.rcu_graph.specs.Nodes.{node_at, nodes_in}
use Rattle.rcu_graph.specs.declared.known.Planned.{Planned}
use Rattle.rcu_graph.specs.declared.plan.Plan.{Plan}
use Rattle.rcu_map.specs.Chains.{buckets_in}
use Rattle.rcu_map.specs.Entries.{IsEntry}
use Rattle.rcu_map.proofs.Chains.{inside, sized}
use Rattle.rcu_map.proofs.Rows.{read_all}
use Rattle.rcu_map.proofs.writer.MapWriter.has_words.Goals as goal

pub word-requires-clause-node : goal.word-requires-clause-node
word-requires-clause-node g c =
    let own : IsEntry (buckets_in c.self.inside.nodes)
    (nodes_in c.self.inside.nodes.view.client.known) c.args.node =
    subst (λ (w : Watching Planned). IsEntry (buckets_in w) (nodes_in w.view.client.known)
    c.args.node)
    (sym c.self.view_is) c.requires.node in
    inside _ _ _ _ _ _ c.self.invariant.map c.args.node own.live

pub returns : goal.returns
returns g c =
    let own : IsEntry (buckets_in c.self.inside.nodes) (nodes_in
    c.self.inside.nodes.view.client.known) c.args.node =
    subst (λ (w : Watching Planned). IsEntry (buckets_in w) (nodes_in w.view.client.known)
    c.args.node)
    (sym c.self.view_is) c.requires.node in
    let many = ap (λ (p : Plan). p.words) c.plan-word-end.ensures in
    let over = c.loop-word-test.false in
    let all : (node_at (nodes_in c.self.inside.nodes.view.client.known) c.args.node).words
    ≡ c.args.words.now =
    read_all (node_at (nodes_in c.self.inside.nodes.view.client.known) c.args.node).words
    c.args.words.now c.self.inside.nodes.view.client.plan.words
    (sized _ _ _ _ _ _ c.self.invariant.map c.args.node own.live)
    (c.requires.sized
    ∙ ap (λ (w : Watching Planned). w.view.client.plan.words) (sym c.self.view_is))
    (λ j low. c.loop-word.invariant j (omega (arith, low, many, over))) in (
      λ e.
          ap (λ (w : Watching Planned). (node_at (nodes_in w.view.client.known) c.args.node).words)
          (sym c.self.view_is)
          ∙ all,
      λ same. refl,
    )
