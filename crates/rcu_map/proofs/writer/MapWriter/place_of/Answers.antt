use Rattle.std.proofs.Common.{◌≡◌, ◌<◌, ◌∙◌, ℕ, List, Some, None, ap, arith, subst, sym}
use Rattle.std.specs.Prelude.{MatchOption}
use Rattle.rcu_live.specs.Watcher.{Watching}
use Rattle.rcu_graph.specs.Absence.{key_at}
use Rattle.rcu_graph.specs.Nodes.{node_at, nodes_in, state_at}
use Rattle.rcu_graph.specs.declared.known.Planned.{Planned}
use Rattle.rcu_graph.specs.declared.known.Node.{Node}
use Rattle.rcu_graph.specs.declared.node_state.NodeState.TheVariants.{Live}
use Rattle.rcu_graph.specs.declared.plan.Plan.{Plan}
use Rattle.rcu_map.specs.Chains.{buckets_in, seed_in}
use Rattle.rcu_map.specs.Entries.{HasKey, IsNodeOf}
use Rattle.rcu_map.specs.Keys.{bucket_in, bucket_of}
use Rattle.rcu_map.specs.Splices.{IsPlace}
use Rattle.rcu_map.proofs.Chains.{begins, inside, led, told}
use Rattle.rcu_map.proofs.writer.MapWriter.place_of.Goals as goal

pub chain-init : goal.chain-init
chain-init g c =
    let wide = c.self.invariant.wide in
    let b = begins _ _ _ _ _ _ c.self.invariant.map c.args.key c.self.invariant.some
    (omega (arith, wide)) c.requires in
    let nodes : List Node = nodes_in c.self.inside.nodes.view.client.known in
    let k = c.self.inside.nodes in
    let same = sym (c.bucket_of-previous.ensures.is
    ∙ ap (λ (p : Plan). bucket_of p.roots p.seed c.args.key) c.plan.ensures) in
    record {
      live = subst (λ (n : ℕ). state_at nodes n ≡ Live) same b.0;
      bucket = subst (λ (n : ℕ).
          bucket_in (buckets_in k) (seed_in k) (node_at nodes n).words
          ≡ bucket_of (buckets_in k) (seed_in k) c.args.key)
          same b.1;
      less = subst (λ (n : ℕ). key_at nodes n < c.args.key) same b.2;
    }

pub link_of-requires-clause-node : goal.link_of-requires-clause-node
link_of-requires-clause-node g c =
    inside _ _ _ _ _ _ c.self.invariant.map c.chain.previous c.chain.invariant.live

pub word-found-requires-clause-node : goal.word-found-requires-clause-node
word-found-requires-clause-node g c =
    let next = led _ _ _ _ _ _ c.self.invariant.map c.chain.previous c.in-Some.next
    c.chain.invariant.live (sym c.in-Some.ensures) in
    inside _ _ _ _ _ _ c.self.invariant.map c.in-Some.next next.0

pub chain-smaller : goal.chain-smaller
chain-smaller g c =
    let next = led _ _ _ _ _ _ c.self.invariant.map c.chain.previous c.in-Some.next
    c.chain.invariant.live (sym c.in-Some.ensures) in
    let up = next.1.up in let told = c.word-found.ensures in
    omega (arith, up, told, c.if-found-key.false, c.if-found-key-2.false)

pub chain-preserved : goal.chain-preserved
chain-preserved g c =
    let next = led _ _ _ _ _ _ c.self.invariant.map c.chain.previous c.in-Some.next
    c.chain.invariant.live (sym c.in-Some.ensures) in
    let told = c.word-found.ensures in record {
      live = next.0;
      bucket = sym next.1.same ∙ c.chain.invariant.bucket;
      less = omega (arith, told, c.if-found-key.false, c.if-found-key-2.false);
    }

pub returns-in_default-clause-place : goal.returns-in_default-clause-place
returns-in_default-clause-place g c =
    let i = c.chain.invariant in
    let at : IsPlace (buckets_in c.self.inside.nodes) (seed_in c.self.inside.nodes) c.args.key
    (nodes_in c.self.inside.nodes.view.client.known)
    c.chain.previous None = record {
      live = i.live;
      bucket = i.bucket;
      less = i.less;
      leads = λ to leads. let e = c.in_default.ensures in absurd (omega (arith, e, leads));
    } in
    subst (λ (w : Watching Planned).
    IsPlace (buckets_in w) (seed_in w) c.args.key (nodes_in w.view.client.known) c.chain.previous
    None)
    c.self.view_is at

pub returns-in_default-clause-told : goal.returns-in_default-clause-told
returns-in_default-clause-told g c =
    let i = c.chain.invariant in
    let at : IsPlace (buckets_in c.self.inside.nodes) (seed_in c.self.inside.nodes) c.args.key
    (nodes_in c.self.inside.nodes.view.client.known)
    c.chain.previous None = record {
      live = i.live;
      bucket = i.bucket;
      less = i.less;
      leads = λ to leads. let e = c.in_default.ensures in absurd (omega (arith, e, leads));
    } in
    subst (λ (w : Watching Planned). MatchOption None
    (HasKey (buckets_in w) (nodes_in w.view.client.known) c.args.key → ⊥)
    (λ node. IsNodeOf (buckets_in w) (nodes_in w.view.client.known) c.args.key node))
    c.self.view_is
    (told _ _ _ _ _ _ c.self.invariant.map c.args.key c.chain.previous None c.requires at)

pub returns-then-found-key-clause-place : goal.returns-then-found-key-clause-place
returns-then-found-key-clause-place g c =
    let i = c.chain.invariant in
    let at : IsPlace (buckets_in c.self.inside.nodes) (seed_in c.self.inside.nodes) c.args.key
    (nodes_in c.self.inside.nodes.view.client.known)
    c.chain.previous (Some c.in-Some.next) = record {
      live = i.live;
      bucket = i.bucket;
      less = i.less;
      leads = (
        sym c.in-Some.ensures,
        let key = c.word-found.ensures in omega (arith, key, c.if-found-key.true),
      );
    } in
    subst (λ (w : Watching Planned). IsPlace (buckets_in w) (seed_in w) c.args.key
    (nodes_in w.view.client.known)
    c.chain.previous (Some c.in-Some.next))
    c.self.view_is at

pub returns-then-found-key-clause-told : goal.returns-then-found-key-clause-told
returns-then-found-key-clause-told g c =
    let i = c.chain.invariant in
    let at : IsPlace (buckets_in c.self.inside.nodes) (seed_in c.self.inside.nodes) c.args.key
    (nodes_in c.self.inside.nodes.view.client.known)
    c.chain.previous (Some c.in-Some.next) = record {
      live = i.live;
      bucket = i.bucket;
      less = i.less;
      leads = (
        sym c.in-Some.ensures,
        let key = c.word-found.ensures in omega (arith, key, c.if-found-key.true),
      );
    } in
    subst (λ (w : Watching Planned). MatchOption (Some c.in-Some.next)
    (HasKey (buckets_in w) (nodes_in w.view.client.known) c.args.key → ⊥)
    (λ node. IsNodeOf (buckets_in w) (nodes_in w.view.client.known) c.args.key node))
    c.self.view_is
    (told _ _ _ _ _ _ c.self.invariant.map c.args.key c.chain.previous (Some c.in-Some.next)
    c.requires at)

pub returns-then-found-key-2-clause-place : goal.returns-then-found-key-2-clause-place
returns-then-found-key-2-clause-place g c =
    let i = c.chain.invariant in
    let at : IsPlace (buckets_in c.self.inside.nodes) (seed_in c.self.inside.nodes) c.args.key
    (nodes_in c.self.inside.nodes.view.client.known)
    c.chain.previous None = record {
      live = i.live;
      bucket = i.bucket;
      less = i.less;
      leads = λ to leads.
          let e = c.in-Some.ensures in
          let key = c.word-found.ensures in
          let is : c.in-Some.next ≡ to = omega (arith, e, leads) in
          subst (λ (n : ℕ). c.args.key < key_at (nodes_in c.self.inside.nodes.view.client.known) n)
          is
          (omega (arith, key, c.if-found-key-2.true));
    } in
    subst (λ (w : Watching Planned).
    IsPlace (buckets_in w) (seed_in w) c.args.key (nodes_in w.view.client.known) c.chain.previous
    None)
    c.self.view_is at

pub returns-then-found-key-2-clause-told : goal.returns-then-found-key-2-clause-told
returns-then-found-key-2-clause-told g c =
    let i = c.chain.invariant in
    let at : IsPlace (buckets_in c.self.inside.nodes) (seed_in c.self.inside.nodes) c.args.key
    (nodes_in c.self.inside.nodes.view.client.known)
    c.chain.previous None = record {
      live = i.live;
      bucket = i.bucket;
      less = i.less;
      leads = λ to leads.
          let e = c.in-Some.ensures in
          let key = c.word-found.ensures in
          let is : c.in-Some.next ≡ to = omega (arith, e, leads) in
          subst (λ (n : ℕ). c.args.key < key_at (nodes_in c.self.inside.nodes.view.client.known) n)
          is
          (omega (arith, key, c.if-found-key-2.true));
    } in
    subst (λ (w : Watching Planned). MatchOption None
    (HasKey (buckets_in w) (nodes_in w.view.client.known) c.args.key → ⊥)
    (λ node. IsNodeOf (buckets_in w) (nodes_in w.view.client.known) c.args.key node))
    c.self.view_is
    (told _ _ _ _ _ _ c.self.invariant.map c.args.key c.chain.previous None c.requires at)
