use Rattle.std.proofs.Common.{◌<◌, ◌-◌, ℕ, List, Some, ap, arith, refl, subst, sym}
use Rattle.rcu_live.specs.Watcher.{Watching}
use Rattle.rcu_graph.specs.Nodes.{nodes_in}
use Rattle.rcu_graph.specs.Tended.{relinked}
use Rattle.rcu_graph.specs.declared.known.Planned.{Planned}
use Rattle.rcu_graph.specs.declared.known.Node.{Node}
use Rattle.rcu_graph.specs.declared.plan.Plan.{Plan}
use Rattle.rcu_map.specs.Chains.{IsKept, buckets_in}
use Rattle.rcu_map.specs.Entries.{HasKey, IsRemoved}
use Rattle.rcu_map.specs.Puts.{HasChanged}
use Rattle.rcu_map.specs.Splices.{by_passing}
use Rattle.rcu_map.proofs.Chains.{no_entry_of_0}
use Rattle.rcu_map.proofs.Removals.{removed, removed_count, removed_map}
use Rattle.rcu_map.proofs.Allowed.{can_remove, placed}
use Rattle.rcu_map.proofs.writer.MapWriter.remove_words.Goals as goal

pub returns-then-key-eq0-clause-old : goal.returns-then-key-eq0-clause-old
returns-then-key-eq0-clause-old g c = λ has. no_entry_of_0 _ _ _ _ _ _ c.self.invariant.map
    (subst (λ (w : Watching Planned). HasKey (buckets_in w) (nodes_in w.view.client.known) 0)
    (sym c.self.view_is)
    (subst (λ (n : ℕ). HasKey (buckets_in c.args.self.now) (nodes_in
    c.args.self.now.view.client.known) n)
    c.if-key-eq0.true has))

pub pass-requires : goal.pass-requires
pass-requires g c =
    let some : 0 < c.args.key = omega arith in
    let previous = c.place_of-place.result.previous in
    let place = placed c.args.self.now c.self.inside.nodes c.args.key c.args.key previous
    c.place_of-place.result.node (Some c.in-Some.node) c.place_of-place.ensures.place c.self.view_is
    refl c.in-Some.is in
    let k = c.self.invariant in
    can_remove g.E.Invariant.holds c.self.inside.nodes k.one k.map c.args.key previous
    c.in-Some.node place

pub overflow_sub-self : goal.overflow_sub-self
overflow_sub-self g c =
    let some : 0 < c.args.key = omega arith in
    let previous = c.place_of-place.result.previous in
    let place = placed c.args.self.now c.self.inside.nodes c.args.key c.args.key previous
    c.place_of-place.result.node (Some c.in-Some.node) c.place_of-place.ensures.place c.self.view_is
    refl c.in-Some.is in
    let k = c.self.invariant in
    let p : Plan = c.self.inside.nodes.view.client.plan in
    let before : List Node = nodes_in c.self.inside.nodes.view.client.known in
    let after : List Node = nodes_in c.pass.new.writer.view.client.known in
    let done = c.pass.ensures in
    let now = k.count in
    let less = removed_count g.E.Invariant.holds p.roots p.seed p.words p.nodes before k.map
    c.args.key
    previous c.in-Some.node some place done.next after done.leads done.collected done.kept.few in
    omega (arith, now, less)

pub invariant_of-self : goal.invariant_of-self
invariant_of-self g c =
    let some : 0 < c.args.key = omega arith in
    let previous = c.place_of-place.result.previous in
    let place = placed c.args.self.now c.self.inside.nodes c.args.key c.args.key previous
    c.place_of-place.result.node (Some c.in-Some.node) c.place_of-place.ensures.place c.self.view_is
    refl c.in-Some.is in
    let k = c.self.invariant in
    let p : Plan = c.self.inside.nodes.view.client.plan in
    let before : List Node = nodes_in c.self.inside.nodes.view.client.known in
    let after : List Node = nodes_in c.pass.new.writer.view.client.known in
    let done = c.pass.ensures in
    subst (λ (q : Plan). IsKept g.E.Invariant.holds g.row.W q after (c.self.inside.len - 1))
    (sym (ap (λ (w : Watching Planned). w.view.client.plan) done.state))
    (record {
      some = k.some;
      one = k.one;
      wide = k.wide;
      words = k.words;
      map = removed_map g.E.Invariant.holds p.roots p.seed p.words p.nodes before k.map c.args.key
          previous c.in-Some.node some place done.next after done.leads done.collected done.kept.few
          done.kept.tended;
      count =
          let now = k.count in
          let less = removed_count g.E.Invariant.holds p.roots p.seed p.words p.nodes before k.map
          c.args.key previous c.in-Some.node some place done.next after done.leads done.collected
          done.kept.few in
          omega (arith, now, less);
      most = let most = k.most in omega (arith, most);
    })

pub returns-clause-removed : goal.returns-clause-removed
returns-clause-removed g c = λ e.
    let some : 0 < c.args.key = omega arith in
    let previous = c.place_of-place.result.previous in
    let place = placed c.args.self.now c.self.inside.nodes c.args.key c.args.key previous
    c.place_of-place.result.node (Some c.in-Some.node) c.place_of-place.ensures.place c.self.view_is
    refl c.in-Some.is in
    let k = c.self.invariant in
    let p : Plan = c.self.inside.nodes.view.client.plan in
    let before : List Node = nodes_in c.self.inside.nodes.view.client.known in
    let after : List Node = nodes_in c.pass.new.writer.view.client.known in
    let done = c.pass.ensures in
    subst (λ (w : Watching Planned). HasChanged
    (λ before after. IsRemoved (buckets_in w) before c.args.key after) w c.pass.new.writer)
    c.self.view_is
    (record {
      by = record {
        stored = relinked before previous 0 done.next;
        one = by_passing previous done.next place.live refl;
        state = done.state;
        led = done.led;
        collected = done.collected;
      };
      nodes = removed g.E.Invariant.holds p.roots p.seed p.words p.nodes before k.map c.args.key
          previous c.in-Some.node some place done.next after done.leads done.collected;
    })
