use Rattle.std.proofs.Common.{◌∙◌, Some, ap, arith, refl, subst, sym, true}
use Rattle.std.specs.Prelude.{MatchResult}
use Rattle.rcu_live.specs.Watcher.{Watching}
use Rattle.rcu_graph.specs.Nodes.{nodes_in}
use Rattle.rcu_graph.specs.Puts.{IsFull}
use Rattle.rcu_graph.specs.declared.known.Planned.{Planned}
use Rattle.rcu_graph.specs.declared.plan.Plan.{Plan}
use Rattle.rcu_map.specs.Chains.{IsKept, buckets_in}
use Rattle.rcu_map.specs.Keys.{key_in}
use Rattle.rcu_map.specs.Puts.{HasChanged, IsPutIn}
use Rattle.rcu_map.proofs.Allowed.{can_replace, old_inside, placed}
use Rattle.rcu_map.proofs.Outcomes.{over_count, over_map, over_plan, over_put}
use Rattle.rcu_map.proofs.writer.MapWriter.put_over.Goals as goal

pub link_of-next-requires-clause-node : goal.link_of-next-requires-clause-node
link_of-next-requires-clause-node g c =
    let words = c.args.words.now in
    let some = c.requires.keyed in
    let place = placed c.args.self.now c.self.inside.nodes (key_in words) (key_in words)
    c.args.previous (Some c.args.old) (Some c.args.old) c.requires.place c.self.view_is refl refl in
    let k = c.self.invariant in
    old_inside g.E.Invariant.holds c.self.inside.nodes k.one k.map (key_in words) c.args.previous
    c.args.old place

pub put-requires : goal.put-requires
put-requires g c =
    let words = c.args.words.now in
    let some = c.requires.keyed in
    let place = placed c.args.self.now c.self.inside.nodes (key_in words) (key_in words)
    c.args.previous (Some c.args.old) (Some c.args.old) c.requires.place c.self.view_is refl refl in
    let k = c.self.invariant in
    can_replace g.E.Invariant.holds c.self.inside.nodes k.one k.map c.args.previous words some
    (record {
      sized = c.requires.sized
          ∙ ap (λ (w : Watching Planned). w.view.client.plan.words) (sym c.self.view_is);
      entry = λ up. c.requires.whole;
    }) c.args.old
    c.link_of-next.result place c.link_of-next.ensures

pub invariant_of-self : goal.invariant_of-self
invariant_of-self g c =
    let words = c.args.words.now in
    let some = c.requires.keyed in
    let place = placed c.args.self.now c.self.inside.nodes (key_in words) (key_in words)
    c.args.previous (Some c.args.old) (Some c.args.old) c.requires.place c.self.view_is refl refl in
    let k = c.self.invariant in
    let p : Plan = c.self.inside.nodes.view.client.plan in
    subst (λ (q : Plan). IsKept g.E.Invariant.holds g.row.W q
    (nodes_in c.put.new.self.view.client.known) c.self.inside.len)
    (sym (over_plan g.E.Invariant.holds c.self.inside.nodes c.put.new.self k.map c.args.previous
    c.args.old words c.link_of-next.result some place c.link_of-next.ensures c.put.result
    c.put.ensures))
    (record {
      some = k.some;
      one = k.one;
      wide = k.wide;
      words = k.words;
      map = over_map g.E.Invariant.holds c.self.inside.nodes c.put.new.self k.map
          c.args.previous c.args.old words c.link_of-next.result some place c.link_of-next.ensures
          c.put.result c.put.ensures;
      count =
          let now = k.count in
          let same = over_count g.E.Invariant.holds c.self.inside.nodes c.put.new.self k.map
          c.args.previous c.args.old words c.link_of-next.result some place c.link_of-next.ensures
          c.put.result c.put.ensures in
          omega (arith, now, same);
      most = k.most;
    })

pub returns-clause-put : goal.returns-clause-put
returns-clause-put g c =
    let words = c.args.words.now in
    let some = c.requires.keyed in
    let place = placed c.args.self.now c.self.inside.nodes (key_in words) (key_in words)
    c.args.previous (Some c.args.old) (Some c.args.old) c.requires.place c.self.view_is refl refl in
    let k = c.self.invariant in
    let p : Plan = c.self.inside.nodes.view.client.plan in
    subst (λ (w : Watching Planned). MatchResult c.put.result
    (λ _. HasChanged (IsPutIn (buckets_in w) words true) w c.put.new.self)
    (λ _. IsFull w c.put.new.self))
    c.self.view_is
    (over_put g.E.Invariant.holds c.self.inside.nodes c.put.new.self k.map c.args.previous
    c.args.old words c.link_of-next.result some place c.link_of-next.ensures c.put.result
    c.put.ensures)
