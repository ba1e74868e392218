use Rattle.std.proofs.Common.{◌+◌, ◌∙◌, List, None, ap, arith, false, refl, subst, sym}
use Rattle.rcu_live.specs.Watcher.{Watching}
use Rattle.rcu_graph.specs.Nodes.{nodes_in}
use Rattle.rcu_graph.specs.declared.known.Planned.{Planned}
use Rattle.rcu_graph.specs.declared.known.Node.{Node}
use Rattle.rcu_graph.specs.declared.plan.Plan.{Plan}
use Rattle.rcu_map.specs.Chains.{IsKept, buckets_in}
use Rattle.rcu_map.specs.Keys.{key_in}
use Rattle.rcu_map.specs.Puts.{HasChanged, IsPutIn}
use Rattle.rcu_map.specs.Room.{IsAtCapacity}
use Rattle.rcu_map.specs.Splices.{by_put}
use Rattle.rcu_graph.specs.Puts.{put}
use Rattle.rcu_map.proofs.Allowed.{can_insert, placed}
use Rattle.rcu_map.proofs.Chains.{free_node}
use Rattle.rcu_map.proofs.Counted.{entries_few}
use Rattle.rcu_map.proofs.Insertions.{inserted, inserted_count, inserted_map}
use Rattle.rcu_map.proofs.Rooms.{has_room}
use Rattle.rcu_map.proofs.writer.MapWriter.put_behind.Goals as goal

pub put-requires : goal.put-requires
put-requires g c =
    let words = c.args.words.now in
    let some = c.requires.keyed in
    let place = placed c.args.self.now c.self.inside.nodes (key_in words) (key_in words)
    c.args.previous None None c.requires.place c.self.view_is refl refl in
    let k = c.self.invariant in
    can_insert g.E.Invariant.holds c.self.inside.nodes k.one k.map c.args.previous words some
    (record {
      sized = c.requires.sized
          ∙ ap (λ (w : Watching Planned). w.view.client.plan.words) (sym c.self.view_is);
      entry = λ up. c.requires.whole;
    })
    c.link_of-next.result place c.link_of-next.ensures

pub overflow_add-self : goal.overflow_add-self
overflow_add-self g c =
    let words = c.args.words.now in
    let some = c.requires.keyed in
    let place = placed c.args.self.now c.self.inside.nodes (key_in words) (key_in words)
    c.args.previous None None c.requires.place c.self.view_is refl refl in
    let k = c.self.invariant in
    let p : Plan = c.self.inside.nodes.view.client.plan in
    let before : List Node = nodes_in c.self.inside.nodes.view.client.known in
    let after : List Node = nodes_in c.put.new.self.view.client.known in
    let done = c.in_ok-put.ensures in
    let node = c.in_ok-put.field-0 in
    let now = k.count in
    let more = inserted_count g.E.Invariant.holds p.roots p.seed p.words p.nodes before k.map
    c.args.previous node words c.link_of-next.result after some place c.link_of-next.ensures
    done.inside done.free done.collected in
    let most = entries_few p.roots after in
    let few = done.kept.few in
    let nodes = ap (λ (q : Plan). q.nodes) c.plan.ensures in
    omega (arith, now, more, most, few, nodes)

pub invariant_of-self-2 : goal.invariant_of-self-2
invariant_of-self-2 g c =
    let words = c.args.words.now in
    let some = c.requires.keyed in
    let place = placed c.args.self.now c.self.inside.nodes (key_in words) (key_in words)
    c.args.previous None None c.requires.place c.self.view_is refl refl in
    let k = c.self.invariant in
    let p : Plan = c.self.inside.nodes.view.client.plan in
    let before : List Node = nodes_in c.self.inside.nodes.view.client.known in
    let after : List Node = nodes_in c.put.new.self.view.client.known in
    let done = c.in_ok-put.ensures in
    let node = c.in_ok-put.field-0 in
    subst (λ (q : Plan). IsKept g.E.Invariant.holds g.row.W q after (c.self.inside.len + 1))
    (sym (ap (λ (w : Watching Planned). w.view.client.plan) done.state))
    (record {
      some = k.some;
      one = k.one;
      wide = k.wide;
      words = k.words;
      map = inserted_map g.E.Invariant.holds p.roots p.seed p.words p.nodes before k.map
          c.args.previous
          node words c.link_of-next.result after some place c.link_of-next.ensures done.inside
          done.free done.collected done.kept.few done.kept.tended;
      count =
          let now = k.count in
          let more = inserted_count g.E.Invariant.holds p.roots p.seed p.words p.nodes before k.map
          c.args.previous node words c.link_of-next.result after some place
          c.link_of-next.ensures done.inside done.free done.collected in
          omega (arith, now, more);
      most =
          let now = k.count in
          let room = has_room c.self.inside.nodes (subst (λ (w : Watching Planned).
          IsAtCapacity w → ⊥) (sym c.self.view_is) c.requires.room) in
          omega (arith, now, room);
    })

pub returns-clause-put : goal.returns-clause-put
returns-clause-put g c =
    let words = c.args.words.now in
    let some = c.requires.keyed in
    let place = placed c.args.self.now c.self.inside.nodes (key_in words) (key_in words)
    c.args.previous None None c.requires.place c.self.view_is refl refl in
    let k = c.self.invariant in
    let p : Plan = c.self.inside.nodes.view.client.plan in
    let before : List Node = nodes_in c.self.inside.nodes.view.client.known in
    let after : List Node = nodes_in c.put.new.self.view.client.known in
    let done = c.in_ok-put.ensures in
    let node = c.in_ok-put.field-0 in
    subst (λ (w : Watching Planned). HasChanged (IsPutIn (buckets_in w) words false) w
    c.put.new.self)
    c.self.view_is
    (record {
      by = record {
        stored = put before c.args.previous node words c.link_of-next.result;
        one = by_put c.args.previous node words c.link_of-next.result place.live
            (free_node g.E.Invariant.holds p.roots p.seed p.words p.nodes before k.map node
            done.inside done.free)
            refl;
        state = done.state;
        led = done.led;
        collected = done.collected;
      };
      nodes = inserted g.E.Invariant.holds p.roots p.seed p.words p.nodes before k.map
          c.args.previous
          node words c.link_of-next.result after some place c.link_of-next.ensures done.inside
          done.free done.collected;
    })
