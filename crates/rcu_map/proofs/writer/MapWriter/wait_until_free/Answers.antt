use Rattle.std.proofs.Common.{OnErr, OnOk, subst}
use Rattle.rcu_live.specs.Watcher.{Watching}
use Rattle.rcu_graph.specs.declared.known.Planned.{Planned}
use Rattle.rcu_graph.proofs.Looks.{looked_by, reclaimed_nodes, reclaimed_plan}
use Rattle.rcu_map.specs.Chains.{buckets_in}
use Rattle.rcu_map.specs.Waits.{HasGivenUp, HasMadeRoom}
use Rattle.rcu_map.proofs.Reclaims.{kept_reclaimed}
use Rattle.rcu_map.proofs.Looks.{gave_up, made_room}
use Rattle.rcu_map.proofs.writer.MapWriter.wait_until_free.Goals as goal

pub invariant_of-self : goal.invariant_of-self
invariant_of-self g c =
    let w = c.wait_until_free-waited in
    let reclaimed = looked_by c.args.seat.now w.new.seat c.self.inside.nodes w.new.self w.result
    w.ensures.waited w.ensures.given_up in
    kept_reclaimed g.E.Invariant.holds _ c.self.inside.nodes w.new.self
    (reclaimed_plan c.self.inside.nodes w.new.self reclaimed)
    (reclaimed_nodes c.self.inside.nodes w.new.self reclaimed) c.kept.ensures.few
    c.kept.ensures.tended
    c.self.inside.len c.self.invariant

pub returns-clause-waited : goal.returns-clause-waited
returns-clause-waited g c =
    let w = c.wait_until_free-waited in
    subst (λ (k : Watching Planned). OnOk w.result
    (HasMadeRoom (buckets_in k) c.args.seat.now w.new.seat k w.new.self))
    c.self.view_is
    (made_room c.args.seat.now w.new.seat c.self.inside.nodes w.new.self w.result w.ensures.waited)

pub returns-clause-given_up : goal.returns-clause-given_up
returns-clause-given_up g c =
    let w = c.wait_until_free-waited in
    subst (λ (k : Watching Planned). OnErr w.result
    (HasGivenUp (buckets_in k) c.args.seat.now w.new.seat k w.new.self))
    c.self.view_is
    (gave_up c.args.seat.now w.new.seat c.self.inside.nodes w.new.self w.result w.ensures.given_up)
