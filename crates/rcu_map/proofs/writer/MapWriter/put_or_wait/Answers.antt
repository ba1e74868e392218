use Rattle.std.proofs.Common.{◌∙◌, ℕ, Err, ap, subst, sym}
use Rattle.std.specs.Prelude.{is_some}
use Rattle.std.proofs.lemmas.Result.{err_from_is_err_and}
use Rattle.rcu_live.specs.Watcher.{Watching}
use Rattle.rcu_live.proofs.WaitLemmas.{rested_none}
use Rattle.rcu_graph.specs.Nodes.{nodes_in}
use Rattle.rcu_graph.specs.declared.known.Planned.{Planned}
use Rattle.rcu_graph.specs.declared.plan.Plan.{Plan}
use Rattle.rcu_map.specs.Chains.{buckets_in}
use Rattle.rcu_map.specs.Puts.{HasPutIn, Holds, is_put}
use Rattle.rcu_map.specs.Room.{IsOneTooMany, LacksRoom}
use Rattle.rcu_map.specs.Waits.{HasMadeRoom}
use Rattle.rcu_map.specs.declared.put.NotPut.{NotPut}
use Rattle.rcu_map.proofs.Looks.{same_err, why_full}
use Rattle.rcu_map.proofs.Rooms.{is_none_free, room_stays}
use Rattle.rcu_graph.proofs.Looks.{reclaimed_plan}
use Rattle.rcu_map.proofs.Waits.{put_at_once, put_later, same_holder, wanted_is_put, when_full}
use Rattle.rcu_map.proofs.Waits.{when_told}
use Rattle.rcu_map.proofs.writer.MapWriter.put_or_wait.Goals as goal

pub returns-in-Ok-clause-rested : goal.returns-in-Ok-clause-rested
returns-in-Ok-clause-rested g c = rested_none c.args.seat.now

pub returns-in-Ok-clause-put : goal.returns-in-Ok-clause-put
returns-in-Ok-clause-put g c =
    let told = when_told _ _ _ _ _ _ _ _ _ c.put.ensures c.in-Ok.old c.in-Ok.is in
    record {
      had = told.0;
      put = put_at_once (buckets_in c.args.self.now) (g.E.Value.in_words c.args.entry)
          (is_some c.in-Ok.old) c.args.seat.now c.args.self.now c.put.new.self
          c.in_ok-check_outside.ensures _ told.1;
    }

pub returns-in_err-wait_for_room-clause-full : goal.returns-in_err-wait_for_room-clause-full
returns-in_err-wait_for_room-clause-full g c =
    let p = err_from_is_err_and c.from_residual-in_err-wait_for_room.result
    c.from_residual-in_err-wait_for_room.ensures.1 in
    let none = when_full _ _ _ _ _ _ _ _ _ c.put.ensures c.in_default.field-0
    c.in_default.is in
    let told = why_full c.key.result c.args.seat.now c.wait_for_room.new.seat c.put.new.self
    c.in_err-wait_for_room.field-0.0 c.wait_for_room.new.self
    c.in_err-wait_for_room.ensures.end in (
      λ e. (
        c.in_ok-check_outside.ensures,
        none.0,
        subst (λ (key : ℕ). IsOneTooMany c.args.self.now key) c.key.ensures
            (subst (λ (w : Watching Planned). IsOneTooMany w c.key.result) none.2
            (told.0 (sym p.2 ∙ same_err p.0 _ (sym p.1 ∙ e)))),
      ),
      λ h.
          p.1
          ∙ ap (λ (why : NotPut). Err why)
          (p.2
          ∙ told.1
          (subst (λ (w : Watching Planned). IsOneTooMany w c.key.result) (sym none.2)
          (subst (λ (key : ℕ). IsOneTooMany c.args.self.now key) (sym c.key.ensures) h.2))),
    )

pub returns-clause-put : goal.returns-clause-put
returns-clause-put g c =
    let none = when_full _ _ _ _ _ _ _ _ _ c.put.ensures c.in_default.field-0
    c.in_default.is in
    let room : HasMadeRoom (buckets_in c.args.self.now) c.args.seat.now c.wait_for_room.new.seat
    c.args.self.now c.wait_for_room.new.self =
    subst (λ (w : Watching Planned). HasMadeRoom (buckets_in w) c.args.seat.now
    c.wait_for_room.new.seat w c.wait_for_room.new.self)
    none.2 c.in_ok-wait_for_room.ensures.end.1 in
    let planned = reclaimed_plan c.args.self.now c.wait_for_room.new.self
    room.made.looked in
    let told = subst (λ (b : ℕ). Holds g.E.Value.decode g.E.Value.valid g.E.Entry.key_of b
    (nodes_in c.wait_for_room.new.self.view.client.known) (g.E.Entry.key_of c.args.entry)
    c.in-Ok-put.old
    × HasPutIn b (g.E.Value.in_words c.args.entry) (is_some c.in-Ok-put.old)
    (is_put c.args.how (is_some c.in-Ok-put.old)) c.wait_for_room.new.self c.put-2.new.self)
    (ap (λ (p : Plan). p.roots) planned)
    (when_told _ _ _ _ _ _ _ _ _ c.put-2.ensures c.in-Ok-put.old c.in-Ok-put.is) in
    let full = is_none_free c.args.self.now c.key.result
    (subst (λ (w : Watching Planned). IsOneTooMany w c.key.result → ⊥) none.2
    c.in_ok-wait_for_room.ensures.end.0)
    (subst (λ (key : ℕ). LacksRoom c.args.self.now key) (sym c.key.ensures) none.1) in
    let puts = wanted_is_put _ _ _ _ _ _ _ c.in-Ok-put.old none.0
    (same_holder _ _ _ _ _ _ _ _ room.entries told.0) in
    record {
      had = same_holder _ _ _ _ _ _ _ _ room.entries told.0;
      put = put_later (buckets_in c.args.self.now) (g.E.Value.in_words c.args.entry)
          (is_some c.in-Ok-put.old) c.args.seat.now c.args.self.now c.put-2.new.self
          c.in_ok-check_outside.ensures c.wait_for_room.new.seat c.wait_for_room.new.self full room
          _ puts told.1;
    }

pub returns-clause-full : goal.returns-clause-full
returns-clause-full g c =
    let none = when_full _ _ _ _ _ _ _ _ _ c.put.ensures c.in_default.field-0
    c.in_default.is in (
      λ e. absurd (cc),
      λ h. absurd (c.in_ok-wait_for_room.ensures.end.0
          (subst (λ (w : Watching Planned). IsOneTooMany w c.key.result) (sym none.2)
          (subst (λ (key : ℕ). IsOneTooMany c.args.self.now key) (sym c.key.ensures) h.2))),
    )

pub unreachable-requires : goal.unreachable-requires
unreachable-requires g c =
    let again = when_full _ _ _ _ _ _ _ _ _ c.put-2.ensures c.in_default-put.field-0
    c.in_default-put.is in
    let end = c.in_ok-wait_for_room.ensures.end in
    room_stays c.args.seat.now c.wait_for_room.new.seat c.put.new.self c.wait_for_room.new.self
    c.key.result end.0 end.1
    (subst (λ (key : ℕ). LacksRoom c.wait_for_room.new.self key) (sym c.key.ensures) again.1)
