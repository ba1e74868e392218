use Rattle.std.proofs.Common.{◌≡◌, ◌+◌, Some, sym, ap, subst, arith}
use Rattle.rcu_live.specs.CpuSeat.{Seated, after_word_step}
use Rattle.rcu_live.specs.InPart.{seat_part}
use Rattle.rcu_live.proofs.InPart.{seat_again, seat_same, seat_with}
use Rattle.rcu_graph.specs.declared.known.Planned.{Planned}
use Rattle.rcu_graph.specs.declared.plan.Plan.{Plan}
use Rattle.rcu_map.specs.Cursors.{HasListed}
use Rattle.rcu_map.specs.declared.cursor.Cursor.{Cursor}
use Rattle.rcu_map.proofs.Stepping.{begins, is_at_end, left_less, listed_entry, on_entry, passes_on}
use Rattle.rcu_map.proofs.Stepping.{step_held, went_on, went_over}
use Rattle.rcu_map.proofs.map.Map.next_entry.Goals as goal

pub buckets-init : goal.buckets-init
buckets-init g c = record {
  same = sym (ap (after_word_step c.args.seat.now)
      (g.met.P.Within.is_lens.as_it_is c.args.seat.now.view.client));
  may = c.requires;
  passing = begins c.args.self.now.plan.roots c.args.self.now.plan.seed
      (g.P.Within.lens.get c.args.seat.now.view.client).known c.args.start;
  left = omega arith;
}

pub entry_at-requires : goal.entry_at-requires
entry_at-requires g c =
    let up = c.if-at-gt0.true in (
      omega arith,
      on_entry g.E.Invariant.holds c.args.self.now (seat_part g.P.Within.lens c.buckets.seat)
          (seat_part g.P.Within.lens c.step-at.new.seat) c.buckets.at c.step-at.result
          c.step-at.ensures.stepped (omega (arith, up)),
    )

pub returns-then-at-gt0-clause-listed : goal.returns-then-at-gt0-clause-listed
returns-then-at-gt0-clause-listed g c =
    let lens = g.P.Within.lens in
    let begun = seat_part lens c.args.seat.now in
    let old = seat_part lens c.buckets.seat in
    let new = seat_part lens c.step-at.new.seat in
    let s = c.step-at.ensures.stepped in
    let i = c.buckets.invariant in
    let same = seat_with lens g.met.P.Within.is_lens.got g.met.P.Within.is_lens.stays
    c.args.seat.now c.buckets.seat i.same in
    let up = c.if-at-gt0.true in
    let held = step_held g.E.Invariant.holds c.args.self.now old new c.buckets.at c.step-at.result s
    (omega (arith, up)) in
    subst (λ (x : Seated Planned). HasListed g.E.Invariant.holds g.E.Value.decode g.E.Value.valid
    g.E.Entry.key_of c.args.self.now begun c.args.start x c.step-at.result
    (Some c.entry_at.result))
    (sym (ap (seat_part lens) c.entry_at.ensures.same))
    (listed_entry g.E.Invariant.holds c.args.self.now begun old new c.args.start c.buckets.at
    c.step-at.result s same i.may i.passing i.left g.E.Value.decode g.E.Value.valid
    g.E.Entry.key_of c.entry_at.result g.met.E.Entry.tells (omega (arith, up))
    (c.entry_at.ensures.told s.hop.words held (s.whole (omega (arith, up)))
    (went_on g.E.Invariant.holds c.args.self.now old new c.buckets.at c.step-at.result s
    (omega (arith, up))).key)
    c.entry_at.ensures.sound)

pub returns-then-at-gt0-clause-others : goal.returns-then-at-gt0-clause-others
returns-then-at-gt0-clause-others g c =
    let lens = g.P.Within.lens in
    seat_same lens c.args.seat.now c.step-at.new.seat c.entry_at.new.seat c.entry_at.ensures.same
    (seat_again lens g.met.P.Within.is_lens.again c.args.seat.now c.buckets.seat c.step-at.new.seat
    c.buckets.invariant.same c.step-at.ensures.others)

pub buckets-smaller : goal.buckets-smaller
buckets-smaller g c =
    let s = c.step-at.ensures.stepped in
    let not_up = c.if-at-gt0.false in
    let over = went_over g.E.Invariant.holds c.args.self.now
    (seat_part g.P.Within.lens c.buckets.seat) (seat_part g.P.Within.lens c.step-at.new.seat)
    c.buckets.at c.step-at.result s (omega (arith, not_up)) in
    let next : c.step-at.result.bucket ≡ c.buckets.at.bucket + 1 =
    ap (λ (at : Cursor). at.bucket) over.1 in
    let low = s.goes.inside in omega (arith, next, low)

pub buckets-preserved : goal.buckets-preserved
buckets-preserved g c =
    let lens = g.P.Within.lens in
    let begun = seat_part lens c.args.seat.now in
    let old = seat_part lens c.buckets.seat in
    let new = seat_part lens c.step-at.new.seat in
    let s = c.step-at.ensures.stepped in
    let i = c.buckets.invariant in
    let same = seat_with lens g.met.P.Within.is_lens.got g.met.P.Within.is_lens.stays
    c.args.seat.now c.buckets.seat i.same in
    let not_up = c.if-at-gt0.false in
    let none : c.step-at.result.key ≡ 0 = omega (arith, not_up) in
    record {
      same = seat_again lens g.met.P.Within.is_lens.again c.args.seat.now c.buckets.seat
          c.step-at.new.seat i.same c.step-at.ensures.others;
      may = s.may;
      passing = passes_on g.E.Invariant.holds c.args.self.now old new c.buckets.at c.step-at.result
          s begun.view.client.known c.args.start i.passing none;
      left = left_less g.E.Invariant.holds c.args.self.now begun old new c.args.start c.buckets.at
          c.step-at.result s same i.may i.passing i.left none;
    }

pub returns-clause-listed : goal.returns-clause-listed
returns-clause-listed g c =
    let lens = g.P.Within.lens in
    let i = c.buckets.invariant in
    let past = c.buckets-test.false in
    let within = i.may.within in
    let roots = ap (λ (p : Plan). p.roots) c.plan-buckets.ensures.plan in
    record {
      same = seat_with lens g.met.P.Within.is_lens.got g.met.P.Within.is_lens.stays
          c.args.seat.now c.buckets.seat i.same;
      may = i.may;
      went = is_at_end c.args.self.now.plan.roots c.args.self.now.plan.seed
          (lens.get c.args.seat.now.view.client).known (lens.get c.buckets.seat.view.client).known
          c.args.start c.buckets.at i.passing (omega (arith, past, within, roots));
      keyed = tt;
      sound = tt;
      nearer = tt;
    }

pub returns-clause-others : goal.returns-clause-others
returns-clause-others g c = c.buckets.invariant.same
