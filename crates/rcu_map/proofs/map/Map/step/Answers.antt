use Rattle.std.proofs.Common.{◌+◌, ◌∙◌, ◌<◌, ◌≤◌, ap, sym, subst, arith}
use Rattle.rcu_live.specs.Board.{Object}
use Rattle.rcu_live.specs.CpuSeat.{Seated}
use Rattle.rcu_live.specs.InPart.{seat_part}
use Rattle.rcu_live.proofs.InPart.{seat_same, seat_with}
use Rattle.rcu_graph.specs.Opening.{layout_of}
use Rattle.rcu_graph.specs.declared.known.Planned.{Planned}
use Rattle.rcu_graph.specs.declared.plan.Plan.{Plan}
use Rattle.rcu_map.specs.Cursors.{HasStepped, MayGoOn}
use Rattle.rcu_map.specs.Listing.{at_root}
use Rattle.rcu_map.specs.declared.cursor.Cursor.{Cursor}
use Rattle.rcu_map.proofs.Stepping.{on_words, stepped_on, stepped_over}
use Rattle.rcu_map.proofs.map.Map.step.Goals as goal

pub follow-requires : goal.follow-requires
follow-requires g c =
    let seat = seat_part g.P.Within.lens c.args.seat.now in
    let back = sym c.self.view_is in
    let may = subst (λ (map : Object Plan). MayGoOn map seat c.args.at) back c.requires.may in
    let inside = subst (λ (map : Object Plan). c.args.at.bucket < map.plan.roots) back
    c.requires.inside in
    let p : Plan = c.self.inside.graph.plan in
    let o = on_words p.nodes p.roots p.seed p.words seat.view.client.known c.args.at
    (let wide = c.self.invariant.wide in omega (arith, wide)) inside
    (may.on inside) in
    record {
      layout = c.layout.ensures ∙ ap layout_of back;
      at = record {
        walking = may.walking;
        words = o.words;
        on = o.on;
        inside = (may.on inside).inside;
      };
      link = let one = c.self.invariant.one in omega (arith, one);
    }

pub returns-in_default-clause-stepped : goal.returns-in_default-clause-stepped
returns-in_default-clause-stepped g c =
    let lens = g.P.Within.lens in
    let seat = seat_part lens c.args.seat.now in
    let new = seat_part lens c.follow.new.seat in
    let back = sym c.self.view_is in
    let may = subst (λ (map : Object Plan). MayGoOn map seat c.args.at) back c.requires.may in
    let inside = subst (λ (map : Object Plan). c.args.at.bucket < map.plan.roots) back
    c.requires.inside in
    let p : Plan = c.self.inside.graph.plan in
    let o = on_words p.nodes p.roots p.seed p.words seat.view.client.known c.args.at
    (let wide = c.self.invariant.wide in omega (arith, wide)) inside
    (may.on inside) in
    let e = c.in_default.ensures in
    let same = seat_with lens g.met.P.Within.is_lens.got g.met.P.Within.is_lens.stays
    c.args.seat.now c.follow.new.seat e.same in
    subst (λ (at : Cursor). HasStepped g.E.Invariant.holds c.args.self.now seat c.args.at new at)
    (sym c.at_root.ensures)
    (subst (λ (map : Object Plan). HasStepped g.E.Invariant.holds map seat c.args.at new
    (at_root (c.args.at.bucket + 1)))
    c.self.view_is
    (stepped_over g.E.Invariant.holds c.self.inside.graph seat new c.args.at inside o same e.walking
    (subst (λ (map : Object Plan). map.plan.roots ≤ map.plan.nodes) back c.kept.ensures.roots)
    (e.came o.words o.on)))

pub returns-clause-stepped : goal.returns-clause-stepped
returns-clause-stepped g c =
    let lens = g.P.Within.lens in
    let seat = seat_part lens c.args.seat.now in
    let new = seat_part lens c.follow.new.seat in
    let back = sym c.self.view_is in
    let may = subst (λ (map : Object Plan). MayGoOn map seat c.args.at) back c.requires.may in
    let inside = subst (λ (map : Object Plan). c.args.at.bucket < map.plan.roots) back
    c.requires.inside in
    let p : Plan = c.self.inside.graph.plan in
    let o = on_words p.nodes p.roots p.seed p.words seat.view.client.known c.args.at
    (let wide = c.self.invariant.wide in omega (arith, wide)) inside
    (may.on inside) in
    let e = c.in-Some.ensures in
    let same = seat_with lens g.met.P.Within.is_lens.got g.met.P.Within.is_lens.stays
    c.args.seat.now c.follow.new.seat e.same in
    let at : Cursor =
    record { bucket = c.args.at.bucket; node = c.in-Some.node; key = c.read-key.result } in
    subst (λ (s : Seated Planned). HasStepped g.E.Invariant.holds c.args.self.now seat c.args.at s
    at)
    (sym (ap (seat_part lens) c.read-key.ensures.same))
    (subst (λ (map : Object Plan). HasStepped g.E.Invariant.holds map seat c.args.at new at)
    c.self.view_is
    (stepped_on g.E.Invariant.holds c.self.inside.graph seat new c.args.at inside o same e.walking
    c.in-Some.node c.read-key.result (e.came o.words o.on)
    c.read-key.ensures.told (let fits = c.read-key.type_inv in omega (arith, fits))))

pub returns-clause-others : goal.returns-clause-others
returns-clause-others g c =
    seat_same g.P.Within.lens c.args.seat.now c.follow.new.seat c.read-key.new.seat
    c.read-key.ensures.same c.in-Some.ensures.same
