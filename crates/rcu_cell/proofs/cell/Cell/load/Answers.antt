use Rattle.std.proofs.Common.{◌∙◌, ℕ, arith, inl, refl, subst, sym}
use Rattle.rcu_live.specs.Board.{Object}
use Rattle.rcu_live.specs.InPart.{seat_part}
use Rattle.rcu_graph.specs.Graph.{IsWalking, word_to}
use Rattle.rcu_graph.specs.declared.plan.Plan.{Plan}
use Rattle.rcu_cell.specs.Cell.{IsLoaded, ReadsSlot}
use Rattle.rcu_cell.proofs.Loads.{loaded, reads_slot, slot_told}
use Rattle.rcu_cell.proofs.cell.Cell.load.Goals as goal

pub follow-requires-clause-at : goal.follow-requires-clause-at
follow-requires-clause-at g c =
    let root = c.self.invariant.root in
    let inside = c.kept.ensures.roots in
    record {
      walking = subst (λ (o : Object Plan). IsWalking o (seat_part g.P.Within.lens c.args.seat.now))
          (sym c.self.view_is)
          c.requires;
      words = g.F.Version.first;
      on = inl (omega (arith, root), refl);
      inside = omega (arith, root, inside);
    }

pub returns-clause-loaded : goal.returns-clause-loaded
returns-clause-loaded g c =
    let k = c.self.invariant in
    let root = k.root in
    let p : Plan = c.self.inside.graph.plan in
    let f = c.follow.ensures.came g.F.Version.first (inl (omega (arith, root), refl)) in
    subst (λ (n : ℕ). IsLoaded g.F.Invariant.holds g.F.Version.first n
    (g.P.Within.lens.get c.args.seat.now.view.client).known c.unwrap_or.result
    (g.P.Within.lens.get c.follow.new.seat.view.client).known)
    k.words
    (subst (λ (slot : ℕ). IsLoaded g.F.Invariant.holds g.F.Version.first p.words
    (g.P.Within.lens.get c.args.seat.now.view.client).known slot
    (g.P.Within.lens.get c.follow.new.seat.view.client).known)
    (sym (c.unwrap_or.ensures ∙ slot_told c.follow.result))
    (loaded g.F.Invariant.holds (λ _. Unit {0}) g.F.Version.first p.words p.nodes
    (k.sized ∙ sym k.words) k.whole (g.P.Within.lens.get c.args.seat.now.view.client).known
    (g.P.Within.lens.get c.follow.new.seat.view.client).known (word_to c.follow.result) f))

pub returns-clause-reads : goal.returns-clause-reads
returns-clause-reads g c =
    let k = c.self.invariant in
    let root = k.root in
    let inside = c.kept.ensures.roots in
    let p : Plan = c.self.inside.graph.plan in
    let f = c.follow.ensures.came g.F.Version.first (inl (omega (arith, root), refl)) in
    subst (λ (o : Object Plan). ReadsSlot o (seat_part g.P.Within.lens c.follow.new.seat)
    c.unwrap_or.result) c.self.view_is
    (subst (λ (slot : ℕ). ReadsSlot c.self.inside.graph
    (seat_part g.P.Within.lens c.follow.new.seat) slot)
    (sym (c.unwrap_or.ensures ∙ slot_told c.follow.result))
    (reads_slot g.F.Invariant.holds (λ _. Unit {0}) g.F.Version.first p.words p.nodes
    (k.sized ∙ sym k.words) k.whole (g.P.Within.lens.get c.args.seat.now.view.client).known
    (g.P.Within.lens.get c.follow.new.seat.view.client).known c.self.inside.graph
    (seat_part g.P.Within.lens c.follow.new.seat)
    (word_to c.follow.result) f refl c.follow.ensures.walking (omega (arith, root, inside)) refl
    refl))
