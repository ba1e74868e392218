use Rattle.std.proofs.Common.{◌∙◌, ◌++◌, ℕ, List, ap, arith, subst, sym}
use Rattle.atomic_table.specs.Table.{opening}
use Rattle.rcu_live.specs.Asking.{IsMoment}
use Rattle.rcu_live.specs.View.{engine_seat}
use Rattle.rcu_live.proofs.Moments.{begins}
use Rattle.rcu_live.proofs.Openings.{room_at_first}
use Rattle.rcu_live.proofs.board.Board.open.Goals as goal

pub new-requires : goal.new-requires
new-requires g c =
    let added = c.in_ok-add_words.ensures in
    let none = c.new-none.result.items in
    let words =
    c.as_slice.ensures.value ∙ added.added
    ∙ ap (λ (front : List ℕ). front ++ added.own) c.in_ok-words.ensures in
    subst (λ (words : List ℕ). IsMoment (g.P.Client.holds c.args.plan) c.args.cpus
    (opening words none (engine_seat c.args.cpus 0 (g.P.Client.first c.args.plan))))
    (sym words)
    (begins (g.P.Client.holds c.args.plan) c.args.cpus added.own none
    (g.P.Client.first c.args.plan) c.requires.cpus.some added.kept)

pub invariant_of-result : goal.invariant_of-result
invariant_of-result g c =
    let added = c.in_ok-add_words.ensures in
    let words =
    c.as_slice.ensures.value ∙ added.added
    ∙ ap (λ (front : List ℕ). front ++ added.own) c.in_ok-words.ensures in
    let room = room_at_first c.args.cpus added.own c.as_slice.result.now words in
    let v = c.add_words.new.words in record {
      key = ap (λ (k : ℕ × g.row.P-Plan.Denot). k.0) c.in-Ok.ensures.ok.5;
      room = omega (arith, room, c.in-Ok.ensures.ok.0);
      long = omega (arith, v.ok.0, v.ok.1, v.small, c.as_slice.ensures.len, c.in-Ok.ensures.ok.0);
      some = c.requires.cpus.some;
      few = c.requires.cpus.few;
    }
