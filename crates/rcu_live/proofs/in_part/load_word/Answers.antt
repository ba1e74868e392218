use Rattle.std.proofs.Common.{◌∙◌, ap}
use Rattle.rcu_live.specs.CpuSeat as cpu_seat
use Rattle.rcu_live.specs.SeveralLaws.{begins_behind}
use Rattle.rcu_live.proofs.InPart.{seat_knows}
use Rattle.rcu_live.proofs.Several.{allows_at, told_word}
use Rattle.rcu_live.proofs.in_part.load_word.Goals as goal

pub load_at-requires-clause-allowed : goal.load_at-requires-clause-allowed
load_at-requires-clause-allowed g c =
    let plan = c.args.board.now.plan in
    let base = c.args.board.now.base in
    allows_at _ _ _ _ _ _ _ (g.met.P.Within.is_part plan) g.met.P.Within.is_lens.got _ _ _
    c.args.spot.word base (g.P.Within.begins base plan) _ (λ n. n) (λ n. n)
    g.M.WordStep.then
    (begins_behind g.P.Within.lens _ _ _ _ g.met.P.Within.is_lens
    (λ base. g.P.Within.begins base plan) _ (g.met.P.Within.is_first plan).1 base)
    c.index_of-index.ensures.index c.requires.own c.requires.allowed

pub returns-clause-part : goal.returns-clause-part
returns-clause-part g c =
    let word = c.args.spot.word in
    let told = told_word g.P.Within.lens g.met.P.Within.is_lens.behind g.M.WordStep.then _
    c.load_at.result _ _ _ c.index_of-index.result word c.requires.seat.1
    c.index_of-index.ensures.index
    c.load_at.ensures.told in
    seat_knows g.P.Within.lens g.met.P.Within.is_lens.got g.met.P.Within.is_lens.stays _ _ _
    record { state = c.load_at.ensures.state; told = told }

pub returns-clause-others : goal.returns-clause-others
returns-clause-others g c =
    let word = c.args.spot.word in
    let told = told_word g.P.Within.lens g.met.P.Within.is_lens.behind g.M.WordStep.then _
    c.load_at.result _ _ _ c.index_of-index.result word c.requires.seat.1
    c.index_of-index.ensures.index
    c.load_at.ensures.told in
    c.load_at.ensures.state ∙ ap (cpu_seat.after_word_step c.args.seat.now) told.0
