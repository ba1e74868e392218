use Rattle.std.proofs.Common.{◌∙◌, ap}
use Rattle.rcu_live.specs.Watcher.{after_number_step}
use Rattle.rcu_live.proofs.InPart.{watcher_looks}
use Rattle.rcu_live.proofs.Several.{allows_number}
use Rattle.rcu_live.proofs.in_part.load_number.Goals as goal

pub load_number-requires-clause-allowed : goal.load_number-requires-clause-allowed
load_number-requires-clause-allowed g c =
    allows_number _ _ _ _ _ _ _ (g.met.P.Within.is_part c.args.board.now.plan)
    g.met.P.Within.is_lens.got _ _ _ g.M.NumberStep.then c.requires.allowed

pub returns-clause-part : goal.returns-clause-part
returns-clause-part g c =
    let e = c.load_number.ensures in record {
      state = watcher_looks g.P.Within.lens g.met.P.Within.is_lens.got g.met.P.Within.is_lens.stays
          c.args.seat.now c.load_number.new.self c.load_number.result
          (e.state ∙ ap (after_number_step c.args.seat.now c.load_number.result) e.told.0);
      later = e.later;
      number = e.number;
      told = e.told.1;
    }

pub returns-clause-others : goal.returns-clause-others
returns-clause-others g c =
    let e = c.load_number.ensures in
    e.state ∙ ap (after_number_step c.args.seat.now c.load_number.result) e.told.0
