use Rattle.std.proofs.Common.{codes}
use Rattle.std.proofs.lemmas.Result.{err_from_is_err_and}
use Rattle.rcu_text.proofs.CallerLemmas.{stops_before_text}
use Rattle.rcu_script.proofs.SentLemmas.{number_and_text}
use Rattle.rcu_script.specs.ScriptTexts.{epoch_text}
use Rattle.rcu_script.proofs.script.print.put_cookie.Goals as goal

pub returns-in_err-make_room : goal.returns-in_err-make_room
returns-in_err-make_room g c =
    let p = err_from_is_err_and c.from_residual.result c.from_residual.ensures.1 in
    rw (p.1) (stops_before_text _ _ _ c.in_err-make_room.ensures.bytes)

pub returns : goal.returns
returns g c =
    number_and_text _ _ _ _ (codes "cookie ") c.args.cookie.number (epoch_text c.args.cookie.epoch)
    c.in_ok-make_room.ensures.bytes c.push_numbered.ensures.puts c.push_epoch.ensures
