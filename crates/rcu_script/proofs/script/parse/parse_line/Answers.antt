use Rattle.std.proofs.Common.{◌≤◌, length, arith}
use Rattle.rcu_text.specs.Words.{words_of}
use Rattle.rcu_script.proofs.ParseLemmas.{asks, blank}
use Rattle.rcu_script.proofs.script.parse.parse_line.Goals as goal

pub returns-in-None : goal.returns-in-None
returns-in-None c =
    let short : length c.args.line.now ≤ 80 = omega arith in
    blank c.args.line.now short c.in-None.ensures.none

pub returns-in-Some-parse_event : goal.returns-in-Some-parse_event
returns-in-Some-parse_event c =
    let short : length c.args.line.now ≤ 80 = omega arith in
    asks c.args.line.now c.in-Some.name.now (words_of c.in-Some.rest.now)
    c.in-Some-parse_event.event short c.in-Some.ensures.some c.in-Some-parse_event.ensures
