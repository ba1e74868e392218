use Rattle.std.proofs.Common.{rules, codes}
use Rattle.clap.specs.Words.{found_of, rows_of}
use Rattle.rcu_command.specs.CommandLine.{HasNoSetup}
use Rattle.rcu_command.proofs.CommandLemmas.{no_pair, no_script}
use Rattle.rcu_command.proofs.command.order_of.Goals as goal

pub returns-in_err-setup_of-in-script : goal.returns-in_err-setup_of-in-script
returns-in_err-setup_of-in-script c =
    let none : HasNoSetup (codes "leaf") (codes "inner")
    (rows_of (found_of c.in_ok-name.found.now)) = search rules in
    let no = no_script c.in_ok-name.name.now (rows_of (found_of c.in_ok-name.found.now))
    c.in-script.is none in
    search rules

pub returns-in_err-setup_of-in-pair : goal.returns-in_err-setup_of-in-pair
returns-in_err-setup_of-in-pair c =
    let none : HasNoSetup (codes "leaf2") (codes "inner2")
    (rows_of (found_of c.in_ok-name.found.now)) = search rules in
    let no =
    no_pair c.in_ok-name.name.now (rows_of (found_of c.in_ok-name.found.now)) c.in-pair.is none in
    search rules
