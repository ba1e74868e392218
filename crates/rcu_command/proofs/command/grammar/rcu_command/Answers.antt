use Rattle.std.proofs.Common.{◌≡◌, codes, rules, true}
use Rattle.clap.specs.Simple.{on_top}
use Rattle.clap.specs.Words.{app_of, new_app}
use Rattle.rcu_command.proofs.GrammarLemmas.{with_below, with_last_below}
use Rattle.rcu_command.proofs.command.grammar.rcu_command.Goals as goal

pub returns : goal.returns
returns c =
    let alone : app_of c.in_ok-bin_name.field-0 ≡ on_top (λ top. record top {
      no_binary_name = true;
      subcommand_required = true;
      disable_help_subcommand = true;
      has_version = true;
    }) (new_app (codes "rcu")) = search rules in
    let script = c.in_ok-script_command.ensures in
    let pair = c.in_ok-pair_command.ensures in
    let torture = c.in_ok-torture_command.ensures in
    let first = with_below _ _ _ _ _ c.in_ok-subcommand.ensures alone script.app script.local in
    let second = with_below _ _ _ _ _ c.in_ok-subcommand-2.ensures first pair.app pair.local in
    with_last_below _ _ _ _ _ c.subcommand-3.ensures second torture.app torture.local
