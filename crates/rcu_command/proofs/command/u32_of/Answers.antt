use Rattle.std.proofs.Common.{◌≡◌, List, ℕ, Option, subst, refl, lit<}
use Rattle.std.specs.Prelude.{option_and_then}
use Rattle.clap.specs.Words.{found_of}
use Rattle.clap.proofs.WalkLemmas.{one_text-rows}
use Rattle.rcu_command.specs.CommandLine.{u32_max}
use Rattle.rcu_command.proofs.GetterLemmas.{number_at_most, reads_number}
use Rattle.rcu_command.proofs.command.u32_of.Goals as goal

pub returns : goal.returns
returns c =
    subst (λ (t : Option (List ℕ)). c.get_one.result ≡ option_and_then (number_at_most u32_max) t)
    (one_text-rows (found_of c.args.matches.now) c.args.id.now)
    (reads_number 32 u32_max refl (lit< tt) _ c.get_one.result c.get_one.ensures.none
    c.get_one.ensures.value)
