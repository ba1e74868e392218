-- The command line, as a simple command of `clap`.
use Rattle.std.specs.Prelude.{◌≡◌, ◌≤◌, ℕ, true, List, [], ◌∷◌, Option, Some, None, codes, pos}
use Rattle.std.specs.Prelude.{option_and_then, if◌then◌else◌}
use Rattle.std.specs.Str.Parse.{digits_value, without_leading_plus}
use Rattle.clap.specs.ValueTests.{is_unsigned_in}
use Rattle.clap.specs.Simple.{on_top}
use Rattle.clap.specs.Words.{App, Row, Rule, Text, new_app, new_rule, one_of, with_rule}
use Rattle.clap.specs.Words.{with_subcommand}
use Rattle.clap.specs.declared.builder.value_parser.ValueParser.{ValueParser}
use Rattle.clap.specs.declared.builder.value_parser.ValueParser.TheVariants as vp
use Rattle.rcu_command.specs.declared.command.Order.{Order}
use Rattle.rcu_command.specs.declared.command.Order.TheVariants.{Script, Pair, Torture}
use Rattle.rcu_stress.specs.Ledger.{most_rounds, most_workers}
use Rattle.rcu_script.specs.declared.runs.Setup.{Setup}

-- ---- the options

-- the greatest number of 32 bits
abbrev pub u32_max : ℕ
u32_max = 4294967295

-- the greatest number of 64 bits
abbrev pub u64_max : ℕ
u64_max = 18446744073709551615

-- the option `--name`
abbrev pub option_rule : Text → Rule
option_rule name = record (new_rule name) { long = Some name }

-- numbers of 32 bits, those from 1 to the greatest one, and numbers of 64 bits
abbrev pub any_u32 : ValueParser
any_u32 = vp.Signed (pos 0) (pos u32_max)

abbrev pub u32_from_1_to : ℕ → ValueParser
u32_from_1_to most = vp.Signed (pos 1) (pos most)

abbrev pub any_u64 : ValueParser
any_u64 = vp.Unsigned 0 u64_max

-- an option `--name` whose value is a number that this parser takes
abbrev pub number_rule : Text → ValueParser → Rule
number_rule name parser = record (option_rule name) { parser = Some parser }

-- an option that must be there
abbrev pub required_rule : Rule → Rule
required_rule rule = record rule { required = true }

-- the option `--last`, which may be left out
abbrev pub last_rule : Rule
last_rule = record (number_rule (codes "last") any_u64) {
  defaults = codes "4611686018427387904" ∷ [];
}

-- ---- the commands

-- `script`: the shape of the tree, the number of processors and the last number
abbrev pub script : App
script = with_rule (with_rule (with_rule (with_rule (new_app (codes "script"))
    (required_rule (number_rule (codes "leaf") any_u32)))
    (required_rule (number_rule (codes "inner") any_u32)))
    (required_rule (number_rule (codes "cpus") any_u32)))
    last_rule

-- `pair`: the shapes of both trees, the number of processors and the last number
abbrev pub pair : App
pair = with_rule (with_rule (with_rule (with_rule (with_rule (with_rule (new_app (codes "pair"))
    (required_rule (number_rule (codes "leaf") any_u32)))
    (required_rule (number_rule (codes "inner") any_u32)))
    (required_rule (number_rule (codes "leaf2") any_u32)))
    (required_rule (number_rule (codes "inner2") any_u32)))
    (required_rule (number_rule (codes "cpus") any_u32)))
    last_rule

-- `torture`: the number of workers, that of rounds, and the seed
abbrev pub torture : App
torture = with_rule (with_rule (with_rule (new_app (codes "torture"))
    (required_rule (number_rule (codes "workers") (u32_from_1_to most_workers))))
    (required_rule (number_rule (codes "rounds") (u32_from_1_to most_rounds))))
    (required_rule (number_rule (codes "seed") any_u64))

-- `rcu` with its subcommands: its words come without the program's name, one of them has to name a
-- subcommand, `help` is no subcommand, and it has a version
abbrev pub rcu : App
rcu = with_subcommand (with_subcommand (with_subcommand (on_top (λ top. record top {
  no_binary_name = true;
  subcommand_required = true;
  disable_help_subcommand = true;
  has_version = true;
}) (new_app (codes "rcu"))) script.top) pair.top) torture.top

-- ---- the orders of the matches

-- the number that an option has among the matches, if it has a numeral of at most `most`
abbrev pub number_up_to : ℕ → List Row → Text → Option ℕ
number_up_to most rows name = option_and_then
    (λ text.
    if is_unsigned_in 0 most text then Some (digits_value 10 (without_leading_plus text)) else None)
    (one_of name rows)

-- the setup has the numbers of the options; those of the second replica's tree have these names
pub record IsSetupOf (second_leaf second_inner : Text) (rows : List Row)
    (setup : Setup) : Type 0 where
  pub leaf : number_up_to u32_max rows (codes "leaf") ≡ Some setup.leaf
  pub inner : number_up_to u32_max rows (codes "inner") ≡ Some setup.inner
  pub leaf2 : number_up_to u32_max rows second_leaf ≡ Some setup.leaf2
  pub inner2 : number_up_to u32_max rows second_inner ≡ Some setup.inner2
  pub cpus : number_up_to u32_max rows (codes "cpus") ≡ Some setup.cpus
  pub last : number_up_to u64_max rows (codes "last") ≡ Some setup.last

-- a torture run has the numbers of the options
pub record IsTortureOf (rows : List Row) (workers rounds seed : ℕ) : Type 0 where
  pub of_workers : number_up_to u32_max rows (codes "workers") ≡ Some workers
  pub of_rounds : number_up_to u32_max rows (codes "rounds") ≡ Some rounds
  pub of_seed : number_up_to u64_max rows (codes "seed") ≡ Some seed

-- the order is that of the subcommand of this name with its matches: the second replica of a script
-- is as the first
abbrev pub IsOrder : Text → List Row → Order → Type 0
IsOrder name rows (Script setup) =
    (name ≡ codes "script") × IsSetupOf (codes "leaf") (codes "inner") rows setup
IsOrder name rows (Pair setup) =
    (name ≡ codes "pair") × IsSetupOf (codes "leaf2") (codes "inner2") rows setup
IsOrder name rows (Torture workers rounds seed) =
    (name ≡ codes "torture") × IsTortureOf rows workers rounds seed

-- the order is that of the subcommand, if there is one
abbrev pub IsOrderOf : Option (Text × List Row) → Order → Type 0
IsOrderOf None order = ⊥
IsOrderOf (Some met) order = IsOrder met.0 met.1 order

-- no setup has the numbers of the options
abbrev pub HasNoSetup : Text → Text → List Row → Type 0
HasNoSetup second_leaf second_inner rows =
    (setup : Setup) → ¬ (IsSetupOf second_leaf second_inner rows setup)

-- the subcommand gives no order
abbrev pub HasNoOrder : Option (Text × List Row) → Type 0
HasNoOrder met = (order : Order) → ¬ (IsOrderOf met order)

-- a torture run has one worker to 64, and one round to 10,000
abbrev pub IsWithinLimits : Order → Type 0
IsWithinLimits (Script setup) = Unit {0}
IsWithinLimits (Pair setup) = Unit {0}
IsWithinLimits (Torture workers rounds seed) =
    ((1 ≤ workers) × (workers ≤ most_workers)) × ((1 ≤ rounds) × (rounds ≤ most_rounds))
