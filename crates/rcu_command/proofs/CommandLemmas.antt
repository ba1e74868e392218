-- The orders of the command line.
use Rattle.std.proofs.Common.{◌≡◌, ◌≤◌, Bool, true, false, List, [], ◌∷◌, Option, Some, None}
use Rattle.std.proofs.Common.{IsSome, MatchOption, codes, arith, is_some, refl, sym, ◌∙◌, subst}
use Rattle.std.proofs.Common.{if◌then◌else◌}
use Rattle.std.specs.Prelude.{ℕ, option_map}
use Rattle.std.specs.Option.{option_map_or}
use Rattle.clap.specs.Walk.{answers_to, nothing_held, one_of, rows_after, settled, walk, walk_from}
use Rattle.clap.specs.Walk.{finished}
use Rattle.clap.specs.Simple.{built, entered, names_of, rows_at}
use Rattle.clap.specs.Faults.{check_fault, defaults_fault, entered_fault, level_fault, settle_fault}
use Rattle.clap.specs.Faults.{walk_fault}
use Rattle.clap.specs.Words.{App, HasMatchesOf, Row, Text, fault_of, is_simple, is_simple_and_free}
use Rattle.clap.specs.Words.{subcommand_of, subcommand_rows_of}
use Rattle.clap.specs.declared.error.kind.ErrorKind.TheVariants.{MissingSubcommand}
use Rattle.clap.specs.declared.parser.matches.ArgMatches.{ArgMatches}
use Rattle.rcu_command.specs.CommandLine.{HasNoOrder, HasNoSetup, IsOrderOf, IsTortureOf}
use Rattle.rcu_command.specs.CommandLine.{IsWithinLimits, number_up_to, rcu, u32_max, u64_max}
use Rattle.rcu_stress.specs.Ledger.{most_rounds, most_workers}
use Rattle.rcu_command.specs.declared.command.Order.{Order}
use Rattle.rcu_command.specs.declared.command.Order.TheVariants.{Script, Pair, Torture}
use Rattle.rcu_command.proofs.SubcommandLemmas.{HasNumbers, HasTortureNumbers, built_pair}
use Rattle.rcu_command.proofs.SubcommandLemmas.{built_script, built_torture, pair_numbers}
use Rattle.rcu_command.proofs.SubcommandLemmas.{script_numbers, torture_numbers}
use Rattle.rcu_command.proofs.GetterLemmas.{lies_within, widened}
use Rattle.rcu_command.proofs.WalkLemmas.{first_none, next_none}

-- matches of `script` that make no setup give no order
pub no_script : (name : Text) (rows : List Row) → name ≡ codes "script"
    → HasNoSetup (codes "leaf") (codes "inner") rows → HasNoOrder (Some (name, rows))
no_script name rows is none (Script setup) p = none setup p.1
no_script name rows is none (Pair setup) p =
    let other : codes "script" ≡ codes "pair" = sym is ∙ p.0 in
    cc
no_script name rows is none (Torture workers rounds seed) p =
    let other : codes "script" ≡ codes "torture" = sym is ∙ p.0 in
    cc

-- matches of `pair` that make no setup give no order
pub no_pair : (name : Text) (rows : List Row)
    → name ≡ codes "pair" → HasNoSetup (codes "leaf2") (codes "inner2") rows
    → HasNoOrder (Some (name, rows))
no_pair name rows is none (Script setup) p =
    let other : codes "pair" ≡ codes "script" = sym is ∙ p.0 in
    cc
no_pair name rows is none (Pair setup) p = none setup p.1
no_pair name rows is none (Torture workers rounds seed) p =
    let other : codes "pair" ≡ codes "torture" = sym is ∙ p.0 in
    cc

-- matches of `torture` that give one of its numbers no value give no order
no_torture : (name : Text) (rows : List Row)
    → name ≡ codes "torture"
    → ((workers rounds seed : ℕ) → IsTortureOf rows workers rounds seed → ⊥)
    → HasNoOrder (Some (name, rows))
no_torture name rows is none (Script setup) p =
    let other : codes "torture" ≡ codes "script" = sym is ∙ p.0 in
    cc
no_torture name rows is none (Pair setup) p =
    let other : codes "torture" ≡ codes "pair" = sym is ∙ p.0 in
    cc
no_torture name rows is none (Torture workers rounds seed) p = none workers rounds seed p.1

no_value : (o : Option ℕ) (n : ℕ) → o ≡ None → o ≡ Some n → ⊥
no_value o n none some = let bad : None ≡ Some n = sym none ∙ some in cc

pub no_workers : (name : Text) (rows : List Row) → name ≡ codes "torture"
    → number_up_to u32_max rows (codes "workers") ≡ None → HasNoOrder (Some (name, rows))
no_workers name rows is none =
    no_torture name rows is (λ workers rounds seed so. no_value _ _ none so.of_workers)

pub no_rounds : (name : Text) (rows : List Row) → name ≡ codes "torture"
    → number_up_to u32_max rows (codes "rounds") ≡ None → HasNoOrder (Some (name, rows))
no_rounds name rows is none =
    no_torture name rows is (λ workers rounds seed so. no_value _ _ none so.of_rounds)

pub no_seed : (name : Text) (rows : List Row) → name ≡ codes "torture"
    → number_up_to u64_max rows (codes "seed") ≡ None → HasNoOrder (Some (name, rows))
no_seed name rows is none =
    no_torture name rows is (λ workers rounds seed so. no_value _ _ none so.of_seed)

-- matches that make no setup, and no torture run, give no order
pub ruleset no_order = (no_script, no_pair, no_workers, no_rounds, no_seed)

-- ---- a parse of `rcu`

-- `clap` gives the matches of `rcu` exactly
rcu_is_simple : is_simple rcu ≡ true
rcu_is_simple = refl

-- and its faults
rcu_is_free : is_simple_and_free rcu ≡ true
rcu_is_free = refl

-- a parse of `rcu` that succeeds has no fault
pub no_fault : (a : App) (words : List Text)
    → a ≡ rcu → (is_simple_and_free a ≡ true → fault_of a words ≡ []) → fault_of rcu words ≡ []
no_fault a words is none =
    subst (λ (b : App). is_simple_and_free b ≡ true → fault_of b words ≡ []) is none rcu_is_free

-- the subcommand and its matches are those that `clap` gives the words
pub met_as : (a : App) (words : List Text) (m : ArgMatches) → a ≡ rcu → HasMatchesOf a words m
    → subcommand_rows_of m ≡ subcommand_of rcu words
met_as a words m is has = (subst (λ (b : App). HasMatchesOf b words m) is has rcu_is_simple).1

-- ---- if `clap` has no fault, there is an order

-- a test that there is a number gives the number
some_value : (o : Option ℕ) → is_some o ≡ true → (n : ℕ) × (o ≡ Some n)
some_value (Some n) e = (n, refl)
some_value None e = absurd (bad e)
  where
    bad : false ≡ true → ⊥
    bad e = cc

-- numbers make a setup
numbers_make : (second_leaf second_inner : Text) (rows : List Row)
    → HasNumbers second_leaf second_inner rows → HasNoSetup second_leaf second_inner rows → ⊥
numbers_make second_leaf second_inner rows has none =
    let leaf = some_value _ has.leaf in
    let inner = some_value _ has.inner in
    let leaf2 = some_value _ has.leaf2 in
    let inner2 = some_value _ has.inner2 in
    let cpus = some_value _ has.cpus in
    let last = some_value _ has.last in
    none
    (record {
      leaf = leaf.0;
      inner = inner.0;
      leaf2 = leaf2.0;
      inner2 = inner2.0;
      cpus = cpus.0;
      last = last.0;
    })
    (record {
      leaf = leaf.1;
      inner = inner.1;
      leaf2 = leaf2.1;
      inner2 = inner2.1;
      cpus = cpus.1;
      last = last.1;
    })

-- they give an order, and each that they give is within its limits
pub record Settles (met : Option (Text × List Row)) : Type 0 where
  pub some : HasNoOrder met → ⊥
  pub limits : (order : Order) → IsOrderOf met order → IsWithinLimits order

-- the orders of `script` and `pair` have none
no_limits : (name : Text) (rows : List Row) → (name ≡ codes "torture" → ⊥) → (order : Order)
    → IsOrderOf (Some (name, rows)) order → IsWithinLimits order
no_limits name rows other (Script setup) p = tt
no_limits name rows other (Pair setup) p = tt
no_limits name rows other (Torture workers rounds seed) p = absurd (other p.0)

-- words of `script` that have no fault order something
script_orders : (words : List Text) → level_fault built_script [] nothing_held words false [] ≡ []
    → Settles (Some (codes "script", rows_after built_script.rules [] words))
script_orders words e = record {
  some = λ none. numbers_make (codes "leaf") (codes "inner")
      (rows_after built_script.rules [] words) (script_numbers words e)
      (λ setup is. none (Script setup) (refl, is));
  limits =
      no_limits (codes "script") _ (λ e. let other : codes "script" ≡ codes "torture" = e in cc);
}

-- words of `pair` that have no fault order something
pair_orders : (words : List Text) → level_fault built_pair [] nothing_held words false [] ≡ []
    → Settles (Some (codes "pair", rows_after built_pair.rules [] words))
pair_orders words e = record {
  some = λ none. numbers_make (codes "leaf2") (codes "inner2")
      (rows_after built_pair.rules [] words) (pair_numbers words e)
      (λ setup is. none (Pair setup) (refl, is));
  limits = no_limits (codes "pair") _ (λ e. let other : codes "pair" ≡ codes "torture" = e in cc);
}

-- numbers in their ranges make a torture run
torture_made : (rows : List Row)
    → HasTortureNumbers rows → HasNoOrder (Some (codes "torture", rows)) → ⊥
torture_made rows has none =
    let few : most_workers ≤ u32_max = omega arith in
    let short : most_rounds ≤ u32_max = omega arith in
    let workers =
    some_value _ (widened 1 most_workers u32_max few (one_of (codes "workers") rows) has.workers) in
    let rounds =
    some_value _ (widened 1 most_rounds u32_max short (one_of (codes "rounds") rows) has.rounds) in
    let seed = some_value _ has.seed in
    none (Torture workers.0 rounds.0 seed.0)
    (refl, record { of_workers = workers.1; of_rounds = rounds.1; of_seed = seed.1 })

torture_limits : (rows : List Row) → HasTortureNumbers rows → (order : Order)
    → IsOrderOf (Some (codes "torture", rows)) order → IsWithinLimits order
torture_limits rows has (Script setup) p = tt
torture_limits rows has (Pair setup) p = tt
torture_limits rows has (Torture workers rounds seed) p = (
  lies_within 1 most_workers u32_max (one_of (codes "workers") rows) workers has.workers
      p.1.of_workers,
  lies_within 1 most_rounds u32_max (one_of (codes "rounds") rows) rounds has.rounds p.1.of_rounds,
)

-- words of `torture` that have no fault order something
torture_orders : (words : List Text) → level_fault built_torture [] nothing_held words false [] ≡ []
    → Settles (Some (codes "torture", rows_after built_torture.rules [] words))
torture_orders words e = record {
  some = torture_made _ (torture_numbers words e);
  limits = torture_limits _ (torture_numbers words e);
}

-- the same by the subcommand at which the walk over all the words stopped
stop_orders : (rows : List Row) (stop : Option (Text × List Text))
    → entered_fault (built rcu) stop ≡ []
    → check_fault (built rcu).top rows (is_some (entered (built rcu) stop)) ≡ []
    → Settles (entered (built rcu) stop)
stop_orders rows None below check =
    let missing : MissingSubcommand ∷ [] ≡ [] = check in cc
stop_orders rows (Some p) below check =
    go (answers_to p.0 (codes "script", [])) (answers_to p.0 (codes "pair", []))
    (answers_to p.0 (codes "torture", [])) below check
  where
    go : (b d f : Bool)
        → option_map_or (λ s. level_fault s [] nothing_held p.1 false [])
        (if b then Some built_script else
        (if d then Some built_pair else (if f then Some built_torture else None))) [] ≡ []
        → check_fault (built rcu).top rows (is_some
        (option_map (λ s. rows_at s p.1) (if b then Some built_script else
        (if d then Some built_pair else (if f then Some built_torture else None))))) ≡ []
        → Settles (option_map (λ s. rows_at s p.1)
        (if b then Some built_script else
        (if d then Some built_pair else (if f then Some built_torture else None))))
    go true d f below check = script_orders p.1 below
    go false true f below check = pair_orders p.1 below
    go false false true below check = torture_orders p.1 below
    go false false false below check =
        let missing : MissingSubcommand ∷ [] ≡ [] = check in cc

-- words that have no fault order something
pub orders : (words : List Text) → fault_of rcu words ≡ [] → Settles (subcommand_of rcu words)
orders words e =
    let top = (built rcu).top in
    let names = names_of (built rcu) in
    let met = walk top.rules names nothing_held words in
    let after_walk = next_none (walk_fault top names (walk_from nothing_held) words) _ e in
    let below = first_none (entered_fault (built rcu) met.stopped) _ after_walk in
    let after_below = next_none (entered_fault (built rcu) met.stopped) _ after_walk in
    let after_settle =
    next_none (settle_fault top.rules top.args_override_self met.held) _ after_below in
    let check =
    next_none (defaults_fault (settled top.rules met.held).rows top.rules) _ after_settle in
    stop_orders (finished top.rules met.held) met.stopped below check

-- so the order is there
pub order_there : (words : List Text) (met : Option (Text × List Row)) (o : Option Order)
    → met ≡ subcommand_of rcu words → fault_of rcu words ≡ []
    → MatchOption o (HasNoOrder met) (IsOrderOf met) → IsSome o
order_there words met (Some order) is none h = refl
order_there words met None is none h = absurd ((orders words none).some (subst HasNoOrder is h))

-- and within its limits
pub order_within : (words : List Text) (met : Option (Text × List Row)) (o : Option Order)
    (order : Order)
    → met ≡ subcommand_of rcu words
    → fault_of rcu words ≡ []
    → MatchOption o (HasNoOrder met) (IsOrderOf met)
    → o ≡ Some order
    → IsWithinLimits order
order_within words met o order is none h e =
    let said : IsOrderOf met order = rw e at h in
    (orders words none).limits order
    (subst (λ (m : Option (Text × List Row)). IsOrderOf m order) is said)
