-- The subcommands: if a parse of the words of one has no fault, each of its options has a number.
use Rattle.std.proofs.Common.{◌≡◌, ℕ, true, false, List, [], ◌∷◌, Option, Some, None, is_some}
use Rattle.std.proofs.Common.{codes, refl, sym, ap, subst, arith, ◌≤◌, ◌||◌, if◌then◌else◌}
use Rattle.std.specs.Prelude.{option_and_then, pos}
use Rattle.std.specs.Str.{bytes_eq}
use Rattle.clap.specs.Simple.{Shape, built_leaf, inherited, marked_built, on_top, with_leaf_noted}
use Rattle.clap.specs.Faults.{level_fault}
use Rattle.clap.specs.Takes.{is_given}
use Rattle.clap.specs.Values.{reading_of}
use Rattle.clap.specs.ValueTests.{accepts}
use Rattle.clap.specs.Walk.{Held, Row, Text, nothing_held, one_of, rows_after, settled, walk}
use Rattle.clap.specs.Words.{App}
use Rattle.clap.specs.declared.builder.value_parser.ValueParser.TheVariants as vp
use Rattle.rcu_command.specs.CommandLine.{any_u32, any_u64, number_up_to, pair, rcu, script}
use Rattle.rcu_command.specs.CommandLine.{torture, u32_max, u64_max}
use Rattle.rcu_stress.specs.Ledger.{most_rounds, most_workers}
use Rattle.rcu_command.proofs.GetterLemmas.{number_at_most, number_within}
use Rattle.rcu_command.proofs.RowLemmas.{AllKeep, AllRead, IsNumber, Keeps, Range, all_defaulted}
use Rattle.rcu_command.proofs.RowLemmas.{given_there, help_keeps, number_there, option_keeps}
use Rattle.rcu_command.proofs.RowLemmas.{option_rule}
use Rattle.rcu_command.proofs.LevelLemmas.{AllDefault, all_given, rows_read, u64_takes}
use Rattle.rcu_command.proofs.LevelLemmas.{within_takes}

-- a subcommand as `rcu` builds it
abbrev pub built_below : App → Shape
built_below command =
    built_leaf (inherited (on_top with_leaf_noted (on_top marked_built rcu)).top command.top)

abbrev pub built_script : Shape
built_script = built_below script

abbrev pub built_pair : Shape
built_pair = built_below pair

abbrev pub built_torture : Shape
built_torture = built_below torture

-- the numbers of 32 and of 64 bits
abbrev small : Range
small = (0, u32_max)

abbrev large : Range
large = (0, u64_max)

-- the range of an option
abbrev pub range_of : Text → Option Range
range_of name = if bytes_eq name (codes "help") then None else
    (if bytes_eq name (codes "last") || bytes_eq name (codes "seed") then Some large else
    (if bytes_eq name (codes "workers") then Some (1, most_workers) else
    (if bytes_eq name (codes "rounds") then Some (1, most_rounds) else Some small)))

-- ---- each use of an option leaves it a number

-- those of a u32 in a range
within_keeps : (least most : ℕ)
    → most ≤ u32_max → (name : Text) → range_of name ≡ Some (least, most)
    → Keeps range_of (option_rule name (vp.Signed (pos least) (pos most)) true [])
within_keeps least most fits name is =
    option_keeps range_of name (vp.Signed (pos least) (pos most)) true []
    (subst (λ (range : Option Range).
    (text : Text) → accepts false (vp.Signed (pos least) (pos most)) text ≡ true → IsNumber range_of
    range (reading_of (vp.Signed (pos least) (pos most))) (text ∷ []))
    (sym is) (within_takes least most fits))

u32_keeps : (name : Text) → range_of name ≡ Some small
    → Keeps range_of (option_rule name any_u32 true [])
u32_keeps name is = within_keeps 0 u32_max (omega arith) name is

last_keeps : Keeps range_of (option_rule (codes "last") (vp.Unsigned 0 u64_max) false
    (codes "4611686018427387904" ∷ []))
last_keeps = option_keeps range_of (codes "last") (vp.Unsigned 0 u64_max) false
    (codes "4611686018427387904" ∷ []) u64_takes

script_keeps : AllKeep range_of built_script.rules
script_keeps = (
  u32_keeps (codes "leaf") refl,
  (
    u32_keeps (codes "inner") refl,
    (u32_keeps (codes "cpus") refl, (last_keeps, (help_keeps range_of, tt))),
  ),
)

torture_keeps : AllKeep range_of built_torture.rules
torture_keeps = (
  within_keeps 1 most_workers (omega arith) (codes "workers") refl,
  (
    within_keeps 1 most_rounds (omega arith) (codes "rounds") refl,
    (option_keeps range_of (codes "seed") any_u64 true [] u64_takes, (help_keeps range_of, tt)),
  ),
)

pair_keeps : AllKeep range_of built_pair.rules
pair_keeps = (
  u32_keeps (codes "leaf") refl,
  (
    u32_keeps (codes "inner") refl,
    (
      u32_keeps (codes "leaf2") refl,
      (
        u32_keeps (codes "inner2") refl,
        (u32_keeps (codes "cpus") refl, (last_keeps, (help_keeps range_of, tt))),
      ),
    ),
  ),
)

-- ---- the one default is a number

no_default : {P : Type 0} (v : Text) (vs : List Text) → [] ≡ v ∷ vs → P
no_default v vs e = absurd (let never : ⊥ = cc in never)

last_default : (v : Text) (vs : List Text) → codes "4611686018427387904" ∷ [] ≡ v ∷ vs
    → is_some (number_at_most u64_max v) ≡ true
last_default v vs e = let same : codes "4611686018427387904" ≡ v = cc in
    ap (λ (text : Text). is_some (number_at_most u64_max text)) (sym same)

script_defaults : AllDefault range_of built_script.rules
script_defaults = (
  λ v vs e. no_default v vs e,
  (
    λ v vs e. no_default v vs e,
    (
      λ v vs e. no_default v vs e,
      (λ v vs e. last_default v vs e, (λ v vs e. no_default v vs e, tt)),
    ),
  ),
)

pair_defaults : AllDefault range_of built_pair.rules
pair_defaults = (
  λ v vs e. no_default v vs e,
  (
    λ v vs e. no_default v vs e,
    (
      λ v vs e. no_default v vs e,
      (
        λ v vs e. no_default v vs e,
        (
          λ v vs e. no_default v vs e,
          (λ v vs e. last_default v vs e, (λ v vs e. no_default v vs e, tt)),
        ),
      ),
    ),
  ),
)

torture_defaults : AllDefault range_of built_torture.rules
torture_defaults = (
  λ v vs e. no_default v vs e,
  (λ v vs e. no_default v vs e, (λ v vs e. no_default v vs e, (λ v vs e. no_default v vs e, tt))),
)

-- ---- each option has a number that it may have

-- those of the second replica's tree have these names
pub record HasNumbers (second_leaf second_inner : Text) (rows : List Row) : Type 0 where
  pub leaf : is_some (number_up_to u32_max rows (codes "leaf")) ≡ true
  pub inner : is_some (number_up_to u32_max rows (codes "inner")) ≡ true
  pub leaf2 : is_some (number_up_to u32_max rows second_leaf) ≡ true
  pub inner2 : is_some (number_up_to u32_max rows second_inner) ≡ true
  pub cpus : is_some (number_up_to u32_max rows (codes "cpus")) ≡ true
  pub last : is_some (number_up_to u64_max rows (codes "last")) ≡ true

-- an option that was given has one
u32_there : (id : Text) (rows : List Row) → range_of id ≡ Some small → AllRead range_of rows
    → is_given id rows ≡ true → is_some (number_up_to u32_max rows id) ≡ true
u32_there id rows is read given =
    number_there range_of small id rows is read (given_there id rows given)

-- so it is after a parse of `script` that has no fault
pub script_numbers : (words : List Text)
    → level_fault built_script [] nothing_held words false [] ≡ []
    → HasNumbers (codes "leaf") (codes "inner") (rows_after built_script.rules [] words)
script_numbers words e =
    let rows : List Row = rows_after built_script.rules [] words in
    let end : Held = (walk built_script.rules [] nothing_held words).held in
    let read = rows_read range_of built_script words script_keeps script_defaults e in
    let given = all_given built_script words e in
    let defaulted = all_defaulted built_script.rules (settled built_script.rules end).rows in
    let leaf = u32_there (codes "leaf") rows refl read (given.0 refl) in
    let inner = u32_there (codes "inner") rows refl read (given.1.0 refl) in
    record {
      leaf = leaf;
      inner = inner;
      leaf2 = leaf;
      inner2 = inner;
      cpus = u32_there (codes "cpus") rows refl read (given.1.1.0 refl);
      last = number_there range_of large (codes "last") rows refl read (defaulted.1.1.1.0 _ _ refl);
    }

-- and of `pair`
pub pair_numbers : (words : List Text) → level_fault built_pair [] nothing_held words false [] ≡ []
    → HasNumbers (codes "leaf2") (codes "inner2") (rows_after built_pair.rules [] words)
pair_numbers words e =
    let rows : List Row = rows_after built_pair.rules [] words in
    let end : Held = (walk built_pair.rules [] nothing_held words).held in
    let read = rows_read range_of built_pair words pair_keeps pair_defaults e in
    let given = all_given built_pair words e in
    let defaulted = all_defaulted built_pair.rules (settled built_pair.rules end).rows in
    record {
      leaf = u32_there (codes "leaf") rows refl read (given.0 refl);
      inner = u32_there (codes "inner") rows refl read (given.1.0 refl);
      leaf2 = u32_there (codes "leaf2") rows refl read (given.1.1.0 refl);
      inner2 = u32_there (codes "inner2") rows refl read (given.1.1.1.0 refl);
      cpus = u32_there (codes "cpus") rows refl read (given.1.1.1.1.0 refl);
      last = number_there range_of large (codes "last") rows refl read
          (defaulted.1.1.1.1.1.0 _ _ refl);
    }

-- the numbers of a torture run, each in its range
pub record HasTortureNumbers (rows : List Row) : Type 0 where
  pub workers : is_some
      (option_and_then (number_within 1 most_workers) (one_of (codes "workers") rows))
      ≡ true
  pub rounds : is_some
      (option_and_then (number_within 1 most_rounds) (one_of (codes "rounds") rows))
      ≡ true
  pub seed : is_some (number_up_to u64_max rows (codes "seed")) ≡ true

-- and of `torture`
pub torture_numbers : (words : List Text)
    → level_fault built_torture [] nothing_held words false [] ≡ []
    → HasTortureNumbers (rows_after built_torture.rules [] words)
torture_numbers words e =
    let rows : List Row = rows_after built_torture.rules [] words in
    let read = rows_read range_of built_torture words torture_keeps torture_defaults e in
    let given = all_given built_torture words e in
    record {
      workers = number_there range_of (1, most_workers) (codes "workers") rows refl read
          (given_there (codes "workers") rows (given.0 refl));
      rounds = number_there range_of (1, most_rounds) (codes "rounds") rows refl read
          (given_there (codes "rounds") rows (given.1.0 refl));
      seed = number_there range_of large (codes "seed") rows refl read
          (given_there (codes "seed") rows (given.1.1.0 refl));
    }
