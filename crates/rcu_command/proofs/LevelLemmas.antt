-- A subcommand whose options have numbers: if a parse of its words has no fault, they do.
use Rattle.std.proofs.Common.{◌≡◌, ◌≤◌, ◌<◌, ◌^◌, ◌&&◌, ◌||◌, arith, not, ℕ, Bool, true, false}
use Rattle.std.proofs.Common.{List, [], ◌∷◌, fold, Option, Some, None, is_some, refl, sym, ap, lit<}
use Rattle.std.proofs.Common.{if◌then◌else◌, true≢false}
use Rattle.std.specs.Prelude.{pos}
use Rattle.std.specs.List.{find, list_any}
use Rattle.std.specs.Str.Parse.{ParsesUnsigned}
use Rattle.clap.specs.Lexer.{without_minus}
use Rattle.clap.specs.Values.{IsSignedIn}
use Rattle.clap.specs.ValueTests.{accepts}
use Rattle.clap.specs.Walk.{Held, Row, Rule, Text, finished, nothing_held, reading_by, rows_after}
use Rattle.clap.specs.Walk.{settled, used, walk, walk_from, with_default}
use Rattle.clap.specs.Simple.{Shape}
use Rattle.clap.specs.Takes.{is_given}
use Rattle.clap.specs.Kinds.{check_kinds}
use Rattle.clap.specs.Faults.{check_fault, defaults_fault, level_fault, settle_fault, use_fault}
use Rattle.clap.specs.Faults.{walk_fault}
use Rattle.clap.specs.declared.builder.value_parser.ValueParser.TheVariants as vp
use Rattle.clap.proofs.CallerReads.{signed_reads}
use Rattle.clap.proofs.ValueTestLemmas.{accepts-Accepts}
use Rattle.rcu_command.specs.CommandLine.{u32_max, u64_max}
use Rattle.rcu_command.proofs.GetterLemmas.{narrowed, number_at_most, number_within, reads_back}
use Rattle.rcu_command.proofs.GetterLemmas.{value}
use Rattle.rcu_command.proofs.RowLemmas.{AllKeep, AllRead, IsNumber, Range, default_reads}
use Rattle.rcu_command.proofs.RowLemmas.{found_keeps}
use Rattle.rcu_command.proofs.WalkLemmas.{first_none, next_none, settles, walks}

-- ---- any subcommand whose options have numbers

module _ (range_of : Text → Option Range) where
  -- the defaults are numbers that their options may have
  abbrev pub AllDefault : List Rule → Type 0
  AllDefault [] = Unit {0}
  AllDefault (a ∷ rest) = ((v : Text) (vs : List Text) → a.defaults ≡ v ∷ vs
      → IsNumber range_of (range_of a.id) (reading_by a) (v ∷ vs)) × AllDefault rest

  -- rows stay numbers when defaults join them
  defaults_read : (rules : List Rule) (rows : List Row) → AllDefault rules → AllRead range_of rows
      → AllRead range_of (fold with_default rows rules)
  defaults_read [] rows d h = h
  defaults_read (a ∷ rest) rows d h =
      defaults_read rest (with_default rows a) d.1 (default_reads range_of a rows d.0 h)

  -- a parse that has no fault gives each option a number that it may have
  pub rows_read : (s : Shape) (words : List Text) → AllKeep range_of s.rules → AllDefault s.rules
      → level_fault s [] nothing_held words false [] ≡ []
      → AllRead range_of (rows_after s.rules [] words)
  rows_read s words keep defaults e =
      let end : Held = (walk s.rules [] nothing_held words).held in
      let later = next_none (walk_fault s [] (walk_from nothing_held) words) _ e in
      let kept : (p : Rule → Bool) (a : Rule) (values : List Text) (rows : List Row)
      → find p s.rules ≡ Some a
      → use_fault s.args_override_self a values rows ≡ []
      → AllRead range_of rows
      → AllRead range_of (used a values rows) =
      λ p a values rows is none good.
      found_keeps range_of s.rules keep p a is s.args_override_self values rows none good in
      let walked =
      walks s [] (AllRead range_of) kept words (walk_from nothing_held) (first_none _ _ e) tt in
      let at_end = settles s [] (AllRead range_of) kept end
      (first_none (settle_fault s.rules s.args_override_self end) _ later) walked in
      defaults_read s.rules (settled s.rules end).rows defaults at_end

-- each required argument is given
abbrev pub AllGiven : List Row → List Rule → Type 0
AllGiven rows [] = Unit {0}
AllGiven rows (a ∷ rest) = (a.required ≡ true → is_given a.id rows ≡ true) × AllGiven rows rest

-- the test of the required arguments, one by one
given_by_tests : (rows : List Row) (rules : List Rule)
    → list_any (λ a. a.required && not (is_given a.id rows)) rules ≡ false → AllGiven rows rules
given_by_tests rows [] e = tt
given_by_tests rows (a ∷ rest) e = go a.required (is_given a.id rows) e (given_by_tests rows rest)
  where
    go : (r g : Bool)
        → ((r && not g) || list_any (λ b. b.required && not (is_given b.id rows)) rest) ≡ false
        → (list_any (λ b. b.required && not (is_given b.id rows)) rest ≡ false → AllGiven rows rest)
        → (r ≡ true → g ≡ true) × AllGiven rows rest
    go true true e later = (λ _. refl, later e)
    go true false e later = absurd (true≢false e)
    go false g e later = (λ t. absurd (true≢false (sym t)), later e)

-- the last checks have no fault only if no required argument is missing
required_tests : (x y n any : Bool) → check_kinds x y (not (n && false) && any) ≡ [] → any ≡ false
required_tests true y n any e = cc
required_tests false true n any e = cc
required_tests false false n false e = refl
required_tests false false true true e = cc
required_tests false false false true e = cc

-- a parse that has no fault was given each required argument
pub all_given : (s : Shape) (words : List Text) → level_fault s [] nothing_held words false [] ≡ []
    → AllGiven (rows_after s.rules [] words) s.rules
all_given s words e =
    let end : Held = (walk s.rules [] nothing_held words).held in
    let rows : List Row = finished s.rules end in
    let after_walk = next_none (walk_fault s [] (walk_from nothing_held) words) _ e in
    let after_settle = next_none (settle_fault s.rules s.args_override_self end) _ after_walk in
    let check : check_fault s rows false ≡ [] = next_none
    (defaults_fault (settled s.rules end).rows s.rules) _ after_settle in
    given_by_tests rows s.rules (required_tests _ _ s.subcommand_negates_reqs _ check)

-- ---- numbers of 32 and of 64 bits

-- a text that the parser of a u32 in a range takes is read as one of that range
pub within_takes : (least most : ℕ) → most ≤ u32_max → (text : Text)
    → accepts false (vp.Signed (pos least) (pos most)) text ≡ true
    → is_some (number_within least most (without_minus text)) ≡ true
within_takes least most fits text e =
    let passed : IsSignedIn (pos least) (pos most) text = accepts-Accepts false
    (vp.Signed (pos least) (pos most)) text e in
    let small : most < 2 ^ 32 = omega arith in
    let read = signed_reads ℕ (λ t r. ParsesUnsigned 32 10 t r) 32 least most text
    (number_at_most u32_max (without_minus text))
    (reads_back 32 u32_max refl (lit< tt) (without_minus text)) (λ t r h. h) small passed in
    narrowed least most u32_max (without_minus text) read.0 read.1 read.2 read.3

-- a text that the parser of a u64 takes is read as a u64
pub u64_takes : (text : Text) → accepts false (vp.Unsigned 0 u64_max) text ≡ true
    → is_some (number_at_most u64_max text) ≡ true
u64_takes text e = ap (λ (b : Bool). is_some (if b then Some (value text) else None)) e
