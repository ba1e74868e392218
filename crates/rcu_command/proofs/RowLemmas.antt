-- The rows of options whose values are numbers.
use Rattle.std.proofs.Common.{◌≡◌, ◌++◌, ◌||◌, ◌∙◌, ℕ, Bool, true, false, List, [], ◌∷◌, Option}
use Rattle.std.proofs.Common.{Some, None, IfSome, is_some, length, fold, refl, sym, ap, subst}
use Rattle.std.proofs.Common.{if◌then◌else◌, true≢false}
use Rattle.std.specs.Prelude.{option_and_then, option_map, slice_get}
use Rattle.std.specs.List.{find, list_any}
use Rattle.std.specs.Option.{option_map_or}
use Rattle.std.specs.Str.{bytes_eq}
use Rattle.std.proofs.lemmas.Slice.Eq.{bytes_eq-Decides}
use Rattle.clap.specs.Values.{read_as}
use Rattle.clap.specs.ValueTests.{accepts}
use Rattle.clap.specs.Walk.{Row, Rule, Text, default_rows, has_row, more_values, reading_by}
use Rattle.clap.specs.Walk.{row_text, stronger, used, one_of, with_default, with_values, without}
use Rattle.clap.specs.Simple.{filled, help_rule, new_rule}
use Rattle.clap.specs.Takes.{is_given}
use Rattle.clap.specs.Kinds.{range_kinds, value_kinds}
use Rattle.clap.specs.Faults.{repeat_fault, set_fault, use_fault, values_fault}
use Rattle.clap.specs.Facts.{explicit_source}
use Rattle.clap.specs.Values.{reading_of, refused_kind}
use Rattle.clap.specs.declared.error.kind.ErrorKind.TheVariants.{DisplayHelp, InvalidValue}
use Rattle.clap.specs.declared.builder.value_parser.Reading.{Reading}
use Rattle.clap.specs.declared.builder.value_parser.ValueParser.{ValueParser}
use Rattle.clap.specs.declared.parser.matches.ValueSource.{ValueSource}
use Rattle.clap.specs.declared.parser.matches.ValueSource.TheVariants.{CommandLine, DefaultValue}
use Rattle.rcu_command.proofs.GetterLemmas.{number_within}
use Rattle.rcu_command.proofs.WalkLemmas.{first_none, next_none}

-- an option `--name` after building
abbrev pub option_rule : Text → ValueParser → Bool → List Text → Rule
option_rule name parser required defaults = filled (record (new_rule name) {
  long = Some name;
  parser = Some parser;
  required = required;
  defaults = defaults;
})

-- the least and the greatest number that an option may have
abbrev pub Range : Type 0
Range = ℕ × ℕ

-- `range_of` gives the names of options the range of each
module _ (range_of : Text → Option Range) where
  -- the first of the values is a number that the option may have
  abbrev pub IsNumber : Option Range → Reading → List Text → Type 0
  IsNumber range how values = IfSome range (λ r.
      is_some
      (option_and_then (number_within r.0 r.1) (option_map (read_as how) (slice_get values 0)))
      ≡ true)

  -- so of a row
  abbrev pub Reads : Row → Type 0
  Reads r = IsNumber (range_of r.id) r.reading r.values

  -- so of each row
  abbrev pub AllRead : List Row → Type 0
  AllRead [] = Unit {0}
  AllRead (r ∷ rs) = Reads r × AllRead rs

  -- further values leave the first one
  more_values_read : (range : Option Range) (how : Reading) (values more : List Text)
      → IsNumber range how values → IsNumber range how (values ++ more)
  more_values_read None how values more h = tt
  more_values_read (Some n) how [] more h = absurd (true≢false (sym h))
  more_values_read (Some n) how (v ∷ vs) more h = h

  -- also of the rows without one
  without_reads : (id : Text) (rows : List Row) → AllRead rows → AllRead (without id rows)
  without_reads id [] h = tt
  without_reads id (r ∷ rs) h = go (without_reads id rs h.1) (bytes_eq r.id id)
    where
      go : AllRead (without id rs) → (b : Bool)
          → AllRead (if b then [] ++ rs else r ∷ without id rs)
      go rest true = h.1
      go rest false = (h.0, rest)

  -- also if a row gets values
  values_read : (id : Text) (how : Reading) (source : ValueSource) (values : List Text)
      (rows : List Row)
      → IsNumber (range_of id) how values
      → AllRead rows
      → AllRead (with_values id how source values rows)
  values_read id how source values [] new h = (new, tt)
  values_read id how source values (r ∷ rs) new h =
      go (values_read id how source values rs new h.1) (bytes_eq r.id id)
    where
      go : AllRead (with_values id how source values rs)
          → (b : Bool)
          → AllRead
          (if b then more_values source values r ++ rs else r ∷ with_values id how source values rs)
      go rest true = (more_values_read (range_of r.id) r.reading r.values values h.0, h.1)
      go rest false = (h.0, rest)

  -- a use of the rule that has no fault keeps that
  abbrev pub Keeps : Rule → Type 0
  Keeps a =
      (again : Bool) (values : List Text) (rows : List Row)
      → use_fault again a values rows ≡ [] → AllRead rows → AllRead (used a values rows)

  -- the parser takes only numbers that the option may have
  abbrev pub Takes : Text → ValueParser → Type 0
  Takes name parser = (text : Text) → accepts false parser text ≡ true
      → IsNumber (range_of name) (reading_of parser) (text ∷ [])

  -- a value that has no fault passes its parser
  accepted : (parser : ValueParser) (text : Text) → value_kinds false parser text ≡ []
      → accepts false parser text ≡ true
  accepted parser text e = go (accepts false parser text) e
    where
      go : (b : Bool) → (if b then [] else refused_kind parser ∷ []) ≡ [] → b ≡ true
      go true e = refl
      go false e = cc

  -- an option whose parser takes only such numbers
  pub option_keeps : (name : Text) (parser : ValueParser) (required : Bool) (defaults : List Text)
      → Takes name parser → Keeps (option_rule name parser required defaults)
  option_keeps name parser required defaults takes again [] rows e h =
      let bad : InvalidValue ∷ [] ≡ [] = e in cc
  option_keeps name parser required defaults takes again (v ∷ vs) rows e h =
      let a = option_rule name parser required defaults in
      let fits : set_fault again a (v ∷ vs) rows ≡ [] =
      next_none (range_kinds 1 1 (length (v ∷ vs))) _ e in
      let passed : values_fault a (v ∷ vs) ≡ [] = next_none (repeat_fault again name rows) _ fits in
      let first : value_kinds false parser v ≡ [] = first_none _ (values_fault a vs) passed in
      let number : IsNumber (range_of name) (reading_of parser) (v ∷ vs) =
      more_values_read (range_of name) (reading_of parser) (v ∷ []) vs
      (takes v (accepted parser v first)) in
      values_read name (reading_of parser) CommandLine (v ∷ vs) (without name rows) number
      (without_reads name rows h)

  -- a use of `--help` is a fault
  pub help_keeps : Keeps (filled help_rule)
  help_keeps again values rows e h =
      let bad : DisplayHelp ∷ [] ≡ [] = next_none (range_kinds 0 0 (length values)) _ e in cc

  -- so does each of the rules
  abbrev pub AllKeep : List Rule → Type 0
  AllKeep [] = Unit {0}
  AllKeep (a ∷ rest) = Keeps a × AllKeep rest

  -- and the one that a search finds
  pub found_keeps : (rules : List Rule)
      → AllKeep rules → (p : Rule → Bool) (a : Rule) → find p rules ≡ Some a → Keeps a
  found_keeps [] h p a is = absurd (none is)
    where
      none : None ≡ Some a → ⊥
      none e = cc
  found_keeps (b ∷ rest) h p a is = go (found_keeps rest h.1 p a) (p b) is
    where
      go : (find p rest ≡ Some a → Keeps a)
          → (t : Bool) → (if t then Some b else find p rest) ≡ Some a → Keeps a
      go later true e = let same : b ≡ a = cc in subst Keeps same h.0
      go later false e = later e

  -- ---- defaults

  -- an option that was not used gets its default
  pub default_reads : (a : Rule) (rows : List Row)
      → ((v : Text) (vs : List Text) → a.defaults ≡ v ∷ vs → IsNumber (range_of a.id) (reading_by a)
      (v ∷ vs))
      → AllRead rows
      → AllRead (with_default rows a)
  default_reads a rows new h = go (has_row a.id rows)
    where
      by_values : (values : List Text) → a.defaults ≡ values
          → AllRead (default_rows a.id (reading_by a) values rows)
      by_values [] is = h
      by_values (v ∷ vs) is =
          values_read a.id (reading_by a) DefaultValue (v ∷ vs) rows (new v vs is) h

      go : (b : Bool)
          → AllRead (if b then rows else default_rows a.id (reading_by a) a.defaults rows)
      go true = h
      go false = by_values a.defaults refl

  -- ---- the numbers

  -- an option with a row has a number of its range
  pub number_there : (range : Range) (id : Text) (rows : List Row)
      → range_of id ≡ Some range → AllRead rows → is_some (find (λ r. bytes_eq r.id id) rows) ≡ true
      → is_some (option_and_then (number_within range.0 range.1) (one_of id rows)) ≡ true
  number_there range id [] is h there = absurd (true≢false (sym there))
  number_there range id (r ∷ rs) is h there =
      go (bytes_eq r.id id) refl (number_there range id rs is h.1) there
    where
      here : bytes_eq r.id id ≡ true
          → is_some (option_and_then (number_within range.0 range.1) (row_text r)) ≡ true
      here same =
          let e : r.id ≡ id = (bytes_eq-Decides r.id id).0 same in
          subst (λ (m : Option Range). IsNumber m r.reading r.values) (ap range_of e ∙ is) h.0

      go : (b : Bool) → bytes_eq r.id id ≡ b
          → (is_some (find (λ x. bytes_eq x.id id) rs) ≡ true
          → is_some (option_and_then (number_within range.0 range.1) (one_of id rs)) ≡ true)
          → is_some (if b then Some r else find (λ x. bytes_eq x.id id) rs) ≡ true
          → is_some (option_and_then (number_within range.0 range.1)
          (option_and_then row_text (if b then Some r else find (λ x. bytes_eq x.id id) rs))) ≡ true
      go true same later t = here same
      go false same later t = later t

-- an argument that was given has a row
pub given_there : (id : Text) (rows : List Row) → is_given id rows ≡ true
    → is_some (find (λ r. bytes_eq r.id id) rows) ≡ true
given_there id rows e = go (find (λ r. bytes_eq r.id id) rows) e
  where
    go : (o : Option Row) → option_map_or (λ r. explicit_source r.source) o false ≡ true
        → is_some o ≡ true
    go None e = absurd (true≢false (sym e))
    go (Some r) e = refl

-- a row that a test finds is there
has_then_found : (p : Row → Bool) (rows : List Row) → list_any p rows ≡ true
    → is_some (find p rows) ≡ true
has_then_found p [] e = absurd (true≢false (sym e))
has_then_found p (r ∷ rs) e = go (has_then_found p rs) (p r) e
  where
    go : (list_any p rs ≡ true → is_some (find p rs) ≡ true)
        → (b : Bool) → (b || list_any p rs) ≡ true
        → is_some (if b then Some r else find p rs) ≡ true
    go later true e = refl
    go later false e = later e

-- a row that gets values is there
values_there : (id : Text) (how : Reading) (source : ValueSource) (values : List Text)
    (rows : List Row)
    → is_some (find (λ r. bytes_eq r.id id) (with_values id how source values rows)) ≡ true
values_there id how source values [] =
    let self : bytes_eq id id ≡ true = (bytes_eq-Decides id id).1 refl in
    let new : Row = record {
      id = id;
      values = values;
      count = None;
      source = Some source;
      reading = how;
    } in
    ap (λ (b : Bool). is_some {T = Row} (if b then Some new else None)) self
values_there id how source values (r ∷ rs) =
    go (values_there id how source values rs) (bytes_eq r.id id) refl
  where
    go : is_some (find (λ x. bytes_eq x.id id) (with_values id how source values rs)) ≡ true
        → (b : Bool) → bytes_eq r.id id ≡ b
        → is_some (find (λ x. bytes_eq x.id id)
        (if b then more_values source values r ++ rs else r ∷ with_values id how source values rs))
        ≡ true
    go later true same =
        let changed : Row = record r {
          values = r.values ++ values;
          source = Some (stronger r.source source);
        } in
        ap (λ (b : Bool).
        is_some {T = Row} (if b then Some changed else find (λ x. bytes_eq x.id id) rs))
        same
    go later false same =
        ap (λ (b : Bool). is_some {T = Row} (if b then Some r else find (λ x. bytes_eq x.id id)
        (with_values id how source values rs))) same ∙ later

-- and so has one with a default
pub default_there : (a : Rule) (v : Text) (vs : List Text) (rows : List Row) → a.defaults ≡ v ∷ vs
    → is_some (find (λ r. bytes_eq r.id a.id) (with_default rows a)) ≡ true
default_there a v vs rows is = go (has_row a.id rows) refl
  where
    go : (b : Bool) → has_row a.id rows ≡ b
        → is_some (find (λ r. bytes_eq r.id a.id)
        (if b then rows else default_rows a.id (reading_by a) a.defaults rows)) ≡ true
    go true has = has_then_found (λ r. bytes_eq r.id a.id) rows has
    go false has = subst (λ (values : List Text).
        is_some (find (λ r. bytes_eq r.id a.id) (default_rows a.id (reading_by a) values rows))
        ≡ true)
        (sym is) (values_there a.id (reading_by a) DefaultValue (v ∷ vs) rows)

-- ---- a row stays while other options get their defaults

-- the id has a row
abbrev pub IsThere : Text → List Row → Type 0
IsThere id rows = is_some (find (λ r. bytes_eq r.id id) rows) ≡ true

-- it stays if another one gets values
there_with_values : (id other : Text) (how : Reading) (source : ValueSource) (values : List Text)
    (rows : List Row)
    → IsThere id rows
    → IsThere id (with_values other how source values rows)
there_with_values id other how source values [] h = absurd (true≢false (sym h))
there_with_values id other how source values (r ∷ rs) h =
    go (bytes_eq r.id other) (bytes_eq r.id id) (there_with_values id other how source values rs) h
  where
    changed : Row
    changed = record r { values = r.values ++ values; source = Some (stronger r.source source) }

    in_place : (b : Bool)
        → is_some {T = Row} (if b then Some r else find (λ x. bytes_eq x.id id) rs) ≡ true
        → is_some {T = Row} (if b then Some changed else find (λ x. bytes_eq x.id id) rs) ≡ true
    in_place true e = refl
    in_place false e = e

    behind : (b : Bool) → (IsThere id rs → IsThere id (with_values other how source values rs))
        → is_some {T = Row} (if b then Some r else find (λ x. bytes_eq x.id id) rs) ≡ true
        → is_some {T = Row} (if b then Some r else find (λ x. bytes_eq x.id id)
        (with_values other how source values rs)) ≡ true
    behind true later e = refl
    behind false later e = later e

    go : (same b : Bool)
        → (IsThere id rs → IsThere id (with_values other how source values rs))
        → IsThere id (r ∷ rs)
        → IsThere id
        (if same
        then more_values source values r ++ rs
        else r ∷ with_values other how source values rs)
    go true b later e = in_place (bytes_eq r.id id) e
    go false b later e = behind (bytes_eq r.id id) later e

-- or its default
there_with_default : (id : Text) (a : Rule) (rows : List Row) → IsThere id rows
    → IsThere id (with_default rows a)
there_with_default id a rows h = go (has_row a.id rows)
  where
    by_values : (values : List Text) → IsThere id (default_rows a.id (reading_by a) values rows)
    by_values [] = h
    by_values (v ∷ vs) = there_with_values id a.id (reading_by a) DefaultValue (v ∷ vs) rows h

    go : (b : Bool)
        → IsThere id (if b then rows else default_rows a.id (reading_by a) a.defaults rows)
    go true = h
    go false = by_values a.defaults

-- or if all the others get their defaults
there_after : (id : Text) (rules : List Rule) (rows : List Row) → IsThere id rows
    → IsThere id (fold with_default rows rules)
there_after id [] rows h = h
there_after id (a ∷ rest) rows h =
    there_after id rest (with_default rows a) (there_with_default id a rows h)

-- each argument with a default has a row
abbrev pub AllDefaulted : List Row → List Rule → Type 0
AllDefaulted rows [] = Unit {0}
AllDefaulted rows (a ∷ rest) =
    ((v : Text) (vs : List Text) → a.defaults ≡ v ∷ vs → IsThere a.id rows) × AllDefaulted rows rest

-- so has each argument with a default at the end
pub all_defaulted : (rules : List Rule) (rows : List Row)
    → AllDefaulted (fold with_default rows rules) rules
all_defaulted [] rows = tt
all_defaulted (a ∷ rest) rows = (
  λ v vs is. there_after a.id rest (with_default rows a) (default_there a v vs rows is),
  all_defaulted rest (with_default rows a),
)
