-- The values that a typed getter reads.
use Rattle.std.proofs.Common.{◌≡◌, ◌+◌, ◌^◌, ◌<◌, ◌≤◌, ℕ, List, Bool, true, false, Option, Some}
use Rattle.std.proofs.Common.{None, Result, ap, sym, refl, is_some, ◌∙◌, true≢false, arith}
use Rattle.std.proofs.Common.{if◌then◌else◌}
use Rattle.std.specs.Prelude.{option_and_then}
use Rattle.std.specs.Str.Parse.{IsNumeral, ParsesUnsigned, ExplainsUnsignedError}
use Rattle.std.specs.Str.Parse.{HasUnsignedDigitsIfOk, digits_value, without_leading_plus}
use Rattle.std.specs.declared.num.ParseIntError.{ParseIntError}
use Rattle.clap.specs.ValueTests.{is_unsigned_in}
use Rattle.clap.specs.Words.{IsUnsignedIn, ReadsOne}
use Rattle.clap.specs.declared.builder.value_parser.ValueParser.TheVariants as vp
use Rattle.clap.proofs.ValueTestLemmas.{accepts-Accepts, Accepts-accepts}

-- the result of `from_str` for an unsigned type of k bits
abbrev pub Gives : ℕ → List ℕ → Result ℕ ParseIntError → Type 0
Gives k text r =
    ParsesUnsigned k 10 text r × ExplainsUnsignedError 10 text r × HasUnsignedDigitsIfOk text r

abbrev pub value : List ℕ → ℕ
value text = digits_value 10 (without_leading_plus text)

-- the number that a text writes, if it is in this range
abbrev pub number_within : ℕ → ℕ → List ℕ → Option ℕ
number_within least most text = if is_unsigned_in least most text then Some (value text) else None

abbrev pub number_at_most : ℕ → List ℕ → Option ℕ
number_at_most most text = number_within 0 most text

-- a numeral of k bits is one of at most the greatest number of k bits
numeral_within : (k most : ℕ)
    → most + 1 ≡ 2 ^ k
    → most < 2 ^ 64
    → (text : List ℕ) → IsNumeral 10 (without_leading_plus text) × (value text < 2 ^ k)
    → is_unsigned_in 0 most text ≡ true
numeral_within k most top fits text p =
    let in_range : IsUnsignedIn 0 most text = (
      p.0,
      omega (arith, p.1),
      omega arith,
      omega (arith, p.1),
    ) in
    Accepts-accepts false (vp.Unsigned 0 most) text in_range

within_numeral : (k most : ℕ)
    → most + 1 ≡ 2 ^ k → (text : List ℕ) → is_unsigned_in 0 most text ≡ true
    → IsNumeral 10 (without_leading_plus text) × (value text < 2 ^ k)
within_numeral k most top text e =
    let in_range : IsUnsignedIn 0 most text = accepts-Accepts false (vp.Unsigned 0 most) text e in
    (in_range.0, omega (arith, in_range.3))

-- a text is read as the number that it writes, and not read if it writes none of k bits
number_of_text : (k most : ℕ) → most + 1 ≡ 2 ^ k → most < 2 ^ 64 → (text : List ℕ) (r : Option ℕ)
    → ReadsOne (Gives k) text r → r ≡ number_at_most most text
number_of_text k most top fits text (Some n) given =
    ap (λ (m : ℕ). Some m) given.0.1
    ∙ sym (ap (λ (b : Bool). if b then Some (value text) else None)
    (numeral_within k most top fits text given.0.0))
number_of_text k most top fits text None given = go (is_unsigned_in 0 most text) refl
  where
    go : (b : Bool) → is_unsigned_in 0 most text ≡ b
        → None ≡ (if b then Some (value text) else None)
    go false e = refl
    go true e = absurd (given.1.0 (within_numeral k most top text e))

pub reads_number : (k most : ℕ)
    → most + 1 ≡ 2 ^ k
    → most < 2 ^ 64
    → (text : Option (List ℕ)) (r : Option ℕ)
    → (text ≡ None → r ≡ None)
    → ((t : List ℕ) → text ≡ Some t → ReadsOne (Gives k) t r)
    → r ≡ option_and_then (number_at_most most) text
reads_number k most top fits None r none some = none refl
reads_number k most top fits (Some t) r none some = number_of_text k most top fits t r (some t refl)

-- a getter reads such a number
pub reads_back : (k most : ℕ) → most + 1 ≡ 2 ^ k → most < 2 ^ 64 → (text : List ℕ)
    → ReadsOne {T = ℕ} {E = ℕ} (λ t r. ParsesUnsigned k 10 t r) text (number_at_most most text)
reads_back k most top fits text = go (is_unsigned_in 0 most text) refl
  where
    go : (b : Bool)
        → is_unsigned_in 0 most text ≡ b
        → ReadsOne {T = ℕ} {E = ℕ} (λ t r. ParsesUnsigned k 10 t r) text
        (if b then Some (value text) else None)
    go true e = (within_numeral k most top text e, refl)
    go false e = (0, λ p. true≢false (sym (numeral_within k most top fits text p) ∙ e))

-- ---- ranges

-- a number that was read and is in a narrower range is one of that range
pub narrowed : (least most top : ℕ) (text : List ℕ) (n : ℕ)
    → number_at_most top text ≡ Some n → least ≤ n → n ≤ most
    → is_some (number_within least most text) ≡ true
narrowed least most top text n read low high = go (is_unsigned_in 0 top text) refl read
  where
    go : (b : Bool)
        → is_unsigned_in 0 top text ≡ b → (if b then Some (value text) else None) ≡ Some n
        → is_some (number_within least most text) ≡ true
    go false e given = let never : ⊥ = cc in absurd never
    go true e given =
        let is : value text ≡ n = cc in
        let all : IsUnsignedIn 0 top text = accepts-Accepts false (vp.Unsigned 0 top) text e in
        let in_range : IsUnsignedIn least most text = (
          all.0,
          all.1,
          omega (arith, is),
          omega (arith, is),
        ) in
        ap (λ (b : Bool). is_some (if b then Some (value text) else None))
        (Accepts-accepts false (vp.Unsigned least most) text in_range)

-- a number of a range is one of a wider range
pub widened : (least most top : ℕ) → most ≤ top → (text : Option (List ℕ))
    → is_some (option_and_then (number_within least most) text) ≡ true
    → is_some (option_and_then (number_at_most top) text) ≡ true
widened least most top fits None there = there
widened least most top fits (Some text) there = go (is_unsigned_in least most text) refl there
  where
    go : (b : Bool)
        → is_unsigned_in least most text ≡ b
        → is_some (if b then Some (value text) else None) ≡ true
        → is_some (number_at_most top text) ≡ true
    go false e given = absurd (true≢false (sym given))
    go true e given =
        let in_range : IsUnsignedIn least most text =
        accepts-Accepts false (vp.Unsigned least most) text e in
        let all : IsUnsignedIn 0 top text = (
          in_range.0,
          in_range.1,
          omega arith,
          omega (arith, in_range.3),
        ) in
        ap (λ (b : Bool). is_some (if b then Some (value text) else None))
        (Accepts-accepts false (vp.Unsigned 0 top) text all)

-- and is in it
pub lies_within : (least most top : ℕ) (text : Option (List ℕ)) (n : ℕ)
    → is_some (option_and_then (number_within least most) text) ≡ true
    → option_and_then (number_at_most top) text ≡ Some n → (least ≤ n) × (n ≤ most)
lies_within least most top None n there read = absurd (true≢false (sym there))
lies_within least most top (Some text) n there read =
    go (is_unsigned_in least most text) refl (is_unsigned_in 0 top text) there read
  where
    go : (b : Bool) → is_unsigned_in least most text ≡ b → (d : Bool)
        → is_some (if b then Some (value text) else None) ≡ true
        → (if d then Some (value text) else None) ≡ Some n → (least ≤ n) × (n ≤ most)
    go false e d given is = absurd (true≢false (sym given))
    go true e false given is = let never : ⊥ = cc in absurd never
    go true e true given is =
        let same : value text ≡ n = cc in
        let in_range : IsUnsignedIn least most text =
        accepts-Accepts false (vp.Unsigned least most) text e in
        (omega (arith, same, in_range.2), omega (arith, same, in_range.3))
