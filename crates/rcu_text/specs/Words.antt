-- The words of a line, and the numbers among them.
use Rattle.std.specs.Prelude.{ℕ, ◌+◌, ◌-◌, ◌*◌, ◌^◌, ◌==◌, ◌&&◌, Bool, true, false, List, [], ◌∷◌}
use Rattle.std.specs.Prelude.{length, filter, fold, nat_lt, nat_le, if◌then◌else◌, Option, Some}
use Rattle.std.specs.Prelude.{None}
use Rattle.std.specs.List.{slice_split, list_all}

-- it has a byte
abbrev pub has_byte : List ℕ → Bool
has_byte [] = false
has_byte (b ∷ bs) = true

-- the parts between spaces that have a byte
abbrev pub words_of : List ℕ → List (List ℕ)
words_of line = filter has_byte (slice_split (λ b. b == 32) line)

-- a decimal digit
abbrev pub is_digit : ℕ → Bool
is_digit b = nat_le 48 b && nat_le b 57

-- the value of digits, read from the left in base ten
abbrev pub value_of : List ℕ → ℕ
value_of digits = fold (λ n b. 10 * n + (b - 48)) 0 digits

-- a number: 1 to 20 digits whose value fits 64 bits; leading zeros are allowed
abbrev pub is_number : List ℕ → Bool
is_number word =
    nat_lt 0 (length word)
    && (nat_le (length word) 20 && (list_all is_digit word && nat_lt (value_of word) (2 ^ 64)))

-- the number that a word spells
abbrev pub number_in_word : List ℕ → Option ℕ
number_in_word word = if is_number word then Some (value_of word) else None
