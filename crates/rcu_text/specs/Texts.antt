-- The texts of numbers.
use Rattle.std.specs.Prelude.{ℕ, List, ◌∷◌, ◌++◌, codes, decimal}

-- a space and the number
abbrev pub space_and_number : ℕ → List ℕ
space_and_number n = 32 ∷ decimal n

-- a text with a number behind it
abbrev pub text_and_number : List ℕ → ℕ → List ℕ
text_and_number text n = text ++ decimal n

-- a text with a number behind it, as a line
abbrev pub numbered_text : List ℕ → ℕ → List ℕ
numbered_text text n = text ++ (decimal n ++ codes "\n")

-- two numbers, each behind its text, as a line
abbrev pub counts_text : List ℕ → ℕ → List ℕ → ℕ → List ℕ
counts_text first n second m = first ++ (decimal n ++ (second ++ (decimal m ++ codes "\n")))
