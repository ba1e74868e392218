-- The texts of lists, empty and not.
use Rattle.std.proofs.Common.{◌≡◌, ◌<◌, ◌++◌, ℕ, List, [], ◌∷◌, length, codes, refl, arith}
use Rattle.std.specs.Prelude.{flat_map}
use Rattle.rcu_text.specs.Outputs.{Out, Stops}
use Rattle.rcu_text.specs.Texts.{space_and_number}
use Rattle.rcu_text.proofs.CallerLemmas.{Stops-before}
use Rattle.rcu_script.specs.ScriptTexts.{listed_text}

pub none_listed : (word items : List ℕ) → length items ≡ 0
    → listed_text word items ≡ word ++ codes " none\n"
none_listed word [] e = refl
none_listed word (x ∷ l) e = absurd (omega (arith, e))

pub some_listed : (word items : List ℕ) → 0 < length items
    → listed_text word items ≡ word ++ (flat_map space_and_number items ++ codes "\n")
some_listed word [] e = absurd (omega (arith, e))
some_listed word (x ∷ l) e = refl

-- the writer failed in the word
pub word_stops : (a b : Out) (word items : List ℕ) → Stops a b word
    → Stops a b (listed_text word items)
word_stops a b word [] s = Stops-before a b word (codes " none\n") s
word_stops a b word (x ∷ l) s =
    Stops-before a b word (flat_map space_and_number (x ∷ l) ++ codes "\n") s
