-- The lines are the pieces between line ends.
use Rattle.std.proofs.Common.{◌≡◌, ◌==◌, ◌∙◌, ℕ, Bool, true, false, Option, Some, None, List, []}
use Rattle.std.proofs.Common.{◌∷◌, ◌++◌, refl, sym, ap, append_assoc, append-nil}
use Rattle.std.specs.Prelude.{fold, cond}
use Rattle.std.specs.List.{slice_split, onto_first}
use Rattle.std.specs.Io.KnownBytes.{Consumes}
use Rattle.rcu_text.specs.Lines.{Cut, cut_of, lines_of, lines_read, nothing_cut, with_byte}
use Rattle.rcu_text.proofs.CutLemmas.{cut_behind, ended_among_lines, ended_grows}

abbrev is_end : ℕ → Bool
is_end b = b == 10

abbrev onto_front : List ℕ → List (List ℕ) → List (List ℕ)
onto_front r [] = r ∷ []
onto_front r (p ∷ ps) = (r ++ p) ∷ ps

onto_more : (r : List ℕ) (b : ℕ) (ps : List (List ℕ))
    → onto_front (r ++ b ∷ []) ps ≡ onto_front r (onto_first b ps)
onto_more r b [] = refl
onto_more r b (p ∷ ps) = ap (λ (l : List ℕ). l ∷ ps) (append_assoc r (b ∷ []) p)

onto_nothing : (b : ℕ) (ps : List (List ℕ)) → onto_front [] (onto_first b ps) ≡ onto_first b ps
onto_nothing b [] = refl
onto_nothing b (p ∷ ps) = refl

front_nothing : (bytes : List ℕ)
    → onto_front [] (slice_split is_end bytes) ≡ slice_split is_end bytes
front_nothing [] = refl
front_nothing (b ∷ bs) =
    elim (b == 10) as (λ t.
    onto_front [] (cond t ([] ∷ slice_split is_end bs) (onto_first b (slice_split is_end bs)))
    ≡ cond t ([] ∷ slice_split is_end bs) (onto_first b (slice_split is_end bs))) [
      | true ↦ refl
      | false ↦ onto_nothing b (slice_split is_end bs)
    ]

abbrev whole : Cut → List (List ℕ)
whole c = c.ended ++ c.rest ∷ []

pieces_from : (r bytes : List ℕ) → whole (fold with_byte (record { ended = []; rest = r }) bytes)
    ≡ onto_front r (slice_split is_end bytes)
pieces_from r [] = ap (λ (l : List ℕ). l ∷ []) (sym (append-nil r))
pieces_from r (b ∷ bs) =
    elim (b == 10) as (λ t.
    whole (fold with_byte
    (cond t (record { ended = [] ++ r ∷ []; rest = [] })
    (record { ended = []; rest = r ++ b ∷ [] }))
    bs)
    ≡ onto_front r (cond t ([] ∷ slice_split is_end bs) (onto_first b (slice_split is_end bs)))) [
      | true ↦ ap whole (cut_behind (r ∷ []) nothing_cut bs)
          ∙ ap (λ (l : List (List ℕ)). r ∷ l) (pieces_from [] bs ∙ front_nothing bs)
          ∙ ap (λ (l : List ℕ). l ∷ slice_split is_end bs) (sym (append-nil r))
      | false ↦ pieces_from (r ++ b ∷ []) bs ∙ onto_more r b (slice_split is_end bs)
    ]

pub pieces : (bytes : List ℕ)
    → slice_split (λ b. b == 10) bytes ≡ (cut_of bytes).ended ++ (cut_of bytes).rest ∷ []
unfolding cut_of
pieces bytes = sym (pieces_from [] bytes ∙ front_nothing bytes)

-- ---- the lines that were read come first

pub ended_come_first : (all bytes : List ℕ) (left : Option (List ℕ))
    → Consumes (Some all) left bytes
    → (later : List (List ℕ)) × (lines_of all ≡ (cut_of bytes).ended ++ later)
ended_come_first all bytes None r = absurd r
ended_come_first all bytes (Some left) r =
    let g = ended_grows bytes left in
    let k = ended_among_lines (bytes ++ left) in (
      g.0 ++ k.0,
      ap lines_of r
          ∙ k.1
          ∙ ap (λ (l : List (List ℕ)). l ++ k.0) g.1
          ∙ append_assoc (cut_of bytes).ended g.0 k.0,
    )

pub read_come_first : (all bytes : List ℕ) (left : Option (List ℕ)) → Consumes (Some all) left bytes
    → (later : List (List ℕ)) × (lines_of all ≡ lines_read bytes left ++ later)
read_come_first all bytes None r = absurd r
read_come_first all bytes (Some []) r =
    ([], ap lines_of (r ∙ append-nil bytes) ∙ sym (append-nil (lines_of bytes)))
read_come_first all bytes (Some (b ∷ left)) r = ended_come_first all bytes (Some (b ∷ left)) r
