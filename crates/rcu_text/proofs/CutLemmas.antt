-- The lines of bytes that are read piece by piece.
use Rattle.std.proofs.Common.{◌≡◌, ◌≢◌, ◌==◌, ℕ, suc, true, false, List, [], ◌∷◌, ◌++◌, refl, sym}
use Rattle.std.proofs.Common.{ap, ap₂, ◌∙◌, arith, append_assoc, append-nil, cond, Bool, length}
use Rattle.std.specs.Prelude.{All, fold}
use Rattle.std.proofs.lemmas.Bool.{ne_eqb}
use Rattle.std.proofs.lemmas.List.Sums.{fold-append}
use Rattle.rcu_text.specs.Lines.{Cut, cut_of, lines_of, nothing_cut, with_byte}

open_head : (b : ℕ) (bs : List ℕ) → All (λ x. x ≢ 10) (b ∷ bs) → b ≢ 10
open_head b bs h = h 0 0 (omega arith)

open_tail : (b : ℕ) (bs : List ℕ) → All (λ x. x ≢ 10) (b ∷ bs) → All (λ x. x ≢ 10) bs
open_tail b bs h = λ k d lt. h (suc k) d (omega arith)

open_more : (c : Cut) (front : List ℕ) → All (λ x. x ≢ 10) front
    → fold with_byte c front ≡ record { ended = c.ended; rest = c.rest ++ front }
open_more c [] h =
    ap (λ (r : List ℕ). record { ended = c.ended; rest = r }) (sym (append-nil c.rest))
open_more c (b ∷ bs) h =
    let e : (b == 10) ≡ false = ne_eqb b 10 (open_head b bs h) in
    let ih =
    open_more (record { ended = c.ended; rest = c.rest ++ b ∷ [] }) bs (open_tail b bs h) in
    rw e
    (ih
    ∙ ap (λ (r : List ℕ). record { ended = c.ended; rest = r }) (append_assoc c.rest (b ∷ []) bs))

-- bytes among which no line ends join the rest
pub cut_open : (bytes front : List ℕ)
    → All (λ x. x ≢ 10) front
    → cut_of (bytes ++ front)
    ≡ record { ended = (cut_of bytes).ended; rest = (cut_of bytes).rest ++ front }
unfolding cut_of
cut_open bytes front h =
    fold-append with_byte nothing_cut bytes front
    ∙ open_more (fold with_byte nothing_cut bytes) front h

pub cut_end : (bytes : List ℕ) → cut_of (bytes ++ 10 ∷ [])
    ≡ record { ended = (cut_of bytes).ended ++ (cut_of bytes).rest ∷ []; rest = [] }
unfolding cut_of
cut_end bytes = fold-append with_byte nothing_cut bytes (10 ∷ [])

-- a line end ends the rest
pub cut_line : (bytes front : List ℕ) → All (λ x. x ≢ 10) front
    → cut_of (bytes ++ (front ++ 10 ∷ []))
    ≡ record { ended = (cut_of bytes).ended ++ ((cut_of bytes).rest ++ front) ∷ []; rest = [] }
cut_line bytes front h =
    ap cut_of (sym (append_assoc bytes front (10 ∷ [])))
    ∙ cut_end (bytes ++ front)
    ∙ ap (λ (c : Cut). record { ended = c.ended ++ c.rest ∷ []; rest = [] })
    (cut_open bytes front h)

grows : (c : Cut) (bs : List ℕ)
    → (later : List (List ℕ)) × ((fold with_byte c bs).ended ≡ c.ended ++ later)
grows c [] = ([], sym (append-nil c.ended))
grows c (b ∷ bs) =
    elim (b == 10) as (λ t.
    (later : List (List ℕ))
    × ((fold with_byte
    (cond t (record { ended = c.ended ++ c.rest ∷ []; rest = [] })
    (record { ended = c.ended; rest = c.rest ++ b ∷ [] }))
    bs).ended
    ≡ c.ended ++ later)) [
      | true ↦
          let ih = grows (record { ended = c.ended ++ c.rest ∷ []; rest = [] }) bs in
          (c.rest ∷ ih.0, ih.1 ∙ append_assoc c.ended (c.rest ∷ []) ih.0)
      | false ↦ grows (record { ended = c.ended; rest = c.rest ++ b ∷ [] }) bs
    ]

-- more bytes only add to the ended lines
pub ended_grows : (a b : List ℕ)
    → (later : List (List ℕ)) × ((cut_of (a ++ b)).ended ≡ (cut_of a).ended ++ later)
unfolding cut_of
ended_grows a b =
    let more = grows (fold with_byte nothing_cut a) b in
    (more.0, ap (λ (c : Cut). c.ended) (fold-append with_byte nothing_cut a b) ∙ more.1)

-- ---- a text whose last line is ended

abbrev pub behind : List (List ℕ) → Cut → Cut
behind lines c = record { ended = lines ++ c.ended; rest = c.rest }

step_behind : (lines : List (List ℕ)) (c : Cut) (b : ℕ)
    → with_byte (behind lines c) b ≡ behind lines (with_byte c b)
step_behind lines c b =
    elim (b == 10) as (λ t.
    cond t (record { ended = (lines ++ c.ended) ++ c.rest ∷ []; rest = [] })
    (record { ended = lines ++ c.ended; rest = c.rest ++ b ∷ [] })
    ≡ behind lines
    (cond t (record { ended = c.ended ++ c.rest ∷ []; rest = [] })
    (record { ended = c.ended; rest = c.rest ++ b ∷ [] }))) [
      | true ↦ ap (λ (l : List (List ℕ)). record { ended = l; rest = [] })
          (append_assoc lines c.ended (c.rest ∷ []))
      | false ↦ refl
    ]

pub cut_behind : (lines : List (List ℕ)) (c : Cut) (bytes : List ℕ)
    → fold with_byte (behind lines c) bytes ≡ behind lines (fold with_byte c bytes)
cut_behind lines c [] = refl
cut_behind lines c (b ∷ bs) =
    ap (λ (k : Cut). fold with_byte k bs) (step_behind lines c b)
    ∙ cut_behind lines (with_byte c b) bs

pub cut_append : (a b : List ℕ) → (cut_of a).rest ≡ []
    → (cut_of (a ++ b)).ended ≡ (cut_of a).ended ++ (cut_of b).ended
unfolding cut_of
cut_append a b closed =
    let c = fold with_byte nothing_cut a in
    let e : c ≡ behind c.ended nothing_cut =
    ap₂ (λ (x : List (List ℕ)) (y : List ℕ). record { ended = x; rest = y })
    (sym (append-nil c.ended)) closed in
    ap (λ (k : Cut). k.ended)
    (fold-append with_byte nothing_cut a b
    ∙ ap (λ (k : Cut). fold with_byte k b) e
    ∙ cut_behind c.ended nothing_cut b)

-- the last byte is a line end
abbrev pub Closes : List ℕ → Type 0
Closes text = (front : List ℕ) × (text ≡ front ++ 10 ∷ [])

pub closes_behind : (a b : List ℕ) → Closes b → Closes (a ++ b)
closes_behind a b c = (
  a ++ c.0,
  ap (λ (l : List ℕ). a ++ l) c.1 ∙ sym (append_assoc a c.0 (10 ∷ [])),
)

pub closed : (text : List ℕ) → Closes text → (cut_of text).rest ≡ []
closed text c = ap (λ (l : List ℕ). (cut_of l).rest) c.1 ∙ ap (λ (k : Cut). k.rest) (cut_end c.0)

-- the ended lines come first among all
pub ended_among_lines : (bytes : List ℕ)
    → (later : List (List ℕ)) × (lines_of bytes ≡ (cut_of bytes).ended ++ later)
ended_among_lines bytes = go (length (cut_of bytes).rest == 0) refl
  where
    go : (t : Bool) → (length (cut_of bytes).rest == 0) ≡ t
        → (later : List (List ℕ)) × (lines_of bytes ≡ (cut_of bytes).ended ++ later)
    go true e = ([], rw e (sym (append-nil (cut_of bytes).ended)))
    go false e = ((cut_of bytes).rest ∷ [], rw e refl)
