-- The kept bytes of a line.
use Rattle.std.proofs.Common.{◌≡◌, ◌⊎◌, inl, inr, ◌<◌, ◌≤◌, ◌+◌, ℕ, false, List, [], ◌∷◌, ◌++◌}
use Rattle.std.proofs.Common.{length, take, refl, sym, ap, ◌∙◌, arith, append-nil, min}
use Rattle.std.proofs.lemmas.List.{take-append-le, length-take-le, take_all, take_min}
use Rattle.std.proofs.lemmas.Bool.{cases_lt}
use Rattle.std.proofs.lemmas.Bool.Decides.{nat_tests}
use Rattle.std.proofs.Math.Seq.{take-append-add}
use Rattle.std.specs.Prelude.{nat_le, Option}
use Rattle.rcu_text.specs.Lines.{is_well_formed, kept_of, line_by}

-- as many bytes more as there is room for
pub kept_more : (line more : List ℕ) (room n : ℕ)
    → room + length line ≡ 81 → n ≡ min (length more) room
    → line ++ take n more ≡ take 81 (line ++ more)
kept_more line more room n full least =
    let count : 81 ≡ length line + room = omega arith in
    let same : take n more ≡ take room more =
    ap (λ (k : ℕ). take k more) (least ∙ min_swap (length more) room) ∙ take_min room more in
    ap (λ (l : List ℕ). line ++ l) same ∙ sym (take-append-add line more room)
    ∙ ap (λ (k : ℕ). take k (line ++ more)) (sym count)
  where
    min_swap : (a b : ℕ) → min a b ≡ min b a
    min_swap a b = omega arith

-- the kept bytes of a line's prefix decide the kept bytes of the line
pub kept_again : (line more : List ℕ) → kept_of (kept_of line ++ more) ≡ kept_of (line ++ more)
kept_again line more =
    elim (cases_lt (length line) 81) as
    (λ _. kept_of (kept_of line ++ more) ≡ kept_of (line ++ more)) [
      | inl short ↦ ap (λ (l : List ℕ). kept_of (l ++ more)) (take_all 81 line (omega arith))
      | inr long ↦
          let full : length (kept_of line) ≡ 81 = length-take-le 81 line long in
          take-append-le 81 (kept_of line) more (omega arith)
          ∙ take_all 81 (kept_of line) (omega arith)
          ∙ sym (take-append-le 81 line more long)
    ]

-- a line of more than 80 bytes is not well formed
pub too_long : (line : List ℕ) → 80 < length line → is_well_formed line ≡ false
too_long line long =
    let e : nat_le (length line) 80 ≡ false = grind (arith, nat_tests) in
    rw e refl

-- lines with the same kept bytes are the same, or neither is well formed
pub kept_alike : (line whole : List ℕ) → kept_of line ≡ kept_of whole → (line ≡ whole)
    ⊎ ((is_well_formed line ≡ false) × (is_well_formed whole ≡ false))
kept_alike line whole e = elim (cases_lt (length line) 81) [
  | inl short ↦ elim (cases_lt (length whole) 81) [
    | inl small ↦ inl (sym (take_all 81 line (omega arith)) ∙ e ∙ take_all 81 whole (omega arith))
    | inr large ↦ absurd (too_few line whole short large e)
  ]
  | inr long ↦ elim (cases_lt (length whole) 81) [
    | inl small ↦ absurd (too_few whole line small long (sym e))
    | inr large ↦ inr (too_long line (omega arith), too_long whole (omega arith))
  ]
]
  where
    too_few : (a b : List ℕ) → length a < 81 → 81 ≤ length b → kept_of a ≡ kept_of b → ⊥
    too_few a b small large e =
        let full : length (kept_of b) ≡ 81 = length-take-le 81 b large in
        let some : length (kept_of a) ≡ length a = ap length (take_all 81 a (omega arith)) in
        let same : length (kept_of a) ≡ length (kept_of b) = ap length e in
        omega arith

-- a line that has begun has a kept byte
pub nothing_kept : (line : List ℕ) → length (kept_of line) ≡ 0 → line ≡ []
nothing_kept [] e = refl
nothing_kept (b ∷ bs) e = absurd (omega arith)

kept_twice : (line : List ℕ) → kept_of (kept_of line) ≡ kept_of line
kept_twice line =
    ap kept_of (sym (append-nil (kept_of line))) ∙ kept_again line [] ∙ ap kept_of (append-nil line)

-- the line that these bytes end has the same kept bytes
pub kept_begun : (begun line longer front slice : List ℕ)
    → line ≡ kept_of begun → longer ≡ kept_of (line ++ front) → slice ≡ longer
    → kept_of slice ≡ kept_of (begun ++ front)
kept_begun begun line longer front slice k e s =
    ap kept_of (s ∙ e) ∙ kept_twice (line ++ front) ∙ ap (λ (l : List ℕ). kept_of (l ++ front)) k
    ∙ kept_again begun front

-- if no line was unfinished, these bytes are the line
pub nothing_begun : (begun line front : List ℕ) → line ≡ kept_of begun → length line ≡ 0
    → kept_of front ≡ kept_of (begun ++ front)
nothing_begun begun line front k none =
    ap (λ (l : List ℕ). kept_of (l ++ front)) (sym (nothing_kept begun (sym (ap length k) ∙ none)))

-- a line without an end has the same kept bytes
pub kept_whole : (begun line slice : List ℕ) → line ≡ kept_of begun → slice ≡ line
    → kept_of slice ≡ kept_of begun
kept_whole begun line slice k s = ap kept_of (s ∙ k) ∙ kept_twice begun

-- lines with the same kept bytes parse alike
pub line_alike : {E : Type 0} (parse : List ℕ → List (List ℕ) → Option E) (line whole : List ℕ)
    → kept_of line ≡ kept_of whole
    → line_by parse line ≡ line_by parse whole
line_alike parse line whole e = elim (kept_alike line whole e) [
  | inl same ↦ ap (line_by parse) same
  | inr bad ↦ rw (bad.0, bad.1) refl
]
