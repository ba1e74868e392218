-- Rows of words, as they are read and as the roots have them.
use Rattle.std.proofs.Common.{◌≡◌, ◌≢◌, ◌<◌, ◌+◌, ℕ, List, length, set, replicate, sym, ap, ◌∙◌}
use Rattle.std.proofs.Common.{arith, length-set}
use Rattle.std.specs.Prelude.{slice_index}
use Rattle.std.proofs.lemmas.List.{ext_get_or, get_or-set_other, get_or-set_same, length-replicate}
use mathlib.Core.Logic.{dite}
use native.Mathlib.Decide.{ℕ_discrete}
use Rattle.rcu_map.specs.Keys.{IsWhole, key_in, root_words}

-- one more word was read
pub read_more : (read words : List ℕ) (at x : ℕ) → at < length read
    → ((j : ℕ) → j < at → slice_index read j ≡ slice_index words j) → x ≡ slice_index words at
    → (j : ℕ) → j < at + 1 → slice_index (set read at x) j ≡ slice_index words j
read_more read words at x low before is j high =
    dite (ℕ_discrete j at)
    (λ (e : j ≡ at).
    ap (λ (k : ℕ). slice_index (set read at x) k) e
    ∙ (get_or-set_same read at x 0 low ∙ (is ∙ ap (λ (k : ℕ). slice_index words k) (sym e))))
    (λ (ne : j ≢ at). get_or-set_other read at j x 0 ne ∙ before j (omega (arith, high, ne)))

-- all words were read
pub read_all : (read words : List ℕ) (width : ℕ) → length read ≡ width → length words ≡ width
    → ((j : ℕ) → j < width → slice_index read j ≡ slice_index words j) → read ≡ words
read_all read words width a b same =
    ext_get_or 0 read words (a ∙ sym b) (λ i low. same i (omega (arith, low, a)))

pub zeros : (width : ℕ) → length {A = ℕ} (replicate width 0) ≡ width
zeros width = length-replicate width 0

pub root_key : (width bucket : ℕ) → key_in (root_words width bucket) ≡ 0
root_key width bucket = grind (arith)

-- the words of a root are whole: they have no key
pub root_whole : (holds : List ℕ → Type 0) (width bucket : ℕ)
    → IsWhole holds width (root_words width bucket)
root_whole holds width bucket = record {
  sized = length-set (replicate width 0) 1 bucket ∙ zeros width;
  entry = λ up. let k = root_key width bucket in absurd (omega (arith, k, up));
}
