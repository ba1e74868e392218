-- Facts on numbers and own words.
use Rattle.std.proofs.Common.{◌≡◌, ◌≢◌, ℕ, ◌+◌, ◌%◌, ◌<◌, ◌≤◌, true, false, arith}
use Rattle.std.proofs.lemmas.Bool.Decides.{nat_tests}
use Rattle.rcu_seq.specs.Numbers.{Number}
use Rattle.rcu_live.specs.Numbers.{is_own_word, is_past, is_open_at, may_open}
use Rattle.rcu_live.specs.Words.{base_of, own_word_index, mask_index}

-- an own word with which a section may open is at most one more than the number seen
pub own_bound : (seen : Number) (word : ℕ) → is_own_word seen word ≡ true → may_open word ≡ true
    → word ≤ seen + 1
own_bound seen word own online = grind (arith, nat_tests)

-- a seat that saw a later number may store the same words
pub own_later : (seen n : Number) (word : ℕ) → seen ≤ n → is_own_word seen word ≡ true
    → is_own_word n word ≡ true
own_later seen n word up own = grind (arith, nat_tests)

-- an own word at the start
pub own_small : (word : ℕ) → word ≤ 1 → is_own_word 0 word ≡ true
own_small word small = grind (arith, nat_tests)

-- a section that is not past may be open
pub open_at : (n at : Number) → at ≤ n → is_past at n ≡ false → is_open_at n at ≡ true
open_at n at up current = grind (arith, nat_tests)

-- processors have places of their own, and the number's is none of them
pub own_words_apart : (a b : ℕ) → a ≢ b → own_word_index a ≢ own_word_index b
own_words_apart a b apart same = apart (omega arith)

pub number_apart : (cpu : ℕ) → own_word_index cpu ≢ 0
number_apart cpu same = absurd (omega arith)

-- online masks have places of their own, among the engine's words
pub mask_apart : (cpu c : ℕ) → own_word_index cpu ≢ mask_index c
mask_apart cpu c same = absurd (omega arith)

pub mask_number : (c : ℕ) → mask_index c ≢ 0
mask_number c same = absurd (omega arith)

pub mask_inside : (c cpus : ℕ) → c < cpus → mask_index c < base_of cpus
mask_inside c cpus low = omega (arith, low)

pub same_mask : (c d : ℕ) → mask_index c ≡ mask_index d → c % 64 ≡ d % 64 → c ≡ d
same_mask c d same bit = omega (arith, same, bit)

-- the asked processor's word has a place of its own
pub number_asked : ◌≢◌ {A = ℕ} 0 1
number_asked same = absurd (omega (arith, same))

pub client_asked : (cpus word at : ℕ) → at ≡ base_of cpus + word → at ≢ 1
client_asked cpus word at is same = absurd (omega (arith, is, same))

pub asked_own_word : (cpu : ℕ) → own_word_index cpu ≢ 1
asked_own_word cpu same = absurd (omega arith)

pub asked_mask : (c : ℕ) → mask_index c ≢ 1
asked_mask c same = absurd (omega arith)
