-- Printed numbers read back.
use Rattle.std.proofs.Common.{◌≡◌, ◌∙◌, ◌<◌, ◌≤◌, ◌+◌, ◌*◌, ◌-◌, ◌/◌, ◌%◌, ◌^◌, ◌&&◌, ℕ, zero, suc}
use Rattle.std.proofs.Common.{Bool, true, false, List, [], ◌∷◌, ◌++◌, length, replicate, take, drop}
use Rattle.std.proofs.Common.{Some, None, Result, Ok, Err, refl, sym, ap, ap₂, arith, length-append}
use Rattle.std.proofs.Common.{length-drop, take-append-drop, if◌then◌else◌}
use Rattle.std.specs.Prelude.{decimal, nat_le, nat_lt}
use Rattle.std.specs.List.{list_all}
use Rattle.std.specs.Result.{OkIff, result_ok}
use Rattle.std.proofs.Math.Nat.{pow-le-pow_right}
use Rattle.std.proofs.lemmas.Bool.Decides.{nat_tests}
use Rattle.std.proofs.lemmas.Fmt.{decimal_by_steps}
use Rattle.std.proofs.lemmas.List.{length-replicate}
use Rattle.std.proofs.lemmas.List.Folds.{list_all-append}
use Rattle.std.proofs.lemmas.List.Sums.{fold_push}
use Rattle.rcu_text.specs.Words.{is_digit, is_number, number_in_word, value_of}

-- digits that spell a number
record Spells (n : ℕ) (digits : List ℕ) : Type 0 where
  only : list_all is_digit digits ≡ true
  value : value_of digits ≡ n
  some : 0 < length digits

digit : (n : ℕ) → n < 10 → is_digit (48 + n) ≡ true
digit n low = grind (arith, nat_tests)

spells_one : (n : ℕ) → n < 10 → Spells n ((48 + n) ∷ [])
spells_one n low = record {
  only = rw (digit n low) refl;
  value = omega arith;
  some = omega arith;
}

spells_more : (n : ℕ) (digits : List ℕ) → 10 ≤ n → Spells (n / 10) digits
    → Spells n (digits ++ (48 + n % 10) ∷ [])
spells_more n digits many s =
    let low : n % 10 < 10 = omega arith in
    let last = digit (n % 10) low in
    let next : value_of (digits ++ (48 + n % 10) ∷ []) ≡ 10 * value_of digits
    + (48 + n % 10 - 48) = fold_push (λ m b. 10 * m + (b - 48)) 0 digits (48 + n % 10) in
    let same = s.value in
    let long = length-append digits ((48 + n % 10) ∷ []) in
    record {
      only = list_all-append is_digit digits ((48 + n % 10) ∷ []) ∙ rw (s.only, last) refl;
      value = omega arith;
      some = omega arith;
    }

spells : (n : ℕ) → n < 2 ^ 64 → Spells n (decimal n)
spells n fits = decimal_by_steps Spells spells_one spells_more n fits

zeros_only : (zeros : ℕ) (digits : List ℕ)
    → list_all is_digit (replicate zeros 48 ++ digits) ≡ list_all is_digit digits
zeros_only zero digits = refl
zeros_only (suc zeros) digits = zeros_only zeros digits

zeros_value : (zeros : ℕ) (digits : List ℕ)
    → value_of (replicate zeros 48 ++ digits) ≡ value_of digits
zeros_value zero digits = refl
zeros_value (suc zeros) digits = zeros_value zeros digits

pub reads_back : (zeros n : ℕ) → n < 2 ^ 64 → zeros + length (decimal n) ≤ 20
    → number_in_word (replicate zeros 48 ++ decimal n) ≡ Some n
reads_back zeros n fits short =
    let s = spells n fits in
    let word = replicate zeros 48 ++ decimal n in
    let only : list_all is_digit word ≡ true = zeros_only zeros (decimal n) ∙ s.only in
    let value : value_of word ≡ n = zeros_value zeros (decimal n) ∙ s.value in
    let count : length word ≡ zeros + length (decimal n) =
    length-append (replicate zeros 48) (decimal n)
    ∙ ap (λ (k : ℕ). k + length (decimal n)) (length-replicate zeros 48) in
    let some = s.some in
    spelled word n only value (omega arith) (omega arith) fits
  where
    spelled : (word : List ℕ) (n : ℕ)
        → list_all is_digit word ≡ true
        → value_of word ≡ n
        → 0 < length word
        → length word ≤ 20
        → n < 2 ^ 64
        → number_in_word word ≡ Some n
    spelled word n only value some short fits =
        let a : nat_lt 0 (length word) ≡ true = grind (arith, nat_tests) in
        let b : nat_le (length word) 20 ≡ true = grind (arith, nat_tests) in
        let d : nat_lt (value_of word) (2 ^ 64) ≡ true = grind (arith, nat_tests) in
        let is : is_number word ≡ true = rw (a, b, only, d) refl in
        rw is (ap (λ (k : ℕ). Some k) value)

-- ---- digits that fit 64 bits

-- one digit more than 18 or fewer
pub next_digit_fits : (value i d : ℕ) → value < 10 ^ i → i < 19 → d < 10 → 10 * value + d < 2 ^ 64
next_digit_fits value i d small at digit =
    let most : i ≤ 18 = omega arith in
    let top : 10 ^ i ≤ 10 ^ 18 = pow-le-pow_right {n = 10} (omega arith) {i = i} {j = 18} most in
    omega arith

-- 20 digits are 19 and one more
long_word : (word : List ℕ) → length word ≡ 20 → (b : ℕ) × (drop 19 word ≡ b ∷ [])
long_word word n =
    let one : length (drop 19 word) ≡ 1 = omega (arith, length-drop 19 word) in
    single (drop 19 word) one
  where
    single : (xs : List ℕ) → length xs ≡ 1 → (b : ℕ) × (xs ≡ b ∷ [])
    single [] n = absurd (omega arith)
    single (b ∷ []) n = (b, refl)
    single (b ∷ c ∷ xs) n = absurd (omega arith)

-- the value of 20 digits, of the values of the first 19 and the last one
pub long_value : (word : List ℕ) → length word ≡ 20
    → value_of word ≡ 10 * value_of (take 19 word) + value_of (drop 19 word)
long_value word n =
    let last = long_word word n in
    let whole : word ≡ take 19 word ++ last.0 ∷ [] = sym (take-append-drop 19 word)
    ∙ ap (λ (l : List ℕ). take 19 word ++ l) last.1 in
    let one : value_of (drop 19 word) ≡ last.0 - 48 = ap value_of last.1 ∙ omega arith in
    let next : value_of (take 19 word ++ last.0 ∷ []) ≡ 10 * value_of (take 19 word)
    + (last.0 - 48) = fold_push (λ m b. 10 * m + (b - 48)) 0 (take 19 word) last.0 in
    let same : value_of word ≡ value_of (take 19 word ++ last.0 ∷ []) = ap value_of whole in
    omega arith

-- 20 digits are digits if their first 19 and the last one are
pub long_digits : (word : List ℕ) → list_all is_digit word
    ≡ (list_all is_digit (take 19 word) && list_all is_digit (drop 19 word))
long_digits word = ap (list_all is_digit) (sym (take-append-drop 19 word))
    ∙ list_all-append is_digit (take 19 word) (drop 19 word)

-- a value that was found is that of digits
found_digits : (ds : List ℕ) (n : ℕ)
    → Some n ≡ (if list_all is_digit ds then Some (value_of ds) else None)
    → (list_all is_digit ds ≡ true) × (n ≡ value_of ds)
found_digits ds n found = go (list_all is_digit ds) refl found
  where
    go : (t : Bool) → list_all is_digit ds ≡ t → Some n ≡ (if t then Some (value_of ds) else None)
        → (list_all is_digit ds ≡ true) × (n ≡ value_of ds)
    go true e found = (e, cc)
    go false e found = cc

-- the number of 20 digits, read as 19 and one more
pub long_read : {E : Type 0} (word front last : List ℕ) (a b c d : ℕ) (t : Result ℕ E)
    → length word ≡ 20
    → front ≡ take 19 word
    → last ≡ drop 19 word
    → Some a ≡ (if list_all is_digit front then Some (value_of front) else None)
    → Some b ≡ (if list_all is_digit last then Some (value_of last) else None)
    → c ≡ a
    → d ≡ b
    → OkIff t (10 * c + d < 2 ^ 64) (10 * c + d)
    → result_ok t ≡ number_in_word word
long_read word front last a b c d t n of_front of_last first later wide wide2 h =
    let f = found_digits front a first in
    let l = found_digits last b later in
    let f0 : list_all is_digit (take 19 word) ≡ true =
    ap (list_all is_digit) (sym of_front) ∙ f.0 in
    let l0 : list_all is_digit (drop 19 word) ≡ true = ap (list_all is_digit) (sym of_last) ∙ l.0 in
    let f1 : a ≡ value_of (take 19 word) = f.1 ∙ ap value_of of_front in
    let l1 : b ≡ value_of (drop 19 word) = l.1 ∙ ap value_of of_last in
    let e : list_all is_digit word ≡ true = long_digits word ∙ ap₂ (λ (x y : Bool). x && y) f0 l0 in
    let same : 10 * c + d ≡ value_of word = omega (arith, long_value word n) in
    let x : nat_lt 0 (length word) ≡ true = grind (arith, nat_tests) in
    let y : nat_le (length word) 20 ≡ true = grind (arith, nat_tests) in
    rw (x, y, e) (by_fit t h same)
  where
    by_fit : {E : Type 0} (t : Result ℕ E)
        → OkIff t (10 * c + d < 2 ^ 64) (10 * c + d) → 10 * c + d ≡ value_of word
        → result_ok t ≡ (if nat_lt (value_of word) (2 ^ 64) then Some (value_of word) else None)
    by_fit (Ok v) h same =
        let fits : nat_lt (value_of word) (2 ^ 64) ≡ true = grind (arith, nat_tests) in
        rw fits (ap (λ (k : ℕ). Some k) (h.1 ∙ same))
    by_fit (Err e) h same = go (nat_lt (value_of word) (2 ^ 64)) refl
      where
        go : (u : Bool) → nat_lt (value_of word) (2 ^ 64) ≡ u
            → None ≡ (if u then Some (value_of word) else None)
        go false f = refl
        go true f = absurd (h (grind (arith, nat_tests)))
