-- Processors that are listed in a buffer, as far as it has room.
use Rattle.std.proofs.Common.{◌≡◌, ℕ, zero, suc, ◌+◌, ◌-◌, ◌<◌, ◌≤◌, Bool, true, false, List, []}
use Rattle.std.proofs.Common.{◌∷◌, ◌++◌, length, take, ap, refl, sym, ◌∙◌, arith, append-nil}
use Rattle.std.specs.Prelude.{filter, slice_set}
use Rattle.std.specs.List.{range_with_len}
use Rattle.std.proofs.lemmas.List.{length-append, length-take, take-append-le, take_all}
use Rattle.std.proofs.lemmas.List.{take_more_set}
use Rattle.rcu_node.proofs.RangeLemmas.{filter-range_more}

-- one more of this number, which is listed
more_yes : (p : ℕ → Bool) (n : ℕ) → p n ≡ true
    → filter p (range_with_len 0 (n + 1)) ≡ filter p (range_with_len 0 n) ++ n ∷ []
more_yes p n passes = filter-range_more p n ∙ rw passes refl

-- one more of this number, which is not
more_no : (p : ℕ → Bool) (n : ℕ) → p n ≡ false
    → filter p (range_with_len 0 (n + 1)) ≡ filter p (range_with_len 0 n)
more_no p n fails = filter-range_more p n ∙ rw fails (append-nil (filter p (range_with_len 0 n)))

-- if there is room for more than these, there is for all of them
all_fit : (room : ℕ) (xs : List ℕ) → length (take room xs) < room → length xs ≤ room
all_fit room xs short = omega (arith, short, length-take room xs)

-- there is room for one more
fits_yes : (room count : ℕ) (xs now : List ℕ) (x : ℕ) → count < room → count ≡ length (take room xs)
    → take count now ≡ take room xs → count < length now
    → take (count + 1) (slice_set now count x) ≡ take room (xs ++ x ∷ [])
fits_yes room count xs now x free is same inside =
    let short : length (take room xs) < room = omega (arith, is) in
    let fit : length xs ≤ room = all_fit room xs short in
    let all : take room xs ≡ xs = take_all room xs fit in
    let size : count ≡ length xs = is ∙ ap (λ (l : List ℕ). length l) all in
    let long : length (xs ++ x ∷ []) ≤ room = omega (arith, length-append xs (x ∷ []), size) in
    take_more_set now count x inside
    ∙ ap (λ l. l ++ x ∷ []) (same ∙ all)
    ∙ sym (take_all room (xs ++ x ∷ []) long)

counted_yes : (room count : ℕ) (xs : List ℕ) (x : ℕ) → count < room → count ≡ length (take room xs)
    → count + 1 ≡ length (take room (xs ++ x ∷ []))
counted_yes room count xs x free is =
    omega (arith, length-append xs (x ∷ []), length-take room xs, length-take room (xs ++ x ∷ []))

-- there is none
full : (room : ℕ) (xs : List ℕ) (x : ℕ) → room ≤ length (take room xs)
    → take room (xs ++ x ∷ []) ≡ take room xs
full room xs x none = take-append-le room xs (x ∷ []) (omega (arith, none, length-take room xs))

-- the list with one processor more: it passes and there is room; it does not pass; or there is no
-- room
pub listed_yes : (p : ℕ → Bool) (n room count : ℕ) (now : List ℕ) → p n ≡ true → count < room
    → count ≡ length (take room (filter p (range_with_len 0 n)))
    → take count now ≡ take room (filter p (range_with_len 0 n)) → count < length now
    → take (count + 1) (slice_set now count n) ≡ take room (filter p (range_with_len 0 (n + 1)))
listed_yes p n room count now passes free is same inside =
    fits_yes room count (filter p (range_with_len 0 n)) now n free is same inside
    ∙ ap (λ l. take room l) (sym (more_yes p n passes))

pub count_yes : (p : ℕ → Bool) (n room count : ℕ) → p n ≡ true → count < room
    → count ≡ length (take room (filter p (range_with_len 0 n)))
    → count + 1 ≡ length (take room (filter p (range_with_len 0 (n + 1))))
count_yes p n room count passes free is =
    counted_yes room count (filter p (range_with_len 0 n)) n free is
    ∙ ap (λ l. length (take room l)) (sym (more_yes p n passes))

pub listed_no : (p : ℕ → Bool) (n room : ℕ) → p n ≡ false
    → take room (filter p (range_with_len 0 (n + 1))) ≡ take room (filter p (range_with_len 0 n))
listed_no p n room fails = ap (λ l. take room l) (more_no p n fails)

full_more : (p : ℕ → Bool) (n room : ℕ) (b : Bool)
    → p n ≡ b → room ≤ length (take room (filter p (range_with_len 0 n)))
    → take room (filter p (range_with_len 0 (n + 1))) ≡ take room (filter p (range_with_len 0 n))
full_more p n room true is none =
    ap (λ l. take room l) (more_yes p n is) ∙ full room (filter p (range_with_len 0 n)) n none
full_more p n room false is none = listed_no p n room is

pub listed_full : (p : ℕ → Bool) (n room : ℕ)
    → room ≤ length (take room (filter p (range_with_len 0 n)))
    → take room (filter p (range_with_len 0 (n + 1))) ≡ take room (filter p (range_with_len 0 n))
listed_full p n room none = full_more p n room (p n) refl none

-- no processor from one on is listed
passed_more : (p : ℕ → Bool) (from more n : ℕ) → n ≡ from + more
    → ((i : ℕ) → from ≤ i → i < n → p i ≡ false)
    → filter p (range_with_len 0 n) ≡ filter p (range_with_len 0 from)
passed_more p from zero n end none =
    let same : n ≡ from = omega (arith, end) in ap (λ k. filter p (range_with_len 0 k)) same
passed_more p from (suc m) n end none =
    let next : n ≡ from + m + 1 = omega (arith, end) in
    ap (λ k. filter p (range_with_len 0 k)) next
    ∙ more_no p (from + m) (none (from + m) (omega arith) (omega (arith, next)))
    ∙ passed_more p from m (from + m) refl
    (λ i later less. none i later (omega (arith, less, next)))

pub listed_passed : (p : ℕ → Bool) (from n : ℕ) → from ≤ n
    → ((i : ℕ) → from ≤ i → i < n → p i ≡ false)
    → filter p (range_with_len 0 n) ≡ filter p (range_with_len 0 from)
listed_passed p from n later none = passed_more p from (n - from) n (omega (arith, later)) none

full_to_more : (p : ℕ → Bool) (from more n room : ℕ) → n ≡ from + more
    → room ≤ length (take room (filter p (range_with_len 0 from)))
    → take room (filter p (range_with_len 0 n)) ≡ take room (filter p (range_with_len 0 from))
full_to_more p from zero n room end none =
    let same : n ≡ from = omega (arith, end) in
    ap (λ k. take room (filter p (range_with_len 0 k))) same
full_to_more p from (suc m) n room end none =
    let next : n ≡ from + m + 1 = omega (arith, end) in
    let so_far = full_to_more p from m (from + m) room refl none in
    let still : room ≤ length (take room (filter p (range_with_len 0 (from + m)))) =
    omega (arith, none, ap (λ (l : List ℕ). length l) so_far) in
    ap (λ k. take room (filter p (range_with_len 0 k))) next
    ∙ listed_full p (from + m) room still
    ∙ so_far

-- if there is no more room, the rest changes nothing
pub listed_full_to : (p : ℕ → Bool) (from n room : ℕ) → from ≤ n
    → room ≤ length (take room (filter p (range_with_len 0 from)))
    → take room (filter p (range_with_len 0 n)) ≡ take room (filter p (range_with_len 0 from))
listed_full_to p from n room later none =
    full_to_more p from (n - from) n room (omega (arith, later)) none
