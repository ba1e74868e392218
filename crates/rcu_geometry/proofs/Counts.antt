-- How many numbers of a range pass a test, if those that pass have keys of their own.
use Rattle.std.proofs.Common.{◌≡◌, ℕ, zero, suc, ◌+◌, ◌<◌, ◌≤◌, ◌==◌, ◌&&◌, nat_lt, Bool, true}
use Rattle.std.proofs.Common.{false, cond, List, [], ◌∷◌, count_by, arith, inl, inr}
use Rattle.std.specs.List.{range_with_len}
use Rattle.std.proofs.lemmas.Bool.{cases_Bool}
use Rattle.std.proofs.lemmas.Bool.Decides.{nat_tests}
use Rattle.std.proofs.lemmas.List.Sums.{sum_by-cons, sum_by-le-sum_by}

-- if none passes, the count is 0
count-none : (test : ℕ → Bool) (a n : ℕ) → ((i : ℕ) → a ≤ i → i < a + n → test i ≡ false)
    → count_by test (range_with_len a n) ≡ 0
count-none test a zero fails = omega arith
count-none test a (suc n) fails =
    let first : ◌≡◌ {A = ℕ} (cond (test a) 1 0) 0 = rw (fails a (omega arith) (omega arith)) in
    let rest = count-none test (a + 1) n (λ i from below. fails i (omega arith) (omega arith)) in
    omega (arith, sum_by-cons (λ i. cond (test i) 1 0) a (range_with_len (a + 1) n), first, rest)

-- if any two that pass are the same, at most one passes
count-one : (test : ℕ → Bool) (a n : ℕ)
    → ((i j : ℕ) → a ≤ i → i < a + n → a ≤ j → j < a + n → test i ≡ true → test j ≡ true → i ≡ j)
    → count_by test (range_with_len a n) ≤ 1
count-one test a zero same = omega arith
count-one test a (suc n) same = elim (cases_Bool (test a)) [
  | inl passes ↦
      (let first : ◌≡◌ {A = ℕ} (cond (test a) 1 0) 1 = rw passes in
      let rest = count-none test (a + 1) n (λ i from below. elim (cases_Bool (test i)) [
        | inl also ↦
            (let e =
            same a i (omega arith) (omega arith) (omega arith) (omega arith) passes also in
            absurd (let no : ⊥ = omega arith in no))
        | inr fails ↦ fails
      ]) in
      omega
      (arith, sum_by-cons (λ i. cond (test i) 1 0) a (range_with_len (a + 1) n), first, rest))
  | inr fails ↦
      (let first : ◌≡◌ {A = ℕ} (cond (test a) 1 0) 0 = rw fails in
      let rest =
      count-one test (a + 1) n
      (λ i j from_i below_i from_j below_j.
      same i j (omega arith) (omega arith) (omega arith) (omega arith)) in
      omega
      (arith, sum_by-cons (λ i. cond (test i) 1 0) a (range_with_len (a + 1) n), first, rest))
]

-- a count is at most those of two tests of which one passes whenever the first does
count-split : (test low high : ℕ → Bool)
    → ((x : ℕ) → cond (test x) 1 0 ≤ cond (low x) 1 0 + cond (high x) 1 0)
    → (xs : List ℕ) → count_by test xs ≤ count_by low xs + count_by high xs
count-split test low high covered [] = omega arith
count-split test low high covered (x ∷ xs) =
    let rest = count-split test low high covered xs in
    let all = sum_by-cons (λ i. cond (test i) 1 0) x xs in
    let lower = sum_by-cons (λ i. cond (low i) 1 0) x xs in
    let higher = sum_by-cons (λ i. cond (high i) 1 0) x xs in
    omega (arith, rest, covered x, all, lower, higher)

-- no two numbers of the n from a on that pass have one key
pub record HasOwnKeys (test : ℕ → Bool) (key : ℕ → ℕ) (a n : ℕ) : Type 0 where
  pub same : (i j : ℕ)
      → a ≤ i → i < a + n → a ≤ j → j < a + n → test i ≡ true → test j ≡ true → key i ≡ key j
      → i ≡ j

-- at most k of them have a key below k
count-below : (test : ℕ → Bool) (key : ℕ → ℕ) (a n k : ℕ) → HasOwnKeys test key a n
    → count_by (λ i. test i && nat_lt (key i) k) (range_with_len a n) ≤ k
count-below test key a n zero own =
    let none =
    count-none (λ i. test i && nat_lt (key i) 0) a n (λ i from below. grind (arith, nat_tests)) in
    omega (arith, none)
count-below test key a n (suc k) own =
    let lower = count-below test key a n k own in
    let here = count-one (λ i. test i && key i == k) a n
    (λ i j from_i below_i from_j below_j passes_i passes_j.
    own.same i j from_i below_i from_j below_j (grind (arith, nat_tests)) (grind (arith, nat_tests))
    (grind (arith, nat_tests))) in
    let split =
    count-split (λ i. test i && nat_lt (key i) (suc k)) (λ i. test i && nat_lt (key i) k)
    (λ i. test i && key i == k) (λ x. grind (arith, nat_tests)) (range_with_len a n) in
    omega (arith, lower, here, split)

-- if all keys are below a bound, at most that many pass
pub count-within : (test : ℕ → Bool) (key : ℕ → ℕ) (a n bound : ℕ)
    → HasOwnKeys test key a n → ((i : ℕ) → key i < bound)
    → count_by test (range_with_len a n) ≤ bound
count-within test key a n bound own below =
    let bounded = count-below test key a n bound own in
    let more =
    sum_by-le-sum_by (λ i. cond (test i) 1 0) (λ i. cond (test i && nat_lt (key i) bound) 1 0)
    (range_with_len a n) (λ i. let low = below i in grind (arith, nat_tests)) in
    omega (arith, bounded, more)
