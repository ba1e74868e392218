-- The awaited set after the processors below one that pass a test reported.
use Rattle.std.proofs.Common.{◌≡◌, ◌≢◌, ℕ, ◌+◌, ◌<◌, ◌≤◌, ◌&&◌, Bool, true, false, not, nat_lt}
use Rattle.std.proofs.Common.{List, length, slice_set, refl, sym, ap, ◌∙◌, arith}
use Rattle.std.proofs.lemmas.Bool.Decides.{nat_tests}
use Rattle.rcu_node.specs.CpuSet.{is_in, unheard}
use Rattle.rcu_node.proofs.CpuSetLemmas.{is_in-listed, length-listed, listed_same, listed_set}

-- the processors below n that pass the test have reported
abbrev pub heard_below : ℕ → (ℕ → Bool) → ℕ → Bool
heard_below n test cpu = nat_lt cpu n && test cpu

-- no processor is below 0, and all are below the end
pub none_below : (set : List Bool) (test : ℕ → Bool) → unheard set (heard_below 0 test) ≡ set
none_below set test =
    listed_same (length set) (λ c. is_in set c && not (heard_below 0 test c)) set refl
    (λ c low. first (is_in set c) (test c) c)
  where
    first : (here there : Bool) (c : ℕ) → (here && not (nat_lt c 0 && there)) ≡ here
    first here there c = grind (arith, nat_tests)

pub all_below : (set : List Bool) (n : ℕ) (test : ℕ → Bool) → length set ≤ n
    → unheard set (heard_below n test) ≡ unheard set test
all_below set n test long =
    listed_same (length set) (λ c. is_in set c && not (heard_below n test c)) (unheard set test)
    (length-listed (length set) (λ c. is_in set c && not (test c)))
    (λ c low. last (is_in set c) (test c) c n (omega (arith, long, low))
    ∙ sym (is_in-listed (length set) (λ k. is_in set k && not (test k)) c low))
  where
    last : (here there : Bool) (c n : ℕ) → c < n
        → (here && not (nat_lt c n && there)) ≡ (here && not there)
    last here there c n low = grind (arith, nat_tests)

-- the next one reports, and is no longer awaited; those below have reported as before
pub one_below : (set : List Bool) (n : ℕ) (test other : ℕ → Bool) → n < length set → other n ≡ true
    → ((c : ℕ) → c < n → other c ≡ test c)
    → unheard set (heard_below (n + 1) other) ≡ slice_set (unheard set (heard_below n test)) n false
one_below set n test other inside told same =
    listed_set (length set) (λ c. is_in set c && not (heard_below n test c))
    (λ c. is_in set c && not (heard_below (n + 1) other c)) n false inside
    (gone (is_in set n) (other n) n told)
    (λ c low apart. others (is_in set c) (test c) (other c) c n apart (λ less. same c less))
  where
    gone : (here there : Bool) (n : ℕ) → there ≡ true
        → (here && not (nat_lt n (n + 1) && there)) ≡ false
    gone here there n is = grind (arith, nat_tests)

    others : (here there new : Bool) (c n : ℕ) → c ≢ n → (c < n → new ≡ there)
        → (here && not (nat_lt c (n + 1) && new)) ≡ (here && not (nat_lt c n && there))
    others here there new c n apart is = grind (arith, nat_tests, apart, is)

-- two flags are not both set if the second is not
pub not_both : (here there : Bool) → there ≡ false → (here && there) ≡ false
not_both here there is = grind (arith, nat_tests)

-- the next one does not report, or was not awaited
pub none_more : (set : List Bool) (n : ℕ) (test other : ℕ → Bool) → (is_in set n && other n) ≡ false
    → ((c : ℕ) → c < n → other c ≡ test c)
    → unheard set (heard_below (n + 1) other) ≡ unheard set (heard_below n test)
none_more set n test other out same =
    sym (listed_same (length set) (λ c. is_in set c && not (heard_below n test c))
    (unheard set (heard_below (n + 1) other))
    (length-listed (length set) (λ c. is_in set c && not (heard_below (n + 1) other c)))
    (λ c low.
    stays (is_in set c) (test c) (other c) c n (λ less. same c less)
    (λ e. ap (λ (k : ℕ). is_in set k && other k) e ∙ out)
    ∙ sym
    (is_in-listed (length set) (λ k. is_in set k && not (heard_below (n + 1) other k)) c low)))
  where
    stays : (here there new : Bool) (c n : ℕ)
        → (c < n → new ≡ there) → (c ≡ n → (here && new) ≡ false)
        → (here && not (nat_lt c n && there)) ≡ (here && not (nat_lt c (n + 1) && new))
    stays here there new c n is out = grind (arith, nat_tests, is, out)

-- up to a processor before which no further one of the set reported
pub same_below : (set : List Bool) (n m : ℕ) (test : ℕ → Bool) → n ≤ m
    → ((c : ℕ) → n ≤ c → c < m → (is_in set c && test c) ≡ false)
    → unheard set (heard_below m test) ≡ unheard set (heard_below n test)
same_below set n m test more none =
    listed_same (length set) (λ c. is_in set c && not (heard_below m test c))
    (unheard set (heard_below n test))
    (length-listed (length set) (λ c. is_in set c && not (heard_below n test c)))
    (λ c low. same (is_in set c) (test c) c n m more (λ after less. none c after less)
    ∙ sym (is_in-listed (length set) (λ k. is_in set k && not (heard_below n test k)) c low))
  where
    same : (here there : Bool) (c n m : ℕ) → n ≤ m → (n ≤ c → c < m → (here && there) ≡ false)
        → (here && not (nat_lt c m && there)) ≡ (here && not (nat_lt c n && there))
    same here there c n m more out = grind (arith, nat_tests, more, out)
