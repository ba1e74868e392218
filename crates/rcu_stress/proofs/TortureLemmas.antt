-- The counts of a torture run, and the numbers of its workers.
use Rattle.std.proofs.Common.{◌≡◌, ℕ, ◌<◌, List, [], ◌∷◌, All, cond, count_by, arith, map, subst}
use Rattle.std.proofs.Common.{◌∙◌, ◌++◌, ◌-◌, ap, refl, suc, sym, zero}
use Rattle.std.proofs.lemmas.List.{append_assoc, get_or-map, length-map, map_push}
use Rattle.std.proofs.lemmas.Bool.{le-ltb}
use Rattle.std.proofs.lemmas.List.Elements.{All-head, All-tail}
use Rattle.std.specs.List.{range_with_len}
use Rattle.std.proofs.lemmas.List.FromFn.{get_or-range_with_len, length-range_with_len}
use Rattle.std.proofs.lemmas.List.Sums.{sum_by-cons}
use Rattle.rcu_seq.specs.Numbers.{snapshot}
use Rattle.rcu_cblist.specs.declared.items.Queued.{Queued}
use Rattle.rcu_live.specs.Engine.{HasWaited}
use Rattle.rcu_stress.specs.Ledger.{is_early}

-- no callback came early if a full grace period has passed for each
pub none_early : (n : ℕ) (calls : List (Queued ℕ)) → All (λ call. HasWaited n call.at) calls
    → count_by (is_early n) calls ≡ 0
none_early n [] waited = omega arith
none_early n (call ∷ calls) waited =
    let first : ◌≡◌ {A = ℕ} (cond (is_early n call) 1 0) 0 =
    rw
    (le-ltb n (snapshot call.at.number) (All-head (λ c. HasWaited n c.at) call calls waited).1) in
    let rest = none_early n calls (All-tail (λ c. HasWaited n c.at) call calls waited) in
    omega (arith, sum_by-cons (λ c. cond (is_early n c) 1 0) call calls, first, rest)

-- each of the first numbers is below their count
pub all_below : (n : ℕ) → All (λ k. k < n) (range_with_len 0 n)
all_below n = λ k d inside.
    let long = length-range_with_len 0 n in
    let at = get_or-range_with_len 0 n k d (omega (arith, inside, long)) in
    omega (arith, at, inside, long)

-- if this number of them have the first numbers, each has one of them
pub each_is_below : {X : Type 0} (f : X → ℕ) (n : ℕ) (xs : List X)
    → map f xs ≡ range_with_len 0 n → All (λ x. f x < n) xs
each_is_below f n xs are = λ k d inside.
    let each = subst (All (λ i. i < n)) (sym are) (all_below n) in
    let at = each k (f d) (omega (arith, length-map xs f, inside)) in
    subst (λ i. i < n) (get_or-map f xs k d (f d) inside) at

-- a job that is made of the next seat takes its place behind the others
pub next_is_dealt : {J S : Type 0} (worker : J → ℕ) (cpu : S → ℕ) (jobs : List J) (job : J)
    {more : List J} {seats rest : List S} {seat : S} {ks : List ℕ}
    → more ≡ jobs ++ job ∷ [] → seats ≡ seat ∷ rest → worker job ≡ cpu seat
    → map worker jobs ++ map cpu seats ≡ ks → map worker more ++ map cpu rest ≡ ks
next_is_dealt worker cpu jobs job {more} {seats} {rest} {seat} pushed taken same dealt =
    let at_end = ap (map worker) pushed ∙ map_push worker jobs job
    ∙ ap (λ k. map worker jobs ++ k ∷ []) same in
    ap (λ xs. xs ++ map cpu rest) at_end
    ∙ append_assoc (map worker jobs) (cpu seat ∷ []) (map cpu rest)
    ∙ ap (λ xs. map worker jobs ++ map cpu xs) (sym taken) ∙ dealt

-- a property of all is one of the first and of those behind it
pub first_and_rest_are : {X : Type 0} (P : X → Type 0) {x : X} {xs ys : List X}
    → xs ≡ x ∷ ys → All P xs → P x × All P ys
first_and_rest_are P {x} {xs} {ys} is each =
    let all = subst (All P) is each in (All-head P x ys all, All-tail P x ys all)

-- the first of this number, and the others
pub range_from_0 : (n : ℕ) → 0 < n → range_with_len 0 n ≡ 0 ∷ range_with_len 1 (n - 1)
range_from_0 zero some = absurd (omega arith)
range_from_0 (suc n) some =
    let same : n ≡ suc n - 1 = omega arith in ap (λ k. 0 ∷ range_with_len 1 k) same

-- values made from numbers, one each, have them
pub numbers_made : {X : Type 0} (number : X → ℕ) (make : ℕ → X) → ((k : ℕ) → number (make k) ≡ k)
    → (ks : List ℕ) → map number (map make ks) ≡ ks
numbers_made number make same [] = refl
numbers_made number make same (k ∷ ks) =
    ap (λ n. n ∷ map number (map make ks)) (same k)
    ∙ ap (λ ns. k ∷ ns) (numbers_made number make same ks)
