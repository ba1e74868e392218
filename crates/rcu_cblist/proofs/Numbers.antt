-- The numbers that callbacks carry, walked in order.
use Rattle.std.proofs.Common.{◌≡◌, ◌≤◌, max, Some, None, List, [], ◌∷◌, arith}
use Rattle.std.specs.Prelude.{All, fold}
use Rattle.std.proofs.lemmas.List.Elements.{All-nil, All-cons}
use Rattle.rcu_seq.specs.Numbers.{Number}
use Rattle.rcu_cblist.specs.SegList.{greatest}

-- the greatest of some numbers, from one on, is at least that one and each of them
fold_max_bounds : (n : Number) (numbers : List Number)
    → (n ≤ fold max n numbers) × All (λ k. k ≤ fold max n numbers) numbers
fold_max_bounds n [] = (omega arith, All-nil (λ k. k ≤ n))
fold_max_bounds n (m ∷ numbers) =
    let rest = fold_max_bounds (max n m) numbers in
    (omega arith, All-cons (λ k. k ≤ fold max (max n m) numbers) m numbers (omega arith) rest.1)

-- if there is no greatest number, none is above the snapshot
pub at_most_none : (snap : Number) (numbers : List Number) → greatest numbers ≡ None
    → All (λ n. n ≤ snap) numbers
at_most_none snap [] none = All-nil (λ n. n ≤ snap)
at_most_none snap (n ∷ numbers) none = cc

-- if the greatest number is at most the snapshot, each is
pub at_most_some : (snap most : Number) (numbers : List Number)
    → greatest numbers ≡ Some most → most ≤ snap → All (λ n. n ≤ snap) numbers
at_most_some snap most [] some within = cc
at_most_some snap most (n ∷ numbers) some within =
    let bounds = fold_max_bounds n numbers in
    let same : fold max n numbers ≡ most = cc in
    All-cons (λ k. k ≤ snap) n numbers (omega arith)
    (λ k default inside. let here = bounds.1 k default inside in omega arith)
