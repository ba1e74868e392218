-- Counts of markers and of unvisited processors.
use Rattle.std.proofs.Common.{◌≡◌, ℕ, zero, suc, ◌+◌, ◌<◌, Bool, true, false, not, List, [], length}
use Rattle.std.proofs.Common.{set, get_or, refl, ap, arith}
use Rattle.std.specs.Prelude.{if◌then◌else◌, replicate}
use Rattle.std.proofs.lemmas.List.Sums.{sum_by-cons, sum_by-set}
use Rattle.rcu_cblist.specs.SegList.{Item, markers}
use Rattle.rcu_barrier.specs.Lists.{markers_in, unvisited}

-- the markers of all lists once one of them is another
pub markers_set : {X : Type 0} (lists : List (List (Item X))) (cpu : ℕ) (xs : List (Item X))
    → cpu < length lists
    → markers_in (set lists cpu xs) + markers (get_or lists cpu []) ≡ markers_in lists + markers xs
markers_set lists cpu xs within = sum_by-set markers lists cpu xs [] within

-- empty lists have no marker
pub markers_none : (X : Type 0) (n : ℕ) → markers_in {X = X} (replicate n []) ≡ 0
markers_none X zero = refl
markers_none X (suc n) = markers_none X n

-- one for a processor that is unvisited
abbrev count_one : Bool → ℕ
count_one flag = if not flag then 1 else 0

-- a visited processor is no longer unvisited
pub unvisited_set : (flags : List Bool) (cpu : ℕ)
    → cpu < length flags → get_or flags cpu false ≡ false
    → unvisited (set flags cpu true) + 1 ≡ unvisited flags
unvisited_set flags cpu within off =
    let change = sum_by-set count_one flags cpu true false within in
    let before : count_one (get_or flags cpu false) ≡ 1 = ap count_one off in
    omega (arith, change, before)

-- if each is visited, none is unvisited
pub unvisited_all : (n : ℕ) → unvisited (replicate n true) ≡ 0
unvisited_all zero = refl
unvisited_all (suc n) = unvisited_all n

-- if none is visited, each is unvisited
pub unvisited_none : (n : ℕ) → unvisited (replicate n false) ≡ n
unvisited_none zero = refl
unvisited_none (suc n) =
    let more = sum_by-cons count_one false (replicate n false) in
    let rest = unvisited_none n in
    omega arith
