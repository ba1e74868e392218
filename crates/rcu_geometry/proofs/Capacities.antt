-- How many processors nodes hold, and how many levels hold all of them.
use Rattle.std.proofs.Common.{◌≡◌, ℕ, ◌+◌, ◌-◌, ◌*◌, ◌^◌, ◌<◌, ◌≤◌, arith, lit<, add-one, inl, inr}
use Rattle.std.proofs.lemmas.Bool.{cases_lt}
use Rattle.std.proofs.lemmas.Bool.Decides.{nat_tests}
use Rattle.std.proofs.lemmas.Nat.{mul-le}
use Rattle.std.proofs.lemmas.Grind.{div_ceil_times}
use Rattle.std.proofs.Math.Nat.{pow-le-pow_left, pow-le-pow_right, one-le-pow, pow-suc, mul_comm}
use Rattle.rcu_geometry.specs.Geometry.{Shape, IsLegalShape, capacity, levels, ceil}

-- a place below the quotient rounded up begins below the whole
pub begins_below : (whole part place : ℕ) → 0 < part → place < ceil whole part
    → place * part < whole
begins_below whole part place some below =
    let rounded = div_ceil_times whole part some in
    let product = mul-le (place + 1) part (ceil whole part) part (omega arith) (omega arith) in
    let next : (place + 1) * part ≡ place * part + part = grind arith in
    omega (arith, rounded, product, next)

-- and a place that begins below the whole is below the quotient rounded up
pub below_ceil : (whole part place : ℕ) → 0 < part → place * part < whole → place < ceil whole part
below_ceil whole part place some begins = elim (cases_lt place (ceil whole part)) [
  | inl below ↦ below
  | inr above ↦ (
      let rounded = div_ceil_times whole part some in
      let product = mul-le (ceil whole part) part place part above (omega arith) in
      omega (arith, rounded, product, begins))
]

-- one level up a node holds as many as fan nodes below
pub capacity_up : (s : Shape) (height : ℕ) → capacity s (height + 1) ≡ s.fan * capacity s height
capacity_up s height =
    let power : s.fan ^ (height + 1) ≡ s.fan * s.fan ^ height =
    rw (add-one, pow-suc) (mul_comm (s.fan ^ height) s.fan) in
    rw power (grind arith)

-- each node holds some processor
pub capacity_some : (s : Shape) → IsLegalShape s → (height : ℕ) → 0 < capacity s height
capacity_some s legal height =
    let leaf = legal.leaf_low in let fan = legal.fan_low in
    let power = one-le-pow height s.fan (omega arith) in
    let product = mul-le 1 1 s.leaf (s.fan ^ height) (omega arith) power in
    omega (arith, product)

-- the higher a node, the more it holds
pub capacity_rises : (s : Shape) → IsLegalShape s → (low high : ℕ) → low ≤ high
    → capacity s low ≤ capacity s high
capacity_rises s legal low high order =
    let fan = legal.fan_low in
    let power = pow-le-pow_right {n = s.fan} (omega arith) order in
    mul-le s.leaf (s.fan ^ low) s.leaf (s.fan ^ high) (omega arith) power

-- a power of a fanout, up to the third
pub power_within : (fan height : ℕ) → fan ≤ 64 → height ≤ 3 → fan ^ height ≤ 64 ^ 3
power_within fan height few low =
    let bases = pow-le-pow_left few height in
    let exponents : 64 ^ height ≤ 64 ^ 3 = pow-le-pow_right {n = 64} (lit< tt) low in
    omega (arith, bases, exponents)

-- the capacities of the four levels are below 2^25
pub capacity_within : (leaf fan height : ℕ) → leaf ≤ 64 → fan ≤ 64 → height ≤ 3
    → leaf * fan ^ height ≤ 64 * 64 ^ 3
capacity_within leaf fan height leaf_few fan_few low =
    mul-le leaf (fan ^ height) 64 (64 ^ 3) leaf_few (power_within fan height fan_few low)

-- there are one to four levels
pub levels_range : (s : Shape) → (1 ≤ levels s) × (levels s ≤ 4)
unfolding levels
levels_range s = grind (arith, nat_tests)

-- the levels hold all processors
pub levels_hold : (s : Shape) → IsLegalShape s → s.cpus ≤ capacity s (levels s - 1)
unfolding levels
levels_hold s legal =
    let held = legal.held in
    let first = capacity_rises s legal 0 1 (omega arith) in
    let second = capacity_rises s legal 1 2 (omega arith) in
    grind (arith, nat_tests)

-- and fewer levels do not
pub levels_least : (s : Shape) → IsLegalShape s → 1 < levels s → capacity s (levels s - 2) < s.cpus
unfolding levels
levels_least s legal more =
    let first = capacity_rises s legal 0 1 (omega arith) in
    let second = capacity_rises s legal 1 2 (omega arith) in
    grind (arith, nat_tests)

-- facts on the number of levels
pub ruleset levels_rules = (levels_range, levels_hold, levels_least)

-- if a number of levels holds all processors, and one less would not, it is the tree's number of
-- levels
pub levels_at : (s : Shape) (n : ℕ) → IsLegalShape s → 1 ≤ n → (1 < n → capacity s (n - 2) < s.cpus)
    → s.cpus ≤ capacity s (n - 1) → levels s ≡ n
levels_at s n legal some least enough = elim (cases_lt (levels s) n) [
  | inl fewer ↦ (
      let range = levels_range s in
      let rises = capacity_rises s legal (levels s - 1) (n - 2) (omega arith) in
      let hold = levels_hold s legal in
      let below = least (omega arith) in
      absurd (let no : ⊥ = omega (arith, rises, hold, below) in no))
  | inr enough_levels ↦ elim (cases_lt n (levels s)) [
    | inl more ↦ (
        let rises = capacity_rises s legal (n - 1) (levels s - 2) (omega arith) in
        let below = levels_least s legal (omega arith) in
        absurd (let no : ⊥ = omega (arith, rises, enough, below) in no))
    | inr no_more ↦ omega arith
  ]
]
