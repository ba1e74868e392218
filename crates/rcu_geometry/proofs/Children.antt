-- The children of a node and the processors of a leaf: bounds of their number, and that each has
-- one.
use Rattle.std.proofs.Common.{◌≡◌, ℕ, ◌+◌, ◌-◌, ◌*◌, ◌<◌, ◌≤◌, ◌==◌, true, count_by, refl, sym, ap}
use Rattle.std.proofs.Common.{subst, ◌∙◌, arith, inl, inr}
use Rattle.std.specs.List.{range_with_len}
use Rattle.std.proofs.lemmas.Bool.{cases_lt}
use Rattle.std.proofs.lemmas.Bool.Decides.{nat_tests}
use Rattle.std.proofs.lemmas.Nat.{mod_below}
use Rattle.std.proofs.Math.Nat.{mul-div_cancel, mul-mod_left, mul_assoc, mul-one, pow-zero}
use Rattle.rcu_geometry.specs.Geometry.{Shape, IsLegalShape, capacity, levels, level_start, nodes}
use Rattle.rcu_geometry.specs.Geometry.{level_of, place_of, parent, bit_in_parent, first_leaf}
use Rattle.rcu_geometry.specs.Geometry.{leaf_of, bit_of}
use Rattle.rcu_geometry.proofs.Counts.{count-within}
use Rattle.rcu_geometry.proofs.Capacities.{capacity_up, levels_range}
use Rattle.rcu_geometry.proofs.Levels.{start_next, start_zero, in_level, to_level, level_some}
use Rattle.rcu_geometry.proofs.Levels.{start_rises, level_at}
use Rattle.rcu_geometry.proofs.Places.{Lies, lies, lies_below, parent_is, bit_is, same_child}
use Rattle.rcu_geometry.proofs.Places.{same_cpu}

-- every bit is below the fanout
bit_below : (s : Shape) → IsLegalShape s → (node : ℕ) → bit_in_parent s node < s.fan
unfolding bit_in_parent
bit_below s legal node = let fan = legal.fan_low in mod_below (place_of s node) s.fan (omega arith)

-- a test of equality that passes
equal_if : (a b : ℕ) → (a == b) ≡ true → a ≡ b
equal_if a b passes = grind (arith, nat_tests)

-- a node has at most fan children
pub few_children : (s : Shape) (node : ℕ) → IsLegalShape s
    → count_by (λ child. parent s child == node) (range_with_len 1 (nodes s - 1)) ≤ s.fan
few_children s node legal =
    count-within (λ child. parent s child == node) (bit_in_parent s) 1 (nodes s - 1) s.fan
    (record {
      same = λ one two from_one below_one from_two below_two is_one is_two bits.
          same_child s one two legal (omega arith) (omega arith) (omega arith) (omega arith)
          (equal_if (parent s one) node is_one ∙ sym (equal_if (parent s two) node is_two)) bits;
    })
    (bit_below s legal)

-- a leaf has at most leaf processors
pub few_cpus : (s : Shape) (node : ℕ) → IsLegalShape s
    → count_by (λ cpu. leaf_of s cpu == node) (range_with_len 0 s.cpus) ≤ s.leaf
few_cpus s node legal =
    count-within (λ cpu. leaf_of s cpu == node) (bit_of s) 0 s.cpus s.leaf
    (record {
      same = λ one two from_one below_one from_two below_two is_one is_two bits.
          same_cpu s one two
          (equal_if (leaf_of s one) node is_one ∙ sym (equal_if (leaf_of s two) node is_two)) bits;
    })
    (λ cpu. let leaf = legal.leaf_low in mod_below cpu s.leaf (omega arith))

-- a node before the leaves is above the last level
inner_level : (s : Shape) (node : ℕ) → node < first_leaf s → node < nodes s
    → level_of s node + 1 < levels s
inner_level s node inner below =
    let there = lies s node below in
    elim (cases_lt (level_of s node) (levels s - 1)) [
      | inl above ↦ omega arith
      | inr last ↦ (let rises = start_rises s (levels s - 1) (level_of s node) last in
          let is = there.is in absurd (let no : ⊥ = omega arith in no))
    ]

-- a leaf's level is the last
pub leaf_level : (s : Shape) (node : ℕ) → first_leaf s ≤ node → node < nodes s
    → level_of s node ≡ levels s - 1
leaf_level s node from below =
    let range = levels_range s in
    let last : levels s - 1 + 1 ≡ levels s = omega arith in
    level_at s node (levels s - 1) (omega arith) from
    (subst (λ i. node < level_start s i) (sym last) below)

-- a child with this parent and the first bit there
pub record IsFirstChild (s : Shape) (node child : ℕ) : Type 0 where
  pub other : 0 < child
  pub below : child < nodes s
  pub parent : parent s child ≡ node
  pub bit : bit_in_parent s child ≡ 0

-- a node above the last level has a first child
pub first_child : (s : Shape) (node level place : ℕ)
    → IsLegalShape s → Lies s node level place → level + 1 < levels s
    → IsFirstChild s node (level_start s (level + 1) + place * s.fan)
first_child s node level place legal there inner =
    let fan = legal.fan_low in
    let height = levels s - 1 - (level + 1) in
    let begins = in_level s level place legal there.below in
    let up : capacity s (levels s - 1 - level) ≡ s.fan * capacity s height =
    ap (capacity s) (let above : levels s - 1 - level ≡ height + 1 = omega arith in above)
    ∙ capacity_up s height in
    let product : place * capacity s (levels s - 1 - level) ≡ place * s.fan * capacity s height =
    ap (λ held. place * held) up ∙ sym (mul_assoc place s.fan (capacity s height)) in
    let child : Lies s (level_start s (level + 1) + place * s.fan) (level + 1) (place * s.fan) =
    record {
      is = refl;
      inner = inner;
      below =
          to_level s (level + 1) (place * s.fan) legal
          (let held : place * s.fan * capacity s height < s.cpus = omega arith in held);
    } in
    let rises = start_rises s 1 (level + 1) (omega arith) in
    let next = start_next s 0 in let first = start_zero s in let root = level_some s 0 legal in
    let is = there.is in
    let quotient = mul-div_cancel place {n = s.fan} (omega arith) in
    record {
      other = omega arith;
      below = lies_below s (level_start s (level + 1) + place * s.fan) (level + 1) (place * s.fan)
          child;
      parent =
          parent_is s (level_start s (level + 1) + place * s.fan) level (place * s.fan) child
          ∙ ap (λ p. level_start s level + p) quotient ∙ sym is;
      bit =
          bit_is s (level_start s (level + 1) + place * s.fan) level (place * s.fan) child
          ∙ mul-mod_left place s.fan;
    }

-- each inner node has a child
pub some_child : (s : Shape) (node : ℕ) → IsLegalShape s → node < first_leaf s
    → (child : ℕ) × IsFirstChild s node child
some_child s node legal inner =
    let range = levels_range s in
    let rises = start_rises s (levels s - 1) (levels s) (omega arith) in
    let below : node < nodes s = omega arith in (
      level_start s (level_of s node + 1) + place_of s node * s.fan,
      first_child s node (level_of s node) (place_of s node) legal (lies s node below)
          (inner_level s node inner below),
    )

-- a processor of this leaf with the first bit there
pub record IsFirstCpu (s : Shape) (node cpu : ℕ) : Type 0 where
  pub below : cpu < s.cpus
  pub leaf : leaf_of s cpu ≡ node
  pub bit : bit_of s cpu ≡ 0

-- a leaf has a first processor
pub first_cpu : (s : Shape) (node place : ℕ) → IsLegalShape s → Lies s node (levels s - 1) place
    → IsFirstCpu s node (place * s.leaf)
first_cpu s node place legal there =
    let leaf = legal.leaf_low in
    let height : levels s - 1 - (levels s - 1) ≡ 0 = omega arith in
    let capacity_zero : capacity s (levels s - 1 - (levels s - 1)) ≡ s.leaf =
    ap (capacity s) height ∙ ap (λ power. s.leaf * power) (pow-zero s.fan) ∙ mul-one s.leaf in
    let begins = in_level s (levels s - 1) place legal there.below in
    let product = ap (λ held. place * held) capacity_zero in
    let quotient = mul-div_cancel place {n = s.leaf} (omega arith) in
    record {
      below = omega arith;
      leaf = ap (λ p. first_leaf s + p) quotient ∙ sym there.is;
      bit = mul-mod_left place s.leaf;
    }

-- each leaf has a processor
pub some_cpu : (s : Shape) (node : ℕ) → IsLegalShape s → first_leaf s ≤ node → node < nodes s
    → (cpu : ℕ) × IsFirstCpu s node cpu
some_cpu s node legal from below =
    let there =
    subst (λ level. Lies s node level (place_of s node)) (leaf_level s node from below)
    (lies s node below) in
    (place_of s node * s.leaf, first_cpu s node (place_of s node) legal there)
