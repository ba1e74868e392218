-- The places of nodes and of their parents.
use Rattle.std.proofs.Common.{◌≡◌, ℕ, zero, suc, ◌+◌, ◌-◌, ◌*◌, ◌/◌, ◌%◌, ◌<◌, ◌≤◌, refl, sym, ap}
use Rattle.std.proofs.Common.{subst, ◌∙◌, arith, inl, inr, add-one}
use Rattle.std.proofs.lemmas.Bool.{cases_lt}
use Rattle.std.proofs.lemmas.Nat.{mod_below, div-add-mod'}
use Rattle.rcu_geometry.specs.Geometry.{Shape, IsLegalShape, levels, level_nodes, level_start}
use Rattle.rcu_geometry.specs.Geometry.{nodes, level_of, place_of, parent, bit_in_parent}
use Rattle.rcu_geometry.specs.Geometry.{first_leaf, leaf_of, bit_of}
use Rattle.rcu_geometry.proofs.Capacities.{levels_range}
use Rattle.rcu_geometry.proofs.Levels.{start_next, start_zero, one_root, start_rises, level_at}
use Rattle.rcu_geometry.proofs.Levels.{parent_place, leaf_place}

-- the node lies in this level at this place
pub record Lies (s : Shape) (node level place : ℕ) : Type 0 where
  pub is : node ≡ level_start s level + place
  pub inner : level < levels s
  pub below : place < level_nodes s level

-- the level where a node lies is its level
pub level_lies : (s : Shape) (node level place : ℕ) → Lies s node level place
    → level_of s node ≡ level
level_lies s node level place lies =
    let range = levels_range s in
    let next = start_next s level in
    let is = lies.is in let inner = lies.inner in let below = lies.below in
    level_at s node level (omega arith) (omega arith) (omega arith)

-- a node between two starts lies there
lies_between : (s : Shape) (node level : ℕ) → level < levels s → level_start s level ≤ node
    → node < level_start s (level + 1)
    → Lies s node (level_of s node) (place_of s node)
lies_between s node level inner from below =
    let range = levels_range s in
    let next = start_next s level in
    let same = level_at s node level (omega arith) from below in
    rw same record { is = omega arith; inner = inner; below = omega arith }

-- a node before the start of a level lies in a level before
lies_before : (s : Shape) (node level : ℕ) → level ≤ levels s → node < level_start s level
    → Lies s node (level_of s node) (place_of s node)
lies_before s node zero inner below =
    absurd (let first = start_zero s in let no : ⊥ = omega arith in no)
lies_before s node (suc level) inner below = elim (cases_lt node (level_start s level)) [
  | inl before ↦ lies_before s node level (omega arith) before
  | inr from ↦ lies_between s node level inner from (rw add-one below)
]

-- every node lies in its level at its place
pub lies : (s : Shape) (node : ℕ) → node < nodes s → Lies s node (level_of s node) (place_of s node)
lies s node below = lies_before s node (levels s) (omega arith) below

-- a number with a level and a place is a node
pub lies_below : (s : Shape) (node level place : ℕ) → Lies s node level place → node < nodes s
lies_below s node level place lies =
    let is = lies.is in let inner = lies.inner in let below = lies.below in
    let rises = start_rises s (level + 1) (levels s) (omega arith) in
    let next = start_next s level in
    omega arith

-- a node other than the root lies below another level
pub lies_inner : (s : Shape) (node level place : ℕ)
    → IsLegalShape s → 0 < node → Lies s node level place
    → (above : ℕ) × Lies s node (above + 1) place
lies_inner s node zero place legal other lies =
    let is = lies.is in
    let below = lies.below in
    let root = one_root s legal in
    let first = start_zero s in
    absurd (let no : ⊥ = omega arith in no)
lies_inner s node (suc above) place legal other lies =
    (above, subst (λ level. Lies s node level place) (sym (add-one above)) lies)

-- the parent of a node that lies somewhere
pub parent_is : (s : Shape) (node above place : ℕ) → Lies s node (above + 1) place
    → parent s node ≡ level_start s above + place / s.fan
unfolding parent
parent_is s node above place lies =
    let is = lies.is in
    let up : above + 1 - 1 ≡ above = omega arith in
    let there : node - level_start s (above + 1) ≡ place = omega arith in
    ap (λ level. level_start s (level - 1) + (node - level_start s level) / s.fan)
    (level_lies s node (above + 1) place lies)
    ∙ ap (λ level. level_start s level + (node - level_start s (above + 1)) / s.fan) up
    ∙ ap (λ p. level_start s above + p / s.fan) there

-- its bit there
pub bit_is : (s : Shape) (node above place : ℕ) → Lies s node (above + 1) place
    → bit_in_parent s node ≡ place % s.fan
unfolding bit_in_parent
bit_is s node above place lies =
    let is = lies.is in
    let there : node - level_start s (above + 1) ≡ place = omega arith in
    ap (λ level. (node - level_start s level) % s.fan) (level_lies s node (above + 1) place lies)
    ∙ ap (λ p. p % s.fan) there

-- a parent lies one level up
pub parent_lies : (s : Shape) (node above place : ℕ)
    → IsLegalShape s → Lies s node (above + 1) place → Lies s (parent s node) above (place / s.fan)
parent_lies s node above place legal lies =
    let inner = lies.inner in
    record {
      is = parent_is s node above place lies;
      inner = omega arith;
      below = parent_place s above place legal inner lies.below;
    }

-- a processor's leaf lies in the last level
pub leaf_lies : (s : Shape) (cpu : ℕ) → IsLegalShape s → cpu < s.cpus
    → Lies s (leaf_of s cpu) (levels s - 1) (cpu / s.leaf)
leaf_lies s cpu legal below =
    let range = levels_range s in
    record { is = refl; inner = omega arith; below = leaf_place s cpu legal below }

-- the conditions of a tree on the parent of a node other than the root
pub record HasParent (s : Shape) (node : ℕ) : Type 0 where
  pub before : parent s node < node
  pub inner : parent s node < first_leaf s
  pub bit : bit_in_parent s node < s.fan
  pub up : level_of s node ≡ level_of s (parent s node) + 1

-- each node other than the root has a parent
pub has_parent : (s : Shape) (node : ℕ) → IsLegalShape s → 0 < node → node < nodes s
    → HasParent s node
has_parent s node legal other below =
    let place = place_of s node in
    let child = lies_inner s node (level_of s node) place legal other (lies s node below) in
    let above = child.0 in
    let up = parent_lies s node above place legal child.1 in
    let is = up.is in
    let there = up.below in
    let child_is = child.1.is in
    let child_level = child.1.inner in
    let next = start_next s above in
    let rises = start_rises s (above + 1) (levels s - 1) (omega arith) in
    let fan = legal.fan_low in
    record {
      before = omega arith;
      inner = omega arith;
      bit = rw (bit_is s node above place child.1) (mod_below place s.fan (omega arith));
      up =
          level_lies s node (above + 1) place child.1
          ∙ ap (λ level. level + 1) (sym (level_lies s (parent s node) above (place / s.fan) up));
    }

-- a node other than the root is not in the first level
pub level_some_of : (s : Shape) (node : ℕ) → IsLegalShape s → 0 < node → node < nodes s
    → 0 < level_of s node
level_some_of s node legal other below =
    let up = (has_parent s node legal other below).up in omega arith

-- equal quotients and remainders are of equal numbers
same_by_quotient : (a b n : ℕ) → a / n ≡ b / n → a % n ≡ b % n → a ≡ b
same_by_quotient a b n quotient remainder =
    sym (div-add-mod' a n)
    ∙ ap (λ q. q * n + a % n) quotient
    ∙ ap (λ r. b / n * n + r) remainder
    ∙ div-add-mod' b n

-- no two nodes have one bit in one parent
pub same_child : (s : Shape) (one two : ℕ)
    → IsLegalShape s
    → 0 < one
    → one < nodes s
    → 0 < two
    → two < nodes s
    → parent s one ≡ parent s two
    → bit_in_parent s one ≡ bit_in_parent s two
    → one ≡ two
same_child s one two legal one_other one_below two_other two_below parents bits =
    let place_one = place_of s one in let place_two = place_of s two in
    let child_one =
    lies_inner s one (level_of s one) place_one legal one_other (lies s one one_below) in
    let child_two =
    lies_inner s two (level_of s two) place_two legal two_other (lies s two two_below) in
    let up_one = parent_lies s one child_one.0 place_one legal child_one.1 in
    let up_two = parent_lies s two child_two.0 place_two legal child_two.1 in
    let level : child_one.0 ≡ child_two.0 =
    sym (level_lies s (parent s one) child_one.0 (place_one / s.fan) up_one)
    ∙ ap (level_of s) parents
    ∙ level_lies s (parent s two) child_two.0 (place_two / s.fan) up_two in
    let start = ap (level_start s) level in
    let quotient : place_one / s.fan ≡ place_two / s.fan =
    (let a = up_one.is in let b = up_two.is in omega arith) in
    let remainder : place_one % s.fan ≡ place_two % s.fan =
    sym (bit_is s one child_one.0 place_one child_one.1)
    ∙ bits
    ∙ bit_is s two child_two.0 place_two child_two.1 in
    let place = same_by_quotient place_one place_two s.fan quotient remainder in
    let start_below = ap (λ i. level_start s (i + 1)) level in
    let a = child_one.1.is in let b = child_two.1.is in
    omega arith

-- no two processors have one bit in one leaf
pub same_cpu : (s : Shape) (one two : ℕ)
    → leaf_of s one ≡ leaf_of s two → bit_of s one ≡ bit_of s two → one ≡ two
same_cpu s one two leaves bits =
    let quotient : one / s.leaf ≡ two / s.leaf = omega arith in
    same_by_quotient one two s.leaf quotient bits

-- the parent of a node by its level and two starts
pub parent_by : (s : Shape) (node level above here fan : ℕ)
    → fan ≡ s.fan
    → level ≡ level_of s node
    → above ≡ level_start s (level - 1)
    → here ≡ level_start s level
    → above + (node - here) / fan ≡ parent s node
unfolding parent
parent_by s node level above here fan fans levels_same above_is here_is =
    rw (above_is, here_is, levels_same, fans)

-- its bit there by its level's start
pub bit_by : (s : Shape) (node level here fan : ℕ)
    → fan ≡ s.fan → level ≡ level_of s node → here ≡ level_start s level
    → (node - here) % fan ≡ bit_in_parent s node
unfolding bit_in_parent
bit_by s node level here fan fans levels_same here_is = rw (here_is, levels_same, fans)
