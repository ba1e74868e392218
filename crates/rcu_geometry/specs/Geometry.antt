-- The levels and nodes of a combining tree, by formula. The root is level 0 and node 0; the last
-- level has the leaves.
use Rattle.std.specs.Prelude.{ℕ, zero, suc, ◌+◌, ◌-◌, ◌*◌, ◌/◌, ◌%◌, ◌^◌, ◌<◌, ◌≤◌, ◌≡◌, ◌&&◌}
use Rattle.std.specs.Prelude.{Bool, not, nat_lt, nat_le, min, List, [], ◌∷◌, Option, count_by}
use Rattle.rcu_seq.specs.Fault.{first_fault}
use Rattle.rcu_seq.specs.declared.fault.Fault.{Fault}
use Rattle.rcu_seq.specs.declared.fault.Fault.TheVariants.{BadFanout, TooManyCpus}

-- the most processors of a leaf, the most children of an inner node, and the number of processors
pub record Shape : Type 0 where
  pub leaf : ℕ
  pub fan : ℕ
  pub cpus : ℕ

abbrev pub shape : ℕ → ℕ → ℕ → Shape
shape leaf fan cpus = record { leaf = leaf; fan = fan; cpus = cpus }

-- how many processors can lie below a node that is this many levels above the leaves
abbrev pub capacity : Shape → ℕ → ℕ
capacity s height = s.leaf * s.fan ^ height

-- a fanout of 2 to 64
abbrev pub is_fanout : ℕ → Bool
is_fanout n = nat_le 2 n && nat_le n 64

-- the number of processors is 1 to 4,096, and four levels hold them
abbrev pub is_held : Shape → Bool
is_held s = nat_lt 0 s.cpus && (nat_le s.cpus 4096 && nat_le s.cpus (capacity s 3))

-- the tests of a shape, in order: each a cause and its fault
abbrev pub causes : Shape → List (Bool × Fault)
causes s =
    (not (is_fanout s.leaf && is_fanout s.fan), BadFanout) ∷ (not (is_held s), TooManyCpus) ∷ []

-- why no tree has this shape, if none has: the fault of the first cause that holds
abbrev pub refusal : Shape → Option Fault
refusal s = first_fault (causes s)

-- a shape that a tree can have
pub record IsLegalShape (s : Shape) : Type 0 where
  pub leaf_low : 2 ≤ s.leaf
  pub leaf_high : s.leaf ≤ 64
  pub fan_low : 2 ≤ s.fan
  pub fan_high : s.fan ≤ 64
  pub some : 0 < s.cpus
  pub few : s.cpus ≤ 4096
  pub held : s.cpus ≤ capacity s 3

-- the least number of levels, of up to four, whose capacity holds all processors: one more than the
-- capacities that are too small
unfoldable pub levels : Shape → ℕ
levels s = 1 + count_by (λ height. nat_lt (capacity s height) s.cpus) (0 ∷ 1 ∷ 2 ∷ [])

-- a quotient rounded up
abbrev pub ceil : ℕ → ℕ → ℕ
ceil a b = a / b + min 1 (a % b)

-- how many nodes level i has
unfoldable pub level_nodes : Shape → ℕ → ℕ
level_nodes s i = ceil s.cpus (capacity s (levels s - 1 - i))

-- the first node of level i: nodes are numbered level by level from the root
unfoldable pub level_start : Shape → ℕ → ℕ
level_start s zero = 0
level_start s (suc i) = level_start s i + level_nodes s i

-- the number of nodes
abbrev pub nodes : Shape → ℕ
nodes s = level_start s (levels s)

-- the level of a node: how many levels below the root's begin at it or before it
unfoldable pub level_of : Shape → ℕ → ℕ
level_of s node = count_by (λ i. nat_le (level_start s i) node) (1 ∷ 2 ∷ 3 ∷ [])

-- the place of a node in its level
abbrev pub place_of : Shape → ℕ → ℕ
place_of s node = node - level_start s (level_of s node)

-- the parent of a node that is not the root: at a fan-th of its place, one level up
unfoldable pub parent : Shape → ℕ → ℕ
parent s node = level_start s (level_of s node - 1) + place_of s node / s.fan

-- its bit there
unfoldable pub bit_in_parent : Shape → ℕ → ℕ
bit_in_parent s node = place_of s node % s.fan

-- the first leaf
abbrev pub first_leaf : Shape → ℕ
first_leaf s = level_start s (levels s - 1)

-- the leaf of a processor
abbrev pub leaf_of : Shape → ℕ → ℕ
leaf_of s cpu = first_leaf s + cpu / s.leaf

-- its bit there
abbrev pub bit_of : Shape → ℕ → ℕ
bit_of s cpu = cpu % s.leaf
