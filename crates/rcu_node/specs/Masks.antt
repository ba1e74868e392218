-- The masks of a tree's nodes: which bits are set if a set of processors is awaited.
use Rattle.std.specs.Prelude.{ℕ, ◌<◌, ◌≤◌, ◌≡◌, ◌==◌, ◌^◌, Bool, true, not, if◌then◌else◌, List}
use Rattle.std.specs.Prelude.{map, length, slice_index}
use Rattle.rcu_geometry.specs.Geometry.{Shape, nodes, parent, bit_in_parent, first_leaf, leaf_of}
use Rattle.rcu_geometry.specs.Geometry.{bit_of}
use Rattle.rcu_node.specs.CpuSet.{is_in, listed}
use Rattle.rcu_node.specs.Words.{has_bit}
use Rattle.rcu_node.specs.declared.node.Node.{Node}

-- of each node, the children that are awaited now
abbrev pub now_masks : List Node → List ℕ
now_masks nodes = map (λ node. node.qsmask) nodes

-- of each node, the children that were awaited at the start
abbrev pub start_masks : List Node → List ℕ
start_masks nodes = map (λ node. node.qsmaskinit) nodes

-- of each node, its bit in its parent
abbrev pub group_masks : List Node → List ℕ
group_masks nodes = map (λ node. node.grpmask) nodes

-- a bit of a leaf is that of a processor
pub record IsCpuOf (s : Shape) (node i cpu : ℕ) : Type 0 where
  pub here : cpu < s.cpus
  pub leaf : leaf_of s cpu ≡ node
  pub bit : bit_of s cpu ≡ i

-- a bit of an inner node is that of a child
pub record IsChildOf (s : Shape) (node i child : ℕ) : Type 0 where
  pub some : 0 < child
  pub here : child < nodes s
  pub parent : parent s child ≡ node
  pub bit : bit_in_parent s child ≡ i

-- each node has a mask, and no bit is set but those of its processors or children
pub record AreOwned (s : Shape) (masks : List ℕ) : Type 0 where
  pub sized : length masks ≡ nodes s
  pub inner : (node bit : ℕ) → node < first_leaf s → has_bit (slice_index masks node) bit ≡ true
      → ∥ ((child : ℕ) × IsChildOf s node bit child) ∥₁
  pub leaf : (node bit : ℕ) → first_leaf s ≤ node → has_bit (slice_index masks node) bit ≡ true
      → ∥ ((cpu : ℕ) × IsCpuOf s node bit cpu) ∥₁

-- the bit of a child is set exactly if its own mask is not empty
abbrev pub IsLinked : Shape → List ℕ → ℕ → Type 0
IsLinked s masks child =
    has_bit (slice_index masks (parent s child)) (bit_in_parent s child)
    ≡ not (slice_index masks child == 0)

-- the bit of each child is set as above, and no other bit is set
pub record AreLinked (s : Shape) (masks : List ℕ) : Type 0 where
  pub owned : AreOwned s masks
  pub inner : (child : ℕ) → 0 < child → child < nodes s → IsLinked s masks child

-- the masks of a set: a leaf bit is set exactly if its processor is in the set, an inner bit
-- exactly if that child's mask is not empty, and no other bit is set
pub record AreMasks (s : Shape) (set : List Bool) (masks : List ℕ) : Type 0 where
  pub linked : AreLinked s masks
  pub leaf : (cpu : ℕ) → cpu < s.cpus
      → has_bit (slice_index masks (leaf_of s cpu)) (bit_of s cpu) ≡ is_in set cpu

-- a node's mask among the masks of a set
abbrev pub IsMaskOf : Shape → List Bool → ℕ → ℕ → Type 0
IsMaskOf s set node mask = (masks : List ℕ) × AreMasks s set masks × (mask ≡ slice_index masks node)

-- the processors whose bits are set
abbrev pub members : Shape → List ℕ → List Bool
members s masks = listed s.cpus (λ cpu. has_bit (slice_index masks (leaf_of s cpu)) (bit_of s cpu))

-- the mask of a node's bit in its parent, none at the root
abbrev pub group_of : Shape → ℕ → ℕ
group_of s node = if node == 0 then 0 else 2 ^ bit_in_parent s node

-- each node has that mask
pub record AreGroups (s : Shape) (masks : List ℕ) : Type 0 where
  pub sized : length masks ≡ nodes s
  pub bit : (node : ℕ) → node < nodes s → slice_index masks node ≡ group_of s node
