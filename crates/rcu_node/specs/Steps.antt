-- Masks between two steps of a walk or of a begin.
use Rattle.std.specs.Prelude.{ℕ, ◌+◌, ◌-◌, ◌*◌, ◌<◌, ◌≤◌, ◌≡◌, ◌≢◌, ◌&&◌, Bool, true, false, nat_lt}
use Rattle.std.specs.Prelude.{nat_le, List, length, slice_index}
use Rattle.rcu_geometry.specs.Geometry.{Shape, nodes, parent, bit_in_parent, first_leaf}
use Rattle.rcu_node.specs.CpuSet.{is_in}
use Rattle.rcu_node.specs.Masks.{AreOwned, IsCpuOf, IsLinked, group_of}
use Rattle.rcu_node.specs.Words.{has_bit}

-- linked, but for one node, which lost a bit and whose bit above is still set
pub record AreLinkedBut (s : Shape) (masks : List ℕ) (node : ℕ) : Type 0 where
  pub owned : AreOwned s masks
  pub here : node < nodes s
  pub inner : (child : ℕ) → 0 < child → child < nodes s → child ≢ node → IsLinked s masks child
  pub over : 0 < node → has_bit (slice_index masks (parent s node)) (bit_in_parent s node) ≡ true

-- the value that a leaf's bit has to have: whether its processor is in the set
abbrev pub leaf_bit : Shape → List Bool → ℕ → ℕ → Bool
leaf_bit s set node bit =
    nat_le (first_leaf s) node
    && (nat_lt bit s.leaf && is_in set ((node - first_leaf s) * s.leaf + bit))

-- the leaves below this one have the bits of a set, and from this one on they are empty
pub record AreFilled (s : Shape) (set : List Bool) (masks : List ℕ) (leaf : ℕ) : Type 0 where
  pub bit : (k bit : ℕ) → first_leaf s ≤ k → k < leaf
      → has_bit (slice_index masks k) bit ≡ leaf_bit s set k bit
  pub rest : (k : ℕ) → leaf ≤ k → slice_index masks k ≡ 0

-- a mask for a leaf: it has a bit, and each bit is that of a processor there
pub record IsLeafMask (s : Shape) (leaf mask : ℕ) : Type 0 where
  pub some : mask ≢ 0
  pub owned : (bit : ℕ) → has_bit mask bit ≡ true → (cpu : ℕ) × IsCpuOf s leaf bit cpu

-- linked, but for one node, which was empty and is not now, and whose bit above is not set yet
pub record AreLinkedUpTo (s : Shape) (masks : List ℕ) (node : ℕ) : Type 0 where
  pub owned : AreOwned s masks
  pub here : node < nodes s
  pub full : slice_index masks node ≢ 0
  pub inner : (child : ℕ) → 0 < child → child < nodes s → child ≢ node → IsLinked s masks child
  pub over : 0 < node → has_bit (slice_index masks (parent s node)) (bit_in_parent s node) ≡ false

-- linked as far as this node, and from there on empty
pub record AreLinkedBefore (s : Shape) (masks : List ℕ) (node : ℕ) : Type 0 where
  pub owned : AreOwned s masks
  pub inner : (child : ℕ) → 0 < child → child < node → IsLinked s masks child
  pub rest : (k : ℕ) → node ≤ k → slice_index masks k ≡ 0

-- if one of the second masks is empty, so is that of the first
abbrev pub HaveNoMore : List ℕ → List ℕ → Type 0
HaveNoMore masks others = (k : ℕ) → slice_index others k ≡ 0 → slice_index masks k ≡ 0

-- the masks as they were, but those from this node on are empty
pub record AreEmptyFrom (old masks : List ℕ) (node : ℕ) : Type 0 where
  pub before : (k : ℕ) → k < node → slice_index masks k ≡ slice_index old k
  pub behind : (k : ℕ) → node ≤ k → slice_index masks k ≡ 0

-- the masks as they were, but those from one node up to another are empty
pub record AreEmptyWithin (old masks : List ℕ) (from end : ℕ) : Type 0 where
  pub within : (k : ℕ) → from ≤ k → k < end → slice_index masks k ≡ 0
  pub before : (k : ℕ) → k < from → slice_index masks k ≡ slice_index old k
  pub behind : (k : ℕ) → end ≤ k → slice_index masks k ≡ slice_index old k

-- a node is a child by a word of bits, if it is behind the first child as far as a bit is set
abbrev pub is_child_by : ℕ → ℕ → ℕ → Bool
is_child_by word first k = nat_le first k && has_bit word (k - first)

-- the masks as they were, but the children by a word are empty, apart from those of the bits that
-- are left of it
pub record AreClearedBut (old masks : List ℕ) (first word left : ℕ) : Type 0 where
  pub part : (bit : ℕ) → has_bit left bit ≡ true → has_bit word bit ≡ true
  pub gone : (k : ℕ) → is_child_by word first k ≡ true → is_child_by left first k ≡ false
      → slice_index masks k ≡ 0
  pub kept : (k : ℕ) → is_child_by word first k ≡ false → slice_index masks k ≡ slice_index old k

-- the nodes below this one have their bit in their parent
pub record AreMarked (s : Shape) (masks : List ℕ) (node : ℕ) : Type 0 where
  pub sized : length masks ≡ nodes s
  pub bit : (k : ℕ) → k < node → k < nodes s → slice_index masks k ≡ group_of s k
