-- The processors whose bits are set in the masks of a tree.
use Rattle.std.proofs.Common.{◌≡◌, ◌≢◌, ℕ, ◌-◌, ◌/◌, ◌^◌, ◌<◌, ◌==◌, Bool, false, List, length}
use Rattle.std.proofs.Common.{slice_index, slice_set, bit_and, sym, ap, subst, ◌∙◌, arith, inl, inr}
use Rattle.std.proofs.lemmas.Bool.{cases_eq}
use Rattle.std.proofs.lemmas.Nat.{mod_below}
use Rattle.std.proofs.lemmas.List.{get_or-set_same, get_or-set_other}
use Rattle.rcu_geometry.specs.Geometry.{Shape, IsLegalShape, shape, levels, nodes, first_leaf}
use Rattle.rcu_geometry.specs.Geometry.{leaf_of, bit_of}
use Rattle.rcu_geometry.proofs.Places.{leaf_lies, lies_below, same_cpu}
use Rattle.rcu_node.specs.CpuSet.{is_in}
use Rattle.rcu_node.specs.Masks.{AreLinked, AreMasks, IsMaskOf, members}
use Rattle.rcu_node.specs.Words.{has_bit}
use Rattle.rcu_node.proofs.Bits.{has_bit_shr}
use Rattle.rcu_node.proofs.CpuSetLemmas.{is_in-listed, length-listed, listed_same, listed_set}
use Rattle.rcu_node.proofs.OneBit.{Clears}

-- a processor's bit in the masks
abbrev pub cpu_bit : Shape → List ℕ → ℕ → Bool
cpu_bit s masks cpu = has_bit (slice_index masks (leaf_of s cpu)) (bit_of s cpu)

-- there is a flag for each processor
pub length-members : (s : Shape) (masks : List ℕ) → length (members s masks) ≡ s.cpus
length-members s masks = length-listed s.cpus (cpu_bit s masks)

-- a processor's flag is its bit
pub is_in-members : (s : Shape) (masks : List ℕ) (cpu : ℕ) → cpu < s.cpus
    → is_in (members s masks) cpu ≡ cpu_bit s masks cpu
is_in-members s masks cpu below = is_in-listed s.cpus (cpu_bit s masks) cpu below

-- linked masks are those of their members
pub masks_of_members : (s : Shape) (masks : List ℕ) → AreLinked s masks
    → AreMasks s (members s masks) masks
masks_of_members s masks linked = record {
  linked = linked;
  leaf = λ cpu below. sym (is_in-members s masks cpu below);
}

-- the leaf of a processor is a node
pub leaf_here : (s : Shape) (cpu : ℕ) → IsLegalShape s → cpu < s.cpus → leaf_of s cpu < nodes s
leaf_here s cpu legal below =
    lies_below s (leaf_of s cpu) (levels s - 1) (cpu / s.leaf) (leaf_lies s cpu legal below)

-- a processor's bit is below 64
pub bit_low : (s : Shape) (cpu : ℕ) → IsLegalShape s → bit_of s cpu < 64
bit_low s cpu legal =
    let low = legal.leaf_low in let high = legal.leaf_high in
    let below = mod_below cpu s.leaf (omega arith) in
    omega arith

-- the bit that was read shows whether the processor is in
pub is_member : (s : Shape) (masks : List ℕ) (cpu node bit word : ℕ)
    → cpu < s.cpus → node ≡ leaf_of s cpu → bit ≡ bit_of s cpu → word ≡ slice_index masks node
    → (bit_and (word / 2 ^ bit) 1 == 1) ≡ is_in (members s masks) cpu
is_member s masks cpu node bit word below here bit_is read =
    rw (read, here, bit_is)
    (has_bit_shr (slice_index masks (leaf_of s cpu)) (bit_of s cpu)
    ∙ sym (is_in-members s masks cpu below))

-- a processor's bit is cleared in its leaf
pub members-clear : (s : Shape) (masks : List ℕ) (cpu word : ℕ) → IsLegalShape s → cpu < s.cpus
    → leaf_of s cpu < length masks → Clears (slice_index masks (leaf_of s cpu)) word (bit_of s cpu)
    → members s (slice_set masks (leaf_of s cpu) word) ≡ slice_set (members s masks) cpu false
members-clear s masks cpu word legal below here cleared =
    let leaf = leaf_of s cpu in
    let now : slice_index (slice_set masks leaf word) leaf ≡ word =
    get_or-set_same masks leaf word 0 here in
    listed_set s.cpus (cpu_bit s masks) (cpu_bit s (slice_set masks leaf word)) cpu false below
    (ap (λ v. has_bit v (bit_of s cpu)) now ∙ cleared.off)
    (λ k _ other. elim (cases_eq (leaf_of s k) leaf) [
      | inl same ↦ rw (same, now)
          (cleared.rest (bit_of s k) (bit_low s k legal)
          (λ bits. other (same_cpu s k cpu same bits)))
      | inr apart ↦
          ap (λ v. has_bit v (bit_of s k)) (get_or-set_other masks leaf (leaf_of s k) word 0 apart)
    ])

-- a mask above the leaves shows no processors
pub members-inner : (s : Shape) (masks : List ℕ) (node word : ℕ) → node < first_leaf s
    → members s (slice_set masks node word) ≡ members s masks
members-inner s masks node word inner =
    listed_same s.cpus (cpu_bit s (slice_set masks node word)) (members s masks)
    (length-members s masks)
    (λ cpu below.
    let apart : leaf_of s cpu ≢ node = λ same. (let no : ⊥ = omega (arith, same, inner) in no) in
    ap (λ v. has_bit v (bit_of s cpu)) (get_or-set_other masks node (leaf_of s cpu) word 0 apart)
    ∙ sym (is_in-members s masks cpu below))

-- fanouts and flags are the shape
pub shape_of_flags : (s : Shape) (leaf fan : ℕ) (masks : List ℕ) → s ≡ shape leaf fan s.cpus
    → s ≡ shape leaf fan (length (members s masks))
shape_of_flags s leaf fan masks is =
    is ∙ ap (λ cpus. shape leaf fan cpus) (sym (length-members s masks))

-- a read mask is a node's of the masks of a set
pub is_mask : (s t : Shape) (masks : List ℕ) (node mask : ℕ) → s ≡ t → AreLinked s masks
    → mask ≡ slice_index masks node → IsMaskOf t (members s masks) node mask
is_mask s t masks node mask same linked read = (
  masks,
  subst (λ u. AreMasks u (members s masks) masks) same (masks_of_members s masks linked),
  read,
)
