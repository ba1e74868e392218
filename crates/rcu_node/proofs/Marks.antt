-- Each node's bit in its parent, and nodes without any other bit.
use Rattle.std.proofs.Common.{◌≡◌, ℕ, zero, suc, ◌*◌, ◌%◌, ◌^◌, ◌<◌, ◌==◌, false, not, List, ◌∷◌}
use Rattle.std.proofs.Common.{map, length, slice_index, replicate, refl, sym, ap, ◌∙◌, arith, inl}
use Rattle.std.proofs.Common.{inr, ne_eqb, Option, Some, None, if◌then◌else◌}
use Rattle.std.proofs.lemmas.Bool.{cases_eq, cases_lt}
use Rattle.std.proofs.lemmas.Nat.{one_shl}
use Rattle.std.proofs.lemmas.List.{get_or_past, get_or-replicate, length-replicate}
use Rattle.rcu_geometry.specs.Geometry.{Shape, IsLegalShape, nodes, parent, bit_in_parent, leaf_of}
use Rattle.rcu_geometry.specs.Geometry.{bit_of}
use Rattle.rcu_geometry.proofs.Places.{has_parent}
use Rattle.rcu_node.specs.Masks.{AreLinked, group_of, members}
use Rattle.rcu_node.specs.Words.{has_bit}
use Rattle.rcu_node.specs.declared.node.Node.{Node}
use Rattle.rcu_node.proofs.Bits.{has_bit-zero}
use Rattle.rcu_node.proofs.CpuSetLemmas.{listed_none}
use Rattle.rcu_node.proofs.Members.{cpu_bit}
use Rattle.rcu_node.proofs.OneBit.{not_empty}

-- masks of zeros have no bit
pub zero_at : (n k : ℕ) → slice_index (replicate n 0) k ≡ 0
zero_at n k = elim (cases_lt k n) [
  | inl below ↦ get_or-replicate n k 0 0 below
  | inr past ↦ get_or_past (replicate n 0) k 0 (omega (arith, past, length-replicate {A = ℕ} n 0))
]

-- so they are linked
pub zeros_linked : (s : Shape) (masks : List ℕ) → masks ≡ replicate (nodes s) 0 → AreLinked s masks
zeros_linked s masks zeros =
    let none : (k : ℕ) → slice_index masks k ≡ 0 =
    λ k. ap (λ (words : List ℕ). slice_index words k) zeros ∙ zero_at (nodes s) k in
    record {
      owned = record {
        sized = ap length zeros ∙ length-replicate {A = ℕ} (nodes s) 0;
        inner = λ k bit inner set. absurd (not_empty (slice_index masks k) bit set (none k));
        leaf = λ k bit leaf set. absurd (not_empty (slice_index masks k) bit set (none k));
      };
      inner = λ child some here.
          ap (λ v. has_bit v (bit_in_parent s child)) (none (parent s child))
          ∙ has_bit-zero (bit_in_parent s child)
          ∙ sym (ap (λ v. not (v == 0)) (none child));
    }

-- and no processor is in them
pub zeros_members : (s : Shape) (masks : List ℕ) → masks ≡ replicate (nodes s) 0
    → members s masks ≡ replicate s.cpus false
zeros_members s masks zeros =
    listed_none s.cpus (cpu_bit s masks)
    (λ cpu below.
    ap (λ v. has_bit v (bit_of s cpu))
    (ap (λ (words : List ℕ). slice_index words (leaf_of s cpu)) zeros
    ∙ zero_at (nodes s) (leaf_of s cpu))
    ∙ has_bit-zero (bit_of s cpu))

-- a node that has a bit in its parent
pub record IsOwnBit (s : Shape) (node bit : ℕ) : Type 0 where
  pub low : bit < 64
  pub is : 1 * 2 ^ bit % 2 ^ 64 ≡ group_of s node

pub own_bit : (s : Shape) (node bit : ℕ)
    → IsLegalShape s
    → node < nodes s
    → ◌≡◌ {A = Option ℕ} (Some bit) (if node == 0 then None else Some (bit_in_parent s node))
    → IsOwnBit s node bit
own_bit s node bit legal here answer = elim (cases_eq node 0) [
  | inl root ↦ (let no : ◌≡◌ {A = Option ℕ} (Some bit) None = rw root at answer in absurd (cc))
  | inr other ↦
      (let yes : ◌≡◌ {A = Option ℕ} (Some bit) (Some (bit_in_parent s node)) =
      rw (ne_eqb node 0 other) at answer in
      let same : bit ≡ bit_in_parent s node = cc in
      let below = (has_parent s node legal (grind (arith, other)) here).bit in
      let few = legal.fan_high in
      let low : bit < 64 = omega (arith, same, below, few) in
      let own : group_of s node ≡ 2 ^ bit_in_parent s node = rw (ne_eqb node 0 other) in
      record { low = low; is = one_shl bit 64 low ∙ ap (λ b. 2 ^ b) same ∙ sym own })
]

-- the root has none
pub no_bit : (s : Shape) (node : ℕ)
    → ◌≡◌ {A = Option ℕ} None (if node == 0 then None else Some (bit_in_parent s node))
    → 0 ≡ group_of s node
no_bit s node answer = elim (cases_eq node 0) [
  | inl root ↦ rw root refl
  | inr other ↦
      (let no : ◌≡◌ {A = Option ℕ} None (Some (bit_in_parent s node)) =
      rw (ne_eqb node 0 other) at answer in
      absurd (cc))
]

-- copies of a node have copies of its masks
pub map_copies : (read : Node → ℕ) (n : ℕ) (node : Node)
    → map read (replicate n node) ≡ replicate n (read node)
map_copies read zero node = refl
map_copies read (suc n) node = ap (λ masks. read node ∷ masks) (map_copies read n node)
