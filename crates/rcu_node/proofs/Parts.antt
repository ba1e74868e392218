-- The masks of a part of a set are part of the masks of the set.
use Rattle.std.proofs.Common.{◌≡◌, ◌≢◌, ℕ, zero, suc, ◌+◌, ◌≤◌, ◌==◌, true, not, List}
use Rattle.std.proofs.Common.{slice_index, sym, ap, ◌∙◌, arith, inl, inr, ne_eqb}
use mathlib.Core.Bool.{Bool-set}
use Rattle.std.proofs.Math.Logic.{∥∥₁_elim}
use Rattle.std.proofs.lemmas.Bool.{cases_lt, false≢true}
use Rattle.std.proofs.lemmas.List.{get_or_past}
use Rattle.rcu_geometry.specs.Geometry.{Shape, IsLegalShape, nodes, parent, bit_in_parent}
use Rattle.rcu_geometry.specs.Geometry.{first_leaf, leaf_of}
use Rattle.rcu_geometry.proofs.Places.{has_parent}
use Rattle.rcu_node.specs.CpuSet.{is_in}
use Rattle.rcu_node.specs.Masks.{AreLinked, members}
use Rattle.rcu_node.specs.Steps.{HaveNoMore}
use Rattle.rcu_node.specs.Words.{has_bit}
use Rattle.rcu_node.proofs.Bits.{has_bit-zero, no_bits}
use Rattle.rcu_node.proofs.Members.{is_in-members}
use Rattle.rcu_node.proofs.OneBit.{not_empty}
use Rattle.rcu_node.proofs.Roots.{none_set}

-- what is set in the masks of the part is set in those of the set, from the last node on
part_bit : (s : Shape) (part all : List ℕ)
    → IsLegalShape s
    → AreLinked s part
    → AreLinked s all
    → ((cpu : ℕ) → is_in (members s part) cpu ≡ true → is_in (members s all) cpu ≡ true)
    → (fuel node bit : ℕ) → nodes s ≤ node + fuel
    → has_bit (slice_index part node) bit ≡ true
    → has_bit (slice_index all node) bit ≡ true
part_bit s part all legal first second within zero node bit enough on =
    absurd
    (false≢true
    (sym (has_bit-zero bit)
    ∙ sym (ap (λ v. has_bit v bit)
    (get_or_past part node 0 (let sized = first.owned.sized in omega (arith, sized, enough))))
    ∙ on))
part_bit s part all legal first second within (suc fuel) node bit enough on =
    elim (cases_lt node (first_leaf s)) [
      | inl inner ↦ ∥∥₁_elim (first.owned.inner node bit inner on) (Bool-set _ _)
          (λ found.
          let child = found.0 in let is = found.1 in
          let before = (has_parent s child legal is.some is.here).before in let up = is.parent in
          let set : has_bit (slice_index part (parent s child)) (bit_in_parent s child) ≡ true =
          ap (λ k. has_bit (slice_index part k) (bit_in_parent s child)) is.parent
          ∙ ap (λ i. has_bit (slice_index part node) i) is.bit
          ∙ on in
          let full : slice_index all child ≢ 0 =
          λ none. false≢true
          (ap (λ v. not (v == 0)) (sym (no_bits (slice_index part child)
          (λ i. none_set (slice_index part child) i
          (λ there. not_empty (slice_index all child) i
          (part_bit s part all legal first second within fuel child i
          (omega (arith, enough, before, up)) there)
          none))))
          ∙ sym (first.inner child is.some is.here)
          ∙ set) in
          sym (ap (λ k. has_bit (slice_index all k) bit) is.parent)
          ∙ sym (ap (λ i. has_bit (slice_index all (parent s child)) i) is.bit)
          ∙ second.inner child is.some is.here
          ∙ ap not (ne_eqb (slice_index all child) 0 full))
      | inr leaf ↦ ∥∥₁_elim (first.owned.leaf node bit leaf on) (Bool-set _ _)
          (λ found.
          let cpu = found.0 in let is = found.1 in
          sym (ap (λ k. has_bit (slice_index all k) bit) is.leaf)
          ∙ sym (ap (λ i. has_bit (slice_index all (leaf_of s cpu)) i) is.bit)
          ∙ sym (is_in-members s all cpu is.here)
          ∙ within cpu
          (is_in-members s part cpu is.here
          ∙ ap (λ i. has_bit (slice_index part (leaf_of s cpu)) i) is.bit
          ∙ ap (λ k. has_bit (slice_index part k) bit) is.leaf
          ∙ on))
    ]

-- so where a mask of the set is empty, so is that of the part
pub part_has_no_more : (s : Shape) (part all : List ℕ)
    → IsLegalShape s
    → AreLinked s part
    → AreLinked s all
    → ((cpu : ℕ) → is_in (members s part) cpu ≡ true → is_in (members s all) cpu ≡ true)
    → HaveNoMore part all
part_has_no_more s part all legal first second within = λ k none.
    no_bits (slice_index part k)
    (λ bit. none_set (slice_index part k) bit
    (λ there. not_empty (slice_index all k) bit
    (part_bit s part all legal first second within (nodes s) k bit (omega arith) there) none))
