-- A set has one list of masks.
use Rattle.std.proofs.Common.{◌≡◌, ℕ, zero, suc, ◌+◌, ◌<◌, ◌≤◌, ◌==◌, Bool, true, not, List}
use Rattle.std.proofs.Common.{slice_index, sym, ap, ◌∙◌, arith, inl, inr}
use mathlib.Core.Bool.{Bool-set}
use Rattle.std.proofs.Math.Logic.{∥∥₁_elim}
use Rattle.std.proofs.lemmas.Bool.{cases_lt}
use Rattle.std.proofs.lemmas.List.{ext_get_or}
use Rattle.rcu_geometry.specs.Geometry.{Shape, IsLegalShape, nodes, parent, first_leaf, leaf_of}
use Rattle.rcu_geometry.proofs.Places.{has_parent}
use Rattle.rcu_node.specs.Masks.{AreMasks}
use Rattle.rcu_node.specs.Words.{has_bit}
use Rattle.rcu_node.proofs.Bits.{same_word}
use Rattle.rcu_node.proofs.MergingLemmas.{same_test}

-- if the masks behind a node are the same, so are its bits
carries : (s : Shape) (set : List Bool) (a b : List ℕ)
    → IsLegalShape s
    → AreMasks s set a
    → AreMasks s set b
    → (node bit : ℕ) → ((k : ℕ) → node < k → k < nodes s → slice_index a k ≡ slice_index b k)
    → has_bit (slice_index a node) bit ≡ true
    → has_bit (slice_index b node) bit ≡ true
carries s set a b legal first second node bit behind on = elim (cases_lt node (first_leaf s)) [
  | inl inner ↦ ∥∥₁_elim (first.linked.owned.inner node bit inner on) (Bool-set _ _)
      (λ found.
      let child = found.0 in let is = found.1 in
      let before = (has_parent s child legal is.some is.here).before in let up = is.parent in
      let same = behind child (omega arith) is.here in
      sym (ap (λ k. has_bit (slice_index b k) bit) is.parent)
      ∙ sym (ap (λ i. has_bit (slice_index b (parent s child)) i) is.bit)
      ∙ second.linked.inner child is.some is.here
      ∙ ap (λ v. not (v == 0)) (sym same)
      ∙ sym (first.linked.inner child is.some is.here)
      ∙ ap (λ i. has_bit (slice_index a (parent s child)) i) is.bit
      ∙ ap (λ k. has_bit (slice_index a k) bit) is.parent
      ∙ on)
  | inr leaf ↦ ∥∥₁_elim (first.linked.owned.leaf node bit leaf on) (Bool-set _ _)
      (λ found.
      let cpu = found.0 in let is = found.1 in
      sym (ap (λ k. has_bit (slice_index b k) bit) is.leaf)
      ∙ sym (ap (λ i. has_bit (slice_index b (leaf_of s cpu)) i) is.bit)
      ∙ second.leaf cpu is.here
      ∙ sym (first.leaf cpu is.here)
      ∙ ap (λ i. has_bit (slice_index a (leaf_of s cpu)) i) is.bit
      ∙ ap (λ k. has_bit (slice_index a k) bit) is.leaf
      ∙ on)
]

-- so each mask is the same, from the last node on
same_mask : (s : Shape) (set : List Bool) (a b : List ℕ)
    → IsLegalShape s
    → AreMasks s set a
    → AreMasks s set b
    → (fuel node : ℕ) → nodes s ≤ node + fuel
    → node < nodes s
    → slice_index a node ≡ slice_index b node
same_mask s set a b legal first second zero node enough here =
    absurd (let no : ⊥ = omega arith in no)
same_mask s set a b legal first second (suc fuel) node enough here =
    let behind : (k : ℕ) → node < k → k < nodes s → slice_index a k ≡ slice_index b k =
    λ k later k_here.
    same_mask s set a b legal first second fuel k (omega (arith, enough, later)) k_here in
    same_word (slice_index a node) (slice_index b node)
    (λ bit. same_test (has_bit (slice_index a node) bit) (has_bit (slice_index b node) bit)
    (carries s set a b legal first second node bit behind)
    (carries s set b a legal second first node bit (λ k later k_here. sym (behind k later k_here))))

-- and so are the lists
pub same_masks : (s : Shape) (set : List Bool) (a b : List ℕ)
    → IsLegalShape s → AreMasks s set a → AreMasks s set b → a ≡ b
same_masks s set a b legal first second =
    ext_get_or 0 a b (first.linked.owned.sized ∙ sym second.linked.owned.sized)
    (λ node below. same_mask s set a b legal first second (nodes s) node (omega arith)
    (let sized = first.linked.owned.sized in omega arith))
