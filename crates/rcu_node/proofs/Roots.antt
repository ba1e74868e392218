-- The root's mask is empty exactly if no processor is awaited.
use Rattle.std.proofs.Common.{◌≡◌, ◌≢◌, ℕ, zero, suc, ◌+◌, ◌<◌, ◌≤◌, ◌==◌, Bool, true, false, not}
use Rattle.std.proofs.Common.{List, length, slice_index, refl, sym, ap, ◌∙◌, arith, inl, inr}
use Rattle.std.proofs.Common.{ne_eqb}
use Rattle.std.proofs.lemmas.Bool.{cases_Bool, cases_eq, cases_lt, false≢true}
use Rattle.std.proofs.Math.Logic.{∥∥₁_elim}
use Rattle.rcu_geometry.specs.Geometry.{Shape, IsLegalShape, nodes, parent, bit_in_parent}
use Rattle.rcu_geometry.specs.Geometry.{first_leaf, leaf_of, bit_of}
use Rattle.rcu_geometry.proofs.Places.{has_parent}
use Rattle.rcu_node.specs.CpuSet.{size_of}
use Rattle.rcu_node.specs.Masks.{AreLinked, AreMasks}
use Rattle.rcu_node.specs.Words.{has_bit}
use Rattle.rcu_node.proofs.Bits.{has_bit-zero, no_bits}
use Rattle.rcu_node.proofs.CpuSetLemmas.{nobody_in, size_of-empty}
use Rattle.rcu_node.proofs.Members.{cpu_bit, leaf_here}

-- there is a root
pub root_here : (s : Shape) → IsLegalShape s → 0 < nodes s
root_here s legal = let leaf = leaf_here s 0 legal legal.some in omega arith

-- below an empty root each mask is empty
all_empty : (s : Shape) (masks : List ℕ)
    → IsLegalShape s
    → AreLinked s masks
    → slice_index masks 0 ≡ 0
    → (fuel node : ℕ) → node < fuel
    → node < nodes s
    → slice_index masks node ≡ 0
all_empty s masks legal linked empty zero node enough here = absurd (let no : ⊥ = omega arith in no)
all_empty s masks legal linked empty (suc fuel) node enough here = elim (cases_eq node 0) [
  | inl root ↦ rw root empty
  | inr other ↦
      (let some : 0 < node = grind (arith, other) in
      let before = (has_parent s node legal some here).before in
      let above =
      all_empty s masks legal linked empty fuel (parent s node) (omega arith) (omega arith) in
      elim (cases_eq (slice_index masks node) 0) [
        | inl none ↦ none
        | inr full ↦ absurd (false≢true
            (sym (has_bit-zero (bit_in_parent s node))
            ∙ ap (λ v. has_bit v (bit_in_parent s node)) (sym above)
            ∙ linked.inner node some here
            ∙ ap not (ne_eqb (slice_index masks node) 0 full)))
      ])
]

-- a bit that nothing has is not set
pub none_set : (word bit : ℕ) → (has_bit word bit ≡ true → ⊥) → has_bit word bit ≡ false
none_set word bit never = elim (cases_Bool (has_bit word bit)) [
  | inl set ↦ absurd (never set)
  | inr none ↦ none
]

-- if no processor's bit is set, each mask is empty
none_below : (s : Shape) (masks : List ℕ)
    → IsLegalShape s
    → AreLinked s masks
    → ((cpu : ℕ) → cpu < s.cpus → cpu_bit s masks cpu ≡ false)
    → (fuel node : ℕ) → nodes s ≤ node + fuel
    → node < nodes s
    → slice_index masks node ≡ 0
none_below s masks legal linked nobody zero node enough here =
    absurd (let no : ⊥ = omega arith in no)
none_below s masks legal linked nobody (suc fuel) node enough here =
    no_bits (slice_index masks node)
    (λ bit. none_set (slice_index masks node) bit (λ set. elim (cases_lt node (first_leaf s)) [
      | inl inner ↦ ∥∥₁_elim (linked.owned.inner node bit inner set) (λ x y. absurd x) (λ found.
          let child = found.0 in let is = found.1 in
          let before = (has_parent s child legal is.some is.here).before in let up = is.parent in
          let none = none_below s masks legal linked nobody fuel child (omega arith) is.here in
          false≢true (sym (ap (λ v. not (v == 0)) none) ∙ sym (linked.inner child is.some is.here)
          ∙ ap (λ p. has_bit (slice_index masks p) (bit_in_parent s child)) is.parent
          ∙ ap (λ b. has_bit (slice_index masks node) b) is.bit ∙ set))
      | inr leaf ↦ ∥∥₁_elim (linked.owned.leaf node bit leaf set) (λ x y. absurd x) (λ found.
          false≢true (sym (nobody found.0 found.1.here)
          ∙ ap (λ k. has_bit (slice_index masks k) (bit_of s found.0)) found.1.leaf
          ∙ ap (λ b. has_bit (slice_index masks node) b) found.1.bit ∙ set))
    ]))

-- so the root shows whether a processor is awaited
pub root_tells : (s : Shape) (set : List Bool) (masks : List ℕ)
    → IsLegalShape s → length set ≡ s.cpus → AreMasks s set masks
    → (slice_index masks 0 == 0) ≡ (size_of set == 0)
root_tells s set masks legal sized are = elim (cases_eq (slice_index masks 0) 0) [
  | inl empty ↦
      (let none : size_of set ≡ 0 = size_of-empty set (λ cpu below.
      let here : cpu < s.cpus = omega (arith, below, sized) in
      let leaf = leaf_here s cpu legal here in
      sym (are.leaf cpu here)
      ∙ ap (λ v. has_bit v (bit_of s cpu))
      (all_empty s masks legal are.linked empty (nodes s) (leaf_of s cpu) leaf leaf)
      ∙ has_bit-zero (bit_of s cpu)) in
      rw (empty, none) refl)
  | inr full ↦
      (let some : size_of set ≢ 0 = λ none.
      full
      (none_below s masks legal are.linked (λ cpu here. are.leaf cpu here ∙ nobody_in set none cpu)
      (nodes s) 0 (omega arith) (root_here s legal)) in
      ne_eqb (slice_index masks 0) 0 full ∙ sym (ne_eqb (size_of set) 0 some))
]
