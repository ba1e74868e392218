-- A report's walk up the tree.
use Rattle.std.proofs.Common.{◌≡◌, ◌≢◌, ℕ, ◌*◌, ◌%◌, ◌^◌, ◌<◌, ◌≤◌, ◌==◌, Bool, true, false, not}
use Rattle.std.proofs.Common.{List, length, slice_index, slice_set, bit_and, sym, ap, ◌∙◌, arith}
use Rattle.std.proofs.Common.{inl, inr, ne_eqb, Option, Some, None, if◌then◌else◌}
use Rattle.std.specs.Int.{bit_not, w64}
use Rattle.std.proofs.lemmas.Bool.{cases_eq}
use Rattle.std.proofs.lemmas.Nat.{one_shl}
use Rattle.std.proofs.lemmas.List.{get_or-set_same, get_or-set_other, length-set}
use Rattle.rcu_geometry.specs.Geometry.{Shape, IsLegalShape, nodes, parent, bit_in_parent}
use Rattle.rcu_geometry.specs.Geometry.{first_leaf, leaf_of, bit_of}
use Rattle.rcu_geometry.proofs.Places.{has_parent, same_child}
use Rattle.rcu_node.specs.CpuSet.{is_in}
use Rattle.rcu_node.specs.Masks.{AreGroups, AreLinked, AreOwned, group_of, members}
use Rattle.rcu_node.specs.Steps.{AreLinkedBut}
use Rattle.rcu_node.specs.Words.{has_bit}
use Rattle.rcu_node.proofs.Members.{bit_low, is_in-members, leaf_here, members-clear, members-inner}
use Rattle.rcu_node.proofs.OneBit.{Clears, clears, not_empty}

-- if one bit is cleared, the others are still a processor's or a child's
owned-clear : (s : Shape) (masks : List ℕ) (node word bit : ℕ)
    → Clears (slice_index masks node) word bit → node < length masks → AreOwned s masks
    → AreOwned s (slice_set masks node word)
owned-clear s masks node word bit cleared here owned =
    let less : (k i : ℕ) → has_bit (slice_index (slice_set masks node word) k) i ≡ true
    → has_bit (slice_index masks k) i ≡ true =
    λ k i.
    elim (cases_eq k node) as (λ _.
    has_bit (slice_index (slice_set masks node word) k) i ≡ true → has_bit (slice_index masks k) i
    ≡ true) [
      | inl same ↦
          (λ set. rw same
          (cleared.less i
          (sym (ap (λ v. has_bit v i)
          (ap (slice_index (slice_set masks node word)) same
          ∙ get_or-set_same masks node word 0 here))
          ∙ set)))
      | inr other ↦
          (λ set. sym (ap (λ v. has_bit v i) (get_or-set_other masks node k word 0 other)) ∙ set)
    ] in
    record {
      sized = length-set masks node word ∙ owned.sized;
      inner = λ k i inner set. owned.inner k i inner (less k i set);
      leaf = λ k i leaf set. owned.leaf k i leaf (less k i set);
    }

-- the first step: a bit of a leaf is cleared
leaf-clear : (s : Shape) (masks : List ℕ) (node bit word : ℕ) → IsLegalShape s → AreLinked s masks
    → first_leaf s ≤ node → node < nodes s → has_bit (slice_index masks node) bit ≡ true
    → Clears (slice_index masks node) word bit → AreLinkedBut s (slice_set masks node word) node
leaf-clear s masks node bit word legal linked leaf below set cleared =
    let here : node < length masks = omega (arith, linked.owned.sized, below) in
    let same : (k : ℕ) → k ≢ node
    → slice_index (slice_set masks node word) k ≡ slice_index masks k =
    λ k other. get_or-set_other masks node k word 0 other in
    record {
      owned = owned-clear s masks node word bit cleared here linked.owned;
      here = below;
      inner = λ child some there other.
          let above = (has_parent s child legal some there).inner in
          rw (same (parent s child) (grind (arith, above, leaf)), same child other)
          (linked.inner child some there);
      over = λ some.
          let before = (has_parent s node legal some below).before in
          rw (same (parent s node) (grind (arith, before)))
          (linked.inner node some below
          ∙ ap not
          (ne_eqb (slice_index masks node) 0 (not_empty (slice_index masks node) bit set)));
    }

-- a further step: the bit of a node that is empty is cleared in its parent
parent-clear : (s : Shape) (masks : List ℕ) (node word : ℕ)
    → IsLegalShape s
    → AreLinkedBut s masks node
    → 0 < node
    → slice_index masks node ≡ 0
    → Clears (slice_index masks (parent s node)) word (bit_in_parent s node)
    → AreLinkedBut s (slice_set masks (parent s node) word) (parent s node)
parent-clear s masks node word legal before some empty cleared =
    let family = has_parent s node legal some before.here in
    let up = parent s node in
    let up_before = family.before in let here = before.here in
    let up_here : up < nodes s = omega (arith, up_before, here) in
    let there : up < length masks = omega (arith, before.owned.sized, up_here) in
    let same : (k : ℕ) → k ≢ up → slice_index (slice_set masks up word) k ≡ slice_index masks k =
    λ k other. get_or-set_other masks up k word 0 other in
    let now : slice_index (slice_set masks up word) up ≡ word =
    get_or-set_same masks up word 0 there in
    record {
      owned = owned-clear s masks up word (bit_in_parent s node) cleared there before.owned;
      here = up_here;
      inner = λ child child_some child_here other. elim (cases_eq child node) [
        | inl it ↦ rw (it, now, same node (grind (arith, up_before)), empty) cleared.off
        | inr another ↦ elim (cases_eq (parent s child) up) [
          | inl sibling ↦ rw (sibling, now, same child other)
              (cleared.rest (bit_in_parent s child)
              (let below = (has_parent s child legal child_some child_here).bit in
              let few = legal.fan_high in omega arith)
              (λ bits.
              another (same_child s child node legal child_some child_here some here sibling bits))
              ∙ ap (λ v. has_bit (slice_index masks v) (bit_in_parent s child)) (sym sibling)
              ∙ before.inner child child_some child_here another)
          | inr apart ↦ rw (same (parent s child) apart, same child other)
              (before.inner child child_some child_here another)
        ]
      ];
      over = λ up_some.
          let above = (has_parent s up legal up_some up_here).before in
          rw (same (parent s up) (grind (arith, above)))
          (before.inner up up_some up_here (grind (arith, up_before))
          ∙ ap not
          (ne_eqb (slice_index masks up) 0
          (not_empty (slice_index masks up) (bit_in_parent s node) (before.over some))));
    }

-- the walk ends if the mask is not empty
pub end_here : (s : Shape) (masks : List ℕ) (node : ℕ)
    → AreLinkedBut s masks node → slice_index masks node ≢ 0 → AreLinked s masks
end_here s masks node before some = record {
  owned = before.owned;
  inner = λ child child_some child_here. elim (cases_eq child node) [
    | inl it ↦ rw it
        (before.over (omega (arith, it, child_some))
        ∙ sym (ap not (ne_eqb (slice_index masks node) 0 some)))
    | inr other ↦ before.inner child child_some child_here other
  ];
}

-- the masks after a step
pub record IsStepped (s : Shape) (masks new : List ℕ) (node : ℕ) (set : List Bool) : Type 0 where
  pub cleared : AreLinkedBut s new node
  pub members : members s new ≡ set

-- an awaited processor is cleared in its leaf
pub first_step : (s : Shape) (masks new : List ℕ) (cpu node bit : ℕ)
    → IsLegalShape s
    → AreLinked s masks
    → cpu < s.cpus
    → is_in (members s masks) cpu ≡ true
    → node ≡ leaf_of s cpu
    → bit ≡ bit_of s cpu
    → new
    ≡ slice_set masks node (bit_and (slice_index masks node) (bit_not w64 (1 * 2 ^ bit % 2 ^ 64)))
    → IsStepped s masks new node (slice_set (members s masks) cpu false)
first_step s masks new cpu node bit legal linked below there is_leaf is_bit written =
    let low = bit_low s cpu legal in
    let leaf = leaf_of s cpu in
    let here = leaf_here s cpu legal below in
    let mask = 1 * 2 ^ bit_of s cpu % 2 ^ 64 in
    let word = bit_and (slice_index masks leaf) (bit_not w64 mask) in
    let cleared =
    clears (slice_index masks leaf) mask (bit_of s cpu) low (one_shl (bit_of s cpu) 64 low) in
    let set = sym (is_in-members s masks cpu below) ∙ there in
    rw (written, is_leaf, is_bit)
    (record {
      cleared =
          leaf-clear s masks leaf (bit_of s cpu) word legal linked (omega arith) here set cleared;
      members = members-clear s masks cpu word legal below (omega (arith, linked.owned.sized, here))
          cleared;
    })

-- and then, as long as masks get empty, each node in its parent
pub next_step : (s : Shape) (masks groups new : List ℕ) (node up mask : ℕ)
    → IsLegalShape s
    → AreLinkedBut s masks node
    → AreGroups s groups
    → 0 < node
    → slice_index masks node ≡ 0
    → up ≡ parent s node
    → mask ≡ slice_index groups node
    → new ≡ slice_set masks up (bit_and (slice_index masks up) (bit_not w64 mask))
    → IsStepped s masks new up (members s masks)
next_step s masks groups new node up mask legal before marked some empty is_up is_group written =
    let family = has_parent s node legal some before.here in
    let other : node ≢ 0 = grind (arith, some) in
    let own : group_of s node ≡ 2 ^ bit_in_parent s node = rw (ne_eqb node 0 other) in
    let is_mask : mask ≡ 2 ^ bit_in_parent s node = is_group ∙ marked.bit node before.here ∙ own in
    let few = legal.fan_high in let bit = family.bit in
    let cleared =
    clears (slice_index masks (parent s node)) mask (bit_in_parent s node) (omega (arith, few, bit))
    is_mask in
    let word = bit_and (slice_index masks (parent s node)) (bit_not w64 mask) in
    rw (written, is_up) (record {
      cleared = parent-clear s masks node word legal before some empty cleared;
      members = members-inner s masks (parent s node) word family.inner;
    })

-- a node that has a parent is not the root, and the parent is its own
pub record HasParentAt (node up own : ℕ) : Type 0 where
  pub some : 0 < node
  pub is : up ≡ own

pub some_parent : (node up own : ℕ)
    → ◌≡◌ {A = Option ℕ} (Some up) (if node == 0 then None else Some own) → HasParentAt node up own
some_parent node up own answer = elim (cases_eq node 0) [
  | inl root ↦ (let no : ◌≡◌ {A = Option ℕ} (Some up) None = rw root at answer in absurd (cc))
  | inr other ↦
      (let yes : ◌≡◌ {A = Option ℕ} (Some up) (Some own) = rw (ne_eqb node 0 other) at answer in
      record { some = grind (arith, other); is = cc })
]
