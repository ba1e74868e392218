-- The masks at a grace period's start: a leaf gets its bits, and the walk up from there its own.
use Rattle.std.proofs.Common.{◌≡◌, ◌≢◌, ℕ, ◌+◌, ◌-◌, ◌*◌, ◌/◌, ◌%◌, ◌^◌, ◌<◌, ◌≤◌, ◌==◌, ◌&&◌}
use Rattle.std.proofs.Common.{nat_le, nat_lt, Bool, true, false, not, List, length, slice_index}
use Rattle.std.proofs.Common.{slice_set, bit_or, replicate, refl, sym, ap, ◌∙◌, arith, inl, inr}
use Rattle.std.proofs.Common.{ne_eqb}
use Rattle.std.proofs.lemmas.Bool.{cases_Bool, cases_eq, cases_lt, false≢true}
use Rattle.std.proofs.lemmas.Bool.Decides.{nat_tests}
use Rattle.std.proofs.lemmas.Nat.{mod_below, mul-le, one_shl, div-add-mod', div-mul-add}
use Rattle.std.proofs.lemmas.Nat.{mod-mul-add}
use Rattle.std.proofs.lemmas.List.{get_or-set_same, get_or-set_other, length-set}
use Rattle.std.proofs.Math.Nat.{div-mul-le_self}
use Rattle.rcu_geometry.specs.Geometry.{Shape, IsLegalShape, nodes, parent, bit_in_parent}
use Rattle.rcu_geometry.specs.Geometry.{first_leaf, leaf_of, bit_of}
use Rattle.rcu_geometry.proofs.Places.{has_parent, same_child}
use Rattle.rcu_node.specs.CpuSet.{is_in}
use Rattle.rcu_node.specs.Masks.{AreGroups, AreLinked, AreOwned, IsChildOf, IsCpuOf, IsLinked}
use Rattle.rcu_node.specs.Masks.{group_of, members}
use Rattle.rcu_node.specs.Steps.{AreFilled, AreLinkedUpTo, IsLeafMask, leaf_bit}
use Rattle.rcu_node.specs.Words.{has_bit}
use Rattle.rcu_node.proofs.Bits.{has_bit-zero, has_bit_set_same, has_bit_set_other}
use Rattle.rcu_node.proofs.CpuSetLemmas.{is_in-beyond, listed_same}
use Rattle.rcu_node.proofs.Marks.{zero_at}
use Rattle.rcu_node.proofs.Members.{cpu_bit}
use Rattle.rcu_node.proofs.OneBit.{not_empty}

-- ---- the leaves

-- at first none is filled
pub filled_none : (s : Shape) (set : List Bool) (masks : List ℕ) → masks ≡ replicate (nodes s) 0
    → AreFilled s set masks (first_leaf s)
filled_none s set masks zeros = record {
  bit = λ k bit leaf below. absurd (let no : ⊥ = omega (arith, leaf, below) in no);
  rest = λ k later. ap (λ (words : List ℕ). slice_index words k) zeros ∙ zero_at (nodes s) k;
}

-- the processor of a leaf's bit lies there
cpu_at : (s : Shape) (node bit : ℕ) → first_leaf s ≤ node → bit < s.leaf
    → (node - first_leaf s) * s.leaf + bit < s.cpus
    → IsCpuOf s node bit ((node - first_leaf s) * s.leaf + bit)
cpu_at s node bit leaf low below =
    let nth = node - first_leaf s in
    let quotient : (nth * s.leaf + bit) / s.leaf ≡ nth = div-mul-add nth s.leaf bit low in
    let remainder : (nth * s.leaf + bit) % s.leaf ≡ bit = mod-mul-add nth s.leaf bit low in
    record {
      here = below;
      leaf = omega (arith, quotient, leaf);
      bit = remainder;
    }

-- the processor that a leaf's bit shows
pub record HasCpu (s : Shape) (set : List Bool) (node bit : ℕ) : Type 0 where
  pub leaf : first_leaf s ≤ node
  pub low : bit < s.leaf
  pub there : is_in set ((node - first_leaf s) * s.leaf + bit) ≡ true

has_cpu : (s : Shape) (set : List Bool) (node bit : ℕ) → leaf_bit s set node bit ≡ true
    → HasCpu s set node bit
has_cpu s set node bit is = record {
  leaf = grind (arith, nat_tests, is);
  low = grind (arith, nat_tests, is);
  there = grind (arith, nat_tests, is);
}

-- a leaf's bits before the next processor of the set
none_between : (s : Shape) (set : List Bool) (leaf cpu k bit : ℕ)
    → ((c : ℕ) → (leaf - first_leaf s) * s.leaf ≤ c → c < cpu → is_in set c ≡ false)
    → first_leaf s ≤ leaf
    → leaf ≤ k
    → k < leaf_of s cpu
    → leaf_bit s set k bit ≡ false
none_between s set leaf cpu k bit none first from before =
    elim (cases_Bool (leaf_bit s set k bit)) [
      | inl there ↦
          (let found = has_cpu s set k bit there in
          let low = found.low in
          let start =
          mul-le (leaf - first_leaf s) s.leaf (k - first_leaf s) s.leaf (omega arith)
          (omega arith) in
          let end =
          mul-le (k - first_leaf s + 1) s.leaf (cpu / s.leaf) s.leaf (omega arith) (omega arith) in
          let next : (k - first_leaf s + 1) * s.leaf ≡ (k - first_leaf s) * s.leaf + s.leaf =
          omega arith in
          let whole = div-mul-le_self cpu s.leaf in
          absurd
          (false≢true
          (sym (none ((k - first_leaf s) * s.leaf + bit) (omega (arith, start))
          (omega (arith, end, next, whole, low)))
          ∙ found.there)))
      | inr out ↦ out
    ]

-- the leaves before that one have no bit
pub filled_skip : (s : Shape) (set : List Bool) (masks : List ℕ) (leaf cpu node : ℕ)
    → AreFilled s set masks leaf
    → first_leaf s ≤ leaf
    → leaf ≤ node
    → node ≡ leaf_of s cpu
    → ((c : ℕ) → (leaf - first_leaf s) * s.leaf ≤ c → c < cpu → is_in set c ≡ false)
    → AreFilled s set masks node
filled_skip s set masks leaf cpu node before first order is none = record {
  bit = λ k bit k_leaf below. elim (cases_lt k leaf) [
    | inl filled ↦ before.bit k bit k_leaf filled
    | inr unfilled ↦ ap (λ v. has_bit v bit) (before.rest k unfilled)
        ∙ has_bit-zero bit
        ∙ sym (none_between s set leaf cpu k bit none first unfilled (omega (arith, below, is)))
  ];
  rest = λ k behind. before.rest k (omega (arith, order, behind));
}

-- one more leaf gets its bits
pub filled_more : (s : Shape) (set : List Bool) (masks new : List ℕ) (node mask : ℕ)
    → AreFilled s set masks node
    → first_leaf s ≤ node
    → node < length masks
    → ((bit : ℕ) → has_bit mask bit ≡ leaf_bit s set node bit)
    → ((k : ℕ) → first_leaf s ≤ k → slice_index new k ≡ slice_index (slice_set masks node mask) k)
    → AreFilled s set new (node + 1)
filled_more s set masks new node mask before first here read written = record {
  bit = λ k bit k_leaf below. elim (cases_eq k node) [
    | inl same ↦ ap (λ v. has_bit v bit)
        (written k k_leaf
        ∙ ap (slice_index (slice_set masks node mask)) same
        ∙ get_or-set_same masks node mask 0 here)
        ∙ read bit
        ∙ ap (λ n. leaf_bit s set n bit) (sym same)
    | inr other ↦ ap (λ v. has_bit v bit)
        (written k k_leaf ∙ get_or-set_other masks node k mask 0 other)
        ∙ before.bit k bit k_leaf (grind (arith, below, other))
  ];
  rest = λ k behind.
      written k (omega (arith, first, behind))
      ∙ get_or-set_other masks node k mask 0
      (λ same. (let no : ⊥ = omega (arith, same, behind) in no))
      ∙ before.rest k (omega (arith, behind));
}

-- the leaf of the next processor does not lie before
pub leaf_later : (s : Shape) (leaf cpu : ℕ) → IsLegalShape s → first_leaf s ≤ leaf
    → (leaf - first_leaf s) * s.leaf ≤ cpu → leaf ≤ leaf_of s cpu
leaf_later s leaf cpu legal first later =
    let some = legal.leaf_low in
    let split = div-add-mod' cpu s.leaf in
    let low = mod_below cpu s.leaf (omega (arith, some)) in
    elim (cases_lt (cpu / s.leaf) (leaf - first_leaf s)) [
      | inl less ↦
          (let product =
          mul-le (cpu / s.leaf + 1) s.leaf (leaf - first_leaf s) s.leaf (omega arith)
          (omega arith) in
          let next : (cpu / s.leaf + 1) * s.leaf ≡ cpu / s.leaf * s.leaf + s.leaf = omega arith in
          absurd (let no : ⊥ = omega (arith, product, next, split, low, later) in no))
      | inr enough ↦ omega arith
    ]

-- a processor's bit in its leaf
leaf_bit_of : (s : Shape) (set : List Bool) (cpu : ℕ) → IsLegalShape s
    → leaf_bit s set (leaf_of s cpu) (bit_of s cpu) ≡ is_in set cpu
leaf_bit_of s set cpu legal =
    let low = mod_below cpu s.leaf (let some = legal.leaf_low in omega arith) in
    let there : leaf_of s cpu - first_leaf s ≡ cpu / s.leaf = omega arith in
    let leaf : nat_le (first_leaf s) (leaf_of s cpu) ≡ true = grind (arith, nat_tests) in
    let bit : nat_lt (cpu % s.leaf) s.leaf ≡ true = grind (arith, nat_tests, low) in
    rw (leaf, bit, there, div-add-mod' cpu s.leaf) refl

-- so the mask of a leaf with a processor of the set is not empty
pub full_mask : (s : Shape) (set : List Bool) (cpu node mask : ℕ)
    → IsLegalShape s
    → node ≡ leaf_of s cpu
    → is_in set cpu ≡ true
    → ((bit : ℕ) → has_bit mask bit ≡ leaf_bit s set node bit)
    → mask ≢ 0
full_mask s set cpu node mask legal is there read =
    not_empty mask (bit_of s cpu)
    (read (bit_of s cpu)
    ∙ ap (λ n. leaf_bit s set n (bit_of s cpu)) is
    ∙ leaf_bit_of s set cpu legal
    ∙ there)

-- and its bits are those of processors
pub is_leaf_mask : (s : Shape) (set : List Bool) (node mask : ℕ)
    → length set ≡ s.cpus
    → mask ≢ 0
    → ((bit : ℕ) → has_bit mask bit ≡ leaf_bit s set node bit)
    → IsLeafMask s node mask
is_leaf_mask s set node mask sized some read = record {
  some = some;
  owned = λ bit set_bit.
      let found = has_cpu s set node bit (sym (read bit) ∙ set_bit) in
      let cpu : ℕ = (node - first_leaf s) * s.leaf + bit in
      let below : cpu < s.cpus = (elim (cases_lt cpu (length set)) [
        | inl less ↦ omega (arith, less, sized)
        | inr more ↦ absurd (false≢true (sym (is_in-beyond set cpu more) ∙ found.there))
      ]) in
      (cpu, cpu_at s node bit found.leaf found.low below);
}

-- the bits that were read are a leaf's
pub bits_are : (s : Shape) (set : List Bool) (node first leaf mask : ℕ)
    → first ≡ first_leaf s
    → leaf ≡ s.leaf
    → first_leaf s ≤ node
    → ((bit : ℕ) → has_bit mask bit
    ≡ (nat_lt bit leaf && is_in set ((node - first) * leaf + bit)))
    → (bit : ℕ) → has_bit mask bit ≡ leaf_bit s set node bit
bits_are s set node first leaf mask first_is leaf_is from read = λ bit.
    let above : nat_le (first_leaf s) node ≡ true = grind (arith, nat_tests, from) in
    read bit ∙ rw (first_is, leaf_is, above) refl

-- if no processor is left, all leaves are filled
pub filled_all : (s : Shape) (set : List Bool) (masks : List ℕ) (leaf : ℕ)
    → AreFilled s set masks leaf
    → first_leaf s ≤ leaf
    → ((c : ℕ) → (leaf - first_leaf s) * s.leaf ≤ c → is_in set c ≡ false)
    → (k bit : ℕ) → first_leaf s ≤ k
    → has_bit (slice_index masks k) bit ≡ leaf_bit s set k bit
filled_all s set masks leaf filled first none k bit k_leaf = elim (cases_lt k leaf) [
  | inl before ↦ filled.bit k bit k_leaf before
  | inr behind ↦ ap (λ v. has_bit v bit) (filled.rest k behind)
      ∙ has_bit-zero bit
      ∙ elim (cases_Bool (leaf_bit s set k bit)) [
        | inl there ↦
            (let found = has_cpu s set k bit there in
            let start =
            mul-le (leaf - first_leaf s) s.leaf (k - first_leaf s) s.leaf (omega arith)
            (omega arith) in
            absurd
            (false≢true
            (sym (none ((k - first_leaf s) * s.leaf + bit) (omega (arith, start))) ∙ found.there)))
        | inr out ↦ sym out
      ]
]

-- and their members are the set
pub filled_members : (s : Shape) (set : List Bool) (masks : List ℕ) (leaf : ℕ)
    → IsLegalShape s
    → length set ≡ s.cpus
    → AreFilled s set masks leaf
    → first_leaf s ≤ leaf
    → ((c : ℕ) → (leaf - first_leaf s) * s.leaf ≤ c → is_in set c ≡ false)
    → members s masks ≡ set
filled_members s set masks leaf legal sized filled first none =
    listed_same s.cpus (cpu_bit s masks) set sized
    (λ cpu below.
    filled_all s set masks leaf filled first none (leaf_of s cpu) (bit_of s cpu) (omega arith)
    ∙ leaf_bit_of s set cpu legal)

-- ---- the walk up

-- an empty leaf gets its mask
pub leaf_put : (s : Shape) (masks : List ℕ) (leaf mask : ℕ)
    → IsLegalShape s
    → AreLinked s masks
    → first_leaf s ≤ leaf
    → leaf < nodes s
    → slice_index masks leaf ≡ 0
    → IsLeafMask s leaf mask
    → AreLinkedUpTo s (slice_set masks leaf mask) leaf
leaf_put s masks leaf mask legal linked is_leaf below empty is =
    let here : leaf < length masks = omega (arith, linked.owned.sized, below) in
    let same : (k : ℕ) → k ≢ leaf
    → slice_index (slice_set masks leaf mask) k ≡ slice_index masks k =
    λ k other. get_or-set_other masks leaf k mask 0 other in
    let now : slice_index (slice_set masks leaf mask) leaf ≡ mask =
    get_or-set_same masks leaf mask 0 here in
    let above : (child : ℕ) → 0 < child → child < nodes s → parent s child ≢ leaf =
    λ child some there is_up.
    (let inner = (has_parent s child legal some there).inner in
    let no : ⊥ = omega (arith, inner, is_up, is_leaf) in no) in
    record {
      owned = record {
        sized = length-set masks leaf mask ∙ linked.owned.sized;
        inner = λ k bit inner set_bit.
            linked.owned.inner k bit inner
            (sym (ap (λ v. has_bit v bit)
            (same k (λ it. (let no : ⊥ = omega (arith, it, inner, is_leaf) in no))))
            ∙ set_bit);
        leaf = λ k bit k_leaf.
            elim (cases_eq k leaf) as (λ _.
            has_bit (slice_index (slice_set masks leaf mask) k) bit ≡ true
            → ∥ ((cpu : ℕ) × IsCpuOf s k bit cpu) ∥₁) [
              | inl it ↦
                  (λ set_bit.
                  let found = is.owned bit
                  (sym (ap (λ v. has_bit v bit)
                  (ap (slice_index (slice_set masks leaf mask)) it ∙ now))
                  ∙ set_bit) in
                  rw it (∣ found ∣₁))
              | inr other ↦
                  (λ set_bit. linked.owned.leaf k bit k_leaf
                  (sym (ap (λ v. has_bit v bit) (same k other)) ∙ set_bit))
            ];
      };
      here = below;
      full = λ none. is.some (sym now ∙ none);
      inner = λ child some there other.
          rw (same (parent s child) (above child some there), same child other)
          (linked.inner child some there);
      over = λ some.
          rw (same (parent s leaf) (above leaf some below))
          (linked.inner leaf some below ∙ ap (λ v. not (v == 0)) empty);
    }

-- a parent has one more bit, its child's
pub record HasMore (old new bit : ℕ) : Type 0 where
  pub on : has_bit new bit ≡ true
  pub rest : (i : ℕ) → i ≢ bit → has_bit new i ≡ has_bit old i

-- so each bit is still a processor's or a child's
owned_more : (s : Shape) (masks : List ℕ) (node word : ℕ)
    → IsLegalShape s
    → AreOwned s masks
    → 0 < node
    → node < nodes s
    → HasMore (slice_index masks (parent s node)) word (bit_in_parent s node)
    → AreOwned s (slice_set masks (parent s node) word)
owned_more s masks node word legal owned some below more =
    let family = has_parent s node legal some below in
    let up = parent s node in
    let up_before = family.before in let up_inner = family.inner in
    let there : up < length masks = omega (arith, owned.sized, up_before, below) in
    let same : (k : ℕ) → k ≢ up → slice_index (slice_set masks up word) k ≡ slice_index masks k =
    λ k other. get_or-set_other masks up k word 0 other in
    let now : slice_index (slice_set masks up word) up ≡ word =
    get_or-set_same masks up word 0 there in
    record {
      sized = length-set masks up word ∙ owned.sized;
      inner = λ k bit inner.
          elim (cases_eq k up) as (λ _.
          has_bit (slice_index (slice_set masks up word) k) bit ≡ true
          → ∥ ((child : ℕ) × IsChildOf s k bit child) ∥₁) [
            | inl it ↦
                (λ set. elim (cases_eq bit (bit_in_parent s node)) [
                  | inl own ↦ ∣ (
                    node,
                    rw (it, own) record { some = some; here = below; parent = refl; bit = refl },
                  ) ∣₁
                  | inr other ↦ owned.inner k bit inner
                      (ap (λ v. has_bit (slice_index masks v) bit) it
                      ∙ sym (more.rest bit other)
                      ∙ sym (ap (λ v. has_bit v bit)
                      (ap (slice_index (slice_set masks up word)) it ∙ now))
                      ∙ set)
                ])
            | inr other ↦
                (λ set. owned.inner k bit inner
                (sym (ap (λ v. has_bit v bit) (same k other)) ∙ set))
          ];
      leaf = λ k bit leaf set.
          owned.leaf k bit leaf
          (sym (ap (λ v. has_bit v bit) (same k (grind (arith, up_inner, leaf)))) ∙ set);
    }

-- a child other than the parent is linked as before, and the node is now
linked_more : (s : Shape) (masks : List ℕ) (node word : ℕ)
    → IsLegalShape s
    → AreLinkedUpTo s masks node
    → 0 < node
    → HasMore (slice_index masks (parent s node)) word (bit_in_parent s node)
    → (child : ℕ) → 0 < child → child < nodes s → child ≢ parent s node
    → IsLinked s (slice_set masks (parent s node) word) child
linked_more s masks node word legal before some more child child_some child_here not_up =
    let below = before.here in
    let family = has_parent s node legal some below in
    let up = parent s node in
    let up_before = family.before in
    let there : up < length masks = omega (arith, before.owned.sized, up_before, below) in
    let same : (k : ℕ) → k ≢ up → slice_index (slice_set masks up word) k ≡ slice_index masks k =
    λ k other. get_or-set_other masks up k word 0 other in
    let now : slice_index (slice_set masks up word) up ≡ word =
    get_or-set_same masks up word 0 there in
    elim (cases_eq child node) [
      | inl it ↦
          rw (
            it,
            now,
            same node (grind (arith, up_before)),
            ne_eqb (slice_index masks node) 0 before.full,
          )
          more.on
      | inr other ↦ elim (cases_eq (parent s child) up) [
        | inl sibling ↦ rw (sibling, now, same child not_up)
            (more.rest (bit_in_parent s child)
            (λ same_bit.
            other (same_child s child node legal child_some child_here some below sibling same_bit))
            ∙ ap (λ v. has_bit (slice_index masks v) (bit_in_parent s child)) (sym sibling)
            ∙ before.inner child child_some child_here other)
        | inr apart ↦ rw (same (parent s child) apart, same child not_up)
            (before.inner child child_some child_here other)
      ]
    ]

-- the masks after a step
pub record IsRaised (s : Shape) (masks new : List ℕ) (up : ℕ) : Type 0 where
  pub on : slice_index masks up ≡ 0 → AreLinkedUpTo s new up
  pub end : slice_index masks up ≢ 0 → AreLinked s new
  pub leaves : (k : ℕ) → first_leaf s ≤ k → slice_index new k ≡ slice_index masks k

pub raised : (s : Shape) (masks : List ℕ) (node word : ℕ)
    → IsLegalShape s
    → AreLinkedUpTo s masks node
    → 0 < node
    → HasMore (slice_index masks (parent s node)) word (bit_in_parent s node)
    → IsRaised s masks (slice_set masks (parent s node) word) (parent s node)
raised s masks node word legal before some more =
    let below = before.here in
    let family = has_parent s node legal some below in
    let up = parent s node in
    let up_before = family.before in let up_inner = family.inner in
    let up_here : up < nodes s = omega (arith, up_before, below) in
    let there : up < length masks = omega (arith, before.owned.sized, up_here) in
    let same : (k : ℕ) → k ≢ up → slice_index (slice_set masks up word) k ≡ slice_index masks k =
    λ k other. get_or-set_other masks up k word 0 other in
    let now : slice_index (slice_set masks up word) up ≡ word =
    get_or-set_same masks up word 0 there in
    let full : slice_index (slice_set masks up word) up ≢ 0 =
    λ none. not_empty word (bit_in_parent s node) more.on (sym now ∙ none) in
    let owned = owned_more s masks node word legal before.owned some below more in
    let over : 0 < up
    → has_bit (slice_index (slice_set masks up word) (parent s up)) (bit_in_parent s up)
    ≡ not (slice_index masks up == 0) =
    λ up_some.
    let above = (has_parent s up legal up_some up_here).before in
    rw (same (parent s up) (grind (arith, above)))
    (before.inner up up_some up_here (grind (arith, up_before))) in
    record {
      on = λ empty. record {
        owned = owned;
        here = up_here;
        full = full;
        inner = λ child child_some child_here other.
            linked_more s masks node word legal before some more child child_some child_here other;
        over = λ up_some. over up_some ∙ ap (λ v. not (v == 0)) empty;
      };
      end = λ some_bit. record {
        owned = owned;
        inner = λ child child_some child_here. elim (cases_eq child up) [
          | inl it ↦ rw it
              (over (omega (arith, it, child_some))
              ∙ ap not (ne_eqb (slice_index masks up) 0 some_bit)
              ∙ sym (ap not (ne_eqb (slice_index (slice_set masks up word) up) 0 full)))
          | inr other ↦
              linked_more s masks node word legal before some more child child_some child_here other
        ];
      };
      leaves = λ k leaf. same k (grind (arith, up_inner, leaf));
    }

-- a step writes the bit that the node has for that
pub step_up : (s : Shape) (masks groups new : List ℕ) (node up own : ℕ)
    → IsLegalShape s
    → AreLinkedUpTo s masks node
    → AreGroups s groups
    → 0 < node
    → up ≡ parent s node
    → own ≡ slice_index groups node
    → new ≡ slice_set masks up (bit_or (slice_index masks up) own)
    → IsRaised s masks new up
step_up s masks groups new node up own legal before marked some is_up is_group written =
    let family = has_parent s node legal some before.here in
    let few = legal.fan_high in let bit = family.bit in
    let low : bit_in_parent s node < 64 = omega (arith, few, bit) in
    let other : node ≢ 0 = grind (arith, some) in
    let group : group_of s node ≡ 2 ^ bit_in_parent s node = rw (ne_eqb node 0 other) in
    let shifted : own ≡ 1 * 2 ^ bit_in_parent s node % 2 ^ 64 =
    is_group ∙ marked.bit node before.here ∙ group ∙ sym (one_shl (bit_in_parent s node) 64 low) in
    let old = slice_index masks (parent s node) in
    rw (written, is_up, shifted)
    (raised s masks node (bit_or old (1 * 2 ^ bit_in_parent s node % 2 ^ 64)) legal before some
    (record {
      on = has_bit_set_same old (bit_in_parent s node) low;
      rest = λ i apart. has_bit_set_other old (bit_in_parent s node) i low apart;
    }))

-- the root has no bit above
pub end_at_root : (s : Shape) (masks : List ℕ) (node : ℕ) → AreLinkedUpTo s masks node → node ≡ 0
    → AreLinked s masks
end_at_root s masks node before root = record {
  owned = before.owned;
  inner = λ child some here.
      before.inner child some here (λ same. (let no : ⊥ = omega (arith, same, root, some) in no));
}
