-- The masks of an earlier grace period are cleared, level by level from the leaves.
use Rattle.std.proofs.Common.{◌≡◌, ◌≢◌, ℕ, ◌+◌, ◌-◌, ◌*◌, ◌/◌, ◌%◌, ◌^◌, ◌<◌, ◌≤◌, ◌==◌, ◌&&◌}
use Rattle.std.proofs.Common.{nat_le, true, false, not, List, length, slice_index, slice_set}
use Rattle.std.proofs.Common.{bit_and, replicate, if◌then◌else◌, refl, sym, ap, ◌∙◌, arith, inl}
use Rattle.std.proofs.Common.{inr, ne_eqb}
use Rattle.std.specs.Int.{bit_not, w64}
use Rattle.std.proofs.Math.Logic.{∥∥₁_elim}
use Rattle.std.proofs.lemmas.Bool.{and_parts, cases_Bool, cases_eq, cases_lt, false≢true}
use Rattle.std.proofs.lemmas.Bool.Decides.{nat_tests}
use Rattle.std.proofs.lemmas.Nat.{div-add-mod', div-mul-add, mod-mul-add, mod_below, mul-le}
use Rattle.std.proofs.lemmas.Nat.{and_le_l, one_shl}
use Rattle.std.proofs.lemmas.Nat.Bits.{bit_at_above}
use Rattle.std.proofs.lemmas.List.{ext_get_or, get_or_past, get_or-set_same, get_or-set_other}
use Rattle.std.proofs.lemmas.List.{length-map, length-replicate}
use Rattle.rcu_geometry.specs.Geometry.{Shape, IsLegalShape, levels, level_nodes, level_start}
use Rattle.rcu_geometry.specs.Geometry.{nodes, level_of, place_of, parent, bit_in_parent}
use Rattle.rcu_geometry.proofs.Capacities.{levels_range}
use Rattle.rcu_geometry.proofs.Levels.{level_at, level_some, one_root, parent_place, start_next}
use Rattle.rcu_geometry.proofs.Levels.{start_rises, start_zero}
use Rattle.rcu_geometry.proofs.Places.{Lies, bit_is, level_lies, lies, lies_inner, parent_is}
use Rattle.rcu_geometry.proofs.Places.{has_parent, parent_lies}
use Rattle.rcu_node.specs.Masks.{AreLinked, IsChildOf, group_masks}
use Rattle.rcu_node.specs.Masks.{now_masks, start_masks}
use Rattle.rcu_node.specs.Steps.{AreClearedBut, AreEmptyFrom, AreEmptyWithin, AreLinkedBefore}
use Rattle.rcu_node.specs.Steps.{HaveNoMore, is_child_by}
use Rattle.rcu_node.specs.Words.{has_bit}
use Rattle.rcu_node.specs.declared.node.Node.{Node}
use Rattle.rcu_node.proofs.Bits.{has_bit-zero}
use Rattle.rcu_node.proofs.Marks.{zero_at}
use Rattle.rcu_node.proofs.OneBit.{clears}

-- nodes with as many bits in their parents are as many
pub as_many : (a b : List Node) → group_masks a ≡ group_masks b → length a ≡ length b
as_many a b same =
    sym (length-map a (λ (node : Node). node.grpmask))
    ∙ ap length same
    ∙ length-map b (λ (node : Node). node.grpmask)

-- so they have as many masks
pub as_long : (a b : List Node) (n : ℕ) → group_masks a ≡ group_masks b
    → length (start_masks b) ≡ n → (length (now_masks a) ≡ n) × (length (start_masks a) ≡ n)
as_long a b n same sized =
    let many = as_many a b same in
    let now = length-map a (λ (node : Node). node.qsmask) in
    let start = length-map a (λ (node : Node). node.qsmaskinit) in
    let before = length-map b (λ (node : Node). node.qsmaskinit) in (
      omega (arith, many, now, before, sized),
      omega (arith, many, start, before, sized),
    )

-- ---- the children of a node

-- a word has no bit from 64 on
no_bit_above : (word i : ℕ) → word < 2 ^ 64 → 64 ≤ i → has_bit word i ≡ false
unfolding has_bit
no_bit_above word i fits high = ap (λ (n : ℕ). n == 1) (bit_at_above word 64 i fits high)

-- a word that loses a bit gets less
pub less_left : (word mask bit : ℕ) → has_bit word bit ≡ true → bit < 64
    → mask ≡ 1 * 2 ^ bit % 2 ^ 64
    → bit_and word (bit_not w64 mask) < word
less_left word mask bit there low is =
    let cleared = clears word mask bit low (is ∙ one_shl bit 64 low) in
    let most = and_le_l word (bit_not w64 mask) in
    elim (cases_eq (bit_and word (bit_not w64 mask)) word) [
      | inl same ↦ absurd (false≢true
          (sym cleared.off ∙ ap (λ v. has_bit v bit) same ∙ there))
      | inr other ↦ grind (arith, most, other)
    ]

-- the child of a bit
child_of_bit : (word first bit : ℕ) → has_bit word bit ≡ true
    → is_child_by word first (first + bit) ≡ true
child_of_bit word first bit there =
    let above : nat_le first (first + bit) ≡ true = grind (arith, nat_tests) in
    let at : first + bit - first ≡ bit = omega arith in
    rw (above, at) there

-- at first all bits are left
pub cleared_none : (masks : List ℕ) (first word : ℕ) → AreClearedBut masks masks first word word
cleared_none masks first word = record {
  part = λ bit there. there;
  gone = λ k child left. absurd (false≢true (sym left ∙ child));
  kept = λ k other. refl;
}

-- one child is cleared
pub cleared_more : (old masks new : List ℕ) (first word left mask bit child : ℕ)
    → AreClearedBut old masks first word left
    → left < 2 ^ 64
    → has_bit left bit ≡ true
    → bit < 64
    → mask ≡ 1 * 2 ^ bit % 2 ^ 64
    → child ≡ first + bit
    → child < length masks
    → new ≡ slice_set masks child 0
    → AreClearedBut old new first word (bit_and left (bit_not w64 mask))
cleared_more old masks new first word left mask bit child before fits there low is at here written =
    let cleared = clears left mask bit low (is ∙ one_shl bit 64 low) in
    rw written (record {
      part = λ i set. before.part i (cleared.less i set);
      gone = λ k by_word not_left. elim (cases_eq k child) [
        | inl it ↦ ap (slice_index (slice_set masks child 0)) it
            ∙ get_or-set_same masks child 0 0 here
        | inr other ↦ get_or-set_other masks child k 0 0 other
            ∙ before.gone k by_word
            (elim (cases_Bool (is_child_by left first k)) [
              | inl was ↦
                  (let parts = and_parts (nat_le first k) (has_bit left (k - first)) was in
                  let above : first ≤ k = (let is = parts.0 in grind (arith, nat_tests, is)) in
                  let apart : k - first ≢ bit =
                  λ same. other (let e : k ≡ child = omega (arith, same, at, above) in e) in
                  elim (cases_lt (k - first) 64) [
                    | inl within ↦ absurd (false≢true
                        (sym not_left
                        ∙ ap (λ t. t && has_bit (bit_and left (bit_not w64 mask)) (k - first))
                        parts.0
                        ∙ cleared.rest (k - first) within apart
                        ∙ parts.1))
                    | inr high ↦ absurd (false≢true
                        (sym (no_bit_above left (k - first) fits high) ∙ parts.1))
                  ])
              | inr not_was ↦ not_was
            ])
      ];
      kept = λ k not_word. get_or-set_other masks child k 0 0
          (λ same. false≢true
          (sym not_word ∙ ap (is_child_by word first) (same ∙ at)
          ∙ child_of_bit word first bit (before.part bit there)))
          ∙ before.kept k not_word;
    })

-- in the end all are
pub cleared_all : (old masks : List ℕ) (first word left : ℕ)
    → AreClearedBut old masks first word left
    → left ≡ 0
    → (k : ℕ) → slice_index masks k
    ≡ (if is_child_by word first k then 0 else slice_index old k)
cleared_all old masks first word left before none k =
    elim (cases_Bool (is_child_by word first k)) [
      | inl child ↦
          (let nobody : is_child_by left first k ≡ false =
          ap (λ v. is_child_by v first k) none
          ∙ elim (cases_Bool (is_child_by 0 first k)) [
            | inl is ↦ absurd (false≢true
                (sym (has_bit-zero (k - first))
                ∙ (and_parts (nat_le first k) (has_bit 0 (k - first)) is).1))
            | inr out ↦ out
          ] in
          before.gone k child nobody ∙ rw child refl)
      | inr other ↦ before.kept k other ∙ rw other refl
    ]

-- ---- the nodes of a level

-- a level that is not the root's
pub level_up : (level : ℕ) → 0 < level → level - 1 + 1 ≡ level
level_up level some = omega (arith, some)

-- a node of a level lies there
lies_in : (s : Shape) (k level : ℕ) → 0 < level → level < levels s → level_start s level ≤ k
    → k < level_start s (level + 1) → Lies s k (level - 1 + 1) (k - level_start s level)
lies_in s k level some inner from below =
    let next = start_next s level in
    rw (level_up level some)
    (record { is = omega (arith, from); inner = inner; below = omega (arith, next, below, from) })

-- what is known of a bit of a node in the level above
pub record IsChildAt (s : Shape) (level node bit child : ℕ) : Type 0 where
  pub is : child ≡ level_start s level + (node - level_start s (level - 1)) * s.fan + bit
  pub low : bit < s.fan
  pub here : child < nodes s

child_at : (s : Shape) (level node bit child : ℕ)
    → IsLegalShape s
    → 0 < level
    → level < levels s
    → level_start s (level - 1) ≤ node
    → node < level_start s level
    → IsChildOf s node bit child
    → IsChildAt s level node bit child
child_at s level node bit child legal some inner from below is =
    let range = levels_range s in
    let place = place_of s child in
    let found = lies_inner s child (level_of s child) place legal is.some (lies s child is.here) in
    let up = found.0 in
    let above = parent_lies s child up place legal found.1 in
    let level_same = level_up level some in
    let node_level =
    level_at s node (level - 1) (omega (arith, range, inner)) from
    (omega (arith, below, ap (level_start s) level_same)) in
    let same : up ≡ level - 1 =
    sym (level_lies s (parent s child) up (place / s.fan) above)
    ∙ ap (level_of s) is.parent ∙ node_level in
    let start = ap (level_start s) same in
    let start_next = ap (λ i. level_start s (i + 1)) same ∙ ap (level_start s) level_same in
    let node_is = sym is.parent ∙ parent_is s child up place found.1 in
    let bit_is = sym is.bit ∙ bit_is s child up place found.1 in
    let child_is = found.1.is in
    let split = div-add-mod' place s.fan in
    let quotient : place / s.fan ≡ node - level_start s (level - 1) =
    omega (arith, node_is, start) in
    let product = ap (λ q. q * s.fan) quotient in
    record {
      is = omega (arith, child_is, start_next, split, product, bit_is);
      low = rw bit_is (mod_below place s.fan (let fan = legal.fan_low in omega (arith, fan)));
      here = is.here;
    }

-- the place at which the children of a node begin
abbrev pub Begins : Shape → ℕ → ℕ → ℕ → Type 0
Begins s level node begin =
    begin ≡ level_start s level + (node - level_start s (level - 1)) * s.fan

pub begins_by : (s : Shape) (level node first above fan : ℕ)
    → first ≡ level_start s level → above ≡ level_start s (level - 1) → fan ≡ s.fan
    → Begins s level node (first + (node - above) * fan)
begins_by s level node first above fan first_is above_is fans = rw (first_is, above_is, fans) refl

-- the masks of a level's nodes and of those above, and a node above
pub record IsAbove (s : Shape) (start : List ℕ) (level node : ℕ) : Type 0 where
  pub legal : IsLegalShape s
  pub some : 0 < level
  pub inner : level < levels s
  pub linked : AreLinkedBefore s start (level_start s (level + 1))
  pub from : level_start s (level - 1) ≤ node
  pub below : node < level_start s level

-- a node that is a child by no bit of its parent is empty
pub not_child_empty : (s : Shape) (start : List ℕ) (level node word begin k : ℕ)
    → IsAbove s start level node → word ≡ slice_index start node → Begins s level node begin
    → begin ≤ k → k < begin + s.fan → is_child_by word begin k ≡ false
    → slice_index start k ≡ 0
not_child_empty s start level node word begin k is read begins first last not_child =
    elim (cases_lt k (level_start s (level + 1))) [
      | inl here ↦
          (let nth = node - level_start s (level - 1) in
          let from = is.from in let node_below = is.below in
          let bit = k - begin in
          let place : k - level_start s level ≡ nth * s.fan + bit =
          omega (arith, first, begins) in
          let low : bit < s.fan = omega (arith, first, last) in
          let k_from : level_start s level ≤ k = omega (arith, first, begins) in
          let there = lies_in s k level is.some is.inner k_from here in
          let up : parent s k ≡ node =
          parent_is s k (level - 1) (k - level_start s level) there
          ∙ ap (λ p. level_start s (level - 1) + p / s.fan) place
          ∙ ap (λ q. level_start s (level - 1) + q) (div-mul-add nth s.fan bit low)
          ∙ (let e : level_start s (level - 1) + nth ≡ node = omega (arith, from) in e) in
          let own : bit_in_parent s k ≡ bit =
          bit_is s k (level - 1) (k - level_start s level) there
          ∙ ap (λ p. p % s.fan) place
          ∙ mod-mul-add nth s.fan bit low in
          let above : nat_le begin k ≡ true = grind (arith, nat_tests, first) in
          let none : has_bit word bit ≡ false =
          sym (ap (λ t. t && has_bit word bit) above) ∙ not_child in
          elim (cases_eq (slice_index start k) 0) [
            | inl empty ↦ empty
            | inr full ↦ absurd (false≢true
                (sym none
                ∙ ap (λ v. has_bit v bit) read
                ∙ sym (ap (λ p. has_bit (slice_index start p) bit) up)
                ∙ sym (ap (has_bit (slice_index start (parent s k))) own)
                ∙ is.linked.inner k (omega (arith, k_from, from, node_below)) here
                ∙ ap not (ne_eqb (slice_index start k) 0 full)))
          ])
      | inr past ↦ is.linked.rest k past
    ]

-- a node has its bits in its own children alone
pub no_far_child : (s : Shape) (start : List ℕ) (level node word begin k : ℕ)
    → IsAbove s start level node → word ≡ slice_index start node → Begins s level node begin
    → begin + s.fan ≤ k
    → is_child_by word begin k ≡ false
no_far_child s start level node word begin k is read begins far =
    let inner = is.inner in let below = is.below in
    let rises = start_rises s level (levels s - 1) (omega (arith, inner)) in
    elim (cases_Bool (is_child_by word begin k)) [
      | inl child ↦ absurd
          (∥∥₁_elim
          (is.linked.owned.inner node (k - begin) (omega (arith, rises, below))
          (sym (ap (λ v. has_bit v (k - begin)) read)
          ∙ (and_parts (nat_le begin k) (has_bit word (k - begin)) child).1))
          (λ x y. absurd x)
          (λ found.
          let low =
          (child_at s level node (k - begin) found.0 is.legal is.some is.inner is.from is.below
          found.1).low in
          let no : ⊥ = omega (arith, low, far) in no))
      | inr other ↦ other
    ]

-- the children of a node are nodes
pub children_here : (s : Shape) (start : List ℕ) (level node word begin bit : ℕ)
    → IsAbove s start level node → word ≡ slice_index start node → Begins s level node begin
    → has_bit word bit ≡ true
    → begin + bit < nodes s
children_here s start level node word begin bit is read begins set =
    let inner = is.inner in let below = is.below in
    let rises = start_rises s level (levels s - 1) (omega (arith, inner)) in
    elim (cases_lt (begin + bit) (nodes s)) [
      | inl here ↦ here
      | inr past ↦ absurd
          (∥∥₁_elim
          (is.linked.owned.inner node bit (omega (arith, rises, below))
          (sym (ap (λ v. has_bit v bit) read) ∙ set))
          (λ x y. absurd x)
          (λ found.
          let at =
          child_at s level node bit found.0 is.legal is.some is.inner is.from is.below found.1 in
          let child_is = at.is in let here = at.here in
          let no : ⊥ = omega (arith, child_is, here, past, begins) in no))
    ]

-- at first no node of the level is cleared
pub within_none : (old : List ℕ) (first end : ℕ) → end ≡ first → AreEmptyWithin old old first end
within_none old first end same = record {
  within = λ k from below. absurd (let no : ⊥ = omega (arith, same, from, below) in no);
  before = λ k below. refl;
  behind = λ k from. refl;
}

-- then the children of one more node are
pub within_more : (s : Shape) (start old masks new : List ℕ)
    (level node word first begin end : ℕ)
    → IsAbove s start level node
    → HaveNoMore old start
    → word ≡ slice_index start node
    → Begins s level node begin
    → first ≤ begin
    → end ≡ begin + s.fan
    → AreEmptyWithin old masks first begin
    → ((k : ℕ) → slice_index new k ≡ (if is_child_by word begin k then 0 else slice_index masks k))
    → AreEmptyWithin old new first end
within_more s start old masks new level node word first begin end is no_more read begins order ends
    before written =
    let kept : (k : ℕ) → is_child_by word begin k ≡ false
    → slice_index new k ≡ slice_index masks k =
    λ k not_child. written k ∙ rw not_child refl in
    let early : (k : ℕ) → k < begin → is_child_by word begin k ≡ false =
    λ k less.
    (let under : nat_le begin k ≡ false = grind (arith, nat_tests, less) in rw under refl) in
    record {
      within = λ k k_from k_below. elim (cases_lt k begin) [
        | inl earlier ↦ kept k (early k earlier) ∙ before.within k k_from earlier
        | inr later ↦ elim (cases_Bool (is_child_by word begin k)) [
          | inl child ↦ written k ∙ rw child refl
          | inr other ↦ kept k other
              ∙ before.behind k later
              ∙ no_more k
              (not_child_empty s start level node word begin k is read begins later
              (omega (arith, k_below, ends)) other)
        ]
      ];
      before = λ k less. kept k (early k (omega (arith, less, order))) ∙ before.before k less;
      behind = λ k far.
          kept k
          (no_far_child s start level node word begin k is read begins (omega (arith, far, ends)))
          ∙ before.behind k (omega (arith, far, ends));
    }

-- the place at which the children of the next node begin
pub next_begin : (first node above fan : ℕ) → above ≤ node
    → first + (node + 1 - above) * fan ≡ first + (node - above) * fan + fan
next_begin first node above fan from =
    let one : node + 1 - above ≡ node - above + 1 = omega (arith, from) in
    rw one (omega arith)

-- the children of a level's nodes reach to the end of the next level
children_reach : (s : Shape) (level : ℕ) → IsLegalShape s → 0 < level → level < levels s
    → level_start s (level + 1)
    ≤ level_start s level + (level_start s level - level_start s (level - 1)) * s.fan
children_reach s level legal some inner =
    let up = level_up level some in
    let nodes_some = level_some s level legal in
    let next = start_next s level in
    let before = start_next s (level - 1) in
    let here = ap (level_start s) up in
    let last = level_nodes s level - 1 in
    let last_below : last < level_nodes s (level - 1 + 1) =
    rw up (let e : last < level_nodes s level = omega (arith, nodes_some) in e) in
    let inner_up : level - 1 + 1 < levels s = rw up inner in
    let place = parent_place s (level - 1) last legal inner_up last_below in
    let split = div-add-mod' last s.fan in
    let fan = legal.fan_low in
    let low = mod_below last s.fan (omega (arith, fan)) in
    let product =
    mul-le (last / s.fan + 1) s.fan (level_nodes s (level - 1)) s.fan (omega (arith, place))
    (omega arith) in
    let one : (last / s.fan + 1) * s.fan ≡ last / s.fan * s.fan + s.fan = omega arith in
    let count : level_start s level - level_start s (level - 1) ≡ level_nodes s (level - 1) =
    omega (arith, before, here) in
    rw count (omega (arith, nodes_some, next, split, low, product, one))

-- in the end the level is
pub within_all : (s : Shape) (start old masks : List ℕ) (level node first end : ℕ)
    → IsLegalShape s
    → 0 < level
    → level < levels s
    → AreLinkedBefore s start (level_start s (level + 1))
    → HaveNoMore old start
    → node ≡ level_start s level
    → first ≡ level_start s level
    → Begins s level node end
    → AreEmptyWithin old masks first end
    → AreEmptyFrom old masks (level_start s level)
within_all s start old masks level node first end legal some inner linked no_more last is begins
    cleared =
    let reach = children_reach s level legal some inner in
    let whole : end ≡ level_start s level
    + (level_start s level - level_start s (level - 1)) * s.fan =
    begins ∙ ap (λ n. level_start s level + (n - level_start s (level - 1)) * s.fan) last in
    record {
      before = λ k below. cleared.before k (omega (arith, below, is));
      behind = λ k from. elim (cases_lt k end) [
        | inl within ↦ cleared.within k (omega (arith, from, is)) within
        | inr past ↦ cleared.behind k past
            ∙ no_more k (linked.rest k (omega (arith, past, whole, reach)))
      ];
    }

-- ---- the levels

-- at first none is empty
pub levels_none : (s : Shape) (old : List ℕ) (level : ℕ) → length old ≡ nodes s → level ≡ levels s
    → AreEmptyFrom old old (level_start s level)
levels_none s old level sized same = record {
  before = λ k below. refl;
  behind = λ k from.
      get_or_past old k 0 (omega (arith, sized, from, ap (level_start s) same));
}

-- linked masks whose last levels are empty now
pub linked_before : (s : Shape) (old masks : List ℕ) (from : ℕ)
    → IsLegalShape s
    → AreLinked s old
    → length masks ≡ length old
    → from ≤ nodes s
    → AreEmptyFrom old masks from
    → AreLinkedBefore s masks from
linked_before s old masks from legal linked sized within emptied =
    let less : (k bit : ℕ) → has_bit (slice_index masks k) bit ≡ true
    → has_bit (slice_index old k) bit ≡ true =
    λ k bit set. elim (cases_lt k from) [
      | inl before ↦ sym (ap (λ v. has_bit v bit) (emptied.before k before)) ∙ set
      | inr behind ↦ absurd (false≢true
          (sym (has_bit-zero bit)
          ∙ sym (ap (λ v. has_bit v bit) (emptied.behind k behind))
          ∙ set))
    ] in
    record {
      owned = record {
        sized = sized ∙ linked.owned.sized;
        inner = λ k bit inner set. linked.owned.inner k bit inner (less k bit set);
        leaf = λ k bit leaf set. linked.owned.leaf k bit leaf (less k bit set);
      };
      inner = λ child some before.
          let up = (has_parent s child legal some (omega (arith, before, within))).before in
          rw (
            emptied.before (parent s child) (omega (arith, up, before)),
            emptied.before child before,
          )
          (linked.inner child some (omega (arith, before, within)));
      rest = emptied.behind;
    }

-- what has no more still has no more
pub still_no_more : (now start masks others : List ℕ) (from : ℕ) → HaveNoMore now start
    → AreEmptyFrom now masks from → AreEmptyFrom start others from → HaveNoMore masks others
still_no_more now start masks others from no_more first second = λ k none.
    elim (cases_lt k from) [
      | inl before ↦ first.before k before ∙ no_more k (sym (second.before k before) ∙ none)
      | inr behind ↦ first.behind k behind
    ]

-- two steps are one
pub empty_on : (old masks new : List ℕ) (end from : ℕ) → from ≤ end → AreEmptyFrom old masks end
    → AreEmptyFrom masks new from → AreEmptyFrom old new from
empty_on old masks new end from order first second = record {
  before = λ k before. second.before k before ∙ first.before k (omega (arith, before, order));
  behind = second.behind;
}

-- with the root, all are empty
pub all_empty : (s : Shape) (old masks new : List ℕ) (level : ℕ)
    → IsLegalShape s
    → length new ≡ nodes s
    → length masks ≡ nodes s
    → level ≡ 1
    → AreEmptyFrom old masks (level_start s level)
    → new ≡ slice_set masks 0 0
    → new ≡ replicate (nodes s) 0
all_empty s old masks new level legal sized before one emptied written =
    let first = start_zero s in
    let root = one_root s legal in
    let next = start_next s 0 in
    let from : level_start s level ≡ 1 =
    ap (level_start s) one ∙ omega (arith, first, root, next) in
    ext_get_or 0 new (replicate (nodes s) 0)
    (sized ∙ sym (length-replicate {A = ℕ} (nodes s) 0))
    (λ k below.
    ap (λ (words : List ℕ). slice_index words k) written
    ∙ elim (cases_eq k 0) [
      | inl it ↦ ap (slice_index (slice_set masks 0 0)) it
          ∙ get_or-set_same masks 0 0 0
          (let there : 0 < length masks = omega (arith, before, sized, below, it) in there)
      | inr other ↦ get_or-set_other masks 0 k 0 0 other
          ∙ emptied.behind k (grind (arith, from, other))
    ]
    ∙ sym (zero_at (nodes s) k))
