-- Each set has a list of masks.
use Rattle.std.proofs.Common.{◌≡◌, ℕ, zero, suc, ◌+◌, ◌*◌, ◌-◌, ◌%◌, ◌^◌, ◌<◌, ◌≤◌, ◌&&◌, nat_lt}
use Rattle.std.proofs.Common.{nat_le, Bool, true, false, List, length, replicate, slice_index}
use Rattle.std.proofs.Common.{slice_set, bit_or, refl, sym, subst, ap, ◌∙◌, arith, inl, inr}
use Rattle.std.proofs.lemmas.Bool.{cases_Bool, cases_eq, cases_lt}
use Rattle.std.proofs.lemmas.Bool.Decides.{nat_tests}
use Rattle.std.proofs.lemmas.List.{get_or-set_other, get_or-set_same}
use Rattle.rcu_geometry.specs.Geometry.{Shape, IsLegalShape, nodes, first_leaf, levels, parent}
use Rattle.rcu_geometry.specs.Geometry.{bit_in_parent}
use Rattle.rcu_geometry.proofs.Levels.{start_rises}
use Rattle.rcu_geometry.proofs.Places.{has_parent}
use Rattle.rcu_node.specs.CpuSet.{is_in}
use Rattle.rcu_node.specs.Masks.{AreLinked, AreMasks, members}
use Rattle.rcu_node.specs.Steps.{AreFilled, AreLinkedUpTo, leaf_bit}
use Rattle.rcu_node.specs.Words.{has_bit}
use Rattle.rcu_node.proofs.Bits.{has_bit-zero, has_bit_set_same, has_bit_set_other}
use Rattle.rcu_node.proofs.CpuSetLemmas.{is_in-beyond}
use Rattle.rcu_node.proofs.Fills.{IsRaised, end_at_root, filled_members, filled_more, filled_none}
use Rattle.rcu_node.proofs.Fills.{is_leaf_mask, leaf_later, leaf_put, raised}
use Rattle.rcu_node.proofs.Marks.{zeros_linked}
use Rattle.rcu_node.proofs.Members.{leaf_here, masks_of_members}

-- one bit more, which is set
more_set : (test : ℕ → Bool) (n word : ℕ)
    → n < 64 → ((i : ℕ) → has_bit word i ≡ (nat_lt i n && test i)) → test n ≡ true → (i : ℕ)
    → has_bit (bit_or word (1 * 2 ^ n % 2 ^ 64)) i ≡ (nat_lt i (suc n) && test i)
more_set test n word low is on i = elim (cases_eq i n) [
  | inl same ↦ (let below : nat_lt n (suc n) ≡ true = grind (arith, nat_tests) in
      rw (same, below) (has_bit_set_same word n low ∙ sym on))
  | inr other ↦ (let both : nat_lt i (suc n) ≡ nat_lt i n = grind (arith, nat_tests, other) in
      rw both (has_bit_set_other word n i low other ∙ is i))
]

-- and one that is not
more_clear : (test : ℕ → Bool) (n word : ℕ)
    → ((i : ℕ) → has_bit word i ≡ (nat_lt i n && test i)) → test n ≡ false → (i : ℕ)
    → has_bit word i ≡ (nat_lt i (suc n) && test i)
more_clear test n word is off i = elim (cases_eq i n) [
  | inl same ↦ (let here : nat_lt n n ≡ false = grind (arith, nat_tests) in
      let below : nat_lt n (suc n) ≡ true = grind (arith, nat_tests) in
      is i ∙ rw (same, here, below, off) refl)
  | inr other ↦ (let both : nat_lt i (suc n) ≡ nat_lt i n = grind (arith, nat_tests, other) in
      rw both (is i))
]

-- a word has the bits of a test, up to 64 of them
word_of : (test : ℕ → Bool) (n : ℕ) → n ≤ 64
    → (word : ℕ) × ((i : ℕ) → has_bit word i ≡ (nat_lt i n && test i))
word_of test zero few = (
  0,
  λ i. let none : nat_lt i 0 ≡ false = grind (arith, nat_tests) in rw none (has_bit-zero i),
)
word_of test (suc n) few =
    let before = word_of test n (omega (arith, few)) in
    elim (cases_Bool (test n)) [
      | inl on ↦ (
        bit_or before.0 (1 * 2 ^ n % 2 ^ 64),
        more_set test n before.0 (omega (arith, few)) before.1 on,
      )
      | inr off ↦ (before.0, more_clear test n before.0 before.1 off)
    ]

-- a word has the bits of a leaf
leaf_word : (s : Shape) (set : List Bool) (node : ℕ) → IsLegalShape s
    → (word : ℕ) × ((bit : ℕ) → has_bit word bit ≡ leaf_bit s set node bit)
leaf_word s set node legal =
    let test : ℕ → Bool =
    λ bit. nat_le (first_leaf s) node && is_in set ((node - first_leaf s) * s.leaf + bit) in
    let word = word_of test s.leaf legal.leaf_high in (
      word.0,
      λ bit.
          word.1 bit
          ∙ turned (nat_lt bit s.leaf) (nat_le (first_leaf s) node)
          (is_in set ((node - first_leaf s) * s.leaf + bit)),
    )
  where
    turned : (a b c : Bool) → (a && (b && c)) ≡ (b && (a && c))
    turned true b c = refl
    turned false true c = refl
    turned false false c = refl

-- masks of leaves as these, but linked
pub record AreRaised (s : Shape) (masks new : List ℕ) : Type 0 where
  pub linked : AreLinked s new
  pub leaves : (k : ℕ) → first_leaf s ≤ k → slice_index new k ≡ slice_index masks k

-- the walk up from a node links all
raise : (s : Shape) (masks : List ℕ) (fuel node : ℕ)
    → IsLegalShape s → AreLinkedUpTo s masks node → node < fuel
    → (new : List ℕ) × AreRaised s masks new
raise s masks zero node legal before enough = absurd (let no : ⊥ = omega (arith, enough) in no)
raise s masks (suc fuel) node legal before enough = elim (cases_eq node 0) [
  | inl root ↦ (
    masks,
    record { linked = end_at_root s masks node before root; leaves = λ k leaf. refl },
  )
  | inr other ↦
      (let some : 0 < node = grind (arith, other) in
      let family = has_parent s node legal some before.here in
      let up_before = family.before in
      let few = legal.fan_high in let bit = family.bit in
      let low : bit_in_parent s node < 64 = omega (arith, few, bit) in
      let old = slice_index masks (parent s node) in
      let word = bit_or old (1 * 2 ^ bit_in_parent s node % 2 ^ 64) in
      let new = slice_set masks (parent s node) word in
      let is : IsRaised s masks new (parent s node) =
      raised s masks node word legal before some
      (record {
        on = has_bit_set_same old (bit_in_parent s node) low;
        rest = λ i apart. has_bit_set_other old (bit_in_parent s node) i low apart;
      }) in
      elim (cases_eq old 0) [
        | inl empty ↦
            (let rest =
            raise s new fuel (parent s node) legal (is.on empty)
            (omega (arith, up_before, enough)) in (
              rest.0,
              record {
                linked = rest.1.linked;
                leaves = λ k leaf. rest.1.leaves k leaf ∙ is.leaves k leaf;
              },
            ))
        | inr full ↦ (new, record { linked = is.end full; leaves = is.leaves })
      ])
]

-- linked masks with the leaves before this one filled
pub record AreSoFar (s : Shape) (set : List Bool) (masks : List ℕ) (leaf : ℕ) : Type 0 where
  pub linked : AreLinked s masks
  pub filled : AreFilled s set masks leaf

-- so one more leaf can be filled
one_more : (s : Shape) (set : List Bool) (masks : List ℕ) (leaf : ℕ)
    → IsLegalShape s → length set ≡ s.cpus → first_leaf s ≤ leaf → leaf < nodes s
    → AreSoFar s set masks leaf
    → (new : List ℕ) × AreSoFar s set new (leaf + 1)
one_more s set masks leaf legal sized first here before =
    let word = leaf_word s set leaf legal in
    let there : leaf < length masks =
    (let long = before.linked.owned.sized in omega (arith, long, here)) in
    elim (cases_eq word.0 0) [
      | inl none ↦ (
        masks,
        record {
          linked = before.linked;
          filled = filled_more s set masks masks leaf word.0 before.filled first there word.1
              (λ k k_leaf. elim (cases_eq k leaf) [
                | inl same ↦ ap (slice_index masks) same
                    ∙ before.filled.rest leaf (omega arith)
                    ∙ sym none
                    ∙ sym (ap (slice_index (slice_set masks leaf word.0)) same
                    ∙ get_or-set_same masks leaf word.0 0 there)
                | inr other ↦ sym (get_or-set_other masks leaf k word.0 0 other)
              ]);
        },
      )
      | inr some ↦
          (let put =
          leaf_put s masks leaf word.0 legal before.linked first here
          (before.filled.rest leaf (omega arith))
          (is_leaf_mask s set leaf word.0 sized some word.1) in
          let all =
          raise s (slice_set masks leaf word.0) (suc leaf) leaf legal put (omega arith) in (
            all.0,
            record {
              linked = all.1.linked;
              filled = filled_more s set masks all.0 leaf word.0 before.filled first there word.1
                  all.1.leaves;
            },
          ))
    ]

-- and so all can
so_far : (s : Shape) (set : List Bool) (count : ℕ) → IsLegalShape s → length set ≡ s.cpus
    → first_leaf s + count ≤ nodes s
    → (masks : List ℕ) × AreSoFar s set masks (first_leaf s + count)
so_far s set zero legal sized few = (
  replicate (nodes s) 0,
  (let at : first_leaf s ≡ first_leaf s + 0 = omega arith in
      record {
        linked = zeros_linked s (replicate (nodes s) 0) refl;
        filled = subst (λ leaf. AreFilled s set (replicate (nodes s) 0) leaf) at
            (filled_none s set (replicate (nodes s) 0) refl);
      }),
)
so_far s set (suc count) legal sized few =
    let before = so_far s set count legal sized (omega (arith, few)) in
    let leaf = first_leaf s + count in
    let more = one_more s set before.0 leaf legal sized (omega arith) (omega (arith, few))
    before.1 in
    let at : leaf + 1 ≡ first_leaf s + suc count = omega arith in
    (more.0, subst (λ k. AreSoFar s set more.0 k) at more.1)

-- the masks of a set
pub some_masks : (s : Shape) (set : List Bool) → IsLegalShape s → length set ≡ s.cpus
    → (masks : List ℕ) × AreMasks s set masks
some_masks s set legal sized =
    let rises = start_rises s (levels s - 1) (levels s) (omega arith) in
    let all = so_far s set (nodes s - first_leaf s) legal sized (omega (arith, rises)) in
    let masks = all.0 in
    let leaf = first_leaf s + (nodes s - first_leaf s) in
    let is : members s masks ≡ set =
    filled_members s set masks leaf legal sized all.1.filled (omega arith)
    (λ c past. elim (cases_lt c s.cpus) [
      | inl below ↦
          (let later = leaf_later s leaf c legal (omega arith) past in
          let here = leaf_here s c legal below in
          absurd (let no : ⊥ = omega (arith, later, here, rises) in no))
      | inr beyond ↦ is_in-beyond set c (omega (arith, sized, beyond))
    ]) in (
      masks,
      subst (λ (of : List Bool). AreMasks s of masks) is
          (masks_of_members s masks all.1.linked),
    )
