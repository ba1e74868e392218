-- The levels of a tree: the number of nodes of each, its first node, and the level of a node.
use Rattle.std.proofs.Common.{◌≡◌, ℕ, zero, suc, ◌+◌, ◌-◌, ◌*◌, ◌/◌, ◌^◌, ◌<◌, ◌≤◌, List, [], ◌∷◌}
use Rattle.std.proofs.Common.{◌++◌, length, slice_index, refl, sym, ap, subst, ◌∙◌, arith, inl, inr}
use Rattle.std.proofs.Common.{add-one}
use Rattle.std.proofs.lemmas.Bool.{cases_lt}
use Rattle.std.proofs.lemmas.Bool.Decides.{nat_tests}
use Rattle.std.proofs.lemmas.List.{length_push, get_or_push, get_or_append_left}
use Rattle.std.proofs.lemmas.Nat.{mul-le}
use Rattle.std.proofs.Math.Nat.{div-mul-le_self, mul-one, pow-zero, mul_assoc}
use Rattle.rcu_geometry.specs.Geometry.{Shape, IsLegalShape, capacity, levels, ceil, level_nodes}
use Rattle.rcu_geometry.specs.Geometry.{level_start, level_of, nodes, first_leaf}
use Rattle.rcu_geometry.proofs.Capacities.{levels_range, begins_below, below_ceil, capacity_up}
use Rattle.rcu_geometry.proofs.Capacities.{capacity_some, levels_hold}

-- the next level begins behind the nodes of this one
pub start_next : (s : Shape) (i : ℕ) → level_start s (i + 1) ≡ level_start s i + level_nodes s i
unfolding level_start
start_next s i = rw add-one refl

-- the root's level begins at node 0
pub start_zero : (s : Shape) → level_start s 0 ≡ 0
unfolding level_start
start_zero s = refl

-- the first processor below a node of a level is there
pub in_level : (s : Shape) (i place : ℕ) → IsLegalShape s → place < level_nodes s i
    → place * capacity s (levels s - 1 - i) < s.cpus
unfolding level_nodes
in_level s i place legal below =
    begins_below s.cpus (capacity s (levels s - 1 - i)) place
    (capacity_some s legal (levels s - 1 - i)) below

-- and a place whose first processor exists is in the level
pub to_level : (s : Shape) (i place : ℕ)
    → IsLegalShape s → place * capacity s (levels s - 1 - i) < s.cpus → place < level_nodes s i
unfolding level_nodes
to_level s i place legal begins =
    below_ceil s.cpus (capacity s (levels s - 1 - i)) place
    (capacity_some s legal (levels s - 1 - i)) begins

-- each level has a node
pub level_some : (s : Shape) (i : ℕ) → IsLegalShape s → 0 < level_nodes s i
level_some s i legal = let some = legal.some in to_level s i 0 legal (omega arith)

-- facts on one level
pub ruleset level_rules = (levels_range, start_next, level_some)

-- the root level has one node
pub one_root : (s : Shape) → IsLegalShape s → level_nodes s 0 ≡ 1
one_root s legal =
    let hold = levels_hold s legal in
    let root = level_some s 0 legal in
    elim (cases_lt 1 (level_nodes s 0)) [
      | inl more ↦
          (let second = in_level s 0 1 legal more in
          let top =
          ap (capacity s) (let height : levels s - 1 - 0 ≡ levels s - 1 = omega arith in height) in
          let held : 1 * capacity s (levels s - 1 - 0) ≡ capacity s (levels s - 1) =
          omega (arith, top) in
          absurd (let no : ⊥ = omega (arith, second, hold, held) in no))
      | inr one ↦ omega arith
    ]

-- a level has at most as many nodes as there are processors
pub level_within : (s : Shape) (i : ℕ) → IsLegalShape s → level_nodes s i ≤ 4096
level_within s i legal = elim (cases_lt 4096 (level_nodes s i)) [
  | inl more ↦
      (let few = legal.few in
      let last = in_level s i 4096 legal more in
      let product =
      mul-le 4096 1 4096 (capacity s (levels s - 1 - i)) (omega arith)
      (capacity_some s legal (levels s - 1 - i)) in
      omega (arith, last, product, few))
  | inr few ↦ few
]

-- levels begin one behind the other
pub start_rises : (s : Shape) (i j : ℕ) → i ≤ j → level_start s i ≤ level_start s j
start_rises s i zero order = let same : i ≡ 0 = omega arith in rw same (omega arith)
start_rises s i (suc j) order = elim (cases_lt j i) [
  | inl above ↦ (let same : i ≡ suc j = omega arith in rw same (omega arith))
  | inr below ↦
      (let rises = start_rises s i j below in
      let next = start_next s j in
      let same : level_start s (suc j) ≡ level_start s (j + 1) =
      ap (level_start s) (sym (add-one j)) in
      omega arith)
]

-- the last level has a node
pub leaves_some : (s : Shape) → IsLegalShape s → first_leaf s < nodes s
leaves_some s legal =
    let range = levels_range s in
    let next = start_next s (levels s - 1) in
    let last =
    ap (level_start s) (let behind : levels s - 1 + 1 ≡ levels s = omega arith in behind) in
    let some = level_some s (levels s - 1) legal in
    omega arith

-- at most 4,096 nodes a level are before a level
pub start_within : (s : Shape) (i : ℕ) → IsLegalShape s → level_start s i ≤ 4096 * i
start_within s zero legal = let first = start_zero s in omega arith
start_within s (suc i) legal =
    let before = start_within s i legal in
    let few = level_within s i legal in
    let next = start_next s i in
    let same : level_start s (suc i) ≡ level_start s (i + 1) =
    ap (level_start s) (sym (add-one i)) in
    let product : 4096 * suc i ≡ 4096 * i + 4096 = omega arith in
    omega arith

-- the level of a node that lies between two starts
pub level_at : (s : Shape) (node i : ℕ)
    → i < 4 → level_start s i ≤ node → node < level_start s (i + 1) → level_of s node ≡ i
unfolding level_of
level_at s node zero few from below =
    let second = start_rises s 1 2 (omega arith) in
    let third = start_rises s 2 3 (omega arith) in
    grind (arith, nat_tests)
level_at s node (suc zero) few from below =
    let third = start_rises s 2 3 (omega arith) in
    grind (arith, nat_tests)
level_at s node (suc (suc zero)) few from below =
    let second = start_rises s 1 2 (omega arith) in
    grind (arith, nat_tests)
level_at s node (suc (suc (suc zero))) few from below =
    let second = start_rises s 1 2 (omega arith) in
    let third = start_rises s 2 3 (omega arith) in
    grind (arith, nat_tests)
level_at s node (suc (suc (suc (suc i)))) few from below = absurd (let no : ⊥ = omega arith in no)

-- the parent's place is in the level above
pub parent_place : (s : Shape) (i place : ℕ)
    → IsLegalShape s → i + 1 < levels s → place < level_nodes s (i + 1)
    → place / s.fan < level_nodes s i
parent_place s i place legal inner below =
    let height = levels s - 1 - (i + 1) in
    let begins = in_level s (i + 1) place legal below in
    let up : capacity s (levels s - 1 - i) ≡ s.fan * capacity s height =
    ap (capacity s) (let above : levels s - 1 - i ≡ height + 1 = omega arith in above)
    ∙ capacity_up s height in
    let product =
    mul-le (place / s.fan * s.fan) (capacity s height) place (capacity s height)
    (div-mul-le_self place s.fan) (omega arith) in
    let grouped = mul_assoc (place / s.fan) s.fan (capacity s height) in
    to_level s i (place / s.fan) legal (rw up (omega (arith, product, grouped, begins)))

-- a processor's leaf is in the last level
pub leaf_place : (s : Shape) (cpu : ℕ) → IsLegalShape s → cpu < s.cpus
    → cpu / s.leaf < level_nodes s (levels s - 1)
leaf_place s cpu legal below =
    let height : levels s - 1 - (levels s - 1) ≡ 0 = omega arith in
    let capacity_zero : s.leaf * s.fan ^ 0 ≡ s.leaf =
    ap (λ power. s.leaf * power) (pow-zero s.fan) ∙ mul-one s.leaf in
    let product = div-mul-le_self cpu s.leaf in
    to_level s (levels s - 1) (cpu / s.leaf) legal
    (rw (height, capacity_zero) (omega (arith, product)))

-- the level of a node by the next level
pub level_by : (s : Shape) (node level next : ℕ)
    → level + 1 ≡ next → level < 4 → level_start s level ≤ node → node < level_start s next
    → level ≡ level_of s node
level_by s node level next e few from below =
    sym (level_at s node level few from (subst (λ i. node < level_start s i) (sym e) below))

-- how many nodes a level has, by its height above the leaves
pub level_nodes_by : (s : Shape) (i height count : ℕ) → height + i + 1 ≡ levels s
    → count ≡ ceil s.cpus (capacity s height) → count ≡ level_nodes s i
unfolding level_nodes
level_nodes_by s i height count e is =
    let above : height ≡ levels s - 1 - i = omega arith in
    is ∙ ap (λ h. ceil s.cpus (capacity s h)) above

-- a table has the starts of the levels up to level i, which is to begin at next
pub record AreStarts (s : Shape) (starts : List ℕ) (next i : ℕ) : Type 0 where
  pub sized : length starts ≡ i + 1
  pub begins : next ≡ level_start s i
  pub few : next ≤ 4096 * i
  pub started : (j : ℕ) → j ≤ i → slice_index starts j ≡ level_start s j

-- the table that has the root alone
pub starts_first : (s : Shape) (starts : List ℕ) (i : ℕ) → starts ≡ 0 ∷ [] → i ≡ 0
    → AreStarts s starts 0 i
starts_first s starts i e z = rw (e, z) (record {
  sized = refl;
  begins = sym (start_zero s);
  few = omega arith;
  started = λ j below. let same : j ≡ 0 = omega arith in rw (same, start_zero s) refl;
})

-- the table with one more level
pub starts_more : (s : Shape) (starts more : List ℕ) (next count i k : ℕ)
    → IsLegalShape s
    → AreStarts s starts next i
    → count ≡ level_nodes s i
    → more ≡ starts ++ (next + count) ∷ []
    → k ≡ i + 1
    → AreStarts s more (next + count) k
starts_more s starts more next count i k legal before counted pushed e =
    let begins : next + count ≡ level_start s (i + 1) =
    (let is = before.begins in let behind = start_next s i in omega arith) in
    let sized = before.sized in
    rw (pushed, e) (record {
      sized = length_push starts (next + count) ∙ ap (λ n. n + 1) sized;
      begins = begins;
      few = (let is = before.few in let within = level_within s i legal in omega arith);
      started = λ j below. elim (cases_lt j (i + 1)) [
        | inl earlier ↦ get_or_append_left starts ((next + count) ∷ []) 0 j (omega arith)
            ∙ before.started j (omega arith)
        | inr latest ↦ (let same : j ≡ i + 1 = omega arith in
            rw same (get_or_push starts (next + count) 0 (i + 1) sized ∙ begins))
      ];
    })

-- the number of leaves
pub leaves_by : (s : Shape) (i leaf : ℕ) → i + 1 ≡ levels s → s.leaf ≡ leaf
    → level_nodes s i ≡ ceil s.cpus leaf
unfolding level_nodes
leaves_by s i leaf last same =
    let height : levels s - 1 - i ≡ 0 = omega arith in
    let own : capacity s 0 ≡ leaf =
    ap (λ power. s.leaf * power) (pow-zero s.fan) ∙ mul-one s.leaf ∙ same in
    rw (height, own) refl
