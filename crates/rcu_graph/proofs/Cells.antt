-- Each link and each word of a node has a place of its own, inside all rows.
use Rattle.std.proofs.Common.{◌≡◌, ℕ, ◌+◌, ◌-◌, ◌*◌, ◌<◌, ◌≤◌, suc, Bool, true, ap, sym}
use Rattle.std.proofs.Common.{◌∙◌, arith}
use Rattle.std.specs.Prelude.{if◌then◌else◌, nat_lt}
use Rattle.std.proofs.Math.Nat.{add-mul}
use Rattle.std.proofs.lemmas.Nat.{mul-le}
use native.Mathlib.Decide.{dec_le}
use Rattle.rcu_live.proofs.ClientRows.{place_inside, row_told, word_told}
use Rattle.rcu_graph.specs.Nodes.{first_place, place_of}
use Rattle.rcu_graph.proofs.FirstNodes.{is_below, not_below}

module _ (roots links width : ℕ) where
  abbrev at : ℕ → ℕ → ℕ
  at = place_of roots links width

  -- the place by the tests of the node and of the cell
  abbrev cell : Bool → Bool → ℕ → ℕ → ℕ
  cell is_root is_link i k =
      if is_root
      then (if is_link then first_place + links * i + k
      else first_place + links * roots + width * i + (k - links))
      else first_place + (links + width) * i + k

  link_of_root : (i k : ℕ) → i < roots → k < links → at i k ≡ first_place + links * i + k
  link_of_root i k low small =
      ap (λ (b : Bool). cell b (nat_lt k links) i k) (is_below i roots low)
      ∙ ap (λ (b : Bool). cell true b i k) (is_below k links small)

  word_of_root : (i k : ℕ) → i < roots → links ≤ k
      → at i k ≡ first_place + links * roots + width * i + (k - links)
  word_of_root i k low high =
      ap (λ (b : Bool). cell b (nat_lt k links) i k) (is_below i roots low)
      ∙ ap (λ (b : Bool). cell true b i k) (not_below k links high)

  cell_of_other : (i k : ℕ) → roots ≤ i → at i k ≡ first_place + (links + width) * i + k
  cell_of_other i k high =
      ap (λ (b : Bool). cell b (nat_lt k links) i k) (not_below i roots high)

  -- the links and the words of the roots fill as many places as rows of them would
  both : first_place + links * roots + width * roots ≡ first_place + (links + width) * roots
  both = let sum = add-mul links width roots in omega (arith, sum)

  link_inside : (i k : ℕ) → i < roots → k < links → at i k < first_place + links * roots
  link_inside i k low small =
      let is = link_of_root i k low small in
      let inside = place_inside first_place links roots i k low small in omega (arith, is, inside)

  word_behind : (i k : ℕ) → i < roots → links ≤ k → first_place + links * roots ≤ at i k
  word_behind i k low high = let is = word_of_root i k low high in omega (arith, is)

  root_inside : (i k : ℕ) → i < roots → k < links + width
      → at i k < first_place + (links + width) * roots
  root_inside i k low small = by (dec_le links k)
    where
      by : Dec (links ≤ k) → at i k < first_place + (links + width) * roots
      by (yes high) =
          let is = word_of_root i k low high in
          let inside = place_inside (first_place + links * roots) width roots i (k - links) low
          (omega (arith, small, high)) in
          omega (arith, is, inside, both)
      by (no high) =
          let inside = link_inside i k low (omega (arith, high)) in omega (arith, inside, both)

  other_behind : (i k : ℕ) → roots ≤ i → first_place + (links + width) * roots ≤ at i k
  other_behind i k high =
      let is = cell_of_other i k high in
      let more : (links + width) * roots ≤ (links + width) * i =
      mul-le (links + width) roots (links + width) i (omega arith) high in
      omega (arith, is, more)

  pub place_inside_all : (count i k : ℕ) → roots ≤ count → i < count → k < links + width
      → at i k < first_place + (links + width) * count
  place_inside_all count i k many low small = by (dec_le roots i)
    where
      by : Dec (roots ≤ i) → at i k < first_place + (links + width) * count
      by (yes high) =
          let is = cell_of_other i k high in
          let inside = place_inside first_place (links + width) count i k low small in
          omega (arith, is, inside)
      by (no high) =
          let inside = root_inside i k (omega (arith, high)) small in
          let more : (links + width) * roots ≤ (links + width) * count =
          mul-le (links + width) roots (links + width) count (omega arith) many in
          omega (arith, inside, more)

  -- the place determines the node and its cell
  pub told : (i j k l : ℕ) → k < links + width → l < links + width → at i k ≡ at j l
      → (i ≡ j) × (k ≡ l)
  told i j k l small little same = by (dec_le roots i) (dec_le roots j)
    where
      in_roots : i < roots → j < roots → Dec (links ≤ k) → Dec (links ≤ l) → (i ≡ j) × (k ≡ l)
      in_roots a b (yes c) (yes d) =
          let e = sym (word_of_root i k a c) ∙ (same ∙ word_of_root j l b d) in
          let one = row_told (first_place + links * roots) width i j (k - links) (l - links)
          (omega (arith, small, c)) (omega (arith, little, d)) e in
          let two = word_told (first_place + links * roots) width i j (k - links) (l - links) one e
          in
          (one, omega (arith, two, c, d))
      in_roots a b (yes c) (no d) =
          let high = word_behind i k a c in
          let low = link_inside j l b (omega (arith, d)) in absurd (omega (arith, same, high, low))
      in_roots a b (no c) (yes d) =
          let high = word_behind j l b d in
          let low = link_inside i k a (omega (arith, c)) in absurd (omega (arith, same, high, low))
      in_roots a b (no c) (no d) =
          let e = sym (link_of_root i k a (omega (arith, c)))
          ∙ (same ∙ link_of_root j l b (omega (arith, d))) in
          let one = row_told first_place links i j k l (omega (arith, c)) (omega (arith, d)) e in
          (one, word_told first_place links i j k l one e)

      by : Dec (roots ≤ i) → Dec (roots ≤ j) → (i ≡ j) × (k ≡ l)
      by (yes a) (yes b) =
          let e = sym (cell_of_other i k a) ∙ (same ∙ cell_of_other j l b) in
          let one = row_told first_place (links + width) i j k l small little e in
          (one, word_told first_place (links + width) i j k l one e)
      by (yes a) (no b) =
          let high = other_behind i k a in
          let low = root_inside j l (omega (arith, b)) little in
          absurd (omega (arith, same, high, low))
      by (no a) (yes b) =
          let high = other_behind j l b in
          let low = root_inside i k (omega (arith, a)) small in
          absurd (omega (arith, same, high, low))
      by (no a) (no b) =
          in_roots (omega (arith, a)) (omega (arith, b)) (dec_le links k) (dec_le links l)

  -- the words of a node are side by side
  pub side_by_side : (i k : ℕ) → at i links + k ≡ at i (links + k)
  side_by_side i k = by (dec_le roots i)
    where
      by : Dec (roots ≤ i) → at i links + k ≡ at i (links + k)
      by (yes high) =
          let first = cell_of_other i links high in
          let this = cell_of_other i (links + k) high in omega (arith, first, this)
      by (no high) =
          let low : i < roots = omega (arith, high) in
          let first = word_of_root i links low (omega arith) in
          let this = word_of_root i (links + k) low (omega arith) in omega (arith, first, this)

  -- nothing is before the first place
  pub behind_first : (i k : ℕ) → first_place ≤ at i k
  behind_first i k = by (dec_le roots i) (dec_le links k)
    where
      by : Dec (roots ≤ i) → Dec (links ≤ k) → first_place ≤ at i k
      by (yes high) _ = let is = cell_of_other i k high in omega (arith, is)
      by (no high) (yes word) =
          let is = word_of_root i k (omega (arith, high)) word in omega (arith, is)
      by (no high) (no link) =
          let is = link_of_root i k (omega (arith, high)) (omega (arith, link)) in omega (arith, is)

  -- the links of a root are behind those of the one before
  pub next_root : (i k : ℕ) → suc i < roots → k < links → at (suc i) k ≡ at i k + links
  next_root i k low small =
      let this = link_of_root i k (omega (arith, low)) small in
      let next = link_of_root (suc i) k low small in
      let more : links * suc i ≡ links + links * i = grind arith in
      omega (arith, this, next, more)
