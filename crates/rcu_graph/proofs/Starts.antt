-- The rule of the nodes holds at first.
use Rattle.std.proofs.Common.{◌≡◌, ◌≢◌, ℕ, zero, suc, ◌+◌, ◌-◌, ◌*◌, ◌<◌, ◌≤◌, List, [], ◌∷◌, ◌++◌}
use Rattle.std.proofs.Common.{None, length, get_or, replicate, Bool, true, false, refl, sym}
use Rattle.std.proofs.Common.{ap, ◌∙◌, subst, arith}
use Rattle.std.specs.Prelude.{slice_index, if◌then◌else◌, nat_lt}
use Rattle.std.specs.List.{range_with_len}
use Rattle.std.proofs.lemmas.Bool.Decides.{nat_tests}
use Rattle.std.proofs.lemmas.List.{get_or_append_left, get_or-append_right, get_or-replicate}
use Rattle.std.proofs.lemmas.List.{length-replicate}
use Rattle.std.proofs.lemmas.List.FromFn.{get_or-range_with_len}
use Rattle.std.proofs.lemmas.List.FromFn.{length-range_with_len, length-map-range_with_len}
use mathlib.Core.Option.{some, some-injective, some-ne-none}
use mathlib.Core.Logic.{dite}
use native.Mathlib.Decide.{dec_le, ℕ_discrete}
use lib.ListN.{get_elem?}
use Rattle.atomic_table.proofs.Lists.{at_map}
use Rattle.rcu_live.specs.Client.{ClientView}
use Rattle.rcu_live.proofs.ClientLemmas.{at_map_back}
use Rattle.rcu_live.proofs.ClientRows.{at_inside, inside}
use Rattle.rcu_graph.specs.Nodes.{IsBy, IsUsed, first_node, first_place, first_nodes, free_node}
use Rattle.rcu_graph.specs.Nodes.{place_of, root, row_of}
use Rattle.rcu_graph.specs.Opening.{AreFirst}
use Rattle.rcu_graph.specs.Rule.{IsKept, IsLed, Knows}
use Rattle.rcu_graph.specs.declared.known.Known.{Known}
use Rattle.rcu_graph.specs.declared.known.Known.TheVariants.{Owner}
use Rattle.rcu_graph.specs.declared.known.Node.{Node}
use Rattle.rcu_graph.proofs.FirstNodes.{below, is_below}
use Rattle.rcu_graph.proofs.Cells.{side_by_side, told}

at_range : (n i x : ℕ) → get_elem? (range_with_len 0 n) i ≡ some x → (x ≡ i) × (i < n)
at_range n i x e =
    let bound : i < length (range_with_len 0 n) = inside (range_with_len 0 n) i x e in
    let size = length-range_with_len 0 n in
    let low : i < n = omega (arith, bound, size) in
    let is : get_or (range_with_len 0 n) i 0 ≡ 0 + i = get_or-range_with_len 0 n i 0 low in
    let same : get_or (range_with_len 0 n) i 0 ≡ x =
    some-injective _ _ (sym (at_inside (range_with_len 0 n) i 0 bound) ∙ e) in
    (omega (arith, is, same), low)

in_range : (n i : ℕ) → i < n → get_elem? (range_with_len 0 n) i ≡ some i
in_range n i low =
    let size = length-range_with_len 0 n in
    let is : get_or (range_with_len 0 n) i 0 ≡ 0 + i = get_or-range_with_len 0 n i 0 low in
    let same : get_or (range_with_len 0 n) i 0 ≡ i = omega (arith, is) in
    at_inside (range_with_len 0 n) i 0 (omega (arith, size, low)) ∙ ap some same

not_below : (i n : ℕ) → nat_lt i n ≡ false → n ≤ i
not_below i n e = grind (arith, nat_tests)

-- a row of zeros and of words, if they are like this
row_is : (roots links width i : ℕ) (behind words : List ℕ)
    → length words ≡ width
    → ((l : ℕ) → l < links → slice_index behind (place_of roots links width i l) ≡ 0)
    → ((k : ℕ) → k < width → slice_index behind (place_of roots links width i (links + k))
    ≡ slice_index words k)
    → (k : ℕ) → k < links + width
    → slice_index behind (place_of roots links width i k)
    ≡ slice_index (replicate links 0 ++ words) k
row_is roots links width i behind words size zeros same k low = by (dec_le links k)
  where
    many : length {A = ℕ} (replicate links 0) ≡ links
    many = length-replicate links 0

    by : Dec (links ≤ k)
        → slice_index behind (place_of roots links width i k)
        ≡ slice_index (replicate links 0 ++ words) k
    by (yes high) =
        let back : links + (k - links) ≡ k = omega (arith, high) in
        ap (λ (m : ℕ). slice_index behind (place_of roots links width i m)) (sym back)
        ∙ (same (k - links) (omega (arith, high, low))
        ∙ sym (get_or-append_right (replicate links 0) words links k 0 many high))
    by (no high) =
        let small : k < links = omega (arith, high) in
        zeros k small
        ∙ sym (get_or_append_left (replicate links 0) words 0 k (omega (arith, small, many))
        ∙ get_or-replicate links k 0 0 small)

module _ (fits : List ℕ → Type 0) (joins : ℕ → List ℕ → List ℕ → Type 0) (first : ℕ → List ℕ)
    (roots links width count : ℕ) where
  -- a property of each root and of each free node holds for each node at first
  each : (P : ℕ → Node → Type 0)
      → ((i : ℕ) → i < count → i < roots → P i (root links (first i)))
      → ((i : ℕ) → i < count → roots ≤ i → P i (free_node links width))
      → (i : ℕ) (v : Node)
      → get_elem? (first_nodes links width first roots count) i ≡ some v
      → P i v
  each P of_root of_free i v e =
      let t = at_map_back (first_node links width first roots) (range_with_len 0 count) i v e in
      let r = at_range count i t.0 t.1 in
      subst (P i) (ap (first_node links width first roots) (sym r.0) ∙ t.2)
      (by (nat_lt i roots) refl r.1)
    where
      by : (b : Bool) → nat_lt i roots ≡ b → i < count
          → P i (if b then root links (first i) else free_node links width)
      by true is low = of_root i low (below i roots is)
      by false is low = of_free i low (not_below i roots is)

  root_is : (i : ℕ) → i < roots → first_node links width first roots i ≡ root links (first i)
  root_is i low = ap (λ (b : Bool). if b then root links (first i) else free_node links width)
      (is_below i roots low)

  none_led : (v : Node) → v.links ≡ replicate links 0
      → IsLed joins links (first_nodes links width first roots count) v
  none_led v zeros l j low link =
      let none : slice_index v.links l ≡ 0 =
      ap (λ (x : List ℕ). slice_index x l) zeros ∙ get_or-replicate links l 0 0 low in
      absurd (omega (arith, none, link))

  alone : (id : ℕ) (x : ClientView Known)
      → get_elem? ((None, None, Owner) ∷ []) id ≡ some x
      → Knows first roots links width count (first_nodes links width first roots count) 0 0 id x.1
      x.2
  alone zero x e =
      subst (λ (y : ClientView Known).
      Knows first roots links width count (first_nodes links width first roots count) 0 0 0 y.1 y.2)
      (some-injective _ _ e) (refl, refl, refl)
  alone (suc id) x e = absurd (some-ne-none x (sym e))

  pub starts : (behind : List ℕ)
      → roots ≤ count
      → length behind ≡ first_place + (links + width) * count
      → ((i : ℕ) → i < roots → length (first i) ≡ width)
      → ((i : ℕ) → i < roots → fits (first i))
      → AreFirst first roots roots links width behind
      → IsKept fits joins first roots links width count behind ((None, None, Owner) ∷ [])
  starts behind many long size whole h = record {
    nodes = first_nodes links width first roots count;
    latest = 0;
    writer = 0;
    kept = record {
      few = length-map-range_with_len (first_node links width first roots) 0 count;
      long = long;
      rooted = λ i low. (
        root links (first i),
        at_map (first_node links width first roots) (range_with_len 0 count) i i
            (in_range count i (omega (arith, low, many)))
            ∙ ap some (root_is i low),
        refl,
        refl,
      );
      linked = each (λ i v. length v.links ≡ links) (λ i low r. length-replicate links 0)
          (λ i low r. length-replicate links 0);
      sized = each (λ i v. length v.words ≡ width) (λ i low r. size i r)
          (λ i low r. length-replicate width 0);
      written = each (λ i v.
          (k : ℕ) → k < links + width → slice_index behind (place_of roots links width i k)
          ≡ slice_index (row_of v) k)
          (λ i low r. row_is roots links width i behind (first i) (size i r)
          (λ l small. h.no_links i l small)
          (λ k small. h.stored i k r small))
          (λ i low r. row_is roots links width i behind (replicate width 0)
          (length-replicate width 0) (λ l small. h.no_links i l small)
          (λ k small. h.rest i k r small ∙ sym (get_or-replicate width k 0 0 small)));
      whole = each (λ i v. IsUsed v.state → fits v.words) (λ i low r used. whole i r)
          (λ i low r used. absurd used);
      by = each (λ i v. IsBy 0 v.state) (λ i low r. tt) (λ i low r. tt);
      led =
          each
          (λ i v. IsUsed v.state → IsLed joins links (first_nodes links width first roots count) v)
          (λ i low r used. none_led (root links (first i)) refl) (λ i low r used. absurd used);
    };
    seats = λ id cpu section known at. alone id (cpu, section, known) at;
  }

-- the words of one root more
pub one_stored : (first : ℕ → List ℕ) (r roots links width place : ℕ) (old new : List ℕ)
    → AreFirst first r roots links width old
    → place ≡ place_of roots links width r links
    → ((k : ℕ) → k < width → slice_index new (place + k) ≡ slice_index (first r) k)
    → ((p : ℕ) → ((k : ℕ) → k < width → p ≢ place + k) → slice_index new p ≡ slice_index old p)
    → AreFirst first (r + 1) roots links width new
one_stored first r roots links width place old new h is mine others = record {
  no_links = λ i l low. others (place_of roots links width i l)
      (λ k small e. link_apart i l k low small (e ∙ shifted k))
      ∙ h.no_links i l low;
  stored = λ i k low small. dite (ℕ_discrete i r)
      (λ (e : i ≡ r).
      ap (λ (j : ℕ). slice_index new (place_of roots links width j (links + k))) e
      ∙ (ap (λ (p : ℕ). slice_index new p) (sym (shifted k))
      ∙ (mine k small ∙ ap (λ (j : ℕ). slice_index (first j) k) (sym e))))
      (λ (ne : i ≢ r).
      others (place_of roots links width i (links + k))
      (λ m little e. word_apart i k m ne small little (e ∙ shifted m))
      ∙ h.stored i k (omega (arith, low, ne)) small);
  rest = λ i k low small.
      others (place_of roots links width i (links + k))
      (λ m little e.
      word_apart i k m (λ (same : i ≡ r). omega (arith, low, same)) small little (e ∙ shifted m))
      ∙ h.rest i k (omega (arith, low)) small;
}
  where
    shifted : (k : ℕ) → place + k ≡ place_of roots links width r (links + k)
    shifted k = ap (λ (p : ℕ). p + k) is ∙ side_by_side roots links width r k

    link_apart : (i l k : ℕ) → l < links → k < width
        → place_of roots links width i l ≢ place_of roots links width r (links + k)
    link_apart i l k low small e =
        let cell = told roots links width i r l (links + k) (omega (arith, low))
        (omega (arith, small)) e in
        let at : l ≡ links + k = cell.1 in omega (arith, at, low)

    word_apart : (i k m : ℕ) → i ≢ r → k < width → m < width
        → place_of roots links width i (links + k) ≢ place_of roots links width r (links + m)
    word_apart i k m ne small little e =
        ne (told roots links width i r (links + k) (links + m) (omega (arith, small))
        (omega (arith, little)) e).0
