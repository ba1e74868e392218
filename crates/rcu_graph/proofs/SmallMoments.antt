-- The moments of the small run are a run of the table beside an open section.
use Rattle.std.proofs.Common.{◌≡◌, ℕ, zero, suc, ◌<◌, ◌≤◌, List, [], ◌∷◌, length}
use Rattle.std.proofs.Common.{None, Some, refl, sym, ap, ◌∙◌, subst, arith, true, inl, inr}
use Rattle.std.specs.Prelude.{slice_index}
use mathlib.Core.Option.{some, some-injective, some-ne-none}
use lib.ListN.{get_elem?}
use Rattle.rcu_live.specs.Client.{ClientView}
use Rattle.rcu_graph.specs.Absence.{Reaches}
use Rattle.rcu_graph.specs.Beside.{AreOnChain, IsChainOf, IsKeptAt, IsKeptOver, IsOnChain, IsOpenAt}
use Rattle.rcu_graph.specs.Beside.{IsOpenOver, IsSectionMove, IsWriterMove, followed, led, looked}
use Rattle.rcu_graph.specs.Beside.{marked_unlinked, nodes_at, published, rested, stayed, wrote}
use Rattle.rcu_graph.specs.Beside.{wrote_link}
use Rattle.rcu_graph.specs.Nodes.{IsBy, IsHeld, IsKeeping, IsOn, IsUsed, MayRead, Outlives}
use Rattle.rcu_graph.specs.Nodes.{hops_in, node_at, place_of}
use Rattle.rcu_graph.specs.Nodes.{after_hop, in_state, linked_to, renewed, row_of, state_at}
use Rattle.rcu_graph.specs.Nodes.{stored_in}
use Rattle.rcu_graph.specs.Planned.{IsKeptBy}
use Rattle.rcu_graph.specs.Rule.{AreKept, IsLed, Knows, Leads, Reading}
use Rattle.rcu_graph.specs.SmallRun.{first_hop, second_hop, small_first, small_fits, small_joins}
use Rattle.rcu_graph.specs.SmallRun.{small_moment, small_moments, small_node, small_nodes}
use Rattle.rcu_graph.specs.SmallRun.{small_plan, small_words, small_writer}
use Rattle.rcu_graph.specs.Steps.{Followed, storing}
use Rattle.rcu_graph.specs.declared.known.Hop.{Hop}
use Rattle.rcu_graph.specs.declared.known.Known.{Known}
use Rattle.rcu_graph.specs.declared.known.Known.TheVariants.{Reader}
use Rattle.rcu_graph.specs.declared.known.Node.{Node}
use Rattle.rcu_graph.specs.declared.known.Planned.{Planned}
use Rattle.rcu_graph.specs.declared.node_state.NodeState.TheVariants.{Live}
use Rattle.rcu_graph.proofs.Cells.{told}
use Rattle.rcu_graph.proofs.GoingOn.{some_is_some}
use Rattle.rcu_graph.proofs.States.{not_both}
use Rattle.rcu_graph.proofs.TwoSeats.{seated}
use Rattle.rcu_graph.proofs.Stores.{move_grows}

-- a property of each of three nodes
each : (a b c : Node) (P : ℕ → Node → Type 0) → P 0 a → P 1 b → P 2 c → (i : ℕ) (v : Node)
    → get_elem? (a ∷ b ∷ c ∷ []) i ≡ some v → P i v
each a b c P p q r zero v e = subst (P 0) (some-injective _ _ e) p
each a b c P p q r (suc zero) v e = subst (P 1) (some-injective _ _ e) q
each a b c P p q r (suc (suc zero)) v e = subst (P 2) (some-injective _ _ e) r
each a b c P p q r (suc (suc (suc i))) v e = absurd (some-ne-none v (sym e))

-- of the two words of each node
both : (P : ℕ → Type 0) → P 0 → P 1 → (k : ℕ) → k < 2 → P k
both P p q zero low = p
both P p q (suc zero) low = q
both P p q (suc (suc k)) low = absurd (omega (arith, low))

-- a node leads to this one alone
leads_to : (nodes : List Node) (v to : Node) (j : ℕ)
    → slice_index v.links 0 ≡ suc j
    → get_elem? nodes j ≡ some to
    → Outlives v.state to.state
    → slice_index v.words 0 < slice_index to.words 0
    → IsLed (small_joins small_plan) 1 nodes v
leads_to nodes v to j leads there lasts up zero n low is =
    let same : j ≡ n = omega (arith, leads, is) in
    subst (Leads (small_joins small_plan) nodes v 0) same
    (record { to = to; here = there; lasts = lasts; joined = up })
leads_to nodes v to j leads there lasts up (suc l) n low is = absurd (omega (arith, low))

leads_nowhere : (nodes : List Node) (v : Node) → slice_index v.links 0 ≡ 0
    → IsLed (small_joins small_plan) 1 nodes v
leads_nowhere nodes v none zero n low is = absurd (omega (arith, none, is))
leads_nowhere nodes v none (suc l) n low is = absurd (omega (arith, low))

abbrev Kept : ℕ → Type 0
Kept t = AreKept (small_fits small_plan) (small_joins small_plan) (small_first small_plan) 1 1 1 3
    (small_words t) (small_nodes t) 0

root_there : (t i : ℕ) → i < 1
    → get_elem? (small_nodes t) 0 ≡ some (small_node Live 2 0)
    → (v : Node) × (get_elem? (small_nodes t) i ≡ some v) × (v.state ≡ Live) × (v.words ≡ 0 ∷ [])
root_there t zero low is = (small_node Live 2 0, is, refl, refl)
root_there t (suc i) low is = absurd (omega (arith, low))

kept_first : Kept 0
kept_first = record {
  few = refl;
  long = refl;
  rooted = λ i low. root_there 0 i low refl;
  linked = each _ _ _ (λ i v. length v.links ≡ 1) refl refl refl;
  sized = each _ _ _ (λ i v. length v.words ≡ 1) refl refl refl;
  written = each _ _ _ (λ i v. (k : ℕ) → k < 2
      → slice_index (small_words 0) (place_of 1 1 1 i k) ≡ slice_index (row_of v) k)
      (both _ refl refl) (both _ refl refl) (both _ refl refl);
  whole = λ i v e used. tt;
  by = each _ _ _ (λ i v. IsBy 0 v.state) tt tt tt;
  led = each _ _ _ (λ i v. IsUsed v.state
      → IsLed (small_joins small_plan) 1 (small_nodes 0) v)
      (λ used. leads_to (small_nodes 0) (node_at (small_nodes 0) 0) (node_at (small_nodes 0) 1) 1
      refl refl tt (omega arith))
      (λ used. leads_nowhere (small_nodes 0) (node_at (small_nodes 0) 1) refl)
      (λ used. absurd used);
}

kept_then : (t : ℕ) → Kept (suc t)
kept_then t = record {
  few = refl;
  long = refl;
  rooted = λ i low. root_there (suc t) i low refl;
  linked = each _ _ _ (λ i v. length v.links ≡ 1) refl refl refl;
  sized = each _ _ _ (λ i v. length v.words ≡ 1) refl refl refl;
  written = each _ _ _ (λ i v. (k : ℕ) → k < 2
      → slice_index (small_words 1) (place_of 1 1 1 i k) ≡ slice_index (row_of v) k)
      (both _ refl refl) (both _ refl refl) (both _ refl refl);
  whole = λ i v e used. tt;
  by = each _ _ _ (λ i v. IsBy 0 v.state) tt tt tt;
  led = each _ _ _ (λ i v. IsUsed v.state
      → IsLed (small_joins small_plan) 1 (small_nodes 1) v)
      (λ used. leads_to (small_nodes 1) (node_at (small_nodes 1) 0) (node_at (small_nodes 1) 1) 1
      refl refl tt (omega arith))
      (λ used. leads_to (small_nodes 1) (node_at (small_nodes 1) 1) (node_at (small_nodes 1) 2) 2
      refl refl tt (omega arith))
      (λ used. leads_nowhere (small_nodes 1) (node_at (small_nodes 1) 2) refl);
}

kept_at : (t : ℕ) → Kept t
kept_at zero = kept_first
kept_at (suc t) = kept_then t

-- a section's knowledge is true of these nodes, if each hop is
abbrev Holds : ℕ → List Hop → Type 0
Holds t hops = (i : ℕ) (words : List ℕ) → IsHeld (Reader hops) i words
    → Reading (small_nodes t) (Some 0) i words

one_hop : (t : ℕ) (hop : Hop) (hops : List Hop)
    → ((i : ℕ) → hop.to ≡ suc i → Reading (small_nodes t) (Some 0) i hop.words)
    → Holds t hops → Holds t (hop ∷ hops)
one_hop t hop hops mine others i words (zero, h, there, to, is) =
    let same : hop ≡ h = some-injective _ _ there in
    subst (Reading (small_nodes t) (Some 0) i) (ap (λ (x : Hop). x.words) same ∙ is)
    (mine i (ap (λ (x : Hop). x.to) same ∙ to))
one_hop t hop hops mine others i words (suc k, h, there, to, is) =
    others i words (k, h, there, to, is)

no_hop : (t : ℕ) → Holds t []
no_hop t i words held = absurd (some-ne-none held.1 (sym held.2))

reads_at : (t j : ℕ) (v : Node) (i : ℕ) → suc j ≡ suc i
    → get_elem? (small_nodes t) j ≡ some v → v.state ≡ Live
    → Reading (small_nodes t) (Some 0) i v.words
reads_at t j v i to there live =
    let same : j ≡ i = omega (arith, to) in
    subst (λ (n : ℕ). Reading (small_nodes t) (Some 0) n v.words) same (record {
      opened = 0;
      is_open = refl;
      on = v;
      here = there;
      same = refl;
      may = subst (MayRead 0) (sym live) tt;
    })

abbrev Knowing : ℕ → ℕ → ClientView Known → Type 0
Knowing t id z = Knows (small_first small_plan) 1 1 1 3 (small_nodes t) 0 0 id z.1 z.2

writer_knows : (t : ℕ) → Knowing t 0 (None, None, small_writer t)
writer_knows zero = (refl, refl, refl)
writer_knows (suc t) = (refl, refl, refl)

kept_by : (t : ℕ) (hops : List Hop) → Holds t hops
    → IsKeptBy small_fits small_joins small_first small_plan (small_words t)
    (small_moment t hops).seats
kept_by t hops holds = record {
  told = seated _ _ (λ id z. z.2.plan ≡ small_plan) refl refl;
  kept = record {
    nodes = small_nodes t;
    latest = 0;
    writer = 0;
    kept = kept_at t;
    seats = λ id cpu section known e.
        seated _ _ (Knowing t) (writer_knows t) holds id (cpu, section, known) e;
  };
}

keeps_at : (t : ℕ) → IsKeeping (small_writer t)
keeps_at zero = tt
keeps_at (suc t) = tt

moment_at : (t : ℕ) (hops : List Hop) → Holds t hops
    → IsKeptAt small_fits small_joins small_first small_plan 0 (small_moment t hops)
moment_at t hops holds = record {
  rule = kept_by t hops holds;
  shown = refl;
  keeps = keeps_at t;
}

holds_first : (t : ℕ) → Holds t (first_hop ∷ [])
holds_first zero = one_hop 0 first_hop []
    (λ i to. reads_at 0 1 (small_node Live 0 5) i to refl refl) (no_hop 0)
holds_first (suc t) = one_hop (suc t) first_hop []
    (λ i to. reads_at (suc t) 1 (small_node Live 3 5) i to refl refl) (no_hop (suc t))

holds_both : (t : ℕ) → Holds (suc t) (second_hop ∷ first_hop ∷ [])
holds_both t = one_hop (suc t) second_hop (first_hop ∷ [])
    (λ i to. reads_at (suc t) 2 (small_node Live 0 7) i to refl refl) (holds_first (suc t))

abbrev AtMoment : ℕ → Type 0
AtMoment t = IsKeptAt small_fits small_joins small_first small_plan 0 (small_moments t)

moments_at : (t : ℕ) → AtMoment t
moments_at zero = moment_at 0 [] (no_hop 0)
moments_at (suc zero) = moment_at 0 (first_hop ∷ []) (holds_first 0)
moments_at (suc (suc zero)) = moment_at 1 (first_hop ∷ []) (holds_first 1)
moments_at (suc (suc (suc t))) = moment_at 1 (second_hop ∷ first_hop ∷ []) (holds_both 0)

told_published : (i l j : ℕ) → l < 1 → 18 ≡ place_of 1 1 1 i l → 3 ≡ suc j
    → small_writer 1
    ≡ storing (small_writer 0) (renewed (renewed (small_nodes 0) j (in_state Live)) i
    (linked_to l 3))
told_published i l j low at to =
    let cell = told 1 1 1 1 i 0 l (omega arith) (omega (arith, low)) at in
    let e : 1 ≡ i = cell.0 in
    let f : 0 ≡ l = cell.1 in
    let g : 2 ≡ j = omega (arith, to) in
    subst (λ (n : ℕ × ℕ × ℕ). small_writer 1
    ≡ storing (small_writer 0) (renewed (renewed (small_nodes 0) n.2 (in_state Live)) n.0
    (linked_to n.1 3)))
    (λ x. (e x, f x, g x)) refl

-- the node that a section holds after one hop
held_first : (i : ℕ) (words : List ℕ) → IsHeld (Reader (first_hop ∷ [])) i words
    → words ≡ 5 ∷ []
held_first i words (zero, h, there, to, is) =
    sym is ∙ ap (λ (x : Hop). x.words) (sym (some-injective _ _ there))
held_first i words (suc k, h, there, to, is) = absurd (some-ne-none h (sym there))

abbrev Comes : List Hop → Hop → ℕ → ℕ → List ℕ → Type 0
Comes hops hop i l words = Followed (small_fits small_plan) (small_joins small_plan l words) 1 3
    (Reader hops) i l hop.to (Reader (hop ∷ hops))

comes : (hops : List Hop) (hop : Hop) (i l j : ℕ) (words : List ℕ)
    → hop.from ≡ i → hop.link ≡ l → hop.to ≡ suc j → j < 3 → length hop.words ≡ 1
    → slice_index words 0 < slice_index hop.words 0
    → Comes hops hop i l words
comes hops hop i l j words from along to low size up = record {
  words = hop.words;
  is = ap (λ (n : ℕ × ℕ). after_hop (Reader hops) n.0 n.1 hop.to hop.words)
      (λ x. (from x, along x));
  led = inr (j, to, record { inside = low; size = size; whole = tt; joined = up });
}

told_first : (i l : ℕ) (words : List ℕ) → l < 1 → 16 ≡ place_of 1 1 1 i l
    → IsOn (small_first small_plan) 1 (Reader []) i words
    → Comes [] first_hop i l words
told_first i l words low at (inl root) =
    let cell = told 1 1 1 0 i 0 l (omega arith) (omega (arith, low)) at in
    comes [] first_hop i l 1 words cell.0 cell.1 refl (omega arith) refl
    (subst (λ (w : List ℕ). slice_index w 0 < 5) root.1 (omega arith))
told_first i l words low at (inr held) = absurd (some-ne-none held.1 (sym held.2))

told_second : (i l : ℕ) (words : List ℕ) → l < 1 → 18 ≡ place_of 1 1 1 i l
    → IsOn (small_first small_plan) 1 (Reader (first_hop ∷ [])) i words
    → Comes (first_hop ∷ []) second_hop i l words
told_second i l words low at (inl root) =
    let cell = told 1 1 1 1 i 0 l (omega arith) (omega (arith, low)) at in
    let inside = root.0 in
    absurd (omega (arith, cell.0, inside))
told_second i l words low at (inr held) =
    let cell = told 1 1 1 1 i 0 l (omega arith) (omega (arith, low)) at in
    comes (first_hop ∷ []) second_hop i l 2 words cell.0 cell.1 refl (omega arith) refl
    (subst (λ (w : List ℕ). slice_index w 0 < 7) (sym (held_first i words held)) (omega arith))

writer_moves : (t : ℕ) → t < 3
    → IsWriterMove small_plan (small_moments t) (small_moments (suc t))
writer_moves zero low = rested refl
writer_moves (suc zero) low = published 1 0 2 (omega arith) refl refl (refl, told_published)
writer_moves (suc (suc zero)) low = rested refl
writer_moves (suc (suc (suc t))) low = absurd (omega (arith, low))

pub small_kept : IsKeptOver small_fits small_joins small_first small_plan 0 3 small_moments
small_kept = record { at = λ t low. moments_at t; moves = writer_moves }

section_at : (t : ℕ) → IsOpenAt small_fits small_joins small_first small_plan 1 0 (small_moments t)
section_at zero = record { cpu = 0; shown = refl; reads = tt }
section_at (suc zero) = record { cpu = 0; shown = refl; reads = tt }
section_at (suc (suc zero)) = record { cpu = 0; shown = refl; reads = tt }
section_at (suc (suc (suc t))) = record { cpu = 0; shown = refl; reads = tt }

section_moves : (t : ℕ) → t < 3
    → IsSectionMove small_fits small_joins small_first small_plan (small_moments t)
    (small_moments (suc t))
section_moves zero low = followed 0 0 (0 ∷ []) (omega arith) (inl (omega arith, refl))
    (refl, told_first) refl
section_moves (suc zero) low = stayed refl
section_moves (suc (suc zero)) low = followed 1 0 (5 ∷ []) (omega arith)
    (inr (0, first_hop, refl, refl, refl)) (refl, told_second) refl
section_moves (suc (suc (suc t))) low = absurd (omega (arith, low))

pub small_open : IsOpenOver small_fits small_joins small_first small_plan 1 0 3 small_moments
small_open = record { at = λ t low. section_at t; moves = section_moves }

pub small_chain : IsChainOf small_joins small_first small_plan (λ _. true) 0
small_chain = record {
  inside = omega arith;
  link = omega arith;
  own = refl;
  stays = λ from to up own. refl;
  ascends = λ from to up. up;
}

small_on : AreOnChain small_fits small_joins small_first small_plan (λ _. true) 0 0 3 small_moments
    small_kept
unfolding small_kept writer_moves
small_on zero low = tt
small_on (suc zero) low = λ own. Reaches.onwards 0 1 refl (Reaches.arrived 1 refl)
small_on (suc (suc zero)) low = tt
small_on (suc (suc (suc t))) low = absurd (omega (arith, low))

pub small_kept_on :
    (kept : IsKeptOver small_fits small_joins small_first small_plan 0 3 small_moments)
    × AreOnChain small_fits small_joins small_first small_plan (λ _. true) 0 0 3 small_moments kept
small_kept_on = (small_kept, small_on)

-- no load makes the second hop before the node is published
same_hop : (a b : Hop) (before after : List Hop) → Reader (a ∷ before) ≡ Reader (b ∷ after) → a ≡ b
same_hop a b before after e = cc

pub small_not_before : IsSectionMove small_fits small_joins small_first small_plan
    (small_moment 0 (first_hop ∷ [])) (small_moment 0 (second_hop ∷ first_hop ∷ []))
    → ⊥
small_not_before (stayed same) = absurd (omega (arith, ap (λ (k : Known). length (hops_in k)) same))
small_not_before (followed node link words low on told same) =
    let f = told.1 node link words low refl on in
    let hop = same_hop _ _ _ _ f.is in
    let from : 1 ≡ node = ap (λ (h : Hop). h.from) hop in
    let along : 0 ≡ link = ap (λ (h : Hop). h.link) hop in
    let to : 3 ≡ slice_index (small_words 0) (place_of 1 1 1 node link) =
    ap (λ (h : Hop). h.to) hop in
    let found : 3 ≡ 0 = subst (λ (n : ℕ × ℕ).
    3 ≡ slice_index (small_words 0) (place_of 1 1 1 n.0 n.1))
    (λ x. (sym from x, sym along x)) to in
    absurd (omega (arith, found))

-- the writer does not take its store back
pub small_not_back : IsWriterMove small_plan (small_moment 1 []) (small_moment 0 []) → ⊥
small_not_back move =
    let more = move_grows small_plan (small_moment 1 []) (small_moment 0 []) move in
    absurd (omega (arith, more))

-- from the node 2, which leads nowhere, no live node is reached
not_from : (i : ℕ) → state_at (small_nodes 0) i ≡ Live → Reaches (small_nodes 0) i 2 → ⊥
not_from i live (Reaches.arrived _ e) =
    not_both (state_at (small_nodes 0) i) live (ap (λ (n : ℕ). state_at (small_nodes 0) n) (sym e))
not_from i live (Reaches.onwards _ n leads r) = absurd (omega (arith, leads))

-- the node 1 is on no chain that begins there
pub small_not_on : (move : IsWriterMove small_plan (small_moments 1) (small_moments 2))
    → IsOnChain small_plan (small_moments 1) (small_moments 2) (λ _. true) 2 move → ⊥
small_not_on (rested same) on =
    let e = ap (λ (k : Known). length (stored_in k)) same in absurd (omega (arith, e))
small_not_on (wrote node word value low free told) on =
    let e = ap (λ (k : Known). length (stored_in k)) (told.1 node word low refl) in
    absurd (omega (arith, e))
small_not_on (wrote_link node link value low free told) on =
    let e = ap (λ (k : Known). length (stored_in k)) (told.1 node link low refl) in
    absurd (omega (arith, e))
small_not_on (led node link value low live told) on = not_from node live (on refl)
small_not_on (published from link to low live free told) on = not_from from live (on refl)
small_not_on (marked_unlinked node value low told) on =
    let e = ap (λ (k : Known). length (stored_in k)) (told.1 node 0 low refl) in
    absurd (omega (arith, e))
small_not_on (looked number opens told) on =
    let e = ap (λ (k : Known). length (stored_in k)) told.1 in absurd (omega (arith, e))

not_one : (n : ℕ) → Some n ≡ Some (suc n) → ⊥
not_one n e = let same : n ≡ suc n = cc in absurd (omega (arith, same))

-- the second seat is no writer, and its section began at no other number
pub small_not_writer : IsKeptAt small_fits small_joins small_first small_plan 1 (small_moment 0 [])
    → ⊥
small_not_writer kept =
    let e = ap (λ (x : ClientView Planned). x.0) (some-injective _ _ kept.shown) in
    absurd (some_is_some 0 e)

pub small_not_later : IsOpenAt small_fits small_joins small_first small_plan 1 1 (small_moment 0 [])
    → ⊥
small_not_later is =
    let e = ap (λ (x : ClientView Planned). x.1) (some-injective _ _ is.shown) in
    absurd (not_one 0 e)

pub small_not_chain : IsChainOf small_joins small_first small_plan (λ _. true) 1 → ⊥
small_not_chain chain = let inside = chain.inside in absurd (omega (arith, inside))

pub small_nodes_at : (t : ℕ) → t ≤ 1 → nodes_at small_moments (suc t) ≡ small_nodes t
small_nodes_at zero low = refl
small_nodes_at (suc zero) low = refl
small_nodes_at (suc (suc t)) low = absurd (omega (arith, low))
