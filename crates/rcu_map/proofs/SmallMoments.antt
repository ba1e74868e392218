-- The moments of the small run are a run of the table beside an open section.
use Rattle.std.proofs.Common.{◌≡◌, ℕ, zero, suc, ◌<◌, ◌≤◌, List, [], ◌∷◌, length, Option, None}
use Rattle.std.proofs.Common.{Some, refl, sym, ap, ◌∙◌, subst, arith, true}
use Rattle.std.specs.Prelude.{slice_index}
use Rattle.std.proofs.lemmas.Option.{same_Some}
use mathlib.Core.Option.{some, some-injective, some-ne-none}
use lib.ListN.{get_elem?}
use Rattle.rcu_live.specs.Client.{AreOpen, ClientView}
use Rattle.rcu_live.specs.Numbers.{is_open_at}
use Rattle.rcu_graph.specs.Beside.{IsKeptAt, IsWriterMove, led}
use Rattle.rcu_graph.specs.Beside.{looked, marked_unlinked, published, rested}
use Rattle.rcu_graph.specs.Nodes.{IsBy, IsHeld, IsKeeping, IsUsed, MayRead, Outlives}
use Rattle.rcu_graph.specs.Nodes.{in_state, linked_to, nodes_in, place_of, renewed}
use Rattle.rcu_graph.specs.Nodes.{row_of}
use Rattle.rcu_graph.specs.Rule.{AreKept, IsLed, Knows, Leads, Reading}
use Rattle.rcu_graph.specs.Steps.{IsLinked, IsMarkedUnlinked, IsPublished}
use Rattle.rcu_graph.specs.Steps.{keeping, storing}
use Rattle.rcu_graph.specs.declared.known.Hop.{Hop}
use Rattle.rcu_graph.specs.declared.known.Known.{Known}
use Rattle.rcu_graph.specs.declared.known.Known.TheVariants.{Reader}
use Rattle.rcu_graph.specs.declared.known.Node.{Node}
use Rattle.rcu_graph.specs.declared.known.Planned.{Planned}
use Rattle.rcu_graph.specs.declared.node_state.NodeState.{NodeState}
use Rattle.rcu_graph.specs.declared.node_state.NodeState.TheVariants.{Free, Live, Retired, Unlinked}
use Rattle.rcu_graph.specs.declared.plan.Plan.{Plan}
use Rattle.rcu_graph.proofs.TwoSeats.{seated}
use Rattle.rcu_map.specs.Beside.{IsMapOver, IsReadOver}
use Rattle.rcu_map.specs.Keys.{GoesUp, IsWhole, root_words}
use Rattle.rcu_map.specs.SmallMap.{hop_0, hop_1, hop_2, hop_3, nodes_by, small_holds, small_hops}
use Rattle.rcu_map.specs.SmallMap.{small_moment, small_moments, small_node, small_nodes, small_plan}
use Rattle.rcu_map.specs.SmallMap.{small_words, small_writer, words_by}
use Rattle.rcu_map.proofs.SmallMap.{Up, seed, up_to_3, up_to_6}
use Rattle.rcu_map.proofs.SmallPlaces.{three, told}

-- a property of each of five nodes
each : (a b c d e : Node) (P : ℕ → Node → Type 0) → P 0 a → P 1 b → P 2 c → P 3 d → P 4 e
    → (i : ℕ) (v : Node) → get_elem? (a ∷ b ∷ c ∷ d ∷ e ∷ []) i ≡ some v → P i v
each a b c d e P p q r s t zero v is = subst (P 0) (some-injective _ _ is) p
each a b c d e P p q r s t (suc zero) v is = subst (P 1) (some-injective _ _ is) q
each a b c d e P p q r s t (suc (suc zero)) v is = subst (P 2) (some-injective _ _ is) r
each a b c d e P p q r s t (suc (suc (suc zero))) v is = subst (P 3) (some-injective _ _ is) s
each a b c d e P p q r s t (suc (suc (suc (suc zero)))) v is =
    subst (P 4) (some-injective _ _ is) t
each a b c d e P p q r s t (suc (suc (suc (suc (suc i))))) v is =
    absurd (some-ne-none v (sym is))

abbrev Joins : ℕ → List ℕ → List ℕ → Type 0
Joins link from to = GoesUp 2 seed from to

-- a node leads to this one alone, or nowhere
leads_to : (nodes : List Node) (v to : Node) (j : ℕ)
    → slice_index v.links 0 ≡ suc j
    → get_elem? nodes j ≡ some to
    → Outlives v.state to.state
    → Up v.words to.words
    → IsLed Joins 1 nodes v
leads_to nodes v to j leads there lasts up zero n low is =
    let same : j ≡ n = omega (arith, leads, is) in
    subst (Leads Joins nodes v 0) same
    (record { to = to; here = there; lasts = lasts; joined = up })
leads_to nodes v to j leads there lasts up (suc l) n low is = absurd (omega (arith, low))

leads_nowhere : (nodes : List Node) (v : Node) → slice_index v.links 0 ≡ 0
    → IsLed Joins 1 nodes v
leads_nowhere nodes v none zero n low is = absurd (omega (arith, none, is))
leads_nowhere nodes v none (suc l) n low is = absurd (omega (arith, low))

module _ (root first last : ℕ) (a b c : NodeState) (latest : ℕ) where
  abbrev N : List Node
  N = nodes_by root first last a b c

  abbrev W : List ℕ
  W = words_by root first last

  rooted : (i : ℕ) → i < 2
      → (v : Node) × (get_elem? N i ≡ some v) × (v.state ≡ Live) × (v.words ≡ root_words 2 i)
  rooted zero low = (small_node Live 0 (0 ∷ 0 ∷ []), refl, refl, refl)
  rooted (suc zero) low = (small_node Live root (0 ∷ 1 ∷ []), refl, refl, refl)
  rooted (suc (suc i)) low = absurd (omega (arith, low))

  -- the facts of the nodes and of their words
  kept_by_words : IsBy latest a → IsBy latest b → IsBy latest c
      → IsLed Joins 1 N (small_node Live root (0 ∷ 1 ∷ []))
      → (IsUsed a → IsLed Joins 1 N (small_node a first (3 ∷ 30 ∷ [])))
      → (IsUsed c → IsLed Joins 1 N (small_node c last (3 ∷ 31 ∷ [])))
      → AreKept (IsWhole small_holds 2) Joins (root_words 2) 2 1 2 5 W N latest
  kept_by_words by_a by_b by_c p q r = record {
    few = refl;
    long = refl;
    rooted = rooted;
    linked = each _ _ _ _ _ (λ i v. length v.links ≡ 1) refl refl refl refl refl;
    sized = each _ _ _ _ _ (λ i v. length v.words ≡ 2) refl refl refl refl refl;
    written = each _ _ _ _ _ (λ i v. (k : ℕ) → k < 3
        → slice_index W (place_of 2 1 2 i k) ≡ slice_index (row_of v) k)
        (three _ refl refl refl) (three _ refl refl refl) (three _ refl refl refl)
        (three _ refl refl refl) (three _ refl refl refl);
    whole = each _ _ _ _ _ (λ i v. IsUsed v.state → IsWhole small_holds 2 v.words)
        (λ used. record { sized = refl; entry = λ up. up })
        (λ used. record { sized = refl; entry = λ up. up })
        (λ used. record { sized = refl; entry = λ up. up })
        (λ used. record { sized = refl; entry = λ up. up })
        (λ used. record { sized = refl; entry = λ up. up });
    by = each _ _ _ _ _ (λ i v. IsBy latest v.state) tt tt by_a by_b by_c;
    led = each _ _ _ _ _ (λ i v. IsUsed v.state → IsLed Joins 1 N v)
        (λ used. leads_nowhere N (small_node Live 0 (0 ∷ 0 ∷ [])) refl)
        (λ used. p) q
        (λ used. leads_nowhere N (small_node b 0 (6 ∷ 60 ∷ [])) refl) r;
  }

abbrev Kept : ℕ → ℕ → Type 0
Kept n latest = AreKept (IsWhole small_holds 2) Joins (root_words 2) 2 1 2 5 (small_words n)
    (small_nodes n) latest

kept_0 : Kept 0 0
kept_0 = kept_by_words 3 0 4 Live Free Free 0 tt tt tt
    (leads_to (small_nodes 0) _ (small_node Live 0 (3 ∷ 30 ∷ [])) 2 refl refl tt (up_to_3 30))
    (λ used. leads_nowhere (small_nodes 0) _ refl) (λ used. absurd used)

kept_1 : Kept 1 0
kept_1 = kept_by_words 3 4 4 Live Live Free 0 tt tt tt
    (leads_to (small_nodes 1) _ (small_node Live 4 (3 ∷ 30 ∷ [])) 2 refl refl tt (up_to_3 30))
    (λ used. leads_to (small_nodes 1) _ (small_node Live 0 (6 ∷ 60 ∷ [])) 3 refl refl tt
    (up_to_6 30))
    (λ used. absurd used)

kept_2 : Kept 2 0
kept_2 = kept_by_words 5 4 4 Live Live Live 0 tt tt tt
    (leads_to (small_nodes 2) _ (small_node Live 4 (3 ∷ 31 ∷ [])) 4 refl refl tt (up_to_3 31))
    (λ used. leads_to (small_nodes 2) _ (small_node Live 0 (6 ∷ 60 ∷ [])) 3 refl refl tt
    (up_to_6 30))
    (λ used. leads_to (small_nodes 2) _ (small_node Live 0 (6 ∷ 60 ∷ [])) 3 refl refl tt
    (up_to_6 31))

kept_3 : Kept 3 0
kept_3 = kept_by_words 5 4 4 Unlinked Live Live 0 tt tt tt
    (leads_to (small_nodes 3) _ (small_node Live 4 (3 ∷ 31 ∷ [])) 4 refl refl tt (up_to_3 31))
    (λ used. leads_to (small_nodes 3) _ (small_node Live 0 (6 ∷ 60 ∷ [])) 3 refl refl tt
    (up_to_6 30))
    (λ used. leads_to (small_nodes 3) _ (small_node Live 0 (6 ∷ 60 ∷ [])) 3 refl refl tt
    (up_to_6 31))

kept_4 : Kept 4 0
kept_4 = kept_by_words 5 4 0 Unlinked Live Live 0 tt tt tt
    (leads_to (small_nodes 4) _ (small_node Live 0 (3 ∷ 31 ∷ [])) 4 refl refl tt (up_to_3 31))
    (λ used. leads_to (small_nodes 4) _ (small_node Live 0 (6 ∷ 60 ∷ [])) 3 refl refl tt
    (up_to_6 30))
    (λ used. leads_nowhere (small_nodes 4) _ refl)

kept_5 : Kept 5 0
kept_5 = kept_by_words 5 4 0 Unlinked Unlinked Live 0 tt tt tt
    (leads_to (small_nodes 5) _ (small_node Live 0 (3 ∷ 31 ∷ [])) 4 refl refl tt (up_to_3 31))
    (λ used. leads_to (small_nodes 5) _ (small_node Unlinked 0 (6 ∷ 60 ∷ [])) 3 refl refl tt
    (up_to_6 30))
    (λ used. leads_nowhere (small_nodes 5) _ refl)

kept_6 : Kept 6 5
kept_6 = kept_by_words 5 4 0 (Retired 5) (Retired 5) Live 5 (omega arith) (omega arith) tt
    (leads_to (small_nodes 6) _ (small_node Live 0 (3 ∷ 31 ∷ [])) 4 refl refl tt (up_to_3 31))
    (λ used. leads_to (small_nodes 6) _ (small_node (Retired 5) 0 (6 ∷ 60 ∷ [])) 3 refl refl
    (omega arith) (up_to_6 30))
    (λ used. leads_nowhere (small_nodes 6) _ refl)

-- a section with these hops knows only facts of these nodes, if each hop is such a fact
abbrev Holds : List Node → List Hop → Type 0
Holds nodes hops = (i : ℕ) (words : List ℕ) → IsHeld (Reader hops) i words
    → Reading nodes (Some 4) i words

no_hop : (nodes : List Node) → Holds nodes []
no_hop nodes i words held = absurd (some-ne-none held.1 (sym held.2))

one_hop : (nodes : List Node) (hop : Hop) (hops : List Hop)
    → ((i : ℕ) → hop.to ≡ suc i → Reading nodes (Some 4) i hop.words)
    → Holds nodes hops → Holds nodes (hop ∷ hops)
one_hop nodes hop hops mine others i words (zero, h, there, to, is) =
    let same : hop ≡ h = some-injective _ _ there in
    subst (Reading nodes (Some 4) i) (ap (λ (x : Hop). x.words) same ∙ is)
    (mine i (ap (λ (x : Hop). x.to) same ∙ to))
one_hop nodes hop hops mine others i words (suc k, h, there, to, is) =
    others i words (k, h, there, to, is)

to_none : (nodes : List Node) (words : List ℕ) (i : ℕ) → 0 ≡ suc i → Reading nodes (Some 4) i words
to_none nodes words i to = absurd (omega (arith, to))

to_node : (nodes : List Node) (j : ℕ) (v : Node) (i : ℕ) → suc j ≡ suc i
    → get_elem? nodes j ≡ some v → MayRead 4 v.state → Reading nodes (Some 4) i v.words
to_node nodes j v i to there may =
    let same : j ≡ i = omega (arith, to) in
    subst (λ (n : ℕ). Reading nodes (Some 4) n v.words) same (record {
      opened = 4;
      is_open = refl;
      on = v;
      here = there;
      same = refl;
      may = may;
    })

holds_1 : (nodes : List Node) → Holds nodes (small_hops 1)
holds_1 nodes = one_hop nodes hop_0 [] (to_none nodes []) (no_hop nodes)

holds_2 : (nodes : List Node) (next : ℕ) (a : NodeState)
    → get_elem? nodes 2 ≡ some (small_node a next (3 ∷ 30 ∷ [])) → MayRead 4 a
    → Holds nodes (small_hops 2)
holds_2 nodes next a there may = one_hop nodes hop_1 (small_hops 1)
    (λ i to. to_node nodes 2 (small_node a next (3 ∷ 30 ∷ [])) i to there may) (holds_1 nodes)

holds_3 : Holds (small_nodes 6) (small_hops 3)
holds_3 = one_hop (small_nodes 6) hop_2 (small_hops 2)
    (λ i to. to_node (small_nodes 6) 3 (small_node (Retired 5) 0 (6 ∷ 60 ∷ [])) i to refl
    (omega arith))
    (holds_2 (small_nodes 6) 4 (Retired 5) refl (omega arith))

holds_4 : Holds (small_nodes 6) (small_hops 4)
holds_4 = one_hop (small_nodes 6) hop_3 (small_hops 3) (to_none (small_nodes 6) []) holds_3

-- the facts of the map, as the records of a graph's run name them
abbrev pub Fits : Plan → List ℕ → Type 0
Fits p = IsWhole small_holds p.words

abbrev pub JoinsIn : Plan → ℕ → List ℕ → List ℕ → Type 0
JoinsIn p link from to = GoesUp p.roots p.seed from to

abbrev pub First : Plan → ℕ → List ℕ
First p = root_words p.words

abbrev KeptAt : ℕ → ℕ → Type 0
KeptAt n hops = IsKeptAt Fits JoinsIn First small_plan 1 (small_moment n hops)

moment_at : (n hops latest : ℕ) → Kept n latest → Holds (small_nodes n) (small_hops hops)
    → Knows (root_words 2) 2 1 2 5 (small_nodes n) latest 1 1 None (small_writer n)
    → IsKeeping (small_writer n) → KeptAt n hops
moment_at n hops latest kept holds knows keeps = record {
  rule = record {
    told = seated _ _ (λ id z. z.2.plan ≡ small_plan) refl refl;
    kept = record {
      nodes = small_nodes n;
      latest = latest;
      writer = 1;
      kept = kept;
      seats = λ id cpu section known e.
          seated _ _ (λ id z. Knows (root_words 2) 2 1 2 5 (small_nodes n) latest 1 id z.1 z.2)
          holds knows id (cpu, section, known) e;
    };
  };
  shown = refl;
  keeps = keeps;
}

holds_first : (n : ℕ) → n ≤ 5 → Holds (small_nodes n) (small_hops 2)
holds_first zero low = holds_2 (small_nodes 0) 0 Live refl tt
holds_first (suc zero) low = holds_2 (small_nodes 1) 4 Live refl tt
holds_first (suc (suc zero)) low = holds_2 (small_nodes 2) 4 Live refl tt
holds_first (suc (suc (suc zero))) low = holds_2 (small_nodes 3) 4 Unlinked refl tt
holds_first (suc (suc (suc (suc zero)))) low = holds_2 (small_nodes 4) 4 Unlinked refl tt
holds_first (suc (suc (suc (suc (suc zero))))) low = holds_2 (small_nodes 5) 4 Unlinked refl tt
holds_first (suc (suc (suc (suc (suc (suc n)))))) low = absurd (omega (arith, low))

abbrev AtMoment : ℕ → Type 0
AtMoment t = IsKeptAt Fits JoinsIn First small_plan 1 (small_moments t)

moments_at : (t : ℕ) → AtMoment t
moments_at zero = moment_at 0 0 0 kept_0 (no_hop (small_nodes 0)) (refl, refl, refl) tt
moments_at (suc zero) = moment_at 0 1 0 kept_0 (holds_1 (small_nodes 0)) (refl, refl, refl) tt
moments_at (suc (suc zero)) =
    moment_at 0 2 0 kept_0 (holds_first 0 (omega arith)) (refl, refl, refl) tt
moments_at (suc (suc (suc zero))) =
    moment_at 1 2 0 kept_1 (holds_first 1 (omega arith)) (refl, refl, refl) tt
moments_at (suc (suc (suc (suc zero)))) =
    moment_at 2 2 0 kept_2 (holds_first 2 (omega arith)) (refl, refl, refl) tt
moments_at (suc (suc (suc (suc (suc zero))))) =
    moment_at 3 2 0 kept_3 (holds_first 3 (omega arith)) (refl, refl, refl) tt
moments_at (suc (suc (suc (suc (suc (suc zero)))))) =
    moment_at 4 2 0 kept_4 (holds_first 4 (omega arith)) (refl, refl, refl) tt
moments_at (suc (suc (suc (suc (suc (suc (suc zero))))))) =
    moment_at 5 2 0 kept_5 (holds_first 5 (omega arith)) (refl, refl, refl) tt
moments_at (suc (suc (suc (suc (suc (suc (suc (suc zero)))))))) =
    moment_at 6 2 5 kept_6 (holds_2 (small_nodes 6) 4 (Retired 5) refl (omega arith))
    (refl, refl, refl) tt
moments_at (suc (suc (suc (suc (suc (suc (suc (suc (suc zero))))))))) =
    moment_at 6 3 5 kept_6 holds_3 (refl, refl, refl) tt
moments_at (suc (suc (suc (suc (suc (suc (suc (suc (suc (suc t)))))))))) =
    moment_at 6 4 5 kept_6 holds_4 (refl, refl, refl) tt

-- the fact of a store that the writer made at the link 0 of a node
publish_told : (from to : ℕ) (was now : Known)
    → now
    ≡ storing was (renewed (renewed (nodes_in was) to (in_state Live)) from
    (linked_to 0 (suc to)))
    → IsPublished 2 1 2 (place_of 2 1 2 from 0) was (suc to) now
publish_told from to was now is i l j low at x =
    let cell = told from i l (omega (arith, low)) at in
    let e : from ≡ i = cell.0 in
    let f : 0 ≡ l = cell.1 in
    let g : to ≡ j = omega (arith, x) in
    subst (λ (n : ℕ × ℕ × ℕ). now
    ≡ storing was (renewed (renewed (nodes_in was) n.2 (in_state Live)) n.0
    (linked_to n.1 (suc to))))
    (λ x. (e x, f x, g x)) is

link_told : (from value : ℕ) (was now : Known)
    → now ≡ storing was (renewed (nodes_in was) from (linked_to 0 value))
    → IsLinked 2 1 2 (place_of 2 1 2 from 0) was value now
link_told from value was now is i l low at =
    let cell = told from i l (omega (arith, low)) at in
    let e : from ≡ i = cell.0 in
    let f : 0 ≡ l = cell.1 in
    subst (λ (n : ℕ × ℕ). now ≡ storing was (renewed (nodes_in was) n.0 (linked_to n.1 value)))
    (λ x. (e x, f x)) is

mark_told : (node value : ℕ) (was now : Known)
    → now ≡ keeping was (renewed (nodes_in was) node (in_state Unlinked))
    → IsMarkedUnlinked 2 1 2 (place_of 2 1 2 node 0) was value now
mark_told node value was now is i k low at =
    let cell = told node i k low at in
    let e : node ≡ i = cell.0 in
    subst (λ (n : ℕ). now ≡ keeping was (renewed (nodes_in was) n (in_state Unlinked))) e is

are_open : AreOpen 5 (small_moments 7).seats
are_open id at cpu c shown =
    seated _ _ (λ id z. (at : ℕ) → z.1 ≡ Some at → is_open_at 5 at ≡ true)
    (λ at e. subst (λ (n : ℕ). is_open_at 5 n ≡ true) (same_Some _ _ e) refl)
    (λ at e. absurd (none_is_none e)) id (cpu, Some at, c) shown at refl
  where
    none_is_none : {n : ℕ} → ◌≡◌ {A = Option ℕ} None (Some n) → ⊥
    none_is_none e = cc

writer_moves : (t : ℕ) → t < 10
    → IsWriterMove small_plan (small_moments t) (small_moments (suc t))
writer_moves zero low = rested refl
writer_moves (suc zero) low = rested refl
writer_moves (suc (suc zero)) low =
    published 2 0 3 (omega arith) refl refl
    (refl, publish_told 2 3 (small_writer 0) (small_writer 1) refl)
writer_moves (suc (suc (suc zero))) low =
    published 1 0 4 (omega arith) refl refl
    (refl, publish_told 1 4 (small_writer 1) (small_writer 2) refl)
writer_moves (suc (suc (suc (suc zero)))) low =
    marked_unlinked 2 4 (omega arith) (refl, mark_told 2 4 (small_writer 2) (small_writer 3) refl)
writer_moves (suc (suc (suc (suc (suc zero))))) low =
    led 4 0 0 (omega arith) refl (refl, link_told 4 0 (small_writer 3) (small_writer 4) refl)
writer_moves (suc (suc (suc (suc (suc (suc zero)))))) low =
    marked_unlinked 3 0 (omega arith) (refl, mark_told 3 0 (small_writer 4) (small_writer 5) refl)
writer_moves (suc (suc (suc (suc (suc (suc (suc zero))))))) low =
    looked 5 are_open (refl, refl)
writer_moves (suc (suc (suc (suc (suc (suc (suc (suc zero)))))))) low = rested refl
writer_moves (suc (suc (suc (suc (suc (suc (suc (suc (suc zero))))))))) low = rested refl
writer_moves (suc (suc (suc (suc (suc (suc (suc (suc (suc (suc t)))))))))) low =
    absurd (omega (arith, low))

pub map_over : IsMapOver small_holds small_plan 1 10 small_moments
map_over = record { at = λ t low. moments_at t; moves = writer_moves }

some_is_some : (n : ℕ) → Some n ≡ None → ⊥
some_is_some n e = cc

-- the first seat keeps no nodes, and its section began at no other number
pub not_writer : IsMapOver small_holds small_plan 0 10 small_moments → ⊥
not_writer kept =
    let shown = (kept.at 0 (omega arith)).shown in
    some_is_some 0 (ap (λ (x : ClientView Planned). x.0) (some-injective _ _ shown))

pub not_later : IsReadOver small_holds small_plan 0 8 10 small_moments → ⊥
not_later reads =
    let shown = (reads.at 0 (omega arith)).shown in
    let e : 4 ≡ 8 = same_Some 4 8 (ap (λ (x : ClientView Planned). x.1)
    (some-injective _ _ shown)) in
    omega (arith, e)
