-- The count of the links that lead to a node.
use Rattle.std.proofs.Common.{◌≡◌, ◌≢◌, ℕ, zero, suc, ◌+◌, ◌<◌, ◌≤◌, Bool, true, false, List, []}
use Rattle.std.proofs.Common.{◌∷◌, length, get_or, set, refl, sym, ap, ◌∙◌, arith, subst}
use Rattle.std.specs.Prelude.{nat_eq, slice_index, if◌then◌else◌}
use Rattle.std.proofs.lemmas.Bool.{eq-eqb, eqb-true}
use Rattle.std.proofs.lemmas.List.Sums.{get_or-le-sum_by, sum_by-cons, sum_by-set}
use Rattle.std.proofs.lemmas.List.{get_or-set_other, get_or-set_same}
use mathlib.Core.Logic.{dite}
use native.Mathlib.Decide.{ℕ_discrete}
use Rattle.rcu_graph.specs.Counts.{links_from, links_to, one_if, times_in}
use Rattle.rcu_graph.specs.Nodes.{in_state, is_live, no_node, node_at, renewed, state_at}
use Rattle.rcu_graph.specs.Tended.{IsReached}
use Rattle.rcu_graph.specs.Collecting.{live_in}
use Rattle.rcu_graph.specs.declared.known.Node.{Node}
use Rattle.rcu_graph.specs.declared.node_state.NodeState.{NodeState}
use Rattle.rcu_graph.specs.declared.node_state.NodeState.TheVariants.{Free, Live, Retired, Unlinked}

pub one_same : (a b : ℕ) → a ≡ b → one_if (nat_eq a b) ≡ 1
one_same a b e = ap one_if (eq-eqb a b e)

pub one_other : (a b : ℕ) → a ≢ b → one_if (nat_eq a b) ≡ 0
one_other a b ne = go (nat_eq a b) refl
  where
    go : (x : Bool) → nat_eq a b ≡ x → one_if x ≡ 0
    go true e = absurd (ne (eqb-true a b e))
    go false e = refl

pub live_test : (s : NodeState) → s ≡ Live → is_live s ≡ true
live_test s e = ap is_live e

pub test_live : (s : NodeState) → is_live s ≡ true → s ≡ Live
test_live Free e = absurd (cc)
test_live Live e = refl
test_live Unlinked e = absurd (cc)
test_live (Retired n) e = absurd (cc)

pub from_live : (v : Node) (i : ℕ) → v.state ≡ Live → links_from v i ≡ times_in v.links (suc i)
from_live v i e = ap (λ (b : Bool). if b then times_in v.links (suc i) else 0) (live_test v.state e)

pub from_others : (v : Node) (i : ℕ) → is_live v.state ≡ false → links_from v i ≡ 0
from_others v i e = ap (λ (b : Bool). if b then times_in v.links (suc i) else 0) e

pub links_to-set : (nodes : List Node) (j i : ℕ) (v : Node)
    → j < length nodes
    → links_to (set nodes j v) i + links_from (node_at nodes j) i
    ≡ links_to nodes i + links_from v i
links_to-set nodes j i v low = sum_by-set (λ (x : Node). links_from x i) nodes j v no_node low

pub times_in-set : (cells : List ℕ) (l x word : ℕ)
    → l < length cells
    → times_in (set cells l x) word + one_if (nat_eq (get_or cells l 0) word)
    ≡ times_in cells word + one_if (nat_eq x word)
times_in-set cells l x word low = sum_by-set (λ (c : ℕ). one_if (nat_eq c word)) cells l x 0 low

pub live_inside : (nodes : List Node) (j : ℕ) → state_at nodes j ≡ Live → j < length nodes
live_inside [] j e = absurd (cc)
live_inside (v ∷ nodes) zero e = omega arith
live_inside (v ∷ nodes) (suc j) e = let h = live_inside nodes j e in omega (arith, h)

link_inside : (cells : List ℕ) (l i : ℕ) → get_or cells l 0 ≡ suc i → l < length cells
link_inside [] l i e = absurd (omega (arith, e))
link_inside (c ∷ cells) zero i e = omega arith
link_inside (c ∷ cells) (suc l) i e = let h = link_inside cells l i e in omega (arith, h)

-- a link of a live node counts
pub leads_counts : (nodes : List Node) (j l i : ℕ)
    → state_at nodes j ≡ Live → slice_index (node_at nodes j).links l ≡ suc i → 0 < links_to nodes i
leads_counts nodes j l i live leads =
    let cells : List ℕ = (node_at nodes j).links in
    let one : one_if (nat_eq (get_or cells l 0) (suc i)) ≡ 1 =
    one_same (get_or cells l 0) (suc i) leads in
    let some : one_if (nat_eq (get_or cells l 0) (suc i)) ≤ times_in cells (suc i) =
    get_or-le-sum_by (λ (c : ℕ). one_if (nat_eq c (suc i))) cells l 0
    (link_inside cells l i leads) in
    let from : links_from (node_at nodes j) i ≡ times_in cells (suc i) =
    from_live (node_at nodes j) i live in
    let all : links_from (node_at nodes j) i ≤ links_to nodes i =
    get_or-le-sum_by (λ (v : Node). links_from v i) nodes j no_node (live_inside nodes j live) in
    omega (arith, one, some, from, all)

-- if some are counted, there is one
found_link : (cells : List ℕ) (word : ℕ) → 0 < times_in cells word
    → (l : ℕ) × (l < length cells) × (get_or cells l 0 ≡ word)
found_link [] word some = absurd (omega (arith, some))
found_link (c ∷ cells) word some = dite (ℕ_discrete c word) (λ (e : c ≡ word). (0, omega arith, e))
    (λ (ne : c ≢ word).
    let none : one_if (nat_eq c word) ≡ 0 = one_other c word ne in
    let more : 0 < one_if (nat_eq c word) + times_in cells word =
    subst (λ (n : ℕ). 0 < n) (sum_by-cons (λ (x : ℕ). one_if (nat_eq x word)) c cells) some in
    let f = found_link cells word (omega (arith, none, more)) in
    (suc f.0, (let low = f.1 in omega (arith, low)), f.2))

pub found_node : (nodes : List Node) (i : ℕ)
    → 0 < links_to nodes i
    → (j : ℕ)
    × (state_at nodes j ≡ Live)
    × (l : ℕ)
    × (l < length (node_at nodes j).links)
    × (get_or (node_at nodes j).links l 0 ≡ suc i)
found_node [] i some = absurd (omega (arith, some))
found_node (v ∷ nodes) i some = go (is_live v.state) refl (found_node nodes i)
  where
    go : (b : Bool)
        → is_live v.state ≡ b
        → (0 < links_to nodes i → (j : ℕ)
        × (state_at nodes j ≡ Live)
        × (l : ℕ)
        × (l < length (node_at nodes j).links)
        × (get_or (node_at nodes j).links l 0 ≡ suc i))
        → (j : ℕ)
        × (state_at (v ∷ nodes) j ≡ Live)
        × (l : ℕ)
        × (l < length (node_at (v ∷ nodes) j).links)
        × (get_or (node_at (v ∷ nodes) j).links l 0 ≡ suc i)
    go true e further = dite (ℕ_discrete (times_in v.links (suc i)) 0)
        (λ (none : times_in v.links (suc i) ≡ 0).
        let from : links_from v i ≡ times_in v.links (suc i) =
        from_live v i (test_live v.state e) in
        let all : 0 < links_from v i + links_to nodes i =
        subst (λ (n : ℕ). 0 < n) (sum_by-cons (λ (x : Node). links_from x i) v nodes) some in
        let f = further (omega (arith, none, from, all)) in (suc f.0, f.1, f.2, f.3, f.4))
        (λ (ne : times_in v.links (suc i) ≢ 0).
        let f = found_link v.links (suc i) (omega (arith, ne)) in
        (0, test_live v.state e, f.0, f.1, f.2))
    go false e further =
        let from : links_from v i ≡ 0 = from_others v i e in
        let all : 0 < links_from v i + links_to nodes i =
        subst (λ (n : ℕ). 0 < n) (sum_by-cons (λ (x : Node). links_from x i) v nodes) some in
        let f = further (omega (arith, from, all)) in (suc f.0, f.1, f.2, f.3, f.4)

pub found : (links : ℕ) (nodes : List Node) (i : ℕ)
    → ((j : ℕ) → j < length nodes → length (node_at nodes j).links ≡ links) → 0 < links_to nodes i
    → IsReached links nodes i
found links nodes i sized some =
    let f = found_node nodes i some in
    let size = sized f.0 (live_inside nodes f.0 f.1) in
    let low = f.3 in record {
      from = f.0;
      link = f.2;
      live = f.1;
      inside = omega (arith, size, low);
      leads = f.4;
    }

-- a node in another state
pub same_state : (nodes : List Node) (i : ℕ) (s : NodeState) → i < length nodes
    → state_at (renewed nodes i (in_state s)) i ≡ s
same_state nodes i s low =
    ap (λ (v : Node). v.state) (get_or-set_same nodes i (in_state s (node_at nodes i)) no_node low)

-- one node changes: another is as it was, and that one is changed
pub other_node : (nodes : List Node) (i j : ℕ) (f : Node → Node) → j ≢ i
    → node_at (renewed nodes i f) j ≡ node_at nodes j
other_node nodes i j f ne = get_or-set_other nodes i j (f (node_at nodes i)) no_node ne

pub same_node : (nodes : List Node) (i : ℕ) (f : Node → Node) → i < length nodes
    → node_at (renewed nodes i f) i ≡ f (node_at nodes i)
same_node nodes i f low = get_or-set_same nodes i (f (node_at nodes i)) no_node low

-- a part of a node that the change keeps stays
pub kept_at : {A : Type 0} (part : Node → A) (nodes : List Node) (i j : ℕ) (f : Node → Node)
    → i < length nodes → part (f (node_at nodes i)) ≡ part (node_at nodes i)
    → part (node_at (renewed nodes i f) j) ≡ part (node_at nodes j)
kept_at part nodes i j f low e = dite (ℕ_discrete j i)
    (λ (is : j ≡ i). ap (λ (k : ℕ). part (node_at (renewed nodes i f) k)) is
    ∙ (ap part (same_node nodes i f low) ∙ (e ∙ ap (λ (k : ℕ). part (node_at nodes k)) (sym is))))
    (λ (ne : j ≢ i). ap part (other_node nodes i j f ne))

-- so if only its state changes
pub state_keeps_links : (nodes : List Node) (i j : ℕ) (s : NodeState) → i < length nodes
    → (node_at (renewed nodes i (in_state s)) j).links ≡ (node_at nodes j).links
state_keeps_links nodes i j s low = kept_at (λ (v : Node). v.links) nodes i j (in_state s) low refl

pub state_keeps_words : (nodes : List Node) (i j : ℕ) (s : NodeState) → i < length nodes
    → (node_at (renewed nodes i (in_state s)) j).words ≡ (node_at nodes j).words
state_keeps_words nodes i j s low = kept_at (λ (v : Node). v.words) nodes i j (in_state s) low refl

pub live_in-unlinked : (nodes : List Node) (i : ℕ) → state_at nodes i ≡ Live
    → live_in (renewed nodes i (in_state Unlinked)) + 1 ≡ live_in nodes
live_in-unlinked nodes i live =
    let low = live_inside nodes i live in
    let v : Node = in_state Unlinked (node_at nodes i) in
    let one : one_if (is_live (state_at nodes i)) ≡ 1 =
    ap (λ (s : NodeState). one_if (is_live s)) live in
    let all : live_in (set nodes i v) + one_if (is_live (state_at nodes i)) ≡ live_in nodes + 0 =
    sum_by-set (λ (x : Node). one_if (is_live x.state)) nodes i v no_node low in
    omega (arith, one, all)
