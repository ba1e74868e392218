-- A writer's nodes before a link is stored, after it, and after all nodes without a link from a
-- live one were unlinked.
use Rattle.std.proofs.Common.{◌≡◌, ◌≢◌, ◌⊎◌, inl, inr, ⊎_elim, ℕ, zero, suc, ◌+◌, ◌*◌, ◌<◌, ◌≤◌}
use Rattle.std.proofs.Common.{Bool, true, false, List, [], ◌∷◌, ◌++◌, length, get_or, set, take}
use Rattle.std.proofs.Common.{drop, refl, sym, ap, ◌∙◌, arith, subst, length-set}
use Rattle.std.specs.Prelude.{All, flat_map, nat_eq, slice_index}
use Rattle.std.proofs.lemmas.List.{drop_more, get_or-set_other, get_or-set_same, length-take-le}
use Rattle.std.proofs.lemmas.List.Concat.{flat_map-cons}
use Rattle.std.proofs.lemmas.List.Sums.{sum_by-cons, sum_by-le}
use mathlib.Core.Logic.{dite}
use mathlib.Core.Option.{some}
use lib.ListN.{get_elem?}
use native.Mathlib.Decide.{ℕ_discrete}
use Rattle.rcu_graph.specs.Counts.{counted_up, links_from, links_to, one_if, times_in}
use Rattle.rcu_graph.specs.Writer.{IsReady}
use Rattle.rcu_graph.specs.Mirror.{AreSized}
use Rattle.rcu_graph.specs.Nodes.{IsTarget, in_state, is_live, linked_to, no_node, node_at, renewed}
use Rattle.rcu_graph.specs.Nodes.{state_at}
use Rattle.rcu_graph.specs.Tended.{AreCollected, AreLed, AreTended, IsReached}
use Rattle.rcu_graph.specs.Collecting.{IsCollecting, IsInside, live_in, owed}
use Rattle.rcu_graph.specs.declared.known.Node.{Node}
use Rattle.rcu_graph.specs.declared.node_state.NodeState.TheVariants.{Live, Unlinked}
use Rattle.rcu_graph.proofs.Counting.{found, from_live, from_others, kept_at, leads_counts}
use Rattle.rcu_graph.proofs.Counting.{links_to-set, live_inside, one_other, one_same, other_node}
use Rattle.rcu_graph.proofs.Counting.{same_node, same_state, state_keeps_links}
use Rattle.rcu_graph.proofs.Counting.{state_keeps_words, times_in-set}

pub at_here : (nodes : List Node) (j : ℕ) (v : Node) → get_elem? nodes j ≡ some v
    → node_at nodes j ≡ v
at_here [] j v e = absurd (cc)
at_here (x ∷ nodes) zero v e = cc
at_here (x ∷ nodes) (suc j) v e = at_here nodes j v e

pub here_at : (nodes : List Node) (j : ℕ) → j < length nodes
    → get_elem? nodes j ≡ some (node_at nodes j)
here_at [] j low = absurd (omega (arith, low))
here_at (x ∷ nodes) zero low = refl
here_at (x ∷ nodes) (suc j) low = here_at nodes j (omega (arith, low))

pub one_more : (b : Bool) → one_if b ≤ 1
one_more true = omega arith
one_more false = omega arith

pub live_in-le : (nodes : List Node) → live_in nodes ≤ length nodes
live_in-le nodes =
    let a = sum_by-le (λ (v : Node). one_if (is_live v.state)) 1 nodes
    (λ k d low. one_more (is_live (get_or nodes k d).state)) in
    omega (arith, a)

times_in-le : (cells : List ℕ) (word : ℕ) → times_in cells word ≤ length cells
times_in-le cells word =
    let a = sum_by-le (λ (c : ℕ). one_if (nat_eq c word)) 1 cells
    (λ k d low. one_more (nat_eq (get_or cells k d) word)) in
    omega (arith, a)

from_le : (v : Node) (i : ℕ) → links_from v i ≤ length v.links
from_le v i = go (is_live v.state) refl
  where
    go : (b : Bool) → is_live v.state ≡ b → links_from v i ≤ length v.links
    go true e =
        let a = times_in-le v.links (suc i) in
        let f : links_from v i ≡ times_in v.links (suc i) =
        ap (λ (x : Bool). mathlib.Core.Bool.cond x (times_in v.links (suc i)) 0) e in
        omega (arith, a, f)
    go false e = let f : links_from v i ≡ 0 = from_others v i e in omega (arith, f)

-- no more links lead to a node than there are
pub links_to-le : (links width count : ℕ) (nodes : List Node) (i : ℕ)
    → length nodes ≡ count → AreSized count links width nodes → links_to nodes i ≤ links * count
links_to-le links width count nodes i few sized =
    let a = sum_by-le (λ (v : Node). links_from v i) links nodes (λ k d low.
    let e : get_or nodes k d ≡ node_at nodes k = no_other nodes k d low in
    let size = sized k (omega (arith, low, few)) in
    let b = from_le (node_at nodes k) i in
    subst (λ (v : Node). links_from v i ≤ links) (sym e) (omega (arith, size, b))) in
    subst (λ (n : ℕ). links_to nodes i ≤ n) (turn (length nodes) links count few) a
  where
    no_other : (l : List Node) (k : ℕ) (d : Node) → k < length l → get_or l k d ≡ get_or l k no_node
    no_other [] k d low = absurd (omega (arith, low))
    no_other (x ∷ xs) zero d low = refl
    no_other (x ∷ xs) (suc k) d low = no_other xs k d (omega (arith, low))

    turn : (a b c : ℕ) → a ≡ c → a * b ≡ b * c
    turn a b c e = ap (λ (n : ℕ). n * b) e ∙ grind arith

-- the counts after one more link: they are as many
pub as_many_up : (counts : List ℕ) (word : ℕ) → length (counted_up counts word) ≡ length counts
as_many_up counts zero = refl
as_many_up counts (suc i) = length-set counts i (slice_index counts i + 1)

pub counted_up_at : (counts : List ℕ) (word k : ℕ) → ((i : ℕ) → word ≡ suc i → i < length counts)
    → slice_index (counted_up counts word) k ≡ slice_index counts k + one_if (nat_eq word (suc k))
counted_up_at counts zero k low =
    let none : one_if (nat_eq 0 (suc k)) ≡ 0 = one_other 0 (suc k) (λ e. omega (arith, e)) in
    omega (arith, none)
counted_up_at counts (suc i) k low = dite (ℕ_discrete k i)
    (λ (is : k ≡ i).
    let one : one_if (nat_eq (suc i) (suc k)) ≡ 1 = one_same (suc i) (suc k) (ap suc (sym is)) in
    let a : slice_index (set counts i (slice_index counts i + 1)) k ≡ slice_index counts k + 1 =
    ap (λ (n : ℕ). slice_index (set counts i (slice_index counts i + 1)) n) is
    ∙ (get_or-set_same counts i (slice_index counts i + 1) 0 (low i refl)
    ∙ ap (λ (n : ℕ). slice_index counts n + 1) (sym is)) in
    omega (arith, one, a))
    (λ (ne : k ≢ i).
    let none : one_if (nat_eq (suc i) (suc k)) ≡ 0 =
    one_other (suc i) (suc k) (λ e. ne (omega (arith, e))) in
    let a : slice_index (set counts i (slice_index counts i + 1)) k ≡ slice_index counts k =
    get_or-set_other counts i k (slice_index counts i + 1) 0 ne in
    omega (arith, none, a))

module _ (fits : List ℕ → Type 0) (joins : ℕ → List ℕ → List ℕ → Type 0)
    (count roots links width : ℕ) where
  -- the roots are live, and live nodes are whole and lead to live nodes that they may join
  pub record AreWhole (nodes : List Node) : Type 0 where
    pub rooted : (i : ℕ) → i < roots → state_at nodes i ≡ Live
    pub whole : (i : ℕ) → state_at nodes i ≡ Live → fits (node_at nodes i).words
    pub led : (i l j : ℕ)
        → state_at nodes i ≡ Live → l < links → slice_index (node_at nodes i).links l ≡ suc j
        → (state_at nodes j ≡ Live) × joins l (node_at nodes i).words (node_at nodes j).words

  pub led_there : (nodes : List Node) (l : ℕ) (words : List ℕ) (x j : ℕ)
      → IsTarget (joins l) words nodes x → x ≡ suc j
      → (state_at nodes j ≡ Live) × joins l words (node_at nodes j).words
  led_there nodes l words x j t e =
      let r = t j e in
      let same : node_at nodes j ≡ r.0 = at_here nodes j r.0 r.1 in (
        ap (λ (v : Node). v.state) same ∙ r.2,
        subst (λ (v : Node). joins l words v.words) (sym same) r.3,
      )

  pub are_led : (nodes : List Node) → AreWhole nodes → AreLed joins links nodes
  are_led nodes w i l live low j e =
      let r = w.led i l j live low e in
      (node_at nodes j, here_at nodes j (live_inside nodes j r.0), r.0, r.1)

  pub are_whole : (nodes : List Node) → AreTended fits joins roots links nodes → AreWhole nodes
  are_whole nodes t = record {
    rooted = t.rooted;
    whole = t.whole;
    led = λ i l j live low leads. led_there nodes l (node_at nodes i).words
        (slice_index (node_at nodes i).links l) j (t.led i l live low) leads;
  }

  -- after all nodes without a link from a live one were unlinked
  module _ (stored nodes : List Node) (counts unlinking : List ℕ) (to : ℕ) (whole : AreWhole stored)
      (t : IsCollecting count roots links stored nodes counts unlinking to to []) where
    nothing_owed : (i : ℕ) → times_in (owed stored unlinking to to []) i ≡ 0
    nothing_owed i = ap (λ (l : List ℕ). times_in (flat_map (λ j. (node_at stored j).links) l) i)
        (drop_all to unlinking)
      where
        drop_all : (n : ℕ) (l : List ℕ) → drop n (take n l) ≡ []
        drop_all zero l = refl
        drop_all (suc n) [] = refl
        drop_all (suc n) (x ∷ l) = drop_all n l

    pub counts_are : (i : ℕ) → i < count → slice_index counts i ≡ links_to nodes i
    counts_are i low =
        let a = t.counted i low in let b = nothing_owed (suc i) in omega (arith, a, b)

    sized : (j : ℕ) → j < length nodes → length (node_at nodes j).links ≡ links
    sized j low =
        ap (λ (l : List ℕ). length l) (t.links_stay j)
        ∙ t.sized j (let many = t.few in omega (arith, low, many))

    reached : (i : ℕ) → state_at nodes i ≡ Live → roots ≤ i → IsReached links nodes i
    reached i live past =
        let bound = live_inside nodes i live in
        let many = t.few in
        let a = t.up i live past in
        let b = counts_are i (omega (arith, bound, many)) in
        found links nodes i sized (omega (arith, a, b))

    was_live : (i : ℕ) → state_at nodes i ≡ Live → state_at stored i ≡ Live
    was_live i live = ⊎_elim
        (λ (e : state_at nodes i ≡ state_at stored i). sym e ∙ live)
        (λ (q : (roots ≤ i) × (state_at stored i ≡ Live) × (state_at nodes i ≡ Unlinked)). q.1)
        (t.states i)

    pub collected : AreCollected roots links stored nodes
    collected = record {
      few = t.few ∙ sym t.as_many;
      links_stay = t.links_stay;
      words_stay = t.words_stay;
      states = t.states;
      reached = reached;
      stay = t.stay;
    }

    pub tended : AreTended fits joins roots links nodes
    tended = record {
      rooted = λ i low.
          ⊎_elim (λ (e : state_at nodes i ≡ state_at stored i). e ∙ whole.rooted i low)
          (λ (q : (roots ≤ i) × (state_at stored i ≡ Live) × (state_at nodes i ≡ Unlinked)).
          absurd (let past = q.0 in omega (arith, low, past)))
          (t.states i);
      whole = λ i live. subst fits (sym (t.words_stay i)) (whole.whole i (was_live i live));
      led = λ i l live low j is.
          let on = t.closed i l j live low is in
          let w = whole.led i l j (was_live i live) low
          (ap (λ (c : List ℕ). slice_index c l) (sym (t.links_stay i)) ∙ is) in (
            node_at nodes j,
            here_at nodes j (live_inside nodes j on),
            on,
            subst (λ (ws : List ℕ). joins l ws (node_at nodes j).words) (sym (t.words_stay i))
                (subst (λ (ws : List ℕ). joins l (node_at stored i).words ws) (sym (t.words_stay j))
                w.1),
          );
      reached = reached;
    }

  -- a link of the live node i is stored: its old target has one link less
  module _ (nodes : List Node) (counts unlinking : List ℕ) (i l x : ℕ) (few : length nodes ≡ count)
      (sizes : AreSized count links width nodes) (counts_many : length counts ≡ count)
      (room : length unlinking ≡ count) (whole : AreWhole nodes)
      (counted : (k : ℕ) → k < count → slice_index counts k ≡ links_to nodes k)
      (up : (k : ℕ) → state_at nodes k ≡ Live → roots ≤ k → (x ≡ suc k)
      ⊎ (0 < slice_index counts k)) (live : state_at nodes i ≡ Live) (low : l < links)
      (target : (j : ℕ) → x ≡ suc j → (state_at nodes j ≡ Live)
      × joins l (node_at nodes i).words (node_at nodes j).words) where
    abbrev pub stored : List Node
    stored = renewed nodes i (linked_to l x)

    abbrev pub before : ℕ
    before = slice_index (node_at nodes i).links l

    inside : i < length nodes
    inside = live_inside nodes i live

    pub same_states : (j : ℕ) → state_at stored j ≡ state_at nodes j
    same_states j = kept_at (λ (v : Node). v.state) nodes i j (linked_to l x) inside refl

    pub same_words : (j : ℕ) → (node_at stored j).words ≡ (node_at nodes j).words
    same_words j = kept_at (λ (v : Node). v.words) nodes i j (linked_to l x) inside refl

    many : length (node_at nodes i).links ≡ links
    many = (sizes i (omega (arith, inside, few))).0

    here : node_at stored i ≡ linked_to l x (node_at nodes i)
    here = same_node nodes i (linked_to l x) inside

    led_from_here : (m j : ℕ) → m < links → slice_index (set (node_at nodes i).links l x) m ≡ suc j
        → (state_at nodes j ≡ Live) × joins m (node_at nodes i).words (node_at nodes j).words
    led_from_here m j small leads = dite (ℕ_discrete m l)
        (λ (is : m ≡ l).
        let stands : x ≡ suc j =
        sym (get_or-set_same (node_at nodes i).links l x 0 (omega (arith, low, many)))
        ∙ (ap (λ (n : ℕ). slice_index (set (node_at nodes i).links l x) n) (sym is) ∙ leads) in
        let t = target j stands in (
          t.0,
          subst (λ (n : ℕ). joins n (node_at nodes i).words (node_at nodes j).words) (sym is) t.1,
        ))
        (λ (ne : m ≢ l). whole.led i m j live small
        (sym (get_or-set_other (node_at nodes i).links l m x 0 ne) ∙ leads))

    led_in_nodes : (k m j : ℕ)
        → state_at nodes k ≡ Live → m < links → slice_index (node_at stored k).links m ≡ suc j
        → (state_at nodes j ≡ Live) × joins m (node_at nodes k).words (node_at nodes j).words
    led_in_nodes k m j on small leads = dite (ℕ_discrete k i)
        (λ (is : k ≡ i). subst (λ (n : ℕ).
        (state_at nodes j ≡ Live) × joins m (node_at nodes n).words (node_at nodes j).words)
        (sym is)
        (led_from_here m j small
        (sym (ap (λ (v : Node). slice_index v.links m) here)
        ∙ (ap (λ (n : ℕ). slice_index (node_at stored n).links m) (sym is) ∙ leads))))
        (λ (ne : k ≢ i). whole.led k m j on small
        (ap (λ (v : Node). slice_index v.links m) (sym (other_node nodes i k (linked_to l x) ne))
        ∙ leads))

    pub stored_whole : AreWhole stored
    stored_whole = record {
      rooted = λ k small. same_states k ∙ whole.rooted k small;
      whole = λ k on. subst fits (sym (same_words k)) (whole.whole k (sym (same_states k) ∙ on));
      led = λ k m j on small leads.
          let r = led_in_nodes k m j (sym (same_states k) ∙ on) small leads in (
            same_states j ∙ r.0,
            subst (λ (ws : List ℕ). joins m ws (node_at stored j).words) (sym (same_words k))
                (subst (λ (ws : List ℕ). joins m (node_at nodes k).words ws) (sym (same_words j))
                r.1),
          );
    }

    word_inside : (k : ℕ) → x ≡ suc k → k < length counts
    word_inside k e =
        let bound = live_inside nodes k (target k e).0 in omega (arith, bound, few, counts_many)

    pub one_less : (k : ℕ)
        → links_to stored k + one_if (nat_eq before (suc k))
        ≡ links_to nodes k + one_if (nat_eq x (suc k))
    one_less k =
        let v : Node = node_at nodes i in
        let a : links_to stored k + links_from v k
        ≡ links_to nodes k + links_from (linked_to l x v) k =
        links_to-set nodes i k (linked_to l x v) inside in
        let b : links_from v k ≡ times_in v.links (suc k) = from_live v k live in
        let c : links_from (linked_to l x v) k ≡ times_in (set v.links l x) (suc k) =
        from_live (linked_to l x v) k live in
        let d : times_in (set v.links l x) (suc k) + one_if (nat_eq before (suc k))
        ≡ times_in v.links (suc k) + one_if (nat_eq x (suc k)) =
        times_in-set v.links l x (suc k) (omega (arith, low, many)) in
        omega (arith, a, b, c, d)

    pub starts_collecting : IsCollecting count roots links stored stored (counted_up counts x)
        unlinking 0
        0 (before ∷ [])
    starts_collecting = record {
      few = length-set nodes i (linked_to l x (node_at nodes i)) ∙ few;
      as_many = length-set nodes i (linked_to l x (node_at nodes i)) ∙ few;
      counts_many = as_many_up counts x ∙ counts_many;
      room = room;
      sized = λ k small.
          kept_at (λ (v : Node). length v.links) nodes i k (linked_to l x) inside
          (length-set (node_at nodes i).links l x)
          ∙ (sizes k small).0;
      links_stay = λ k. refl;
      words_stay = λ k. refl;
      states = λ k. inl refl;
      stay = λ these held k one. held.live k one;
      closed = λ k m j on small leads. (stored_whole.led k m j on small leads).0;
      up = λ k on past.
          let a = counted_up_at counts x k word_inside in
          ⊎_elim
          (λ (is : x ≡ suc k).
          let one : one_if (nat_eq x (suc k)) ≡ 1 = one_same x (suc k) is in omega (arith, a, one))
          (λ (some : 0 < slice_index counts k). omega (arith, a, some))
          (up k (sym (same_states k) ∙ on) past);
      counted = λ k small.
          let a = counted_up_at counts x k word_inside in
          let b = counted k small in
          let c = one_less k in
          let d : times_in (before ∷ []) (suc k) ≡ one_if (nat_eq before (suc k)) + 0 =
          sum_by-cons (λ (w : ℕ). one_if (nat_eq w (suc k))) before [] in
          omega (arith, a, b, c, d);
      inside = λ k d small. before_inside k d (omega (arith, small));
      ordered = λ k small. absurd (omega (arith, small));
      going = omega arith;
      enough =
          let a = live_in-le stored in
          let b = length-set nodes i (linked_to l x (node_at nodes i)) in omega (arith, a, b, few);
    }
      where
        before_inside : (k d : ℕ) → k ≡ 0 → IsInside count (get_or (before ∷ []) k d)
        before_inside k d e = subst (λ (n : ℕ). IsInside count (get_or (before ∷ []) n d)) (sym e)
            (λ j is.
            let bound = live_inside nodes j (whole.led i l j live low is).0 in
            omega (arith, bound, few))

  -- a free node becomes live: whole, with links that lead to live nodes
  module _ (nodes : List Node) (counts : List ℕ) (i : ℕ) (few : length nodes ≡ count)
      (tended : AreTended fits joins roots links nodes)
      (counted : (k : ℕ) → k < count → slice_index counts k ≡ links_to nodes k) (inside : i < count)
      (ready : IsReady fits joins links nodes i) where
    abbrev pub promoted : List Node
    promoted = renewed nodes i (in_state Live)

    within : i < length nodes
    within = omega (arith, inside, few)

    pub promoted_state : state_at promoted i ≡ Live
    promoted_state = same_state nodes i Live within

    pub still_live : (j : ℕ) → state_at nodes j ≡ Live → state_at promoted j ≡ Live
    still_live j on = dite (ℕ_discrete j i)
        (λ (is : j ≡ i). ap (λ (k : ℕ). state_at promoted k) is ∙ promoted_state)
        (λ (ne : j ≢ i). ap (λ (v : Node). v.state) (other_node nodes i j (in_state Live) ne) ∙ on)

    was_live_else : (j : ℕ) → j ≢ i → state_at promoted j ≡ Live → state_at nodes j ≡ Live
    was_live_else j ne on =
        sym (ap (λ (v : Node). v.state) (other_node nodes i j (in_state Live) ne)) ∙ on

    ready_led : (l j : ℕ) → l < links → slice_index (node_at nodes i).links l ≡ suc j
        → (state_at nodes j ≡ Live) × joins l (node_at nodes i).words (node_at nodes j).words
    ready_led l j low leads = led_there nodes l (node_at nodes i).words
        (slice_index (node_at nodes i).links l) j (ready.led l low) leads

    led_else : (k l j : ℕ)
        → state_at promoted k ≡ Live → l < links → slice_index (node_at nodes k).links l ≡ suc j
        → (state_at nodes j ≡ Live) × joins l (node_at nodes k).words (node_at nodes j).words
    led_else k l j on low leads = dite (ℕ_discrete k i)
        (λ (is : k ≡ i). subst (λ (n : ℕ).
        (state_at nodes j ≡ Live) × joins l (node_at nodes n).words (node_at nodes j).words)
        (sym is)
        (ready_led l j low
        (ap (λ (n : ℕ). slice_index (node_at nodes n).links l) (sym is) ∙ leads)))
        (λ (ne : k ≢ i). (are_whole nodes tended).led k l j (was_live_else k ne on) low leads)

    pub promoted_whole : AreWhole promoted
    promoted_whole = record {
      rooted = λ k low. still_live k (tended.rooted k low);
      whole = λ k on. subst fits (sym (state_keeps_words nodes i k Live within))
          (dite (ℕ_discrete k i)
          (λ (is : k ≡ i). subst (λ (n : ℕ). fits (node_at nodes n).words) (sym is) ready.whole)
          (λ (ne : k ≢ i). tended.whole k (was_live_else k ne on)));
      led = λ k l j on low leads.
          let r = led_else k l j on low
          (ap (λ (c : List ℕ). slice_index c l) (sym (state_keeps_links nodes i k Live within))
          ∙ leads) in (
            still_live j r.0,
            subst (λ (ws : List ℕ). joins l ws (node_at promoted j).words)
                (sym (state_keeps_words nodes i k Live within))
                (subst (λ (ws : List ℕ). joins l (node_at nodes k).words ws)
                (sym (state_keeps_words nodes i j Live within)) r.1),
          );
    }

    pub promoted_counts : (k : ℕ)
        → links_to promoted k ≡ links_to nodes k + times_in (node_at nodes i).links (suc k)
    promoted_counts k =
        let v : Node = node_at nodes i in
        let a : links_to promoted k + links_from v k
        ≡ links_to nodes k + links_from (in_state Live v) k =
        links_to-set nodes i k (in_state Live v) within in
        let b : links_from v k ≡ 0 = from_others v k (ap is_live ready.free) in
        let c : links_from (in_state Live v) k ≡ times_in v.links (suc k) =
        from_live (in_state Live v) k refl in
        omega (arith, a, b, c)

    pub promoted_up : (new : List ℕ)
        → ((k : ℕ) → k < count → slice_index new k ≡ links_to promoted k)
        → (k : ℕ) → state_at promoted k ≡ Live
        → roots ≤ k
        → (suc i ≡ suc k) ⊎ (0 < slice_index new k)
    promoted_up new are k on past = dite (ℕ_discrete k i)
        (λ (is : k ≡ i). inl (ap suc (sym is)))
        (λ (ne : k ≢ i).
        let was = was_live_else k ne on in
        let r : IsReached links nodes k = tended.reached k was past in
        let some : 0 < links_to nodes k = leads_counts nodes r.from r.link k r.live r.leads in
        let bound = live_inside nodes k was in
        let a = are k (omega (arith, bound, few)) in
        let b = promoted_counts k in inr (omega (arith, some, a, b)))

-- the next node that was unlinked, whose links are released
pub take_next : (count roots links : ℕ) (stored nodes : List Node) (counts unlinking : List ℕ)
    (from to : ℕ)
    → from < to
    → IsCollecting count roots links stored nodes counts unlinking from to []
    → IsCollecting count roots links stored nodes counts unlinking (from + 1) to
    (node_at stored (slice_index unlinking from)).links
take_next count roots links stored nodes counts unlinking from to low t = record {
  few = t.few;
  as_many = t.as_many;
  counts_many = t.counts_many;
  room = t.room;
  sized = t.sized;
  links_stay = t.links_stay;
  words_stay = t.words_stay;
  states = t.states;
  stay = t.stay;
  closed = t.closed;
  up = t.up;
  counted = λ i small.
      t.counted i small ∙ ap (λ (l : List ℕ). links_to nodes i + times_in l (suc i)) same;
  inside = subst (All (IsInside count)) same t.inside;
  ordered = t.ordered;
  going = omega (arith, low);
  enough = t.enough;
}
  where
    get_or-taken : (n : ℕ) (l : List ℕ) (k : ℕ) → k < n → get_or (take n l) k 0 ≡ get_or l k 0
    get_or-taken zero l k small = absurd (omega (arith, small))
    get_or-taken (suc n) [] k small = refl
    get_or-taken (suc n) (x ∷ xs) zero small = refl
    get_or-taken (suc n) (x ∷ xs) (suc k) small = get_or-taken n xs k (omega (arith, small))

    long : from < length (take to unlinking)
    long =
        let a = t.enough in
        let b = t.room in
        let e = length-take-le to unlinking (omega (arith, a, b)) in omega (arith, e, low)

    same : owed stored unlinking from to []
        ≡ owed stored unlinking (from + 1) to (node_at stored (slice_index unlinking from)).links
    same =
        ap (λ (l : List ℕ). flat_map (λ j. (node_at stored j).links) l)
        (drop_more (take to unlinking) from 0 long)
        ∙ (flat_map-cons (λ j. (node_at stored j).links) (get_or (take to unlinking) from 0)
        (drop (from + 1) (take to unlinking))
        ∙ ap (λ (j : ℕ).
        (node_at stored j).links
        ++ flat_map (λ k. (node_at stored k).links) (drop (from + 1) (take to unlinking)))
        (get_or-taken to unlinking from low))

-- a node that is live after those without a link were unlinked was live before
pub live_before : (roots links : ℕ) (stored nodes : List Node)
    → AreCollected roots links stored nodes → (i : ℕ) → state_at nodes i ≡ Live
    → state_at stored i ≡ Live
live_before roots links stored nodes t i live =
    ⊎_elim (λ (e : state_at nodes i ≡ state_at stored i). sym e ∙ live)
    (λ (q : (roots ≤ i) × (state_at stored i ≡ Live) × (state_at nodes i ≡ Unlinked)). q.1)
    (t.states i)
