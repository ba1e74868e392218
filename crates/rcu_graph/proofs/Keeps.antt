-- The nodes stay tended and counted if a free node is written and if nodes are reclaimed, and are
-- so at first.
use Rattle.std.proofs.Common.{◌≡◌, ◌≢◌, ℕ, zero, suc, ◌+◌, ◌<◌, ◌≤◌, Bool, true, false, List, []}
use Rattle.std.proofs.Common.{◌∷◌, length, get_or, replicate, refl, sym, ap, ◌∙◌, arith, subst}
use Rattle.std.specs.Prelude.{if◌then◌else◌, nat_lt, slice_index}
use Rattle.std.proofs.lemmas.List.{get_or-replicate, length-replicate}
use Rattle.std.proofs.lemmas.List.FromFn.{get_or-map-range_with_len, length-map-range_with_len}
use Rattle.std.proofs.lemmas.List.Sums.{sum_by-cons}
use Rattle.std.proofs.Math.ListN.{get_or-map}
use mathlib.Core.Logic.{dite}
use native.Mathlib.Decide.{ℕ_discrete}
use Rattle.rcu_graph.specs.Counts.{links_from, links_to, times_in}
use Rattle.rcu_graph.specs.Nodes.{first_node, first_nodes, free_node, is_live, no_node, node_at}
use Rattle.rcu_graph.specs.Nodes.{reclaimed, reclaimed_node, reclaimed_state, renewed, root}
use Rattle.rcu_graph.specs.Nodes.{state_at}
use Rattle.rcu_graph.specs.Tended.{IsReached}
use Rattle.rcu_graph.specs.Collecting.{IsCounted}
use Rattle.rcu_graph.specs.declared.known.Node.{Node}
use Rattle.rcu_graph.specs.declared.node_state.NodeState.{NodeState}
use Rattle.rcu_graph.specs.declared.node_state.NodeState.TheVariants.{Free, Live, Retired, Unlinked}
use Rattle.rcu_graph.proofs.Counting.{found_node, from_others, kept_at, links_to-set, live_inside}
use Rattle.rcu_graph.proofs.Counting.{other_node}
use Rattle.rcu_graph.proofs.FirstNodes.{below, is_below}
use Rattle.rcu_graph.proofs.Puts.{free_or_live}
use Rattle.rcu_graph.proofs.States.{live_reclaimed}
use Rattle.rcu_graph.proofs.Tending.{are_whole, here_at}

pub is_live_reclaimed : (n m : ℕ) (st : NodeState) → is_live (reclaimed_state n m st) ≡ is_live st
is_live_reclaimed n m Free = refl
is_live_reclaimed n m Live = refl
is_live_reclaimed n m Unlinked = refl
is_live_reclaimed n m (Retired a) = past _
  where
    past : (b : Bool) → is_live (if b then Free else Retired a) ≡ false
    past true = refl
    past false = refl

module _ (fits : List ℕ → Type 0) (joins : ℕ → List ℕ → List ℕ → Type 0)
    (count roots links : ℕ) where
  module _ (nodes : List Node) (counts unlinking : List ℕ)
      (c : IsCounted fits joins count roots links nodes counts unlinking) where
    -- a free node is written
    module _ (i : ℕ) (f : Node → Node) (inside : i < length nodes) (free : state_at nodes i ≡ Free)
        (same : (f (node_at nodes i)).state ≡ (node_at nodes i).state) where
      abbrev new : List Node
      new = renewed nodes i f

      states : (j : ℕ) → state_at new j ≡ state_at nodes j
      states j = kept_at (λ (v : Node). v.state) nodes i j f inside same

      apart : (j : ℕ) → state_at nodes j ≡ Live → j ≢ i
      apart j on is =
          free_or_live (state_at nodes i) free (ap (λ (k : ℕ). state_at nodes k) (sym is) ∙ on)

      alike : (j : ℕ) → state_at nodes j ≡ Live → node_at new j ≡ node_at nodes j
      alike j on = other_node nodes i j f (apart j on)

      was : (j : ℕ) → state_at new j ≡ Live → state_at nodes j ≡ Live
      was j on = sym (states j) ∙ on

      not_live : (s : NodeState) → s ≡ Free → is_live s ≡ false
      not_live s e = ap is_live e

      same_counts : (k : ℕ) → links_to new k ≡ links_to nodes k
      same_counts k =
          let a : links_to new k + links_from (node_at nodes i) k
          ≡ links_to nodes k + links_from (f (node_at nodes i)) k =
          links_to-set nodes i k (f (node_at nodes i)) inside in
          let b : links_from (node_at nodes i) k ≡ 0 =
          from_others (node_at nodes i) k (not_live (state_at nodes i) free) in
          let d : links_from (f (node_at nodes i)) k ≡ 0 =
          from_others (f (node_at nodes i)) k
          (not_live (f (node_at nodes i)).state (same ∙ free)) in
          omega (arith, a, b, d)

      pub counted_written : IsCounted fits joins count roots links new counts unlinking
      counted_written = record {
        tended = record {
          rooted = λ j low. states j ∙ c.tended.rooted j low;
          whole = λ j on. subst (λ (v : Node). fits v.words) (sym (alike j (was j on)))
              (c.tended.whole j (was j on));
          led = λ j l on low k is.
              let r = (are_whole fits joins count roots links 0 nodes c.tended).led j l k (was j on)
              low (ap (λ (v : Node). slice_index v.links l) (sym (alike j (was j on))) ∙ is) in
              let there = states k ∙ r.0 in (
                node_at new k,
                here_at new k (live_inside new k there),
                there,
                subst (λ (v : Node). joins l v.words (node_at new k).words)
                    (sym (alike j (was j on)))
                    (subst (λ (v : Node). joins l (node_at nodes j).words v.words)
                    (sym (alike k r.0)) r.1),
              );
          reached = λ j on past.
              let r : IsReached links nodes j = c.tended.reached j (was j on) past in
              record {
                from = r.from;
                link = r.link;
                live = states r.from ∙ r.live;
                inside = r.inside;
                leads =
                    ap (λ (v : Node). slice_index v.links r.link) (alike r.from r.live) ∙ r.leads;
              };
        };
        many = c.many;
        room = c.room;
        counted = λ k low. c.counted k low ∙ sym (same_counts k);
      }

    -- nodes are reclaimed
    module _ (n m : ℕ) where
      at : (j : ℕ) → node_at (reclaimed n m nodes) j ≡ reclaimed_node n m (node_at nodes j)
      at j = get_or-map (reclaimed_node n m) nodes j no_node

      before : (j : ℕ) → state_at (reclaimed n m nodes) j ≡ Live → state_at nodes j ≡ Live
      before j on =
          live_reclaimed n m (state_at nodes j) (sym (ap (λ (v : Node). v.state) (at j)) ∙ on)

      still : (j : ℕ) → state_at nodes j ≡ Live → state_at (reclaimed n m nodes) j ≡ Live
      still j on = ap (λ (v : Node). v.state) (at j) ∙ ap (reclaimed_state n m) on

      from_reclaimed : (v : Node) (k : ℕ) → links_from (reclaimed_node n m v) k ≡ links_from v k
      from_reclaimed v k =
          ap (λ (b : Bool). if b then times_in v.links (suc k) else 0)
          (is_live_reclaimed n m v.state)

      as_many : (l : List Node) (k : ℕ) → links_to (reclaimed n m l) k ≡ links_to l k
      as_many [] k = refl
      as_many (v ∷ l) k =
          let a : links_to (reclaimed n m (v ∷ l)) k
          ≡ links_from (reclaimed_node n m v) k + links_to (reclaimed n m l) k =
          sum_by-cons (λ (x : Node). links_from x k) (reclaimed_node n m v) (reclaimed n m l) in
          let b : links_to (v ∷ l) k ≡ links_from v k + links_to l k =
          sum_by-cons (λ (x : Node). links_from x k) v l in
          let d = from_reclaimed v k in
          let e = as_many l k in
          omega (arith, a, b, d, e)

      pub counted_reclaimed : IsCounted fits joins count roots links (reclaimed n m nodes)
          counts unlinking
      counted_reclaimed = record {
        tended = record {
          rooted = λ j low. still j (c.tended.rooted j low);
          whole = λ j on.
              subst (λ (v : Node). fits v.words) (sym (at j)) (c.tended.whole j (before j on));
          led = λ j l on low k is.
              let r = (are_whole fits joins count roots links 0 nodes c.tended).led j l k
              (before j on) low (ap (λ (v : Node). slice_index v.links l) (sym (at j)) ∙ is) in
              let there = still k r.0 in (
                node_at (reclaimed n m nodes) k,
                here_at (reclaimed n m nodes) k (live_inside (reclaimed n m nodes) k there),
                there,
                subst (λ (v : Node). joins l v.words (node_at (reclaimed n m nodes) k).words)
                    (sym (at j))
                    (subst (λ (v : Node). joins l (node_at nodes j).words v.words) (sym (at k))
                    r.1),
              );
          reached = λ j on past.
              let r : IsReached links nodes j = c.tended.reached j (before j on) past in record {
                from = r.from;
                link = r.link;
                live = still r.from r.live;
                inside = r.inside;
                leads = ap (λ (v : Node). slice_index v.links r.link) (at r.from) ∙ r.leads;
              };
        };
        many = c.many;
        room = c.room;
        counted = λ k low. c.counted k low ∙ sym (as_many nodes k);
      }

  -- the nodes at first
  module _ (width : ℕ) (first : ℕ → List ℕ) (enough : roots ≤ count) where
    abbrev begin : List Node
    begin = first_nodes links width first roots count

    begin_at : (i : ℕ) → i < count → node_at begin i ≡ first_node links width first roots i
    begin_at i low = get_or-map-range_with_len (first_node links width first roots) 0 count i i
        no_node low (omega arith)

    root_at : (i : ℕ) → i < roots → node_at begin i ≡ root links (first i)
    root_at i low =
        begin_at i (omega (arith, low, enough))
        ∙ ap (λ (b : Bool). if b then root links (first i) else free_node links width)
        (is_below i roots low)

    size : length begin ≡ count
    size = length-map-range_with_len (first_node links width first roots) 0 count

    no_links : (i l x : ℕ) → i < count → slice_index (node_at begin i).links l ≡ suc x → ⊥
    no_links i l x low leads = by (nat_lt i roots)
        (ap (λ (v : Node). slice_index v.links l) (sym (begin_at i low)) ∙ leads)
      where
        zeros : (n l : ℕ) → get_or (replicate {A = ℕ} n 0) l 0 ≡ 0
        zeros zero l = refl
        zeros (suc n) zero = refl
        zeros (suc n) (suc l) = zeros n l

        by : (b : Bool)
            → slice_index (if b then root links (first i) else free_node links width).links l
            ≡ suc x
            → ⊥
        by true e = let z = zeros links l in absurd (omega (arith, z, e))
        by false e = let z = zeros links l in absurd (omega (arith, z, e))

    live_root : (i : ℕ) → state_at begin i ≡ Live → i < roots
    live_root i on = by (nat_lt i roots) refl
        (ap (λ (v : Node). v.state)
        (sym (begin_at i (let b = live_inside begin i on in let e = size in omega (arith, b, e))))
        ∙ on)
      where
        by : (b : Bool)
            → nat_lt i roots ≡ b
            → (if b then root links (first i) else free_node links width).state ≡ Live
            → i < roots
        by true is e = below i roots is
        by false is e = absurd (free_or_live Free refl e)

    none_counted : (k : ℕ) → links_to begin k ≡ 0
    none_counted k = dite (ℕ_discrete (links_to begin k) 0) (λ (is : links_to begin k ≡ 0). is)
        (λ (ne : links_to begin k ≢ 0).
        let f = found_node begin k (omega (arith, ne)) in
        absurd (no_links f.0 f.2 k
        (let b = live_inside begin f.0 f.1 in let e = size in omega (arith, b, e)) f.4))

    pub counted_first : (counts unlinking : List ℕ)
        → ((i : ℕ) → i < roots → fits (first i))
        → counts ≡ replicate count 0
        → length unlinking ≡ count
        → IsCounted fits joins count roots links begin counts unlinking
    counted_first counts unlinking fit zeros room = record {
      tended = record {
        rooted = λ i low. ap (λ (v : Node). v.state) (root_at i low);
        whole = λ i on. subst (λ (v : Node). fits v.words) (sym (root_at i (live_root i on)))
            (fit i (live_root i on));
        led = λ i l on low j is.
            absurd (no_links i l j (let b = live_root i on in omega (arith, b, enough)) is);
        reached = λ i on past. absurd (let b = live_root i on in omega (arith, b, past));
      };
      many = ap (λ (l : List ℕ). length l) zeros ∙ length-replicate count 0;
      room = room;
      counted = λ i low.
          ap (λ (l : List ℕ). slice_index l i) zeros
          ∙ (get_or-replicate count i 0 0 low ∙ sym (none_counted i));
    }
