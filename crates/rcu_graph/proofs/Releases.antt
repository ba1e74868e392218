-- A writer that releases links: it unlinks a node only because no live node leads to it.
use Rattle.std.proofs.Common.{◌≡◌, ◌≢◌, ◌⊎◌, inr, ⊎_elim, ℕ, suc, ◌+◌, ◌<◌, ◌≤◌, Bool, true, List}
use Rattle.std.proofs.Common.{[], ◌∷◌, ◌++◌, length, set, take, drop, refl, sym, ap, ◌∙◌, arith}
use Rattle.std.proofs.Common.{subst, append_assoc, length-set}
use Rattle.std.specs.Prelude.{All, flat_map, nat_eq, slice_index}
use Rattle.std.proofs.lemmas.Grind.{flat_map-append}
use Rattle.std.proofs.lemmas.List.{append-nil, drop-append-le, get_or-set_other, get_or-set_same}
use Rattle.std.proofs.lemmas.List.{length-take-le, take_more_set}
use Rattle.std.proofs.lemmas.List.Concat.{flat_map-cons}
use Rattle.std.proofs.lemmas.List.Elements.{All-append, All-from_get_or}
use Rattle.std.proofs.lemmas.List.Sums.{sum_by-append, sum_by-cons}
use mathlib.Core.Logic.{dite}
use native.Mathlib.Decide.{ℕ_discrete}
use Rattle.rcu_graph.specs.Counts.{links_from, links_to, one_if, times_in}
use Rattle.rcu_graph.specs.Nodes.{in_state, node_at, renewed, state_at}
use Rattle.rcu_graph.specs.Tended.{AreHeldUp, IsReachedFrom}
use Rattle.rcu_graph.specs.Collecting.{IsCollecting, IsInside, owed}
use Rattle.rcu_graph.specs.declared.known.Node.{Node}
use Rattle.rcu_graph.specs.declared.node_state.NodeState.TheVariants.{Live, Unlinked}
use Rattle.rcu_graph.proofs.Counting.{from_live, from_others, leads_counts, links_to-set}
use Rattle.rcu_graph.proofs.Counting.{live_in-unlinked, live_inside, one_other, one_same}
use Rattle.rcu_graph.proofs.Counting.{other_node, same_state, state_keeps_links, state_keeps_words}
use Rattle.rcu_graph.proofs.States.{not_unlinked}

all_tail : (P : ℕ → Type 0) (x : ℕ) (xs : List ℕ) → All P (x ∷ xs) → All P xs
all_tail P x xs all = λ k d low. all (suc k) d (omega (arith, low))

all_head : (P : ℕ → Type 0) (x : ℕ) (xs : List ℕ) → All P (x ∷ xs) → P x
all_head P x xs all = all 0 x (omega arith)

module _ (count roots links : ℕ) (stored : List Node) where
  pub owed_more : (unlinking : List ℕ) (from to i : ℕ) (words : List ℕ)
      → from ≤ to
      → to < length unlinking
      → owed stored (set unlinking to i) from (to + 1) words
      ≡ owed stored unlinking from to words ++ (node_at stored i).links
  owed_more unlinking from to i words going room =
      let outs : ℕ → List ℕ = λ j. (node_at stored j).links in
      ap (λ (l : List ℕ). words ++ flat_map outs (drop from l)) (take_more_set unlinking to i room)
      ∙ (ap (λ (l : List ℕ). words ++ flat_map outs l)
      (drop-append-le from (take to unlinking) (i ∷ [])
      (let e = length-take-le to unlinking (omega (arith, room)) in omega (arith, e, going)))
      ∙ (ap (λ (l : List ℕ). words ++ l)
      (flat_map-append outs (drop from (take to unlinking)) (i ∷ []))
      ∙ (ap (λ (l : List ℕ). words ++ (flat_map outs (drop from (take to unlinking)) ++ l))
      (flat_map-cons outs i [] ∙ append-nil (outs i))
      ∙ sym (append_assoc words (flat_map outs (drop from (take to unlinking))) (outs i)))))

  module _ (nodes : List Node) (counts unlinking : List ℕ) (from to : ℕ) (words : List ℕ) where
    recounted : (word : ℕ) (new : List ℕ)
        → IsCollecting count roots links stored nodes counts unlinking from to (word ∷ words)
        → length new ≡ count
        → ((i : ℕ) → state_at nodes i ≡ Live → roots ≤ i → 0 < slice_index new i)
        → ((i : ℕ) → i < count → slice_index new i
        ≡ links_to nodes i + times_in (owed stored unlinking from to words) (suc i))
        → IsCollecting count roots links stored nodes new unlinking from to words
    recounted word new t many up counted = record {
      few = t.few;
      as_many = t.as_many;
      counts_many = many;
      room = t.room;
      sized = t.sized;
      links_stay = t.links_stay;
      words_stay = t.words_stay;
      states = t.states;
      stay = t.stay;
      closed = t.closed;
      up = up;
      counted = counted;
      inside = all_tail (IsInside count) word (owed stored unlinking from to words) t.inside;
      ordered = t.ordered;
      going = t.going;
      enough = t.enough;
    }

    first_owed : (word i : ℕ) → times_in (owed stored unlinking from to (word ∷ words)) i
        ≡ one_if (nat_eq word i) + times_in (owed stored unlinking from to words) i
    first_owed word i =
        sum_by-cons (λ (c : ℕ). one_if (nat_eq c i)) word (owed stored unlinking from to words)

    -- a link that leads nowhere
    pub none_released : IsCollecting count roots links stored nodes counts unlinking from to
        (0 ∷ words)
        → IsCollecting count roots links stored nodes counts unlinking from to words
    none_released t = recounted 0 counts t t.counts_many t.up
        (λ i low. let a = t.counted i low in
        let b = first_owed 0 (suc i) in
        let none : one_if (nat_eq 0 (suc i)) ≡ 0 = one_other 0 (suc i) (λ e. omega (arith, e)) in
        omega (arith, a, b, none))

    -- a node is inside, and counted by more than the links of live nodes
    pub owed_is_inside : (i : ℕ)
        → IsCollecting count roots links stored nodes counts unlinking from to (suc i ∷ words)
        → i < count
    owed_is_inside i t =
        all_head (IsInside count) (suc i) (owed stored unlinking from to words) t.inside i refl

    pub owed_is_counted : (i : ℕ)
        → IsCollecting count roots links stored nodes counts unlinking from to (suc i ∷ words)
        → links_to nodes i < slice_index counts i
    owed_is_counted i t =
        let a = t.counted i (owed_is_inside i t) in
        let b = first_owed (suc i) (suc i) in
        let one : one_if (nat_eq (suc i) (suc i)) ≡ 1 = one_same (suc i) (suc i) refl in
        omega (arith, a, b, one)

    module _ (i x : ℕ)
        (t : IsCollecting count roots links stored nodes counts unlinking from to (suc i ∷ words))
        (less : x + 1 ≡ slice_index counts i) where
      abbrev pub new : List ℕ
      new = set counts i x

      inside : i < length counts
      inside = let a = owed_is_inside i t in let b = t.counts_many in omega (arith, a, b)

      here : slice_index new i ≡ x
      here = get_or-set_same counts i x 0 inside

      counted : (j : ℕ)
          → j < count
          → slice_index new j
          ≡ links_to nodes j + times_in (owed stored unlinking from to words) (suc j)
      counted j low = dite (ℕ_discrete j i)
          (λ (is : j ≡ i). subst (λ (k : ℕ).
          slice_index new k
          ≡ links_to nodes k + times_in (owed stored unlinking from to words) (suc k))
          (sym is)
          (let a = t.counted i (owed_is_inside i t) in
          let b = first_owed (suc i) (suc i) in
          let one : one_if (nat_eq (suc i) (suc i)) ≡ 1 = one_same (suc i) (suc i) refl in
          let h = here in omega (arith, a, b, one, h, less)))
          (λ (ne : j ≢ i).
          let a = t.counted j low in
          let b = first_owed (suc i) (suc j) in
          let none : one_if (nat_eq (suc i) (suc j)) ≡ 0 =
          one_other (suc i) (suc j) (λ e. ne (omega (arith, e))) in
          let h : slice_index new j ≡ slice_index counts j = get_or-set_other counts i j x 0 ne in
          omega (arith, a, b, none, h))

      up_else : (j : ℕ) → state_at nodes j ≡ Live → roots ≤ j → j ≢ i → 0 < slice_index new j
      up_else j live past ne =
          let a = t.up j live past in
          let h : slice_index new j ≡ slice_index counts j = get_or-set_other counts i j x 0 ne in
          omega (arith, a, h)

      -- it stays as it is: others lead there, it is a root, or it is not live
      pub kept_released : (state_at nodes i ≡ Live → roots ≤ i → 0 < x)
          → IsCollecting count roots links stored nodes new unlinking from to words
      kept_released stays = recounted (suc i) new t (length-set counts i x ∙ t.counts_many)
          (λ j live past. dite (ℕ_discrete j i)
          (λ (is : j ≡ i).
          let h = here in
          let some = stays (subst (λ (k : ℕ). state_at nodes k ≡ Live) is live)
          (subst (λ (k : ℕ). roots ≤ k) is past) in
          subst (λ (k : ℕ). 0 < slice_index new k) (sym is) (omega (arith, h, some)))
          (λ (ne : j ≢ i). up_else j live past ne))
          counted

      -- it is unlinked: no live node leads there
      module _ (live : state_at nodes i ≡ Live) (past : roots ≤ i) (last : x ≡ 0) where
        pub unlinked : links_to nodes i ≡ 0
        unlinked = let a = owed_is_counted i t in omega (arith, a, less, last)

        abbrev pub after : List Node
        after = renewed nodes i (in_state Unlinked)

        low : i < length nodes
        low = live_inside nodes i live

        apart : (j : ℕ) → state_at after j ≡ Live → j ≢ i
        apart j on is = not_unlinked (state_at after j) on
            (ap (λ (k : ℕ). state_at after k) is ∙ same_state nodes i Unlinked low)

        same : (j : ℕ) → j ≢ i → node_at after j ≡ node_at nodes j
        same j ne = other_node nodes i j (in_state Unlinked) ne

        was_live : (j : ℕ) → state_at after j ≡ Live → state_at nodes j ≡ Live
        was_live j on = sym (ap (λ (v : Node). v.state) (same j (apart j on))) ∙ on

        still_live : (j : ℕ) → state_at nodes j ≡ Live → j ≢ i → state_at after j ≡ Live
        still_live j on ne = ap (λ (v : Node). v.state) (same j ne) ∙ on

        none_leads : (j l : ℕ)
            → state_at nodes j ≡ Live → slice_index (node_at nodes j).links l ≡ suc i → ⊥
        none_leads j l on leads =
            let a = leads_counts nodes j l i on leads in
            let b = unlinked in absurd (omega (arith, a, b))

        was_stored : state_at stored i ≡ Live
        was_stored = ⊎_elim
            (λ (e : state_at nodes i ≡ state_at stored i). sym e ∙ live)
            (λ (q : (roots ≤ i) × (state_at stored i ≡ Live) × (state_at nodes i ≡ Unlinked)). q.1)
            (t.states i)

        abbrev pub own : List ℕ
        own = (node_at stored i).links

        abbrev pub rest : List ℕ
        rest = owed stored unlinking from to words

        more : owed stored (set unlinking to i) from (to + 1) words ≡ rest ++ own
        more = owed_more unlinking from to i words t.going
            (let a = t.enough in
            let b = live_in-unlinked nodes i live in let c = t.room in omega (arith, a, b, c))

        counted_unlinked : (j : ℕ)
            → j < count
            → slice_index new j
            ≡ links_to after j
            + times_in (owed stored (set unlinking to i) from (to + 1) words) (suc j)
        counted_unlinked j small =
            let a = counted j small in
            let b : links_to after j + links_from (node_at nodes i) j
            ≡ links_to nodes j + links_from (in_state Unlinked (node_at nodes i)) j =
            links_to-set nodes i j (in_state Unlinked (node_at nodes i)) low in
            let c : links_from (in_state Unlinked (node_at nodes i)) j ≡ 0 =
            from_others (in_state Unlinked (node_at nodes i)) j refl in
            let d : links_from (node_at nodes i) j ≡ times_in own (suc j) =
            from_live (node_at nodes i) j live
            ∙ ap (λ (l : List ℕ). times_in l (suc j)) (t.links_stay i) in
            let e : times_in (owed stored (set unlinking to i) from (to + 1) words) (suc j)
            ≡ times_in rest (suc j) + times_in own (suc j) =
            ap (λ (l : List ℕ). times_in l (suc j)) more
            ∙ sum_by-append (λ (w : ℕ). one_if (nat_eq w (suc j))) rest own in
            omega (arith, a, b, c, d, e)

        own_inside : All (IsInside count) own
        own_inside = All-from_get_or (IsInside count) own 0 (λ l small j is.
            let size = t.sized i (owed_is_inside i t) in
            let on = t.closed i l j live (omega (arith, small, size))
            (ap (λ (c : List ℕ). slice_index c l) (t.links_stay i) ∙ is) in
            let bound = live_inside nodes j on in let many = t.few in omega (arith, bound, many))

        pub unlinked_released : IsCollecting count roots links stored after new
            (set unlinking to i) from
            (to + 1) words
        unlinked_released = record {
          few = length-set nodes i (in_state Unlinked (node_at nodes i)) ∙ t.few;
          as_many = t.as_many;
          counts_many = length-set counts i x ∙ t.counts_many;
          room = length-set unlinking to i ∙ t.room;
          sized = t.sized;
          links_stay = λ j. state_keeps_links nodes i j Unlinked low ∙ t.links_stay j;
          words_stay = λ j. state_keeps_words nodes i j Unlinked low ∙ t.words_stay j;
          states = λ j. dite (ℕ_discrete j i)
              (λ (is : j ≡ i). inr (
                subst (λ (k : ℕ). roots ≤ k) (sym is) past,
                subst (λ (k : ℕ). state_at stored k ≡ Live) (sym is) was_stored,
                ap (λ (k : ℕ). state_at after k) is ∙ same_state nodes i Unlinked low,
              ))
              (λ (ne : j ≢ i). subst (λ (v : Node).
              (v.state ≡ state_at stored j)
              ⊎ ((roots ≤ j) × (state_at stored j ≡ Live) × (v.state ≡ Unlinked)))
              (sym (same j ne)) (t.states j));
          stay = λ these up j one. still_live j (t.stay these up j one)
              (λ is. held_up these up (subst (λ (k : ℕ). these k ≡ true) is one));
          closed = λ j l k on small leads.
              let was = was_live j on in
              let lead : slice_index (node_at nodes j).links l ≡ suc k =
              ap (λ (c : List ℕ). slice_index c l) (sym (state_keeps_links nodes i j Unlinked low))
              ∙ leads in
              still_live k (t.closed j l k was small lead)
              (λ is. none_leads j l was (lead ∙ ap suc is));
          up = λ j on root. up_else j (was_live j on) root (apart j on);
          counted = counted_unlinked;
          inside = subst (All (IsInside count)) (sym more)
              (All-append (IsInside count) rest own
              (all_tail (IsInside count) (suc i) rest t.inside) own_inside);
          ordered = λ k small. dite (ℕ_discrete k to)
              (λ (is : k ≡ to). subst (λ (n : ℕ). slice_index (set unlinking to i) n <
              count) (sym is) (subst (λ (n : ℕ). n < count)
              (sym (get_or-set_same unlinking to i 0
              (let a = t.enough in
              let b = live_in-unlinked nodes i live in let c = t.room in omega (arith, a, b, c))))
              (owed_is_inside i t)))
              (λ (ne : k ≢ to). subst (λ (n : ℕ). n < count)
              (sym (get_or-set_other unlinking to k i 0 ne))
              (t.ordered k (omega (arith, small, ne))));
          going = let a = t.going in omega (arith, a);
          enough = let a = t.enough in let b = live_in-unlinked nodes i live in omega (arith, a, b);
        }
          where
            held_up : (these : ℕ → Bool) → AreHeldUp roots links stored these → these i ≡ true → ⊥
            held_up these up one = ⊎_elim (λ (root : i < roots). absurd (omega (arith, root, past)))
                (λ (r : IsReachedFrom links stored these i).
                none_leads r.from r.link (t.stay these up r.from r.one)
                (ap (λ (c : List ℕ). slice_index c r.link) (t.links_stay r.from) ∙ r.leads))
                (up.held i one)
