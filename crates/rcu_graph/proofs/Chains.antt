-- Chains at one moment, and after a step of the writer.
use Rattle.std.proofs.Common.{◌≡◌, ◌≢◌, ◌⊎◌, ℕ, suc, ◌<◌, ◌≤◌, List, Bool, length, refl, sym, ap}
use Rattle.std.proofs.Common.{◌∙◌, subst, true, inl, inr, arith}
use Rattle.std.specs.Prelude.{IsTrue, slice_index}
use Rattle.std.proofs.lemmas.List.{get_or_past}
use Rattle.std.proofs.Math.Nat.{suc_inj}
use mathlib.Core.Option.{some, some-injective}
use mathlib.Core.Logic.{dite}
use native.Mathlib.Decide.{dec_lt, ℕ_discrete}
use lib.ListN.{get_elem?}
use Rattle.rcu_live.specs.Numbers.{is_open_at}
use Rattle.atomic_table.proofs.Lists.{at_map}
use Rattle.rcu_live.proofs.ClientRows.{at_inside, inside}
use Rattle.rcu_graph.specs.Absence.{AreSameFor, IsChained, IsOnIfOurs, IsSameFor, IsWriterStep}
use Rattle.rcu_graph.specs.Absence.{Reaches, arrived, aside, key_at, linked, next_of, onwards}
use Rattle.rcu_graph.specs.Absence.{published}
use Rattle.rcu_graph.specs.Nodes.{MayRead, in_state, linked_to, no_node, node_at, reclaimed}
use Rattle.rcu_graph.specs.Nodes.{reclaimed_node, renewed, state_at}
use Rattle.rcu_graph.specs.declared.known.Node.{Node}
use Rattle.rcu_graph.specs.declared.node_state.NodeState.{NodeState}
use Rattle.rcu_graph.specs.declared.node_state.NodeState.TheVariants.{Free, Live}
use Rattle.rcu_graph.proofs.Counting.{other_node, same_node}
use Rattle.rcu_graph.proofs.States.{may_reclaimed, not_both}

pub free_unread : (opened : ℕ) (st : NodeState) → st ≡ Free → MayRead opened st → ⊥
free_unread opened st free may = subst (MayRead opened) free may

-- a node that a section may be on is one of the nodes
is_inside : (opened : ℕ) (nodes : List Node) (j : ℕ) → MayRead opened (state_at nodes j)
    → j < length nodes
is_inside opened nodes j may = dite (dec_lt j (length nodes))
    (λ (low : j < length nodes). low)
    (λ (high : j < length nodes → ⊥). absurd (subst (λ (v : Node). MayRead opened v.state)
    (get_or_past nodes j no_node (omega (arith, high))) may))

pub reclaimed_at : (n m : ℕ) (nodes : List Node) (j : ℕ) → j < length nodes
    → node_at (reclaimed n m nodes) j ≡ reclaimed_node n m (node_at nodes j)
reclaimed_at n m nodes j low =
    let there : get_elem? (reclaimed n m nodes) j ≡ some (reclaimed_node n m (node_at nodes j)) =
    at_map (reclaimed_node n m) nodes j (node_at nodes j) (at_inside nodes j no_node low) in
    some-injective _ _
    (sym (at_inside (reclaimed n m nodes) j no_node
    (inside (reclaimed n m nodes) j (reclaimed_node n m (node_at nodes j)) there))
    ∙ there)

module _ (nodes : List Node) where
  -- a chain of live nodes goes on to live nodes with greater keys
  pub live_to : (ours : List ℕ → Bool) (root : ℕ)
      → IsChained ours root nodes
      → (to from : ℕ) → Reaches nodes to from
      → state_at nodes from ≡ Live
      → (state_at nodes to ≡ Live)
      × (key_at nodes from ≤ key_at nodes to)
      × (IsTrue (ours (node_at nodes from).words) → IsTrue (ours (node_at nodes to).words))
  live_to ours root c to from (arrived _ e) live = (
    subst (λ (n : ℕ). state_at nodes n ≡ Live) e live,
    let same : key_at nodes from ≡ key_at nodes to = ap (λ (n : ℕ). key_at nodes n) e in
        omega (arith, same),
    λ o. subst (λ (n : ℕ). IsTrue (ours (node_at nodes n).words)) e o,
  )
  live_to ours root c to from (onwards _ next e r) live =
      let rest = live_to ours root c to next r (c.live from next live e) in
      let up = c.ascends from next live e in (
        rest.0,
        omega (arith, rest.1, up),
        λ o. rest.2 (c.stays from next live e o),
      )

  -- of two nodes on a chain, that with the lesser key leads on, to a node whose key is at most the
  -- other's
  pub leads_on : (ours : List ℕ → Bool) (root : ℕ)
      → IsChained ours root nodes
      → (j x from : ℕ) → state_at nodes from ≡ Live
      → Reaches nodes j from
      → Reaches nodes x from
      → key_at nodes j < key_at nodes x
      → (n : ℕ)
      × (next_of nodes j ≡ suc n)
      × Reaches nodes n from
      × (key_at nodes n ≤ key_at nodes x)
  leads_on ours root c j x from live (arrived _ e) (arrived _ f) less =
      let same : key_at nodes j ≡ key_at nodes x = ap (λ (n : ℕ). key_at nodes n) (sym e ∙ f) in
      absurd (omega (arith, less, same))
  leads_on ours root c j x from live (arrived _ e) (onwards _ n is r) less = (
    n,
    ap (λ (m : ℕ). next_of nodes m) (sym e) ∙ is,
    onwards from n is (arrived n refl),
    (live_to ours root c x n r (c.live from n live is)).1,
  )
  leads_on ours root c j x from live (onwards _ n is r) (arrived _ f) less =
      let up = c.ascends from n live is in
      let rest = (live_to ours root c j n r (c.live from n live is)).1 in
      let same : key_at nodes from ≡ key_at nodes x = ap (λ (m : ℕ). key_at nodes m) f in
      absurd (omega (arith, less, up, rest, same))
  leads_on ours root c j x from live (onwards _ n is r) (onwards _ m at q) less =
      let one : m ≡ n = suc_inj (sym at ∙ is) in
      let rest =
      leads_on ours root c j x n (c.live from n live is) r (subst (Reaches nodes x) one q) less in
      (rest.0, rest.1, onwards from n is rest.2, rest.3)

  -- a chain to a node stays, if no other live node changes its link
  pub still_reached : (ours : List ℕ → Bool) (root : ℕ)
      → IsChained ours root nodes
      → (after : List Node) (i from : ℕ)
      → ((y : ℕ) → state_at nodes y ≡ Live → y ≢ i → next_of after y ≡ next_of nodes y)
      → state_at nodes from ≡ Live
      → Reaches nodes i from
      → Reaches after i from
  still_reached ours root c after i from same live (arrived _ e) = arrived from e
  still_reached ours root c after i from same live (onwards _ n is r) =
      let on = c.live from n live is in
      let up = c.ascends from n live is in
      let rest = (live_to ours root c i n r on).1 in
      let apart : from ≢ i = λ e.
      let k : key_at nodes from ≡ key_at nodes i = ap (λ (m : ℕ). key_at nodes m) e in
      omega (arith, up, rest, k) in
      onwards from n (same from live apart ∙ is) (still_reached ours root c after i n same on r)

module _ (opened : ℕ) where
  -- a node that a section may be on stays one when a node changes, with its words
  stays_where : (nodes : List Node) (i : ℕ) (f : Node → Node) (j : ℕ)
      → MayRead opened (state_at nodes j)
      → (MayRead opened (state_at nodes i) → MayRead opened (f (node_at nodes i)).state
      × ((f (node_at nodes i)).words ≡ (node_at nodes i).words))
      → MayRead opened (state_at (renewed nodes i f) j)
      × ((node_at (renewed nodes i f) j).words ≡ (node_at nodes j).words)
  stays_where nodes i f j may made = dite (ℕ_discrete j i)
      (λ (is : j ≡ i).
      let here : MayRead opened (state_at nodes i) =
      subst (λ (n : ℕ). MayRead opened (state_at nodes n)) is may in
      let made_of : node_at (renewed nodes i f) j ≡ f (node_at nodes i) =
      ap (λ (n : ℕ). node_at (renewed nodes i f) n) is
      ∙ same_node nodes i f (is_inside opened nodes i here) in
      let t = made here in (
        subst (λ (v : Node). MayRead opened v.state) (sym made_of) t.0,
        ap (λ (v : Node). v.words) made_of
            ∙ (t.1 ∙ ap (λ (n : ℕ). (node_at nodes n).words) (sym is)),
      ))
      (λ (ne : j ≢ i). (
        subst (λ (v : Node). MayRead opened v.state) (sym (other_node nodes i j f ne)) may,
        ap (λ (v : Node). v.words) (other_node nodes i j f ne),
      ))

  abbrev StaysSo : List Node → ℕ → List Node → Type 0
  StaysSo before j nodes =
      MayRead opened (state_at nodes j) × ((node_at nodes j).words ≡ (node_at before j).words)

  -- a step leaves the nodes that the section may be on as they are
  pub stays_readable : (ours : List ℕ → Bool) (root : ℕ) (before after : List Node) (j : ℕ)
      → IsWriterStep ours opened root before after → MayRead opened (state_at before j)
      → MayRead opened (state_at after j) × ((node_at after j).words ≡ (node_at before j).words)
  stays_readable ours root before after j (aside same) may =
      let s = same j may in (s.0, s.2)
  stays_readable ours root before after j (linked i l x on is) may =
      subst (StaysSo before j) (sym is)
      (stays_where before i (linked_to l x) j may (λ m. (m, refl)))
  stays_readable ours root before after j (published i l k live free on is) may =
      let mid : List Node = renewed before k (in_state Live) in
      let first = stays_where before k (in_state Live) j may (λ m. (tt, refl)) in
      let second = stays_where mid i (linked_to l (suc k)) j first.0 (λ m. (m, refl)) in
      subst (StaysSo before j) (sym is) (second.0, second.1 ∙ first.1)

  -- a node that the section may be on is the same if one node changes on which no section may be
  pub same_where : (nodes : List Node) (i : ℕ) (f : Node → Node)
      → IsSameFor opened (node_at nodes i) (f (node_at nodes i))
      → AreSameFor opened nodes (renewed nodes i f)
  same_where nodes i f same j = dite (ℕ_discrete j i)
      (λ (is : j ≡ i).
      subst (λ (n : ℕ). IsSameFor opened (node_at nodes n) (node_at (renewed nodes i f) n)) (sym is)
      (λ may. subst (λ (v : Node). MayRead opened v.state × (v.links ≡ (node_at nodes i).links)
      × (v.words ≡ (node_at nodes i).words))
      (sym (same_node nodes i f (is_inside opened nodes i may))) (same may)))
      (λ (ne : j ≢ i). subst (λ (v : Node). IsSameFor opened (node_at nodes j) v)
      (sym (other_node nodes i j f ne)) (λ may. (may, refl, refl)))

  -- as if a free one changes
  pub unseen_where_free : (nodes : List Node) (i : ℕ) (f : Node → Node) → state_at nodes i ≡ Free
      → AreSameFor opened nodes (renewed nodes i f)
  unseen_where_free nodes i f free = same_where nodes i f
      (λ may. absurd (free_unread opened (state_at nodes i) free may))

  -- and if nodes are reclaimed by a number at which it may be open
  pub same_reclaimed : (n m : ℕ) (nodes : List Node) → n ≤ m → is_open_at n opened ≡ true
      → AreSameFor opened nodes (reclaimed n m nodes)
  same_reclaimed n m nodes up opens j may =
      subst (λ (v : Node). MayRead opened v.state × (v.links ≡ (node_at nodes j).links)
      × (v.words ≡ (node_at nodes j).words))
      (sym (reclaimed_at n m nodes j (is_inside opened nodes j may)))
      (may_reclaimed opened n m (state_at nodes j) up opens may, refl, refl)

next_else : (i y : ℕ) (f : Node → Node) (nodes : List Node) → y ≢ i
    → next_of (renewed nodes i f) y ≡ next_of nodes y
next_else i y f nodes ne = ap (λ (v : Node). slice_index v.links 0) (other_node nodes i y f ne)

module _ (opened : ℕ) (ours : List ℕ → Bool) (root : ℕ) (before : List Node) (j : ℕ)
    (c : IsChained ours root before) (may : MayRead opened (state_at before j))
    (own : IsTrue (ours (node_at before j).words)) where
  abbrev IsOnStill : List Node → Type 0
  IsOnStill nodes = (next_of nodes j ≡ next_of before j) ⊎ Reaches nodes j root

  not_free : (i : ℕ) → state_at before i ≡ Free → j ≢ i
  not_free i free e =
      free_unread opened (state_at before j) (ap (λ (n : ℕ). state_at before n) e ∙ free) may

  -- if it is the node whose link is stored
  on_after : (after : List Node) (i : ℕ)
      → j ≡ i
      → IsOnIfOurs ours root before i
      → ((y : ℕ) → state_at before y ≡ Live → y ≢ i → next_of after y ≡ next_of before y)
      → IsOnStill after
  on_after after i e still same =
      let mine : IsTrue (ours (node_at before i).words) =
      subst (λ (n : ℕ). IsTrue (ours (node_at before n).words)) e own in
      inr (subst (λ (n : ℕ). Reaches after n root) (sym e)
      (still_reached before ours root c after i root same c.rooted (still mine)))

  -- a node of the chain, which the section may be on, leads to the same node, or it is on the chain
  -- after the step
  pub stays_or_on : (after : List Node) → IsWriterStep ours opened root before after
      → (next_of after j ≡ next_of before j) ⊎ Reaches after j root
  stays_or_on after (aside same) =
      inl (ap (λ (links : List ℕ). slice_index links 0) (same j may).1)
  stays_or_on after (linked i l x on is) =
      let now : List Node = renewed before i (linked_to l x) in
      subst IsOnStill (sym is)
      (dite (ℕ_discrete j i)
      (λ (e : j ≡ i). on_after now i e on (λ y live ne. next_else i y (linked_to l x) before ne))
      (λ (ne : j ≢ i). inl (next_else i j (linked_to l x) before ne)))
  stays_or_on after (published i l k live free still is) =
      let mid : List Node = renewed before k (in_state Live) in
      let now : List Node = renewed mid i (linked_to l (suc k)) in
      subst IsOnStill (sym is)
      (dite (ℕ_discrete j i)
      (λ (e : j ≡ i). on_after now i e still (λ y on ne.
      next_else i y (linked_to l (suc k)) mid ne
      ∙ next_else k y (in_state Live) before
      (λ f. not_both (state_at before y) on (ap (λ (n : ℕ). state_at before n) f ∙ free))))
      (λ (ne : j ≢ i). inl (next_else i j (linked_to l (suc k)) mid ne
      ∙ next_else k j (in_state Live) before (not_free k free))))
