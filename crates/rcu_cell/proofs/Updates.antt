-- The nodes of a cell after an update: the new version is current, and the old one is unlinked.
use Rattle.std.proofs.Common.{◌≡◌, ◌≢◌, ℕ, zero, suc, ◌<◌, ◌≤◌, ⊎_elim, List, length, None}
use Rattle.std.proofs.Common.{refl, sym, ap, ◌∙◌, subst, inl, inr, arith, length-set}
use Rattle.std.specs.Prelude.{slice_index}
use Rattle.std.proofs.lemmas.List.{ext_get_or, get_or-set_same}
use mathlib.Core.Logic.{dite}
use native.Mathlib.Decide.{ℕ_discrete}
use Rattle.rcu_live.specs.Watcher.{Watching}
use Rattle.rcu_graph.specs.Absence.{next_of}
use Rattle.rcu_graph.specs.Writer.{after_store}
use Rattle.rcu_graph.specs.Nodes.{in_state, linked_to, no_node, node_at, nodes_in, renewed}
use Rattle.rcu_graph.specs.Nodes.{state_at}
use Rattle.rcu_graph.specs.Puts.{HasPut, put}
use Rattle.rcu_graph.specs.Tended.{AreCollected, AreTended}
use Rattle.rcu_graph.specs.declared.known.Node.{Node}
use Rattle.rcu_graph.specs.declared.known.Planned.{Planned}
use Rattle.rcu_graph.specs.declared.node_state.NodeState.TheVariants.{Free, Live, Unlinked}
use Rattle.rcu_graph.specs.declared.plan.Plan.{Plan}
use Rattle.rcu_graph.proofs.Counting.{live_inside, other_node, same_node}
use Rattle.rcu_graph.proofs.PutNodes.{before, elsewhere, few_put, here}
use Rattle.rcu_graph.proofs.Puts.{not_free}
use Rattle.rcu_graph.proofs.Tending.{at_here, live_before}
use Rattle.rcu_graph.proofs.States.{not_unlinked}
use Rattle.rcu_cell.specs.Cell.{slot_of}
use Rattle.rcu_cell.specs.Writer.{Updated}
use Rattle.rcu_cell.specs.Versions.{IsKept, IsOneShown, shown_in, unlinked_in}
use Rattle.rcu_cell.proofs.Kept.{any, shown_live, tended_along_one}

same_parts : (v w : Node) → v.state ≡ w.state → v.links ≡ w.links → v.words ≡ w.words → v ≡ w
same_parts v w state links words =
    λ i. record { state = state i; links = links i; words = words i }

-- a slot to which the root's link leads is the current one
shown_is : (A : List Node) (i : ℕ) → next_of A 0 ≡ suc i → i ≡ shown_in A
shown_is A i e = sym (ap slot_of e)

module _ (fits : List ℕ → Type 0) (joins : ℕ → List ℕ → List ℕ → Type 0) (A B : List Node) (by : ℕ)
    (words : List ℕ) (low : by < length A) (free : state_at A by ≡ Free)
    (tended : AreTended fits joins 1 1 A) (single : length (node_at A 0).links ≡ 1)
    (one : IsOneShown A) (kept : AreTended fits joins 1 1 B)
    (t : AreCollected 1 1 (put A 0 by words None) B) where
  abbrev S : List Node
  S = put A 0 by words None

  root_live : state_at A 0 ≡ Live
  root_live = tended.rooted 0 (omega arith)

  inside : 0 < length A
  inside = live_inside A 0 root_live

  apart : by ≢ 0
  apart is = not_free A by 0 free root_live (sym is)

  at_root : node_at S 0 ≡ linked_to 0 (suc by) (node_at A 0)
  at_root = before A 0 inside by words None low apart

  leads : next_of S 0 ≡ suc by
  leads = ap (λ (v : Node). slice_index v.links 0) at_root
      ∙ get_or-set_same (node_at A 0).links 0 (suc by) 0 (omega (arith, single))

  ends : next_of S by ≡ 0
  ends = ap (λ (v : Node). slice_index v.links 0) (here A 0 inside by words None low apart)

  other : (i : ℕ) → i ≢ by → i ≢ 0 → node_at S i ≡ node_at A i
  other i nb nr = elsewhere A 0 inside by words None low apart i nb nr

  next_same : (i : ℕ) → next_of B i ≡ next_of S i
  next_same i = ap (λ (cells : List ℕ). slice_index cells 0) (t.links_stay i)

  -- a live node of these that leads to another one is the root
  leads_on : (i j : ℕ) → state_at S i ≡ Live → next_of S i ≡ suc j → j ≡ by
  leads_on i j live e = dite (ℕ_discrete i by)
      (λ (is : i ≡ by).
      absurd (let z = ap (next_of S) is ∙ ends in omega (arith, e, z)))
      (λ (nb : i ≢ by). dite (ℕ_discrete i 0)
      (λ (root : i ≡ 0). let z = ap (next_of S) root ∙ leads in omega (arith, e, z))
      (λ (nr : i ≢ 0).
      let same = other i nb nr in
      ⊎_elim (λ (root : i ≡ 0). absurd (nr root))
      (λ (shown : (next_of A 0 ≡ suc i) × (next_of A i ≡ 0)).
      absurd (let z = ap (λ (v : Node). slice_index v.links 0) same ∙ shown.1 in
      omega (arith, e, z)))
      (one i (sym (ap (λ (v : Node). v.state) same) ∙ live))))

  live_is_by : (i : ℕ) → 1 ≤ i → state_at B i ≡ Live → i ≡ by
  live_is_by i past live =
      let r = t.reached i live past in
      let small = r.inside in
      let first : r.link ≡ 0 = omega (arith, small) in
      leads_on r.from i (live_before 1 1 S B t r.from r.live)
      (sym (next_same r.from)
      ∙ (ap (λ (l : ℕ). slice_index (node_at B r.from).links l) (sym first) ∙ r.leads))

  by_live : state_at B by ≡ Live
  by_live =
      let r = kept.led 0 0 (kept.rooted 0 (omega arith)) (omega arith) by (next_same 0 ∙ leads) in
      ap (λ (v : Node). v.state) (at_here B by r.0 r.1) ∙ r.2

  -- only the slot that was shown is unlinked
  unlinked_is_shown : (i : ℕ) → 1 ≤ i → state_at S i ≡ Live → state_at B i ≡ Unlinked
      → i ≡ shown_in A
  unlinked_is_shown i past live left = dite (ℕ_discrete i by)
      (λ (is : i ≡ by). absurd (not_unlinked (state_at B i) (ap (state_at B) is ∙ by_live) left))
      (λ (nb : i ≢ by).
      let nr : i ≢ 0 = λ e. omega (arith, e, past) in
      ⊎_elim (λ (root : i ≡ 0). absurd (nr root))
      (λ (shown : (next_of A 0 ≡ suc i) × (next_of A i ≡ 0)). shown_is A i shown.0)
      (one i (sym (ap (λ (v : Node). v.state) (other i nb nr)) ∙ live)))

  stays : (i : ℕ) → (1 ≤ i → i ≢ shown_in A) → node_at B i ≡ node_at S i
  stays i ne = same_parts (node_at B i) (node_at S i)
      (⊎_elim (λ (same : state_at B i ≡ state_at S i). same)
      (λ (left : (1 ≤ i) × (state_at S i ≡ Live) × (state_at B i ≡ Unlinked)).
      absurd (ne left.0 (unlinked_is_shown i left.0 left.1 left.2)))
      (t.states i))
      (t.links_stay i) (t.words_stay i)

  -- and it is
  unlinks : (o : ℕ) → 1 ≤ o → o ≡ shown_in A → node_at B o ≡ in_state Unlinked (node_at S o)
  unlinks o past is =
      let live : state_at A o ≡ Live = ap (state_at A) is ∙ shown_live fits joins A tended in
      let nb : o ≢ by = not_free A by o free live in
      let nr : o ≢ 0 = λ e. omega (arith, e, past) in
      let stored : state_at S o ≡ Live = ap (λ (v : Node). v.state) (other o nb nr) ∙ live in
      same_parts (node_at B o) (in_state Unlinked (node_at S o))
      (⊎_elim (λ (same : state_at B o ≡ state_at S o).
      absurd (nb (live_is_by o past (same ∙ stored))))
      (λ (left : (1 ≤ o) × (state_at S o ≡ Live) × (state_at B o ≡ Unlinked)). left.2)
      (t.states o))
      (t.links_stay o) (t.words_stay o)

  many : length S ≡ length A
  many = few_put A 0 inside by words None low apart

  pub after_put : B ≡ unlinked_in (shown_in A) S
  after_put = go (shown_in A) refl
    where
      go : (s : ℕ) → shown_in A ≡ s → B ≡ unlinked_in s S
      go zero e = ext_get_or no_node B S t.few (λ i bound. stays i (λ past is. absurd (
          let z = is ∙ e in omega (arith, past, z))))
      go (suc k) e = ext_get_or no_node B (renewed S (suc k) (in_state Unlinked))
          (t.few ∙ sym (length-set S (suc k) (in_state Unlinked (node_at S (suc k)))))
          (λ i bound. dite (ℕ_discrete i (suc k))
          (λ (is : i ≡ suc k).
          let few = t.few in
          ap (node_at B) is
          ∙ (unlinks (suc k) (omega arith) (sym e)
          ∙ (sym (same_node S (suc k) (in_state Unlinked) (omega (arith, bound, is, few)))
          ∙ ap (node_at (renewed S (suc k) (in_state Unlinked))) (sym is))))
          (λ (ne : i ≢ suc k).
          stays i (λ past is. ne (is ∙ e))
          ∙ sym (other_node S (suc k) i (in_state Unlinked) ne)))

  -- one version is still current
  pub one_put : IsOneShown B
  one_put i live = dite (ℕ_discrete i 0) (λ (root : i ≡ 0). inl root)
      (λ (nr : i ≢ 0).
      let is = live_is_by i (omega (arith, nr)) live in
      inr (next_same 0 ∙ (leads ∙ ap suc (sym is)), ap (next_of B) is ∙ (next_same by ∙ ends)))

  pub linked_put : length (node_at B 0).links ≡ 1
  linked_put =
      ap (λ (cells : List ℕ). length cells) (t.links_stay 0)
      ∙ (ap (λ (v : Node). length v.links) at_root
      ∙ (length-set (node_at A 0).links 0 (suc by) ∙ single))

-- a version that a writer of a cell put in is kept and current
module _ (holds : List ℕ → Type 0) (width : ℕ) (before now : Watching Planned)
    (k : IsKept width before.view.client.plan (nodes_in before.view.client.known))
    (few : length (nodes_in before.view.client.known) ≡ before.view.client.plan.nodes)
    (tended : AreTended holds any before.view.client.plan.roots before.view.client.plan.links
    (nodes_in before.view.client.known)) (by : ℕ) (words : List ℕ)
    (done : HasPut holds any before now 0 by words None) where
  abbrev p : Plan
  p = before.view.client.plan

  abbrev A : List Node
  A = nodes_in before.view.client.known

  abbrev B : List Node
  B = nodes_in now.view.client.known

  low : by < length A
  low = let inside = done.inside in omega (arith, inside, few)

  tended_A : AreTended holds any 1 1 A
  tended_A = tended_along_one holds p A k.of_cell.root k.of_cell.one tended

  tended_B : AreTended holds any 1 1 B
  tended_B = subst (λ (n : ℕ). AreTended holds any n 1 B) k.of_cell.root done.kept.tended

  collected : AreCollected 1 1 (put A 0 by words None) B
  collected = subst (λ (n : ℕ). AreCollected n 1 (put A 0 by words None) B) k.of_cell.root
      done.collected

  pub kept_put : IsKept width now.view.client.plan B
  kept_put =
      subst (λ (q : Plan). IsKept width q B)
      (sym (ap (λ (w : Watching Planned). w.view.client.plan) done.state))
      (record {
        of_cell = k.of_cell;
        linked = linked_put holds any A B by words low done.free tended_A k.linked k.one tended_B
            collected;
        one = one_put holds any A B by words low done.free tended_A k.linked k.one tended_B
            collected;
      })

  pub updated : (slot : ℕ) → slot ≡ shown_in A
      → Updated before words (record { slot = slot; by = by }) now
  updated slot is = record {
    free = record { inside = low; free = done.free };
    replaced = is;
    state =
        done.state
        ∙ ap (λ (l : List Node). after_store before (put A 0 by words None) l)
        (after_put holds any A B by words low done.free tended_A k.linked k.one tended_B collected
        ∙ ap (λ (n : ℕ). unlinked_in n (put A 0 by words None)) (sym is));
  }
