-- A writer of a cell keeps its invariant: at first, and after loads of the number.
use Rattle.std.proofs.Common.{◌≡◌, ℕ, zero, suc, ◌<◌, ◌≤◌, ⊎_elim, List, length, refl, sym, ap, ◌∙◌}
use Rattle.std.proofs.Common.{subst, inl, inr, arith}
use Rattle.std.specs.Prelude.{slice_index}
use Rattle.std.proofs.lemmas.Bool.{cases_lt}
use Rattle.rcu_live.specs.Watcher.{Watching}
use Rattle.rcu_graph.specs.Absence.{next_of}
use Rattle.rcu_graph.specs.Nodes.{first_nodes, node_at, nodes_in, state_at}
use Rattle.rcu_graph.specs.Tended.{AreAllUsed, AreTended}
use Rattle.rcu_graph.specs.declared.known.Node.{Node}
use Rattle.rcu_graph.specs.declared.known.Planned.{Planned}
use Rattle.rcu_graph.specs.declared.node_state.NodeState.TheVariants.{Live}
use Rattle.rcu_graph.specs.declared.plan.Plan.{Plan}
use Rattle.rcu_graph.proofs.Counting.{live_inside}
use Rattle.rcu_graph.proofs.FirstNodes.{first_at, is_free, is_root, many_first}
use Rattle.rcu_graph.proofs.Looks.{AreAsLive, was_live}
use Rattle.rcu_graph.proofs.Puts.{free_or_live}
use Rattle.rcu_graph.proofs.Tending.{at_here}
use Rattle.rcu_cell.specs.Cell.{slot_of}
use Rattle.rcu_cell.specs.Versions.{AreVersions, IsKept, IsOfCell, IsOneShown, shown_in}

-- nodes with the same links, of which no other one became live
pub one_still : (A B : List Node) → AreAsLive A B → IsOneShown A → IsOneShown B
one_still A B s one i live =
    ⊎_elim (λ (root : i ≡ 0). inl root)
    (λ (shown : (next_of A 0 ≡ suc i) × (next_of A i ≡ 0)). inr (
      ap (λ (cells : List ℕ). slice_index cells 0) (s.links 0) ∙ shown.0,
      ap (λ (cells : List ℕ). slice_index cells 0) (s.links i) ∙ shown.1,
    ))
    (one i (was_live A B s i live))

pub kept_reclaimed : (width : ℕ) (p q : Plan) (A B : List Node) → q ≡ p → AreAsLive A B
    → IsKept width p A → IsKept width q B
kept_reclaimed width p q A B planned s kept = record {
  of_cell = subst (IsOfCell width) (sym planned) kept.of_cell;
  linked = ap (λ (cells : List ℕ). length cells) (s.links 0) ∙ kept.linked;
  one = one_still A B s kept.one;
}

-- the nodes at first: the root alone is live
module _ (width count : ℕ) (first : ℕ → List ℕ) (some : 0 < count) where
  abbrev firsts : List Node
  firsts = first_nodes 1 width first 1 count

  pub linked_first : length (node_at firsts 0).links ≡ 1
  linked_first =
      ap (λ (v : Node). length v.links)
      (first_at 1 width count first 1 0 some ∙ is_root 1 width count first 1 0 (omega arith))

  pub one_first : IsOneShown firsts
  one_first i live = ⊎_elim (λ (root : i < 1). inl (omega (arith, root)))
      (λ (past : 1 ≤ i).
      let low = live_inside firsts i live in
      let many = many_first 1 width count first 1 in
      absurd (free_or_live (state_at firsts i)
      (ap (λ (v : Node). v.state)
      (first_at 1 width count first 1 i (omega (arith, low, many))
      ∙ is_free 1 width count first 1 i past))
      live))
      (cases_lt i 1)

-- some of the nodes at first are free
pub some_free : (links width count roots : ℕ) (first : ℕ → List ℕ) → roots < count
    → AreAllUsed (first_nodes links width first roots count) → ⊥
some_free links width count roots first low full =
    let many = many_first links width count first roots in
    full roots (omega (arith, many, low))
    (ap (λ (v : Node). v.state)
    (first_at links width count first roots roots low
    ∙ is_free links width count first roots roots (omega arith)))

-- the shown slot is live, and its version is whole
module _ (holds : List ℕ → Type 0) (joins : ℕ → List ℕ → List ℕ → Type 0) (A : List Node)
    (t : AreTended holds joins 1 1 A) where
  pub shown_live : state_at A (shown_in A) ≡ Live
  shown_live = go (next_of A 0) refl
    where
      go : (x : ℕ) → next_of A 0 ≡ x → state_at A (slot_of x) ≡ Live
      go zero e = t.rooted 0 (omega arith)
      go (suc j) e =
          let r = t.led 0 0 (t.rooted 0 (omega arith)) (omega arith) j e in
          ap (λ (v : Node). v.state) (at_here A j r.0 r.1) ∙ r.2

  pub are_versions : IsOneShown A → AreVersions holds A
  are_versions one =
      record { live = shown_live; one = one; whole = t.whole (shown_in A) shown_live }

-- any node may lead to any other one
abbrev pub any : ℕ → List ℕ → List ℕ → Type 0
any l from to = Unit {0}

pub tended_along_one : (holds : List ℕ → Type 0) (p : Plan) (A : List Node)
    → p.roots ≡ 1 → p.links ≡ 1 → AreTended holds any p.roots p.links A
    → AreTended holds any 1 1 A
tended_along_one holds p A root one t =
    subst (λ (n : ℕ). AreTended holds any n 1 A) root
    (subst (λ (n : ℕ). AreTended holds any p.roots n A) one t)

pub kept_first : (width : ℕ) (p : Plan) (writer : Watching Planned) (first : List ℕ)
    → p.roots ≡ 1
    → p.links ≡ 1
    → p.words ≡ width
    → 2 < p.nodes
    → writer.view.client.plan ≡ p
    → nodes_in writer.view.client.known ≡ first_nodes p.links p.words (λ _. first) p.roots p.nodes
    → IsKept width writer.view.client.plan (nodes_in writer.view.client.known)
kept_first width p writer first root one words several planned nodes =
    let is : nodes_in writer.view.client.known ≡ first_nodes 1 p.words (λ _. first) 1 p.nodes =
    nodes
    ∙ (ap (λ (n : ℕ). first_nodes n p.words (λ _. first) p.roots p.nodes) one
    ∙ ap (λ (n : ℕ). first_nodes 1 p.words (λ _. first) n p.nodes) root) in
    let some : 0 < p.nodes = omega (arith, several) in
    subst (λ (q : Plan). IsKept width q (nodes_in writer.view.client.known)) (sym planned)
    (subst (λ (l : List Node). IsKept width p l) (sym is) (record {
      of_cell = record { root = root; one = one; words = words; several = several };
      linked = linked_first p.words p.nodes (λ _. first) some;
      one = one_first p.words p.nodes (λ _. first) some;
    }))
