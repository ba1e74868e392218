-- Between two stores that lead a live node elsewhere the same keys are linked.
use Rattle.std.proofs.Common.{◌≡◌, ◌≢◌, ◌⊎◌, ℕ, zero, suc, ◌+◌, ◌-◌, ◌<◌, ◌≤◌, Bool, List, length}
use Rattle.std.proofs.Common.{refl, sym, ap, ◌∙◌, subst, inl, inr, arith, ⊎_elim, length-set}
use Rattle.std.specs.Prelude.{IsTrue, slice_index}
use Rattle.std.proofs.lemmas.Bool.{cases_lt}
use Rattle.std.proofs.lemmas.List.{length-map}
use mathlib.Core.Logic.{dite}
use native.Mathlib.Decide.{ℕ_discrete}
use Rattle.rcu_graph.specs.Absence.{AreLinkedWords, IsChained, IsLinkedKey, IsOnIfOurs, Reaches}
use Rattle.rcu_graph.specs.Absence.{arrived, key_at, next_of, onwards}
use Rattle.rcu_graph.specs.Beside.{IsChainOf, IsKeptOver, IsOnChain, IsWriterMove, Moment, led}
use Rattle.rcu_graph.specs.Beside.{looked, marked_unlinked, nodes_at, published, rested, wrote}
use Rattle.rcu_graph.specs.Beside.{wrote_link}
use Rattle.rcu_graph.specs.Nodes.{in_state, linked_to, node_at, nodes_in, reclaimed, reclaimed_node}
use Rattle.rcu_graph.specs.Nodes.{renewed, state_at, stored_in, worded}
use Rattle.rcu_graph.specs.declared.known.Known.{Known}
use Rattle.rcu_graph.specs.declared.known.Node.{Node}
use Rattle.rcu_graph.specs.declared.node_state.NodeState.TheVariants.{Free, Live, Unlinked}
use Rattle.rcu_graph.specs.declared.plan.Plan.{Plan}
use Rattle.rcu_graph.proofs.Beside.{chained_at}
use Rattle.rcu_graph.proofs.Chains.{reclaimed_at}
use Rattle.rcu_graph.proofs.Counting.{kept_at, live_inside, other_node, same_state}
use Rattle.rcu_graph.proofs.States.{live_reclaimed, not_both, not_unlinked}

-- if the links of live nodes lead to live ones, each node to which they lead on is live
pub live_reached : (nodes : List Node)
    → ((from next : ℕ) → state_at nodes from ≡ Live → next_of nodes from ≡ suc next
    → state_at nodes next ≡ Live)
    → (to from : ℕ) → state_at nodes from ≡ Live → Reaches nodes to from → state_at nodes to ≡ Live
live_reached nodes on to from live (arrived _ e) =
    subst (λ (n : ℕ). state_at nodes n ≡ Live) e live
live_reached nodes on to from live (onwards _ n is r) =
    live_reached nodes on to n (on from n live is) r

-- keys linked by live nodes are so in all nodes that have the same links and words
module _ (ours : List ℕ → Bool) (root : ℕ) (A B : List Node) (c : IsChained ours root A)
    (same : (y : ℕ) → state_at A y ≡ Live
    → (next_of B y ≡ next_of A y) × (key_at B y ≡ key_at A y)) where
  pub reached_on : (to from : ℕ) → state_at A from ≡ Live → Reaches A to from → Reaches B to from
  reached_on to from live (arrived _ e) = arrived from e
  reached_on to from live (onwards _ n is r) =
      onwards from n ((same from live).0 ∙ is) (reached_on to n (c.live from n live is) r)

  pub linked_on : (key : ℕ) → IsLinkedKey root key A → IsLinkedKey root key B
  linked_on key k =
      let first = c.live root k.begin c.rooted k.begins in record {
        begin = k.begin;
        holder = k.holder;
        begins = (same root c.rooted).0 ∙ k.begins;
        reached = reached_on k.holder k.begin first k.reached;
        has = (same k.holder (live_reached A c.live k.holder k.begin first k.reached)).1 ∙ k.has;
      }

  -- and so are words, if each live node has its own
  pub words_on : (words : List ℕ)
      → ((y : ℕ) → state_at A y ≡ Live → (node_at B y).words ≡ (node_at A y).words)
      → AreLinkedWords root words A → AreLinkedWords root words B
  words_on words alike k =
      let first = c.live root k.begin c.rooted k.begins in record {
        begin = k.begin;
        holder = k.holder;
        begins = (same root c.rooted).0 ∙ k.begins;
        reached = reached_on k.holder k.begin first k.reached;
        are = alike k.holder (live_reached A c.live k.holder k.begin first k.reached) ∙ k.are;
      }

-- no node became live, and each live one has its links and words
record AreQuiet (A B : List Node) : Type 0 where
  pub live : (y : ℕ) → state_at B y ≡ Live → state_at A y ≡ Live
  pub links : (y : ℕ) → state_at A y ≡ Live → (node_at B y).links ≡ (node_at A y).links
  pub words : (y : ℕ) → state_at A y ≡ Live → (node_at B y).words ≡ (node_at A y).words

-- each live node is on the chain, if it is one of the chain's
abbrev pub AreAllOn : (List ℕ → Bool) → ℕ → List Node → Type 0
AreAllOn ours root nodes = (i : ℕ) → state_at nodes i ≡ Live → IsOnIfOurs ours root nodes i

module _ (A : List Node) where
  same_quiet : AreQuiet A A
  same_quiet = record { live = λ y on. on; links = λ y on. refl; words = λ y on. refl }

  free_quiet : (node : ℕ) (f : Node → Node) → state_at A node ≡ Free
      → (f (node_at A node)).state ≡ state_at A node
      → AreQuiet A (renewed A node f)
  free_quiet node f free still = record {
    live = λ y on.
        let few : length (renewed A node f) ≡ length A = length-set A node (f (node_at A node)) in
        let inner = live_inside (renewed A node f) y on in
        dite (ℕ_discrete y node)
        (λ (is : y ≡ node).
        sym (kept_at (λ (v : Node). v.state) A node y f (omega (arith, is, inner, few)) still) ∙ on)
        (λ (ne : y ≢ node). sym (ap (λ (v : Node). v.state) (other_node A node y f ne)) ∙ on);
    links = λ y on. ap (λ (v : Node). v.links) (other_node A node y f (apart y on));
    words = λ y on. ap (λ (v : Node). v.words) (other_node A node y f (apart y on));
  }
    where
      apart : (y : ℕ) → state_at A y ≡ Live → y ≢ node
      apart y on is = not_both (state_at A y) on (ap (λ (n : ℕ). state_at A n) is ∙ free)

  unlinked_quiet : (node : ℕ) → AreQuiet A (renewed A node (in_state Unlinked))
  unlinked_quiet node = record {
    live = λ y on. dite (ℕ_discrete y node)
        (λ (is : y ≡ node).
        let few : length (renewed A node (in_state Unlinked)) ≡ length A =
        length-set A node (in_state Unlinked (node_at A node)) in
        let inner = live_inside (renewed A node (in_state Unlinked)) y on in
        absurd (none y is (omega (arith, is, inner, few)) on))
        (λ (ne : y ≢ node).
        sym (ap (λ (v : Node). v.state) (other_node A node y (in_state Unlinked) ne)) ∙ on);
    links = λ y on. of_links y (live_inside A y on);
    words = λ y on. of_words y (live_inside A y on);
  }
    where
      none : (y : ℕ) → y ≡ node → node < length A
          → state_at (renewed A node (in_state Unlinked)) y ≡ Live → ⊥
      none y is low on = not_unlinked (state_at (renewed A node (in_state Unlinked)) y) on
          (ap (λ (n : ℕ). state_at (renewed A node (in_state Unlinked)) n) is
          ∙ same_state A node Unlinked low)

      of_links : (y : ℕ) → y < length A
          → (node_at (renewed A node (in_state Unlinked)) y).links ≡ (node_at A y).links
      of_links y low = dite (ℕ_discrete y node)
          (λ (is : y ≡ node). kept_at (λ (v : Node). v.links) A node y (in_state Unlinked)
          (omega (arith, is, low)) refl)
          (λ (ne : y ≢ node). ap (λ (v : Node). v.links)
          (other_node A node y (in_state Unlinked) ne))

      of_words : (y : ℕ) → y < length A
          → (node_at (renewed A node (in_state Unlinked)) y).words ≡ (node_at A y).words
      of_words y low = dite (ℕ_discrete y node)
          (λ (is : y ≡ node). kept_at (λ (v : Node). v.words) A node y (in_state Unlinked)
          (omega (arith, is, low)) refl)
          (λ (ne : y ≢ node). ap (λ (v : Node). v.words)
          (other_node A node y (in_state Unlinked) ne))

  reclaimed_quiet : (n m : ℕ) → AreQuiet A (reclaimed n m A)
  reclaimed_quiet n m = record {
    live = λ y on.
        let inner = live_inside (reclaimed n m A) y on in
        let few : length (reclaimed n m A) ≡ length A = length-map A (reclaimed_node n m) in
        live_reclaimed n m (state_at A y)
        (sym (ap (λ (v : Node). v.state) (reclaimed_at n m A y (omega (arith, inner, few)))) ∙ on);
    links = λ y on. ap (λ (v : Node). v.links) (reclaimed_at n m A y (live_inside A y on));
    words = λ y on. ap (λ (v : Node). v.words) (reclaimed_at n m A y (live_inside A y on));
  }

-- how many stores the writer knows of
abbrev pub stores_of : Moment → ℕ
stores_of m = length (stored_in m.writer)

module _ (plan : Plan) (before after : Moment) where
  pub move_grows : IsWriterMove plan before after → stores_of before ≤ stores_of after
  move_grows (rested same) =
      let e = ap (λ (k : Known). length (stored_in k)) same in omega (arith, e)
  move_grows (wrote node word value low free told) =
      let e = ap (λ (k : Known). length (stored_in k)) (told.1 node word low refl) in
      omega (arith, e)
  move_grows (wrote_link node link value low free told) =
      let e = ap (λ (k : Known). length (stored_in k)) (told.1 node link low refl) in
      omega (arith, e)
  move_grows (led node link value low live told) =
      let e = ap (λ (k : Known). length (stored_in k)) (told.1 node link low refl) in
      omega (arith, e)
  move_grows (published from link to low live free told) =
      let e = ap (λ (k : Known). length (stored_in k)) (told.1 from link to low refl refl) in
      omega (arith, e)
  move_grows (marked_unlinked node value low told) =
      let e = ap (λ (k : Known). length (stored_in k)) (told.1 node 0 low refl) in
      omega (arith, e)
  move_grows (looked number opens told) =
      let e = ap (λ (k : Known). length (stored_in k)) told.1 in omega (arith, e)

  -- a move that is no such store is quiet
  move_quiet : IsWriterMove plan before after → stores_of after ≤ stores_of before
      → AreQuiet (nodes_in before.writer) (nodes_in after.writer)
  move_quiet (rested same) few =
      subst (λ (k : Known). AreQuiet (nodes_in before.writer) (nodes_in k)) (sym same)
      (same_quiet (nodes_in before.writer))
  move_quiet (wrote node word value low free told) few =
      subst (λ (k : Known). AreQuiet (nodes_in before.writer) (nodes_in k))
      (sym (told.1 node word low refl))
      (free_quiet (nodes_in before.writer) node (worded word value) free refl)
  move_quiet (wrote_link node link value low free told) few =
      subst (λ (k : Known). AreQuiet (nodes_in before.writer) (nodes_in k))
      (sym (told.1 node link low refl))
      (free_quiet (nodes_in before.writer) node (linked_to link value) free refl)
  move_quiet (led node link value low live told) few =
      let e = ap (λ (k : Known). length (stored_in k)) (told.1 node link low refl) in
      absurd (omega (arith, e, few))
  move_quiet (published from link to low live free told) few =
      let e = ap (λ (k : Known). length (stored_in k)) (told.1 from link to low refl refl) in
      absurd (omega (arith, e, few))
  move_quiet (marked_unlinked node value low told) few =
      subst (λ (k : Known). AreQuiet (nodes_in before.writer) (nodes_in k))
      (sym (told.1 node 0 low refl)) (unlinked_quiet (nodes_in before.writer) node)
  move_quiet (looked number opens told) few =
      subst (λ (k : Known). AreQuiet (nodes_in before.writer) (nodes_in k)) (sym told.1)
      (reclaimed_quiet (nodes_in before.writer) _ _)

-- the chain after a quiet move
module _ (ours : List ℕ → Bool) (root : ℕ) (A B : List Node) (a : IsChained ours root A)
    (b : IsChained ours root B) (q : AreQuiet A B) where
  ahead : (y : ℕ) → state_at A y ≡ Live
      → (next_of B y ≡ next_of A y) × (key_at B y ≡ key_at A y)
  ahead y on = (
    ap (λ (links : List ℕ). slice_index links 0) (q.links y on),
    ap (λ (words : List ℕ). slice_index words 0) (q.words y on),
  )

  back : (y : ℕ) → state_at B y ≡ Live
      → (next_of A y ≡ next_of B y) × (key_at A y ≡ key_at B y)
  back y on = (sym (ahead y (q.live y on)).0, sym (ahead y (q.live y on)).1)

  linked_then : (key : ℕ) → IsLinkedKey root key A → IsLinkedKey root key B
  linked_then = linked_on ours root A B a ahead

  linked_before : (key : ℕ) → IsLinkedKey root key B → IsLinkedKey root key A
  linked_before = linked_on ours root B A b back

  words_then : (words : List ℕ) → AreLinkedWords root words A → AreLinkedWords root words B
  words_then words = words_on ours root A B a ahead words q.words

  words_before : (words : List ℕ) → AreLinkedWords root words B → AreLinkedWords root words A
  words_before words =
      words_on ours root B A b back words (λ y on. sym (q.words y (q.live y on)))

  all_on_then : AreAllOn ours root A → AreAllOn ours root B
  all_on_then all i on mine = reached_on ours root A B a ahead i root a.rooted
      (all i (q.live i on)
      (subst (λ (words : List ℕ). IsTrue (ours words)) (q.words i (q.live i on)) mine))

module _ (fits : Plan → List ℕ → Type 0) (joins : Plan → ℕ → List ℕ → List ℕ → Type 0)
    (first : Plan → ℕ → List ℕ) (plan : Plan) (ours : List ℕ → Bool) (root writer last : ℕ)
    (moments : ℕ → Moment) (chain : IsChainOf joins first plan ours root)
    (kept : IsKeptOver fits joins first plan writer last moments) where
  abbrev stores_at : ℕ → ℕ
  stores_at t = stores_of (moments t)

  grows : (s d t : ℕ) → t ≡ s + d → t ≤ last → stores_at s ≤ stores_at t
  grows s zero t e low =
      let same : stores_at s ≡ stores_at t = ap stores_at (omega (arith, e)) in
      omega (arith, same)
  grows s (suc d) t e low =
      let u : ℕ = s + d in
      let next : t ≡ suc u = omega (arith, e) in
      let was = grows s d u refl (omega (arith, next, low)) in
      let move = move_grows plan (moments u) (moments (suc u))
      (kept.moves u (omega (arith, next, low))) in
      let same : stores_at (suc u) ≡ stores_at t = ap stores_at (sym next) in
      omega (arith, was, move, same)

  -- a property that each quiet move keeps holds until the next store
  carried : (P : ℕ → Type 0)
      → ((t : ℕ) → t < last → stores_at (suc t) ≤ stores_at t → P t → P (suc t))
      → (s d t : ℕ) → t ≡ s + d → t ≤ last → stores_at t ≤ stores_at s → P s → P t
  carried P move s zero t e low few p = subst P (omega (arith, e)) p
  carried P move s (suc d) t e low few p =
      let u : ℕ = s + d in
      let next : t ≡ suc u = omega (arith, e) in
      let same : stores_at (suc u) ≡ stores_at t = ap stores_at (sym next) in
      let before = grows s d u refl (omega (arith, next, low)) in
      let then = move_grows plan (moments u) (moments (suc u))
      (kept.moves u (omega (arith, next, low))) in
      subst P (sym next)
      (move u (omega (arith, next, low)) (omega (arith, same, few, before))
      (carried P move s d u refl (omega (arith, next, low)) (omega (arith, same, few, then)) p))

  chained : (t : ℕ) → t ≤ last → IsChained ours root (nodes_at moments t)
  chained t low = chained_at fits joins first plan ours root writer (moments t) chain
      (kept.at t low)

  quiet : (t : ℕ) → t < last → stores_at (suc t) ≤ stores_at t
      → AreQuiet (nodes_at moments t) (nodes_at moments (suc t))
  quiet t low few = move_quiet plan (moments t) (moments (suc t)) (kept.moves t low) few

  pub linked_on_to : (key s t : ℕ) → s ≤ t → t ≤ last → stores_at t ≤ stores_at s
      → IsLinkedKey root key (nodes_at moments s) → IsLinkedKey root key (nodes_at moments t)
  linked_on_to key s t up low few =
      carried (λ n. IsLinkedKey root key (nodes_at moments n))
      (λ n under none. linked_then ours root (nodes_at moments n) (nodes_at moments (suc n))
      (chained n (omega (arith, under))) (chained (suc n) (omega (arith, under)))
      (quiet n under none) key)
      s (t - s) t (omega (arith, up)) low few

  pub linked_back_to : (key s t : ℕ) → s ≤ t → t ≤ last → stores_at t ≤ stores_at s
      → IsLinkedKey root key (nodes_at moments t) → IsLinkedKey root key (nodes_at moments s)
  linked_back_to key s t up low few =
      carried (λ n. IsLinkedKey root key (nodes_at moments n)
      → IsLinkedKey root key (nodes_at moments s))
      (λ n under none was is. was
      (linked_before ours root (nodes_at moments n) (nodes_at moments (suc n))
      (chained n (omega (arith, under))) (chained (suc n) (omega (arith, under)))
      (quiet n under none) key is))
      s (t - s) t (omega (arith, up)) low few (λ is. is)

  words_on_to : (words : List ℕ) (s t : ℕ) → s ≤ t → t ≤ last → stores_at t ≤ stores_at s
      → AreLinkedWords root words (nodes_at moments s)
      → AreLinkedWords root words (nodes_at moments t)
  words_on_to words s t up low few =
      carried (λ n. AreLinkedWords root words (nodes_at moments n))
      (λ n under none. words_then ours root (nodes_at moments n) (nodes_at moments (suc n))
      (chained n (omega (arith, under))) (chained (suc n) (omega (arith, under)))
      (quiet n under none) words)
      s (t - s) t (omega (arith, up)) low few

  words_back_to : (words : List ℕ) (s t : ℕ) → s ≤ t → t ≤ last → stores_at t ≤ stores_at s
      → AreLinkedWords root words (nodes_at moments t)
      → AreLinkedWords root words (nodes_at moments s)
  words_back_to words s t up low few =
      carried (λ n. AreLinkedWords root words (nodes_at moments n)
      → AreLinkedWords root words (nodes_at moments s))
      (λ n under none was is. was
      (words_before ours root (nodes_at moments n) (nodes_at moments (suc n))
      (chained n (omega (arith, under))) (chained (suc n) (omega (arith, under)))
      (quiet n under none) words is))
      s (t - s) t (omega (arith, up)) low few (λ is. is)

  all_on_to : (s t : ℕ) → s ≤ t → t ≤ last → stores_at t ≤ stores_at s
      → AreAllOn ours root (nodes_at moments s) → AreAllOn ours root (nodes_at moments t)
  all_on_to s t up low few =
      carried (λ n. AreAllOn ours root (nodes_at moments n))
      (λ n under none. all_on_then ours root (nodes_at moments n) (nodes_at moments (suc n))
      (chained n (omega (arith, under))) (chained (suc n) (omega (arith, under)))
      (quiet n under none))
      s (t - s) t (omega (arith, up)) low few

  -- between two moments the writer made at most one store
  module _ (s u : ℕ) (end : u ≤ last) (one : stores_at u ≤ suc (stores_at s)) where
    -- a key that is linked at both is linked between
    pub linked_between : (key t : ℕ) → s ≤ t → t ≤ u
        → IsLinkedKey root key (nodes_at moments s)
        → IsLinkedKey root key (nodes_at moments u)
        → IsLinkedKey root key (nodes_at moments t)
    linked_between key t from to was is = ⊎_elim
        (λ (past : stores_at s < stores_at t).
        linked_back_to key t u to end (omega (arith, past, one)) is)
        (λ (not_yet : stores_at t ≤ stores_at s).
        linked_on_to key s t from (omega (arith, to, end)) not_yet was)
        (cases_lt (stores_at s) (stores_at t))

    -- and one that is linked between was so at one of them
    pub linked_at_one : (key t : ℕ) → s ≤ t → t ≤ u
        → IsLinkedKey root key (nodes_at moments t)
        → IsLinkedKey root key (nodes_at moments s) ⊎ IsLinkedKey root key (nodes_at moments u)
    linked_at_one key t from to is = ⊎_elim
        (λ (past : stores_at s < stores_at t).
        inr (linked_on_to key t u to end (omega (arith, past, one)) is))
        (λ (not_yet : stores_at t ≤ stores_at s).
        inl (linked_back_to key s t from (omega (arith, to, end)) not_yet is))
        (cases_lt (stores_at s) (stores_at t))

    -- so it is of words
    pub words_at_one : (words : List ℕ) (t : ℕ) → s ≤ t → t ≤ u
        → AreLinkedWords root words (nodes_at moments t)
        → AreLinkedWords root words (nodes_at moments s)
        ⊎ AreLinkedWords root words (nodes_at moments u)
    words_at_one words t from to is = ⊎_elim
        (λ (past : stores_at s < stores_at t).
        inr (words_on_to words t u to end (omega (arith, past, one)) is))
        (λ (not_yet : stores_at t ≤ stores_at s).
        inl (words_back_to words s t from (omega (arith, to, end)) not_yet is))
        (cases_lt (stores_at s) (stores_at t))

    -- if each live node was on its chain, the one that was led elsewhere was
    pub on_chain_between : AreAllOn ours root (nodes_at moments s)
        → (t : ℕ) (low : t < last) → s ≤ t → t < u
        → IsOnChain plan (moments t) (moments (suc t)) ours root (kept.moves t low)
    on_chain_between all t low from to =
        goes (kept.moves t low) (grows (suc t) (u - suc t) u (omega (arith, to)) end)
      where
        goes : (move : IsWriterMove plan (moments t) (moments (suc t)))
            → stores_at (suc t) ≤ stores_at u
            → IsOnChain plan (moments t) (moments (suc t)) ours root move
        goes (rested same) more = tt
        goes (wrote node word value inside free told) more = tt
        goes (wrote_link node link value inside free told) more = tt
        goes (led node link value inside live told) more =
            let e = ap (λ (k : Known). length (stored_in k)) (told.1 node link inside refl) in
            all_on_to s t from (omega (arith, low)) (omega (arith, e, more, one)) all node live
        goes (published before link after inside live free told) more =
            let e = ap (λ (k : Known). length (stored_in k))
            (told.1 before link after inside refl refl) in
            all_on_to s t from (omega (arith, low)) (omega (arith, e, more, one)) all before live
        goes (marked_unlinked node value inside told) more = tt
        goes (looked number opens told) more = tt
