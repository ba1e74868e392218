-- A run of the table beside an open section: its hops are made by its moments, and the writer's
-- nodes at these are a history.
use Rattle.std.proofs.Common.{◌≡◌, ℕ, zero, suc, ◌<◌, ◌≤◌, Bool, List, [], ◌∷◌, ◌++◌, Option}
use Rattle.std.proofs.Common.{None, Some, refl, sym, ap, ◌∙◌, subst, arith, map}
use Rattle.std.specs.Prelude.{IsSome, slice_index}
use Rattle.std.proofs.Math.Nat.{le-max_left}
use Rattle.std.proofs.lemmas.List.{append_cancel_right}
use mathlib.Core.Option.{some}
use lib.ListN.{get_elem?}
use Rattle.atomic_table.proofs.Lists.{at_map}
use Rattle.rcu_graph.specs.Absence.{AreLinkedWords, AreMadeBy, AreSameFor, IsChained, IsHistory}
use Rattle.rcu_graph.specs.Absence.{IsLinkedKey, IsTrueOf, IsWriterStep, aside, linked}
use Rattle.rcu_graph.specs.Absence as absence
use Rattle.rcu_graph.specs.Beside.{AreOnChain, IsChainOf, IsKeptAt, IsKeptOver, IsOnChain, IsOpenAt}
use Rattle.rcu_graph.specs.Beside.{IsOpenOver, IsSectionMove, IsWriterMove, Moment, cell_of}
use Rattle.rcu_graph.specs.Beside.{followed, led, looked, marked_unlinked, nodes_at, published}
use Rattle.rcu_graph.specs.Beside.{rested, stayed, wrote, wrote_link}
use Rattle.rcu_graph.specs.Nodes.{IsHeld, IsKeeping, IsOn, hops_in, in_state, latest_in, linked_to}
use Rattle.rcu_graph.specs.Nodes.{nodes_in, stored_in, worded}
use Rattle.rcu_graph.specs.Planned.{of_plan, unplanned}
use Rattle.rcu_graph.specs.Search.{IsSearched}
use Rattle.rcu_graph.specs.Steps.{IsFollowed}
use Rattle.rcu_graph.specs.declared.known.Hop.{Hop}
use Rattle.rcu_graph.specs.declared.known.Known.{Known}
use Rattle.rcu_graph.specs.declared.known.Known.TheVariants.{Idle, Owner, Reader, Writer}
use Rattle.rcu_graph.specs.declared.known.Node.{Node}
use Rattle.rcu_graph.specs.declared.node_state.NodeState.TheVariants.{Unlinked}
use Rattle.rcu_graph.specs.declared.plan.Plan.{Plan}
use Rattle.rcu_graph.proofs.Chains.{same_reclaimed, same_where, unseen_where_free}
use Rattle.rcu_graph.proofs.HeldNodes.{chains, held_words, hop_true_then}
use Rattle.rcu_graph.proofs.Hindsight.{not_absent, was_linked, words_were_linked}

-- the nodes' writer knows a number, the nodes, and its stores
is_writer : (known : Known) → IsKeeping known
    → known ≡ Writer (latest_in known) (nodes_in known) (stored_in known)
is_writer Idle keeps = absurd keeps
is_writer Owner keeps = absurd keeps
is_writer (Reader hops) keeps = absurd keeps
is_writer (Writer latest nodes stored) keeps = refl

-- hops that were made by a moment were made by each later one
later_made : (nodes : ℕ → List Node) (s t : ℕ) (hops : List Hop) → s ≤ t → AreMadeBy nodes s hops
    → AreMadeBy nodes t hops
later_made nodes s t [] up made = tt
later_made nodes s t (hop ∷ before) up made =
    let low : made.0 ≤ s = made.1 in (made.0, omega (arith, low, up), made.2, made.3)

-- the hops that the section knows beside those at first were made by this moment
abbrev Made : (ℕ → Moment) → ℕ → Type 0
Made moments t =
    (hops : List Hop)
    × (hops_in (moments t).section ≡ hops ++ hops_in (moments 0).section)
    × AreMadeBy (nodes_at moments) t hops

module _ (fits : Plan → List ℕ → Type 0) (joins : Plan → ℕ → List ℕ → List ℕ → Type 0)
    (first : Plan → ℕ → List ℕ) (plan : Plan) where
  abbrev Shown : ℕ → Moment → Type 0
  Shown writer m = get_elem? (map unplanned m.seats) writer
      ≡ some (None, None, Writer (latest_in m.writer) (nodes_in m.writer) (stored_in m.writer))

  -- the shown part of the writer
  writer_shown : (writer : ℕ) (m : Moment) → IsKeptAt fits joins first plan writer m
      → Shown writer m
  writer_shown writer m k =
      at_map unplanned m.seats writer (None, None, of_plan plan m.writer) k.shown
      ∙ ap (λ (known : Known). some (None, None, known)) (is_writer m.writer k.keeps)

  -- at a moment of the rule the chain of the root is one
  pub chained_at : (ours : List ℕ → Bool) (root writer : ℕ) (m : Moment)
      → IsChainOf joins first plan ours root
      → IsKeptAt fits joins first plan writer m
      → IsChained ours root (nodes_in m.writer)
  chained_at ours root writer m chain k =
      chains (fits plan) (joins plan) (first plan) plan.roots plan.links plan.words plan.nodes ours
      root m.words (map unplanned m.seats) writer (latest_in m.writer) None None
      (nodes_in m.writer) (stored_in m.writer) k.rule.kept (writer_shown writer m k) chain.ascends
      chain.stays chain.inside chain.link chain.own

  -- a load made a hop, which is true of the nodes before it
  hop_made : (writer seat opened : ℕ) (before after : Moment)
      → IsKeptAt fits joins first plan writer before
      → IsKeptAt fits joins first plan writer after
      → IsOpenAt fits joins first plan seat opened before
      → IsOpenAt fits joins first plan seat opened after
      → (node link : ℕ) (words : List ℕ)
      → link < plan.links
      → IsOn (first plan) plan.roots before.section node words
      → IsFollowed (fits plan) (joins plan) (first plan) plan.roots plan.links plan.words plan.nodes
      (cell_of plan node link) before.section
      (slice_index before.words (cell_of plan node link)) after.section
      → after.writer ≡ before.writer
      → (hop : Hop)
      × (hops_in after.section ≡ hop ∷ hops_in before.section)
      × IsTrueOf (nodes_in before.writer) hop
  hop_made writer seat opened before after k l o p node link words low on told same =
      let made = hop_true_then (fits plan) (joins plan) (first plan) plan.roots plan.links
      plan.words plan.nodes before.words after.words
      (map unplanned before.seats) (map unplanned after.seats) writer seat node link
      (latest_in before.writer) None None (Some o.cpu) (Some opened) None None (Some p.cpu)
      (Some opened) (nodes_in before.writer) (stored_in before.writer) before.section after.section
      words k.rule.kept l.rule.kept (writer_shown writer before k)
      (writer_shown writer after l
      ∙ ap (λ (known : Known).
      some (None, None, Writer (latest_in known) (nodes_in known) (stored_in known))) same)
      (at_map unplanned before.seats seat (Some o.cpu, Some opened, of_plan plan before.section)
      o.shown)
      (at_map unplanned after.seats seat (Some p.cpu, Some opened, of_plan plan after.section)
      p.shown)
      o.reads on low told in
      (made.0, made.1, made.4)

  -- the hops that a section makes over a run are made by its moments
  pub made_over : (writer seat opened last : ℕ) (moments : ℕ → Moment)
      → IsKeptOver fits joins first plan writer last moments
      → IsOpenOver fits joins first plan seat opened last moments
      → (t : ℕ) → t ≤ last → Made moments t
  made_over writer seat opened last moments kept walks zero low = ([], refl, tt)
  made_over writer seat opened last moments kept walks (suc t) low =
      let was = made_over writer seat opened last moments kept walks t (omega (arith, low)) in
      goes (walks.moves t (omega (arith, low))) was
    where
      goes : IsSectionMove fits joins first plan (moments t) (moments (suc t)) → Made moments t
          → Made moments (suc t)
      goes (stayed same) was = (
        was.0,
        ap hops_in same ∙ was.1,
        later_made (nodes_at moments) t (suc t) was.0 (omega arith) was.2,
      )
      goes (followed node link words inside on told same) was =
          let made = hop_made writer seat opened (moments t) (moments (suc t))
          (kept.at t (omega (arith, low))) (kept.at (suc t) low) (walks.at t (omega (arith, low)))
          (walks.at (suc t) low) node link words inside on told.1 same in (
            made.0 ∷ was.0,
            made.1 ∙ ap (λ (hops : List Hop). made.0 ∷ hops) was.1,
            (t, omega arith, made.2, was.2),
          )

  -- a move of the writer is a step of such histories
  move_is_step : (ours : List ℕ → Bool) (seat opened root : ℕ) (before after : Moment)
      → IsOpenAt fits joins first plan seat opened before
      → (move : IsWriterMove plan before after) → IsOnChain plan before after ours root move
      → IsWriterStep ours opened root (nodes_in before.writer) (nodes_in after.writer)
  move_is_step ours seat opened root before after o (rested same) on =
      aside (subst (λ (known : Known). AreSameFor opened (nodes_in before.writer) (nodes_in known))
      (sym same) (λ i may. (may, refl, refl)))
  move_is_step ours seat opened root before after o (wrote node word value low free told) on =
      aside (subst (λ (known : Known). AreSameFor opened (nodes_in before.writer) (nodes_in known))
      (sym (told.1 node word low refl))
      (unseen_where_free opened (nodes_in before.writer) node (worded word value) free))
  move_is_step ours seat opened root before after o (wrote_link node link value low free told) on =
      aside (subst (λ (known : Known). AreSameFor opened (nodes_in before.writer) (nodes_in known))
      (sym (told.1 node link low refl))
      (unseen_where_free opened (nodes_in before.writer) node (linked_to link value) free))
  move_is_step ours seat opened root before after o (led node link value low live told) on =
      linked node link value on (ap nodes_in (told.1 node link low refl))
  move_is_step ours seat opened root before after o (published from link to low live free told) on =
      absence.published from link to live free on
      (ap nodes_in (told.1 from link to low refl refl))
  move_is_step ours seat opened root before after o (marked_unlinked node value low told) on =
      aside (subst (λ (known : Known). AreSameFor opened (nodes_in before.writer) (nodes_in known))
      (sym (told.1 node 0 low refl))
      (same_where opened (nodes_in before.writer) node (in_state Unlinked)
      (λ may. (tt, refl, refl))))
  move_is_step ours seat opened root before after o (looked number opens told) on =
      aside (subst (λ (known : Known). AreSameFor opened (nodes_in before.writer) (nodes_in known))
      (sym told.1)
      (same_reclaimed opened number _ (nodes_in before.writer)
      (le-max_left number (latest_in before.writer))
      (opens seat opened (Some o.cpu) (of_plan plan before.section) o.shown)))

  pub history_over : (ours : List ℕ → Bool) (root writer seat opened last : ℕ)
      (moments : ℕ → Moment)
      → IsChainOf joins first plan ours root
      → (kept : IsKeptOver fits joins first plan writer last moments)
      → IsOpenOver fits joins first plan seat opened last moments
      → AreOnChain fits joins first plan ours root writer last moments kept
      → IsHistory ours opened root last (nodes_at moments)
  history_over ours root writer seat opened last moments chain kept walks on = record {
    chained = λ t low. chained_at ours root writer (moments t) chain (kept.at t low);
    steps = λ t low. move_is_step ours seat opened root (moments t) (moments (suc t))
        (walks.at t (omega (arith, low))) (kept.moves t low) (on t low);
  }

  -- a search over a run is made by its moments
  search_made : (root key writer seat opened last : ℕ) (moments : ℕ → Moment) (found : Option ℕ)
      → IsKeptOver fits joins first plan writer last moments
      → IsOpenOver fits joins first plan seat opened last moments
      → (search : IsSearched root key (moments 0).section found (moments last).section)
      → AreMadeBy (nodes_at moments) last (search.last ∷ search.path)
  search_made root key writer seat opened last moments found kept walks search =
      let made = made_over writer seat opened last moments kept walks last (omega arith) in
      subst (AreMadeBy (nodes_at moments) last)
      (append_cancel_right made.0 (search.last ∷ search.path) (hops_in (moments 0).section)
      (sym made.1 ∙ search.are))
      made.2

  module _ (ours : List ℕ → Bool) (root key writer seat opened last : ℕ) (moments : ℕ → Moment)
      (chain : IsChainOf joins first plan ours root)
      (kept : IsKeptOver fits joins first plan writer last moments)
      (walks : IsOpenOver fits joins first plan seat opened last moments)
      (on : AreOnChain fits joins first plan ours root writer last moments kept) where
    pub found_over : (found : Option ℕ)
        → IsSearched root key (moments 0).section found (moments last).section
        → ((t : ℕ) → t ≤ last → IsLinkedKey root key (nodes_at moments t))
        → IsSome found
    found_over found search all =
        not_absent ours opened root key last (nodes_at moments)
        (history_over ours root writer seat opened last moments chain kept walks on) all
        (moments 0).section (moments last).section found search
        (search_made root key writer seat opened last moments found kept walks search)

    pub linked_over : (node : ℕ)
        → IsSearched root key (moments 0).section (Some node) (moments last).section
        → (t : ℕ) × (t ≤ last) × IsLinkedKey root key (nodes_at moments t)
    linked_over node search =
        was_linked ours opened root last (nodes_at moments)
        (history_over ours root writer seat opened last moments chain kept walks on) key
        (moments 0).section (moments last).section node search
        (search_made root key writer seat opened last moments (Some node) kept walks search)

    -- the words with which the section finally holds the node that it found were linked
    pub words_over : (node : ℕ) (words : List ℕ)
        → IsSearched root key (moments 0).section (Some node) (moments last).section
        → IsHeld (moments last).section node words
        → (t : ℕ) × (t ≤ last) × AreLinkedWords root words (nodes_at moments t)
    words_over node words search held =
        let m : Moment = moments last in
        let k = kept.at last (omega arith) in
        let o = walks.at last (omega arith) in
        words_were_linked ours opened root last (nodes_at moments)
        (history_over ours root writer seat opened last moments chain kept walks on) key
        (moments 0).section m.section node search words
        (search_made root key writer seat opened last moments (Some node) kept walks search)
        (held_words (fits plan) (joins plan) (first plan) plan.roots plan.links plan.words
        plan.nodes m.words (map unplanned m.seats) writer seat node (latest_in m.writer) None None
        (Some o.cpu) (Some opened) (nodes_in m.writer) (stored_in m.writer) m.section words
        k.rule.kept
        (writer_shown writer m k)
        (at_map unplanned m.seats seat (Some o.cpu, Some opened, of_plan plan m.section) o.shown)
        o.reads held)
