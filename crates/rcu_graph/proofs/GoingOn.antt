-- A run beside an open section goes on by each step that a seat may make.
use Rattle.std.proofs.Common.{◌≡◌, ◌≢◌, ℕ, suc, ◌+◌, ◌<◌, ◌≤◌, List, ◌∷◌, Option, None, Some}
use Rattle.std.proofs.Common.{length, refl, sym, ap, ◌∙◌, subst, set}
use Rattle.std.specs.Prelude.{IsSome, max, slice_index, slice_set}
use mathlib.Core.Option.{some, some-injective}
use lib.ListN.{get_elem?}
use Rattle.atomic_table.proofs.Lists.{set_else, set_here}
use Rattle.rcu_live.specs.Client.{ClientView, Views}
use Rattle.rcu_live.proofs.ClientRows.{inside}
use Rattle.rcu_graph.specs.Beside.{CanGoOn, GoesOn, IsWriterMove, Moment, cell_of, followed, led}
use Rattle.rcu_graph.specs.Beside.{looked, marked_unlinked, published, rested, stayed, wrote}
use Rattle.rcu_graph.specs.Beside.{wrote_link}
use Rattle.rcu_graph.specs.Writer.{IsReady}
use Rattle.rcu_graph.specs.Nodes.{IsKeeping, IsOn, IsReader, IsTarget, IsUnlinked, hops_in}
use Rattle.rcu_graph.specs.Nodes.{in_state, latest_in, linked_to, node_at, nodes_in, reclaimed}
use Rattle.rcu_graph.specs.Nodes.{renewed, state_at, stored_in, worded}
use Rattle.rcu_graph.specs.Planned.{IsKeptBy, of_plan}
use Rattle.rcu_graph.specs.Steps.{IsFollowed, IsLinkWritten, IsLinked, IsMarkedUnlinked}
use Rattle.rcu_graph.specs.Steps.{IsPublished, IsReclaimed, IsWritten, keeping, storing}
use Rattle.rcu_graph.specs.declared.known.Hop.{Hop}
use Rattle.rcu_graph.specs.declared.known.Known.{Known}
use Rattle.rcu_graph.specs.declared.known.Known.TheVariants.{Writer}
use Rattle.rcu_graph.specs.declared.known.Planned.{Planned}
use Rattle.rcu_graph.specs.declared.node_state.NodeState.TheVariants.{Free, Live, Unlinked}
use Rattle.rcu_graph.specs.declared.plan.Plan.{Plan}
use Rattle.rcu_graph.proofs.At.{follows_at, links_at, marks_unlinked_at, publishes_at, reclaims_at}
use Rattle.rcu_graph.proofs.At.{writes_at, writes_link_at}
use Rattle.rcu_graph.proofs.Planned.{number_at, word_at}

pub some_is_some : (n : ℕ) → Some n ≡ None → ⊥
some_is_some n e = cc

-- the owner of a seat distinguishes it from others
apart : (xs : Views Planned) (i j cpu : ℕ) (section own : Option ℕ) (was known : Planned)
    → get_elem? xs i ≡ some (Some cpu, section, was) → get_elem? xs j ≡ some (None, own, known)
    → j ≢ i
apart xs i j cpu section own was known at kept same = some_is_some cpu
    (ap (λ (x : ClientView Planned). x.0)
    (some-injective _ _ (sym at ∙ (ap (λ (n : ℕ). get_elem? xs n) (sym same) ∙ kept))))

of_its_plan : (now : Planned) (plan : Plan) → now.plan ≡ plan → now ≡ of_plan plan now.known
of_its_plan now plan e = ap (λ (p : Plan). of_plan p now.known) e

module _ (fits : Plan → List ℕ → Type 0) (joins : Plan → ℕ → List ℕ → List ℕ → Type 0)
    (first : Plan → ℕ → List ℕ) (plan : Plan) (writer seat opened number : ℕ) (before : Moment)
    (can : CanGoOn fits joins first plan writer seat opened number before) where
  abbrev Goes : Moment → Type 0
  Goes after = GoesOn fits joins first plan writer seat opened before after

  abbrev kept : List ℕ → Views Planned → Type 0
  kept = IsKeptBy fits joins first plan

  -- the section makes a hop
  pub hop_goes : (node link : ℕ) (words : List ℕ)
      → link < plan.links
      → IsOn (first plan) plan.roots before.section node words
      → (after : Moment)
      × Goes after
      × (hop : Hop)
      × (hops_in after.section ≡ hop ∷ hops_in before.section)
      × (hop.from ≡ node)
      × (hop.link ≡ link)
  hop_goes node link words low on =
      let place : ℕ = cell_of plan node link in
      let cpu : ℕ = can.is_open.cpu in
      let is_open : IsSome (Some opened) = refl in
      let r = word_at fits joins first (Some cpu) (Some opened) (of_plan plan before.section) plan
      refl place (λ n. n)
      (IsFollowed (fits plan) (joins plan) (first plan) plan.roots plan.links plan.words plan.nodes
      place before.section)
      (follows_at (fits plan) (joins plan) (first plan) plan.roots plan.links plan.words plan.nodes
      (Some cpu) (Some opened) before.section node link place is_open can.is_open.reads (words, on)
      low refl)
      number before.words before.seats seat can.kept.rule can.current can.lone
      can.is_open.shown in
      let now : Planned = r.0 in
      let told = r.2 in
      let f = told.1 node link words low refl on in
      let x : ClientView Planned = (Some cpu, Some opened, now) in
      let after : Moment = record {
        words = slice_set before.words place (slice_index before.words place);
        seats = slice_set before.seats seat x;
        writer = before.writer;
        section = now.known;
      } in (
        after,
        record {
          kept = record {
            rule = r.1;
            shown = set_else before.seats seat writer x
                (apart before.seats seat writer cpu (Some opened) None
                (of_plan plan before.section) (of_plan plan before.writer) can.is_open.shown
                can.kept.shown)
                ∙ can.kept.shown;
            keeps = can.kept.keeps;
          };
          is_open = record {
            cpu = cpu;
            shown = set_here before.seats seat x (inside before.seats seat
                (Some cpu, Some opened, of_plan plan before.section) can.is_open.shown)
                ∙ ap (λ (p : Planned). some (Some cpu, Some opened, p))
                (of_its_plan now plan told.0);
            reads = subst IsReader (sym f.is) tt;
          };
          writers = rested refl;
          sections = followed node link words low on (refl, told.1) refl;
        },
        record {
          from = node;
          link = link;
          to = slice_index before.words place;
          words = f.words;
        },
        ap hops_in f.is,
        refl,
        refl,
      )

  -- the writer knows something else, and the words are these
  module _ (words : List ℕ) (now : Planned)
      (rule : kept words (set before.seats writer (None, None, now)))
      (planned : now.plan ≡ plan) (keeps : IsKeeping now.known) where
    abbrev then : Moment
    then = record {
      words = words;
      seats = set before.seats writer (None, None, now);
      writer = now.known;
      section = before.section;
    }

    move_goes : IsWriterMove plan before then → Goes then
    move_goes move = record {
      kept = record {
        rule = rule;
        shown = set_here before.seats writer (None, None, now) (inside before.seats writer
            (None, None, of_plan plan before.writer) can.kept.shown)
            ∙ ap (λ (p : Planned). some (None, None, p)) (of_its_plan now plan planned);
        keeps = keeps;
      };
      is_open = record {
        cpu = can.is_open.cpu;
        shown = set_else before.seats writer seat (None, None, now)
            (λ same. apart before.seats seat writer can.is_open.cpu (Some opened) None
            (of_plan plan before.section) (of_plan plan before.writer) can.is_open.shown
            can.kept.shown (sym same))
            ∙ can.is_open.shown;
        reads = can.is_open.reads;
      };
      writers = move;
      sections = stayed refl;
    }

  -- it goes on by a step of the writer
  abbrev GoesTo : Known → Type 0
  GoesTo known = (after : Moment) × Goes after × (after.writer ≡ known)

  pub write_goes : (node word value : ℕ)
      → node < length (nodes_in before.writer)
      → state_at (nodes_in before.writer) node ≡ Free
      → word < plan.words
      → GoesTo (keeping before.writer (renewed (nodes_in before.writer) node (worded word value)))
  write_goes node word value low free short =
      let place : ℕ = cell_of plan node (plan.links + word) in
      let r = word_at fits joins first None None (of_plan plan before.writer) plan refl place
      (λ _. value) (λ _. IsWritten plan.roots plan.links plan.words place before.writer value)
      (writes_at (fits plan) (joins plan) (first plan) plan.roots plan.links plan.words plan.nodes
      None None before.writer node word place value can.kept.keeps low free short refl)
      number before.words before.seats writer can.kept.rule can.current can.lone
      can.kept.shown in
      let told = r.2 in
      let is = told.1 node word short refl in (
        then _ r.0 r.1 told.0 (subst IsKeeping (sym is) tt),
        move_goes _ r.0 r.1 told.0 (subst IsKeeping (sym is) tt)
            (wrote node word value short free (refl, told.1)),
        is,
      )

  pub write_link_goes : (node link value : ℕ)
      → node < length (nodes_in before.writer)
      → state_at (nodes_in before.writer) node ≡ Free
      → link < plan.links
      → GoesTo (keeping before.writer
      (renewed (nodes_in before.writer) node (linked_to link value)))
  write_link_goes node link value low free short =
      let place : ℕ = cell_of plan node link in
      let r = word_at fits joins first None None (of_plan plan before.writer) plan refl place
      (λ _. value) (λ _. IsLinkWritten plan.roots plan.links plan.words place before.writer value)
      (writes_link_at (fits plan) (joins plan) (first plan) plan.roots plan.links plan.words
      plan.nodes None None before.writer node link place value can.kept.keeps low free short refl)
      number before.words before.seats writer can.kept.rule can.current can.lone
      can.kept.shown in
      let told = r.2 in
      let is = told.1 node link short refl in (
        then _ r.0 r.1 told.0 (subst IsKeeping (sym is) tt),
        move_goes _ r.0 r.1 told.0 (subst IsKeeping (sym is) tt)
            (wrote_link node link value short free (refl, told.1)),
        is,
      )

  pub link_goes : (node link value : ℕ)
      → node < length (nodes_in before.writer)
      → link < plan.links
      → state_at (nodes_in before.writer) node ≡ Live
      → IsTarget (joins plan link) (node_at (nodes_in before.writer) node).words
      (nodes_in before.writer) value
      → GoesTo (storing before.writer
      (renewed (nodes_in before.writer) node (linked_to link value)))
  link_goes node link value low short live target =
      let place : ℕ = cell_of plan node link in
      let r = word_at fits joins first None None (of_plan plan before.writer) plan refl place
      (λ _. value) (λ _. IsLinked plan.roots plan.links plan.words place before.writer value)
      (links_at (fits plan) (joins plan) (first plan) plan.roots plan.links plan.words
      plan.nodes None None before.writer node link place value can.kept.keeps low short live target
      refl)
      number before.words before.seats writer can.kept.rule can.current can.lone
      can.kept.shown in
      let told = r.2 in
      let is = told.1 node link short refl in (
        then _ r.0 r.1 told.0 (subst IsKeeping (sym is) tt),
        move_goes _ r.0 r.1 told.0 (subst IsKeeping (sym is) tt)
            (led node link value short live (refl, told.1)),
        is,
      )

  pub publish_goes : (from link to : ℕ)
      → from < length (nodes_in before.writer)
      → to < length (nodes_in before.writer)
      → link < plan.links
      → state_at (nodes_in before.writer) from ≡ Live
      → IsReady (fits plan) (joins plan) plan.links (nodes_in before.writer) to
      → joins plan link (node_at (nodes_in before.writer) from).words
      (node_at (nodes_in before.writer) to).words
      → GoesTo (storing before.writer
      (renewed (renewed (nodes_in before.writer) to (in_state Live)) from
      (linked_to link (suc to))))
  publish_goes from link to low inner short live ready joined =
      let place : ℕ = cell_of plan from link in
      let r = word_at fits joins first None None (of_plan plan before.writer) plan refl place
      (λ _. suc to) (λ _. IsPublished plan.roots plan.links plan.words place before.writer (suc to))
      (publishes_at (fits plan) (joins plan) (first plan) plan.roots plan.links plan.words
      plan.nodes None None before.writer from link to place (suc to) can.kept.keeps low inner short
      live ready joined refl refl)
      number before.words before.seats writer can.kept.rule can.current can.lone
      can.kept.shown in
      let told = r.2 in
      let is = told.1 from link to short refl refl in (
        then _ r.0 r.1 told.0 (subst IsKeeping (sym is) tt),
        move_goes _ r.0 r.1 told.0 (subst IsKeeping (sym is) tt)
            (published from link to short live ready.free (refl, told.1)),
        is,
      )

  pub mark_unlinked_goes : (node : ℕ)
      → node < length (nodes_in before.writer)
      → 0 < plan.links + plan.words
      → plan.roots ≤ node
      → state_at (nodes_in before.writer) node ≡ Live
      → IsUnlinked plan.links (nodes_in before.writer) node
      → GoesTo (keeping before.writer (renewed (nodes_in before.writer) node (in_state Unlinked)))
  mark_unlinked_goes node low short past live unlinked =
      let place : ℕ = cell_of plan node 0 in
      let r = word_at fits joins first None None (of_plan plan before.writer) plan refl place
      (λ n. n) (IsMarkedUnlinked plan.roots plan.links plan.words place before.writer)
      (marks_unlinked_at (fits plan) (joins plan) (first plan) plan.roots plan.links plan.words
      plan.nodes None None before.writer node place can.kept.keeps low short past live unlinked
      refl)
      number before.words before.seats writer can.kept.rule can.current can.lone
      can.kept.shown in
      let told = r.2 in
      let is = told.1 node 0 short refl in (
        then _ r.0 r.1 told.0 (subst IsKeeping (sym is) tt),
        move_goes _ r.0 r.1 told.0 (subst IsKeeping (sym is) tt)
            (marked_unlinked node (slice_index before.words place) short (refl, told.1)),
        is,
      )

  pub look_goes : GoesTo (Writer (max number (latest_in before.writer))
      (reclaimed number (max number (latest_in before.writer)) (nodes_in before.writer))
      (stored_in before.writer))
  look_goes =
      let r = number_at fits joins first None None (of_plan plan before.writer) plan refl
      (IsReclaimed before.writer)
      (reclaims_at (fits plan) (joins plan) (first plan) plan.roots plan.links plan.words plan.nodes
      None None before.writer can.kept.keeps)
      number before.words before.seats writer can.kept.rule can.current can.lone
      can.kept.shown in
      let told = r.2 in
      let is = told.1 in (
        then _ r.0 r.1 told.0 (subst IsKeeping (sym is) tt),
        move_goes _ r.0 r.1 told.0 (subst IsKeeping (sym is) tt)
            (looked number can.current (refl, told.1)),
        is,
      )
