-- Steps on a graph whose plan the seat knows are allowed.
use Rattle.std.proofs.Common.{◌≡◌, ℕ, suc, ◌+◌, ◌*◌, ◌<◌, ◌≤◌, List, length, Option, ap, arith}
use Rattle.std.proofs.Common.{◌∙◌, refl, subst, sym}
use Rattle.std.specs.Prelude.{IsSome}
use Rattle.rcu_live.specs.Client.{AllowsNumber, AllowsWord}
use Rattle.rcu_live.specs.Several.{IsWordOf}
use Rattle.rcu_graph.specs.Beside.{cell_of}
use Rattle.rcu_graph.specs.Writer.{IsReady}
use Rattle.rcu_graph.specs.Nodes.{IsKeeping, IsOn, IsReader, IsTarget, IsUnlinked, first_place}
use Rattle.rcu_graph.specs.Nodes.{node_at, nodes_in, place_of, state_at}
use Rattle.rcu_graph.specs.Planned.{IsKeptBy, tells_claim, tells_follow, tells_link}
use Rattle.rcu_graph.specs.Planned.{tells_mark_unlinked, tells_publish, tells_read, tells_reclaim}
use Rattle.rcu_graph.specs.Planned.{tells_write, tells_write_link}
use Rattle.rcu_graph.specs.Steps.{IsClaimed, IsFollowed, IsLinkWritten, IsLinked, IsMarkedUnlinked}
use Rattle.rcu_graph.specs.Steps.{IsPublished, IsRead, IsReclaimed, IsWritten}
use Rattle.rcu_graph.specs.declared.known.Known.TheVariants.{Owner}
use Rattle.rcu_graph.specs.declared.known.Planned.{Planned}
use Rattle.rcu_graph.specs.declared.node_state.NodeState.TheVariants.{Free, Live}
use Rattle.rcu_graph.specs.declared.plan.Layout.{Layout}
use Rattle.rcu_graph.specs.declared.plan.Plan.{Plan}
use Rattle.rcu_graph.proofs.At.{claims_at, follows_at, links_at, marks_unlinked_at, publishes_at}
use Rattle.rcu_graph.proofs.At.{reads_at, reclaims_at, writes_at, writes_link_at}
use Rattle.rcu_graph.proofs.Planned.{number_at, word_at}

module _ (fits : Plan → List ℕ → Type 0) (joins : Plan → ℕ → List ℕ → List ℕ → Type 0)
    (first : Plan → ℕ → List ℕ) (plan : Plan) where
  -- a graph has words up to its last node's
  pub is_word : (place : ℕ) → place < first_place + (plan.links + plan.words) * plan.nodes
      → IsWordOf (IsKeptBy fits joins first plan) place
  is_word place inside words xs h = let long = h.kept.kept.long in omega (arith, inside, long)

  -- a load of a cell is one of the place that a layout of the graph gives
  pub cell_allowed : (then : ℕ → Planned → ℕ → Planned → Type 0) (cpu section : Option ℕ)
      (was : Planned) (base : ℕ) (layout : Layout) (i k place : ℕ)
      → layout ≡ record { base = base; plan = plan }
      → place ≡ cell_of layout.plan i k
      → AllowsWord (IsKeptBy fits joins first plan) cpu section was (cell_of plan i k) (λ n. n)
      (then (cell_of plan i k) was)
      → AllowsWord (IsKeptBy fits joins first plan) cpu section was place (λ n. n) (then place was)
  cell_allowed then cpu section was base layout i k place same is =
      subst (λ (p : ℕ).
      AllowsWord (IsKeptBy fits joins first plan) cpu section was p (λ n. n) (then p was))
      (sym (is ∙ ap (λ (l : Layout). cell_of l.plan i k) same))

module _ (fits : Plan → List ℕ → Type 0) (joins : Plan → ℕ → List ℕ → List ℕ → Type 0)
    (first : Plan → ℕ → List ℕ) (cpu section : Option ℕ) (was : Planned) (plan : Plan)
    (is : was.plan ≡ plan) where
  abbrev q : Plan
  q = was.plan

  -- an open section may load a link of a root, or of a node that it holds
  pub follow_allowed : (i l place : ℕ)
      → IsSome section
      → IsReader was.known
      → (words : List ℕ) × IsOn (first plan) plan.roots was.known i words
      → l < plan.links
      → place ≡ place_of plan.roots plan.links plan.words i l
      → AllowsWord (IsKeptBy fits joins first plan) cpu section was place (λ n. n)
      (tells_follow fits joins first place was)
  follow_allowed i l place is_open reads =
      subst (λ (p : Plan).
      ((words : List ℕ) × IsOn (first p) p.roots was.known i words)
      → l < p.links
      → place ≡ place_of p.roots p.links p.words i l
      → AllowsWord (IsKeptBy fits joins first p) cpu section was place (λ n. n)
      (tells_follow fits joins first place was))
      is (λ on low e.
      word_at fits joins first cpu section was q refl place (λ n. n)
      (IsFollowed (fits q) (joins q) (first q) q.roots q.links q.words q.nodes place was.known)
      (follows_at (fits q) (joins q) (first q) q.roots q.links q.words q.nodes cpu section was.known
      i l place is_open reads on low e))

  -- it may load a word of such a node
  pub read_allowed : (i k place : ℕ)
      → IsSome section
      → IsReader was.known
      → (words : List ℕ) × IsOn (first plan) plan.roots was.known i words
      → k < plan.words
      → place ≡ place_of plan.roots plan.links plan.words i (plan.links + k)
      → AllowsWord (IsKeptBy fits joins first plan) cpu section was place (λ n. n)
      (tells_read first place was)
  read_allowed i k place is_open reads =
      subst (λ (p : Plan).
      ((words : List ℕ) × IsOn (first p) p.roots was.known i words)
      → k < p.words
      → place ≡ place_of p.roots p.links p.words i (p.links + k)
      → AllowsWord (IsKeptBy fits joins first p) cpu section was place (λ n. n)
      (tells_read first place was))
      is (λ on low e.
      word_at fits joins first cpu section was q refl place (λ n. n)
      (IsRead (first q) q.roots q.links q.words place was.known)
      (reads_at (fits q) (joins q) (first q) q.roots q.links q.words q.nodes cpu section was.known
      i k place is_open reads on low e))

  -- the nodes' writer may store a word of a free one
  pub write_allowed : (i k place x : ℕ)
      → IsKeeping was.known
      → i < length (nodes_in was.known)
      → state_at (nodes_in was.known) i ≡ Free
      → k < plan.words
      → place ≡ place_of plan.roots plan.links plan.words i (plan.links + k)
      → AllowsWord (IsKeptBy fits joins first plan) cpu section was place (λ _. x)
      (λ _. tells_write place was x)
  write_allowed i k place x keeps bound free =
      subst (λ (p : Plan).
      k < p.words
      → place ≡ place_of p.roots p.links p.words i (p.links + k)
      → AllowsWord (IsKeptBy fits joins first p) cpu section was place (λ _. x)
      (λ _. tells_write place was x))
      is (λ low e.
      word_at fits joins first cpu section was q refl place (λ _. x)
      (λ _. IsWritten q.roots q.links q.words place was.known x)
      (writes_at (fits q) (joins q) (first q) q.roots q.links q.words q.nodes cpu section was.known
      i k place x keeps bound free low e))

  -- it may store a link of a free node
  pub write_link_allowed : (i l place x : ℕ)
      → IsKeeping was.known
      → i < length (nodes_in was.known)
      → state_at (nodes_in was.known) i ≡ Free
      → l < plan.links
      → place ≡ place_of plan.roots plan.links plan.words i l
      → AllowsWord (IsKeptBy fits joins first plan) cpu section was place (λ _. x)
      (λ _. tells_write_link place was x)
  write_link_allowed i l place x keeps bound free =
      subst (λ (p : Plan).
      l < p.links
      → place ≡ place_of p.roots p.links p.words i l
      → AllowsWord (IsKeptBy fits joins first p) cpu section was place (λ _. x)
      (λ _. tells_write_link place was x))
      is (λ low e.
      word_at fits joins first cpu section was q refl place (λ _. x)
      (λ _. IsLinkWritten q.roots q.links q.words place was.known x)
      (writes_link_at (fits q) (joins q) (first q) q.roots q.links q.words q.nodes cpu section
      was.known
      i l place x keeps bound free low e))

  -- it may store a link of a live node that then leads nowhere or to a live one, to which it may
  -- lead
  pub link_allowed : (i l place x : ℕ)
      → IsKeeping was.known
      → i < length (nodes_in was.known)
      → l < plan.links
      → state_at (nodes_in was.known) i ≡ Live
      → IsTarget (joins plan l) (node_at (nodes_in was.known) i).words (nodes_in was.known) x
      → place ≡ place_of plan.roots plan.links plan.words i l
      → AllowsWord (IsKeptBy fits joins first plan) cpu section was place (λ _. x)
      (λ _. tells_link place was x)
  link_allowed i l place x keeps bound =
      subst (λ (p : Plan).
      l < p.links
      → state_at (nodes_in was.known) i ≡ Live
      → IsTarget (joins p l) (node_at (nodes_in was.known) i).words (nodes_in was.known) x
      → place ≡ place_of p.roots p.links p.words i l
      → AllowsWord (IsKeptBy fits joins first p) cpu section was place (λ _. x)
      (λ _. tells_link place was x))
      is (λ low live target e.
      word_at fits joins first cpu section was q refl place (λ _. x)
      (λ _. IsLinked q.roots q.links q.words place was.known x)
      (links_at (fits q) (joins q) (first q) q.roots q.links q.words q.nodes cpu section was.known
      i l place x keeps bound low live target e))

  -- it may link a live node to a free one that is whole, and whose links lead to live nodes
  pub publish_allowed : (i l j place x : ℕ)
      → IsKeeping was.known
      → i < length (nodes_in was.known)
      → j < length (nodes_in was.known)
      → l < plan.links
      → state_at (nodes_in was.known) i ≡ Live
      → IsReady (fits plan) (joins plan) plan.links (nodes_in was.known) j
      → joins plan l (node_at (nodes_in was.known) i).words (node_at (nodes_in was.known) j).words
      → place ≡ place_of plan.roots plan.links plan.words i l
      → x ≡ suc j
      → AllowsWord (IsKeptBy fits joins first plan) cpu section was place (λ _. x)
      (λ _. tells_publish place was x)
  publish_allowed i l j place x keeps bound bound_j =
      subst (λ (p : Plan).
      l < p.links
      → state_at (nodes_in was.known) i ≡ Live
      → IsReady (fits p) (joins p) p.links (nodes_in was.known) j
      → joins p l (node_at (nodes_in was.known) i).words (node_at (nodes_in was.known) j).words
      → place ≡ place_of p.roots p.links p.words i l
      → x ≡ suc j
      → AllowsWord (IsKeptBy fits joins first p) cpu section was place (λ _. x)
      (λ _. tells_publish place was x))
      is (λ low live ready joined e same.
      word_at fits joins first cpu section was q refl place (λ _. x)
      (λ _. IsPublished q.roots q.links q.words place was.known x)
      (publishes_at (fits q) (joins q) (first q) q.roots q.links q.words q.nodes cpu section
      was.known
      i l j place x keeps bound bound_j low live ready joined e same))

  -- it may mark a live node as unlinked if no live one leads to it
  pub mark_unlinked_allowed : (i place : ℕ)
      → IsKeeping was.known
      → i < length (nodes_in was.known)
      → 0 < plan.links + plan.words
      → plan.roots ≤ i
      → state_at (nodes_in was.known) i ≡ Live
      → IsUnlinked plan.links (nodes_in was.known) i
      → place ≡ place_of plan.roots plan.links plan.words i 0
      → AllowsWord (IsKeptBy fits joins first plan) cpu section was place (λ n. n)
      (tells_mark_unlinked place was)
  mark_unlinked_allowed i place keeps bound =
      subst (λ (p : Plan).
      0 < p.links + p.words
      → p.roots ≤ i
      → state_at (nodes_in was.known) i ≡ Live
      → IsUnlinked p.links (nodes_in was.known) i
      → place ≡ place_of p.roots p.links p.words i 0
      → AllowsWord (IsKeptBy fits joins first p) cpu section was place (λ n. n)
      (tells_mark_unlinked place was))
      is (λ some past live unlinked e.
      word_at fits joins first cpu section was q refl place (λ n. n)
      (IsMarkedUnlinked q.roots q.links q.words place was.known)
      (marks_unlinked_at (fits q) (joins q) (first q) q.roots q.links q.words q.nodes cpu section
      was.known i place keeps bound some past live unlinked e))

  -- it may look at the number, by which nodes are reclaimed
  pub reclaim_allowed : IsKeeping was.known
      → AllowsNumber (IsKeptBy fits joins first plan) cpu section was (tells_reclaim was)
  reclaim_allowed keeps =
      number_at fits joins first cpu section was plan is (IsReclaimed was.known)
      (reclaims_at (fits q) (joins q) (first q) q.roots q.links q.words q.nodes cpu section
      was.known keeps)

  -- the seat that opened the engine may load a word, and is then the nodes' writer
  pub claim_allowed : was.known ≡ Owner
      → AllowsWord (IsKeptBy fits joins first plan) cpu section was 0 (λ n. n)
      (tells_claim first 0 was)
  claim_allowed owner =
      word_at fits joins first cpu section was plan is 0 (λ n. n)
      (λ _ now. IsClaimed (first q) q.roots q.links q.words q.nodes now)
      (claims_at (fits q) (joins q) (first q) q.roots q.links q.words q.nodes cpu section was.known
      owner)
