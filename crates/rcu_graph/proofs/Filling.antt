-- A free node's words and links are written one after another.
use Rattle.std.proofs.Common.{◌≡◌, ℕ, suc, ◌+◌, ◌<◌, ◌≤◌, List, Option, None, Some, length, get_or}
use Rattle.std.proofs.Common.{map, set, refl, sym, ap, ◌∙◌, arith, subst, length-set}
use Rattle.std.specs.Prelude.{IfSome}
use Rattle.std.proofs.lemmas.List.{get_or-set_same, set-get_or}
use Rattle.rcu_live.specs.Board.{Object}
use Rattle.rcu_live.specs.Watcher.{Watching, after_word_step}
use Rattle.rcu_graph.specs.Graph.{IsWatcherOf}
use Rattle.rcu_graph.specs.Graph.{word_to}
use Rattle.rcu_graph.specs.Writer.{after_step, after_write, after_write_link}
use Rattle.rcu_graph.specs.Filling.{CanFill, CanStore, after_links, after_words, with_links}
use Rattle.rcu_graph.specs.Mirror.{with_links_to, with_words, with_words_to}
use Rattle.rcu_graph.specs.Nodes.{IsKeeping, linked_to, no_node, node_at, nodes_in}
use Rattle.rcu_graph.specs.Nodes.{renewed, state_at}
use Rattle.rcu_graph.specs.Steps.{keeping}
use Rattle.rcu_graph.specs.Tended.{after_fill}
use Rattle.rcu_graph.specs.Planned.{knowing}
use Rattle.rcu_graph.specs.declared.known.Known.{Known}
use Rattle.rcu_graph.specs.declared.known.Planned.{Planned}
use Rattle.rcu_graph.specs.declared.known.Known.TheVariants.{Idle, Owner, Reader, Writer}
use Rattle.rcu_graph.specs.declared.known.Node.{Node}
use Rattle.rcu_graph.specs.declared.node_state.NodeState.{NodeState}
use Rattle.rcu_graph.specs.declared.node_state.NodeState.TheVariants.{Free}
use Rattle.rcu_graph.proofs.Keeping.{watches_on}
use Rattle.rcu_graph.proofs.Counting.{kept_at}
use Rattle.rcu_graph.proofs.Mirrors.{made, mixed_all, mixed_more, no_words_yet, renewed_twice}
use Rattle.rcu_graph.proofs.Mirrors.{words_all, words_more}
use Rattle.rcu_graph.specs.declared.plan.Plan.{Plan}

no_links_yet : (nodes : List Node) (i : ℕ) (links : List ℕ)
    → nodes ≡ renewed nodes i (with_links_to 0 links)
no_links_yet nodes i links = sym (set-get_or nodes i no_node)

links_more : (nodes : List Node) (i k : ℕ) (links : List ℕ)
    → i < length nodes
    → k < length (node_at nodes i).links
    → k < length links
    → renewed (renewed nodes i (with_links_to k links)) i (linked_to k (get_or links k 0))
    ≡ renewed nodes i (with_links_to (k + 1) links)
links_more nodes i k links low inside small =
    renewed_twice nodes i (with_links_to k links) (linked_to k (get_or links k 0)) low
    ∙ (ap (λ (ls : List ℕ). set nodes i (made (node_at nodes i).state ls (node_at nodes i).words))
    (mixed_more k links (node_at nodes i).links small inside)
    ∙ ap (λ (n : ℕ). renewed nodes i (with_links_to n links)) (after k))
  where
    after : (k : ℕ) → suc k ≡ k + 1
    after k = omega arith

links_all : (nodes : List Node) (i n : ℕ) (links : List ℕ)
    → length links ≡ n → length (node_at nodes i).links ≡ n
    → renewed nodes i (with_links_to n links) ≡ renewed nodes i (with_links links)
links_all nodes i n links many size =
    ap (λ (ls : List ℕ). set nodes i (made (node_at nodes i).state ls (node_at nodes i).words))
    (mixed_all n links (node_at nodes i).links many size)

pub known_is : (k : Known) → IsKeeping k → k ≡ keeping k (nodes_in k)
known_is Idle keeps = absurd keeps
known_is Owner keeps = absurd keeps
known_is (Reader held) keeps = absurd keeps
known_is (Writer latest nodes stored) keeps = refl

-- a link to one of this number of nodes leads below each bound of their number
pub below_more : (o : Option ℕ) (n m : ℕ) → n ≤ m → IfSome o (λ j. j < n) → IfSome o (λ j. j < m)
below_more None n m few low = low
below_more (Some j) n m few low = omega (arith, few, low)

-- a number below one of two equal numbers is below the other
pub low_in : (i n m : ℕ) → m ≡ n → i < n → i < m
low_in i n m e low = omega (arith, e, low)

pub at_end : (k n : ℕ) → n ≤ k → k ≤ n → k ≡ n
at_end k n a b = omega (arith, a, b)

module _ (s : Watching Planned) (i : ℕ) where
  abbrev pub nodes : List Node
  nodes = nodes_in s.view.client.known

  pub state_stays : (x : Watching Planned) (f : Node → Node) (st : NodeState)
      → i < length nodes
      → state_at nodes i ≡ st
      → (f (node_at nodes i)).state ≡ (node_at nodes i).state
      → x ≡ after_step s (renewed nodes i f)
      → state_at (nodes_in x.view.client.known) i ≡ st
  state_stays x f st low is same e =
      ap (λ (w : Watching Planned). state_at (nodes_in w.view.client.known) i) e
      ∙ (kept_at (λ (v : Node). v.state) nodes i i f low same ∙ is)

  none_filled : (f : Node → Node) → IsKeeping s.view.client.known → nodes ≡ renewed nodes i f
      → s ≡ after_step s (renewed nodes i f)
  none_filled f keeps e =
      ap (λ (k : Known). after_word_step s (knowing s.view.client k))
      (known_is s.view.client.known keeps)
      ∙ ap (λ (l : List Node). after_step s l) e

  pub no_word_filled : (words : List ℕ) → IsKeeping s.view.client.known
      → s ≡ after_step s (renewed nodes i (with_words_to 0 words))
  no_word_filled words keeps =
      none_filled (with_words_to 0 words) keeps (no_words_yet nodes i words)

  pub no_link_filled : (links : List ℕ) → IsKeeping s.view.client.known
      → s ≡ after_step s (renewed nodes i (with_links_to 0 links))
  no_link_filled links keeps =
      none_filled (with_links_to 0 links) keeps (no_links_yet nodes i links)

  pub word_filled : (k x : ℕ) (words : List ℕ) (old new : Watching Planned)
      → i < length nodes
      → k < length (node_at nodes i).words
      → k < length words
      → x ≡ get_or words k 0
      → old ≡ after_step s (renewed nodes i (with_words_to k words))
      → new ≡ after_write old i k x
      → new ≡ after_step s (renewed nodes i (with_words_to (k + 1) words))
  word_filled k x words old new low inside small is was e =
      e ∙ (ap (λ (y : ℕ). after_write old i k y) is
      ∙ (ap (λ (w : Watching Planned). after_write w i k (get_or words k 0)) was
      ∙ ap (λ (l : List Node). after_step s l) (words_more nodes i k words low inside small)))

  pub link_filled : (k x : ℕ) (links : List ℕ) (old new : Watching Planned)
      → i < length nodes
      → k < length (node_at nodes i).links
      → k < length links
      → x ≡ get_or links k 0
      → old ≡ after_step s (renewed nodes i (with_links_to k links))
      → new ≡ after_write_link old i k x
      → new ≡ after_step s (renewed nodes i (with_links_to (k + 1) links))
  link_filled k x links old new low inside small is was e =
      e ∙ (ap (λ (y : ℕ). after_write_link old i k y) is
      ∙ (ap (λ (w : Watching Planned). after_write_link w i k (get_or links k 0)) was
      ∙ ap (λ (l : List Node). after_step s l) (links_more nodes i k links low inside small)))

  pub words_filled : (n k : ℕ) (words : List ℕ) (new : Watching Planned)
      → k ≡ n
      → length words ≡ n
      → length (node_at nodes i).words ≡ n
      → new ≡ after_step s (renewed nodes i (with_words_to k words))
      → new ≡ after_words s i words
  words_filled n k words new end many size e =
      e ∙ (ap (λ (m : ℕ). after_step s (renewed nodes i (with_words_to m words))) end
      ∙ ap (λ (l : List Node). after_step s l) (words_all nodes i n words many size))

  pub links_filled : (n k : ℕ) (links : List ℕ) (new : Watching Planned)
      → k ≡ n
      → length links ≡ n
      → length (node_at nodes i).links ≡ n
      → new ≡ after_step s (renewed nodes i (with_links_to k links))
      → new ≡ after_links s i links
  links_filled n k links new end many size e =
      e ∙ (ap (λ (m : ℕ). after_step s (renewed nodes i (with_links_to m links))) end
      ∙ ap (λ (l : List Node). after_step s l) (links_all nodes i n links many size))

  -- after a part of the filling, the node may be stored to and filled further
  pub can_store : (row k : ℕ) (graph : Object Plan) (x : Watching Planned) (f : Node → Node)
      → CanFill graph s i
      → (f (node_at nodes i)).state ≡ (node_at nodes i).state
      → x ≡ after_step s (renewed nodes i f)
      → k < row
      → CanStore row graph x i k
  can_store row k graph x f can same e cell = record {
    watches = subst (λ (w : Watching Planned). IsWatcherOf graph w) (sym e)
        (watches_on graph s _ can.watches);
    inside = can.inside;
    free = state_stays x f Free (low_in i graph.plan.nodes (length nodes) can.few can.inside)
        can.free
        same e;
    cell = cell;
  }

  pub can_fill_on : (graph : Object Plan) (words : List ℕ) (x : Watching Planned)
      → CanFill graph s i → length words ≡ graph.plan.words → x ≡ after_words s i words
      → CanFill graph x i
  can_fill_on graph words x can many e =
      subst (λ (w : Watching Planned). CanFill graph w i) (sym e)
      (record {
        watches = watches_on graph s _ can.watches;
        keeps = tt;
        few = length-set nodes i (with_words words (node_at nodes i)) ∙ can.few;
        inside = can.inside;
        free = kept_at (λ (v : Node). v.state) nodes i i (with_words words) low refl ∙ can.free;
        link_count =
            kept_at (λ (v : Node). length v.links) nodes i i (with_words words) low refl
            ∙ can.link_count;
        word_count =
            ap (λ (v : Node). length v.words)
            (get_or-set_same nodes i (with_words words (node_at nodes i)) no_node low)
            ∙ many;
      })
    where
      low : i < length nodes
      low = low_in i graph.plan.nodes (length nodes) can.few can.inside

  pub all_filled : (words : List ℕ) (links : List (Option ℕ)) (mid new : Watching Planned)
      → i < length nodes → mid ≡ after_words s i words → new ≡ after_links mid i (map word_to links)
      → new ≡ after_fill s i words links
  all_filled words links mid new low was e =
      e
      ∙ (ap (λ (w : Watching Planned). after_links w i (map word_to links)) was
      ∙ ap (λ (l : List Node). after_step s l)
      (renewed_twice nodes i (with_words words) (with_links (map word_to links)) low))
