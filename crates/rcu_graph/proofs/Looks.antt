-- Loads of the number while no node is free, one after another.
use Rattle.std.proofs.Common.{◌≡◌, ℕ, zero, suc, ◌<◌, ◌≤◌, true, false, List, length, refl}
use Rattle.std.proofs.Common.{sym, ap, ◌∙◌, arith, Err, IfOk, Ok, OnErr, OnOk, Result}
use Rattle.std.proofs.Common.{subst}
use Rattle.std.specs.Prelude.{max}
use Rattle.std.specs.Result.{is_ok}
use Rattle.std.proofs.Math.ListN.{get_or-map, length-map}
use Rattle.rcu_seq.specs.Numbers.{Number}
use Rattle.rcu_live.specs.CpuSeat.{Seated}
use Rattle.rcu_live.specs.Watcher.{Watching}
use Rattle.rcu_graph.specs.Graph.{IsOfSameGraph}
use Rattle.rcu_graph.specs.Writer.{after_look}
use Rattle.rcu_graph.specs.Nodes.{is_live, latest_in, no_node, node_at, nodes_in, reclaimed}
use Rattle.rcu_graph.specs.Nodes.{reclaimed_node, state_at}
use Rattle.rcu_graph.specs.Tended.{AreAllUsed}
use Rattle.rcu_graph.specs.Waits.{AreLooks, HasGivenUp, HasMadeRoom, HasReclaimed, IsLook}
use Rattle.rcu_graph.specs.declared.known.Planned.{Planned}
use Rattle.rcu_graph.specs.declared.known.Node.{Node}
use Rattle.rcu_graph.specs.declared.node_state.NodeState.TheVariants.{Free, Live}
use Rattle.rcu_graph.proofs.Counting.{live_test, test_live}
use Rattle.rcu_graph.proofs.Keeps.{is_live_reclaimed}

-- a load, a first one, and one more
look : (k m : Watching Planned) (n : Number)
    → AreAllUsed (nodes_in k.view.client.known) → k.view.seen ≤ n → m ≡ after_look k n → IsLook k m
look k m n full later new =
    let seen : m.view.seen ≡ n = ap (λ (w : Watching Planned). w.view.seen) new in record {
      full = full;
      later = omega (arith, seen, later);
      state = new ∙ ap (λ (j : Number). after_look k j) (sym seen);
    }

pub reclaimed_once : (k m : Watching Planned) (n : Number)
    → AreAllUsed (nodes_in k.view.client.known)
    → k.view.seen ≤ n
    → m ≡ after_look k n
    → HasReclaimed k m
reclaimed_once k m n full later new =
    record { more = 0; looks = (k, refl, look k m n full later new) }

pub reclaimed_more : (k l m : Watching Planned) (n : Number)
    → HasReclaimed k l
    → AreAllUsed (nodes_in l.view.client.known)
    → l.view.seen ≤ n
    → m ≡ after_look l n
    → HasReclaimed k m
reclaimed_more k l m n r full later new =
    record { more = suc r.more; looks = (l, r.looks, look l m n full later new) }

-- a writer's graph stays as large
looks_keep_plan : (looks : ℕ) (k m : Watching Planned) → AreLooks looks k m
    → m.view.client.plan ≡ k.view.client.plan
looks_keep_plan zero k m same = ap (λ (w : Watching Planned). w.view.client.plan) same
looks_keep_plan (suc looks) k m (last, before, one) =
    ap (λ (w : Watching Planned). w.view.client.plan) one.state
    ∙ looks_keep_plan looks k last before

pub reclaimed_plan : (k m : Watching Planned) → HasReclaimed k m
    → m.view.client.plan ≡ k.view.client.plan
reclaimed_plan k m reclaimed = looks_keep_plan (suc reclaimed.more) k m reclaimed.looks

-- as many nodes have the same links and words, and those that were live are
pub record AreAsLive (before after : List Node) : Type 0 where
  pub many : length after ≡ length before
  pub links : (i : ℕ) → (node_at after i).links ≡ (node_at before i).links
  pub words : (i : ℕ) → (node_at after i).words ≡ (node_at before i).words
  pub live : (i : ℕ) → is_live (state_at after i) ≡ is_live (state_at before i)

pub was_live : (A B : List Node) → AreAsLive A B → (i : ℕ) → state_at B i ≡ Live
    → state_at A i ≡ Live
was_live A B s i live = test_live (state_at A i) (sym (s.live i) ∙ live_test (state_at B i) live)

pub still_live : (A B : List Node) → AreAsLive A B → (i : ℕ) → state_at A i ≡ Live
    → state_at B i ≡ Live
still_live A B s i live = test_live (state_at B i) (s.live i ∙ live_test (state_at A i) live)

-- so they are after a load, and after several
pub reclaimed_as_live : (A : List Node) (n latest : ℕ) → AreAsLive A (reclaimed n latest A)
reclaimed_as_live A n latest = record {
  many = length-map A (reclaimed_node n latest);
  links = λ i. ap (λ (v : Node). v.links) (at i);
  words = λ i. ap (λ (v : Node). v.words) (at i);
  live = λ i. ap (λ (v : Node). is_live v.state) (at i) ∙ is_live_reclaimed n latest (state_at A i);
}
  where
    at : (i : ℕ) → node_at (reclaimed n latest A) i ≡ reclaimed_node n latest (node_at A i)
    at i = get_or-map (reclaimed_node n latest) A i no_node

pub looked_as_live : (k m : Watching Planned) (n : Number) → m ≡ after_look k n
    → AreAsLive (nodes_in k.view.client.known) (nodes_in m.view.client.known)
looked_as_live k m n new =
    subst (λ (w : Watching Planned).
    AreAsLive (nodes_in k.view.client.known) (nodes_in w.view.client.known))
    (sym new)
    (reclaimed_as_live (nodes_in k.view.client.known) n (max n (latest_in k.view.client.known)))

looks_as_live : (looks : ℕ) (k m : Watching Planned) → AreLooks looks k m
    → AreAsLive (nodes_in k.view.client.known) (nodes_in m.view.client.known)
looks_as_live zero k m same =
    subst (λ (w : Watching Planned).
    AreAsLive (nodes_in k.view.client.known) (nodes_in w.view.client.known))
    (sym same)
    (record { many = refl; links = λ i. refl; words = λ i. refl; live = λ i. refl })
looks_as_live (suc looks) k m (last, before, one) =
    let a = looks_as_live looks k last before in
    let b = looked_as_live last m m.view.seen one.state in
    record {
      many = b.many ∙ a.many;
      links = λ i. b.links i ∙ a.links i;
      words = λ i. b.words i ∙ a.words i;
      live = λ i. b.live i ∙ a.live i;
    }

pub reclaimed_nodes : (k m : Watching Planned) → HasReclaimed k m
    → AreAsLive (nodes_in k.view.client.known) (nodes_in m.view.client.known)
reclaimed_nodes k m reclaimed = looks_as_live (suc reclaimed.more) k m reclaimed.looks

-- whatever a wait came to, the writer looked
pub looked_by : {C E : Type 0} (seat now : Seated C) (k m : Watching Planned)
    (r : Result (Unit {0}) E)
    → OnOk r (HasMadeRoom seat now k m) → OnErr r (HasGivenUp seat now k m) → HasReclaimed k m
looked_by seat now k m (Ok _) room up = room.looked
looked_by seat now k m (Err _) room up = up.looked

-- after a look it is a writer of the same graph
pub same_after_look : (k m : Watching Planned) (n : Number) → m ≡ after_look k n
    → IsOfSameGraph k m
same_after_look k m n new = record {
  table = ap (λ (w : Watching Planned). w.table) new;
  base = ap (λ (w : Watching Planned). w.view.base) new;
  plan = ap (λ (w : Watching Planned). w.view.client.plan) new;
}

-- a call that needs a free node found none; it found one, and so not all are used
pub refused : {T F P : Type 0} (r : Result T F) → is_ok r ≡ false → OnErr r P → P
refused (Ok _) e told = absurd (cc)
refused (Err _) e told = told

pub on_err : {T F P : Type 0} (r : Result T F) → P → OnErr r P
on_err (Ok _) told = tt
on_err (Err _) told = told

pub found_one : {F : Type 0} (nodes : List Node) (count : ℕ) (r : Result ℕ F)
    → is_ok r ≡ true
    → length nodes ≡ count
    → IfOk r (λ node. node < count)
    → IfOk r (λ node. state_at nodes node ≡ Free)
    → AreAllUsed nodes
    → ⊥
found_one nodes count (Ok node) e few inside free full = full node (omega (arith, few, inside)) free
found_one nodes count (Err _) e few inside free full = absurd (cc)
