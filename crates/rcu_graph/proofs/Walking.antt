-- A section that walks a graph goes on from node to node.
use Rattle.std.proofs.Common.{◌≡◌, ℕ, suc, ◌<◌, List, refl, sym, ◌∙◌, subst, inl, inr, arith}
use Rattle.std.proofs.Math.Nat.{suc_inj}
use Rattle.std.specs.Prelude.{slice_index}
use Rattle.rcu_live.specs.Board.{Object}
use Rattle.rcu_live.specs.CpuSeat.{Seated, after_word_step}
use Rattle.rcu_live.specs.Watcher.{Watching}
use Rattle.rcu_graph.specs.Graph.{IsAt, IsOfSameGraph, IsWalking, IsWatcherOf}
use Rattle.rcu_graph.specs.Nodes.{IsHeld, IsOn, IsReader}
use Rattle.rcu_graph.specs.Search.{IsFound}
use Rattle.rcu_graph.specs.Steps.{Came, Followed, IsLedTo}
use Rattle.rcu_graph.specs.declared.known.Known.{Known}
use Rattle.rcu_graph.specs.declared.known.Planned.{Planned}
use Rattle.rcu_graph.specs.declared.plan.Plan.{Plan}

module _ (fits joins : List ℕ → Type 0) (width count : ℕ) (was : Known) (i l : ℕ) where
  pub came_to : (j : ℕ) (now : Known) (f : Followed fits joins width count was i l (suc j) now)
      → Came fits joins width count j f.words
  came_to j now f = led f.words f.led
    where
      led : (words : List ℕ) → IsLedTo fits joins width count (suc j) words
          → Came fits joins width count j words
      led words (inl none) = absurd (omega (arith, none.0))
      led words (inr some) =
          subst (λ (n : ℕ). Came fits joins width count n words) (sym (suc_inj some.1))
          some.2

  pub still_reads : (x : ℕ) (now : Known) → Followed fits joins width count was i l x now
      → IsReader now
  still_reads x now f = subst IsReader (sym f.is) tt

  pub came_holds : (j : ℕ) (now : Known) (f : Followed fits joins width count was i l (suc j) now)
      → IsHeld now j f.words
  came_holds j now f = subst (λ (k : Known). IsHeld k j f.words) (sym f.is)
      (0, record { from = i; link = l; to = suc j; words = f.words }, refl, refl, refl)

  pub found_it : (key found j : ℕ) (now : Known)
      (f : Followed fits joins width count was i l (suc j) now)
      → found ≡ slice_index f.words 0
      → found ≡ key
      → IsFound fits key now j
  found_it key found j now f told is =
      let c = came_to j now f in
      record { words = f.words; held = came_holds j now f; whole = c.whole; is = sym told ∙ is }

-- a seat whose section's knowledge about the graph changed
pub walks_on : (graph : Object Plan) (old new : Seated Planned)
    → new ≡ after_word_step old new.view.client
    → new.view.client.plan ≡ old.view.client.plan
    → IsWalking graph old
    → IsReader new.view.client.known
    → IsWalking graph new
walks_on graph old new same stays w reads =
    subst (IsWalking graph) (sym same) (record {
      seat_of = record {
        engine = w.seat_of.engine;
        planned = stays ∙ w.seat_of.planned;
      };
      is_open = w.is_open;
      reads = reads;
    })

module _ (fits joins : List ℕ → Type 0) (width count : ℕ) (graph : Object Plan)
    (old new : Seated Planned) (i l : ℕ) where
  pub followed_walks : (x : ℕ)
      → new ≡ after_word_step old new.view.client
      → new.view.client.plan ≡ old.view.client.plan
      → IsWalking graph old
      → Followed fits joins width count old.view.client.known i l x new.view.client.known
      → IsWalking graph new
  followed_walks x same stays w f =
      walks_on graph old new same stays w
      (still_reads fits joins width count old.view.client.known i l x new.view.client.known f)

  pub followed_at : (first : ℕ → List ℕ) (j : ℕ)
      → new ≡ after_word_step old new.view.client
      → new.view.client.plan ≡ old.view.client.plan
      → IsWalking graph old
      → Followed fits joins width count old.view.client.known i l (suc j) new.view.client.known
      → count ≡ graph.plan.nodes
      → IsAt first graph new j
  followed_at first j same stays w f few =
      let c = came_to fits joins width count old.view.client.known i l j new.view.client.known f in
      record {
        walking = followed_walks (suc j) same stays w f;
        words = f.words;
        on = inr (came_holds fits joins width count old.view.client.known i l j
            new.view.client.known f);
        inside = let low = c.inside in omega (arith, low, few);
      }

-- if the section is still on a node
pub walks_at : (first : ℕ → List ℕ) (graph : Object Plan) (old new : Seated Planned) (i : ℕ)
    (words : List ℕ)
    → new ≡ after_word_step old new.view.client
    → new.view.client.plan ≡ old.view.client.plan
    → IsWalking graph old
    → IsReader new.view.client.known
    → IsOn first graph.plan.roots new.view.client.known i words
    → i < graph.plan.nodes
    → IsAt first graph new i
walks_at first graph old new i words same stays w reads on low = record {
  walking = walks_on graph old new same stays w reads;
  words = words;
  on = on;
  inside = low;
}

-- a seat of the same graph watches that
pub same_watches : (graph : Object Plan) (before after : Watching Planned)
    → IsOfSameGraph before after → IsWatcherOf graph before → IsWatcherOf graph after
same_watches graph before after same watches = record {
  engine = (same.table ∙ watches.engine.0, same.base ∙ watches.engine.1);
  planned = same.plan ∙ watches.planned;
}

-- it found this word
pub followed_to : (fits joins : List ℕ → Type 0) (width count : ℕ) (was : Known) (i l x y : ℕ)
    (now : Known)
    → x ≡ y
    → Followed fits joins width count was i l x now
    → Followed fits joins width count was i l y now
followed_to fits joins width count was i l x y now is f =
    subst (λ (n : ℕ). Followed fits joins width count was i l n now) is f
