-- The rule if one view changes: what the other seats, the words and the client keep.
use Rattle.std.proofs.Common.{◌≡◌, ◌≢◌, ℕ, ◌%◌, ◌<◌, ◌≤◌, List, length, get_or, set, map}
use Rattle.std.proofs.Common.{drop}
use Rattle.std.proofs.Common.{true, false}
use Rattle.std.proofs.Common.{sym, ap, ◌∙◌, subst, ⊎_elim}
use Rattle.std.specs.Prelude.{slice_index}
use Rattle.std.proofs.lemmas.List.{set-get_or}
use mathlib.Core.Option.{some}
use lib.ListN.{get_elem?}
use lib.Seq.{map-set}
use Rattle.atomic_table.specs.Table.{State}
use Rattle.atomic_table.proofs.Lists.{at_set, set_again, at_map}
use Rattle.rcu_node.specs.Words.{has_bit}
use Rattle.rcu_live.specs.Client.{Views, ClientView}
use Rattle.rcu_live.specs.Numbers.{is_number_word}
use Rattle.rcu_live.specs.Rule.{Fits, IsKept}
use Rattle.rcu_live.specs.View.{client_view}
use Rattle.rcu_live.specs.Words.{base_of, own_word_index, mask_index}
use Rattle.rcu_live.specs.declared.view.View.{View}

-- a view that a client cannot distinguish from the one before leaves all that is shown
pub same_views : {C : Type 0} (views : List (View C)) (id : ℕ) (v w : View C)
    → get_elem? views id ≡ some v
    → client_view w ≡ client_view v
    → map client_view (set views id w) ≡ map client_view views
same_views {C} views id v w at same =
    map-set client_view views id w
    ∙ (ap (λ (x : ClientView C). set (map client_view views) id x) same
    ∙ set_again (map client_view views) id (client_view v) (at_map client_view views id v at))

module _ {C : Type 0} (holds : List ℕ → Views C → Type 0) where
  -- the client sees nothing of a step that leaves its words, and what is shown of the seat
  pub unseen : (cpus : ℕ) (s : State (Unit {0}) (View C))
      → IsKept holds cpus s
      → (id : ℕ) (v w : View C) (words : List ℕ)
      → get_elem? s.views id ≡ some v
      → client_view w ≡ client_view v
      → drop (base_of cpus) words ≡ drop (base_of cpus) s.words
      → holds (drop (base_of cpus) words) (map client_view (set s.views id w))
  unseen cpus s k id v w words at same rest =
      let back = same_views s.views id v w at same in
      subst (λ (y : List ℕ × Views C). holds y.0 y.1) (λ i. (sym rest i, sym back i))
      k.client

  -- one view changes, and words do: the rule is kept if the others fit as before, the changed one
  -- fits, and the client's rule is kept
  pub changed : (cpus : ℕ) (s : State (Unit {0}) (View C)) (k : IsKept holds cpus s) (id : ℕ)
      (w : View C)
      (words : List ℕ) (own_word_loads : List (ℕ × ℕ))
      → base_of cpus ≤ length words
      → is_number_word (slice_index words 0) ≡ true
      → 0 < slice_index words (own_word_index 0)
      → ((cpu : ℕ) → cpu < cpus
      → has_bit (slice_index words (mask_index cpu)) (cpu % 64) ≡ false
      → slice_index words (own_word_index cpu) ≡ 0)
      → ((j : ℕ) (u : View C) → j ≢ id → Fits cpus s.words k.owner k.engine k.own_word_loads j u
      → Fits cpus words k.owner k.engine own_word_loads j u)
      → Fits cpus words k.owner k.engine own_word_loads id w
      → holds (drop (base_of cpus) words) (map client_view (set s.views id w))
      → IsKept holds cpus record { words = words; homes = s.homes; views = set s.views id w }
  changed cpus s k id w words own_word_loads room number boot absent others mine client = record {
    room = room;
    number = number;
    boot = boot;
    absent = absent;
    owner = k.owner;
    engine = k.engine;
    own_word_loads = own_word_loads;
    fits = λ j u at.
        ⊎_elim
        (λ (x : (j ≡ id) × (w ≡ u)).
        subst (λ (y : ℕ × View C). Fits cpus words k.owner k.engine own_word_loads y.0 y.1)
        (λ i. (sym x.0 i, x.1 i)) mine)
        (λ (x : (j ≢ id) × (get_elem? s.views j ≡ some u)). others j u x.0 (k.fits j u x.1))
        (at_set s.views id j w u at);
    client = client;
  }

  -- a load: no word changes
  pub unchanged : (cpus : ℕ) (s : State (Unit {0}) (View C)) (k : IsKept holds cpus s) (id at : ℕ)
      (w : View C)
      → Fits cpus s.words k.owner k.engine k.own_word_loads id w
      → holds (drop (base_of cpus) s.words) (map client_view (set s.views id w))
      → IsKept holds cpus record
      { words = set s.words at (get_or s.words at 0); homes = s.homes; views = set s.views id w }
  unchanged cpus s k id at w mine client =
      subst (λ (words : List ℕ).
      IsKept holds cpus record { words = words; homes = s.homes; views = set s.views id w })
      (sym (set-get_or s.words at 0))
      (changed cpus s k id w s.words k.own_word_loads k.room k.number k.boot k.absent
      (λ j u apart f. f) mine client)
