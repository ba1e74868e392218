-- A search in a chain, hop by hop.
use Rattle.std.proofs.Common.{◌≡◌, ℕ, suc, ◌<◌, List, [], ◌∷◌, ◌++◌, Option, refl, ap, ◌∙◌}
use Rattle.std.specs.Prelude.{slice_index}
use Rattle.rcu_graph.specs.Nodes.{hops_in}
use Rattle.rcu_graph.specs.Search.{Decides, IsPath, IsSearched}
use Rattle.rcu_graph.specs.Steps.{Followed}
use Rattle.rcu_graph.specs.declared.known.Hop.{Hop}
use Rattle.rcu_graph.specs.declared.known.Known.{Known}

-- a search in progress: its hops so far are a path from the root over lesser keys to this node
pub record IsOnPath (root key : ℕ) (was now : Known) (node : ℕ) : Type 0 where
  pub path : List Hop
  pub are : hops_in now ≡ path ++ hops_in was
  pub is_path : IsPath root key path node

pub sets_out : (root key : ℕ) (was : Known) → IsOnPath root key was was root
sets_out root key was = record { path = []; are = refl; is_path = refl }

module _ (fits joins : List ℕ → Type 0) (width count root key : ℕ) (was mid : Known) (i : ℕ) where
  pub goes_on : (j : ℕ) (now : Known) → IsOnPath root key was mid i
      → (f : Followed fits joins width count mid i 0 (suc j) now) → slice_index f.words 0 < key
      → IsOnPath root key was now j
  goes_on j now p f low =
      let hop : Hop = record { from = i; link = 0; to = suc j; words = f.words } in record {
        path = hop ∷ p.path;
        are = ap hops_in f.is ∙ ap (λ (hops : List Hop). hop ∷ hops) p.are;
        is_path = (refl, refl, low, p.is_path);
      }

  pub arrives : (x : ℕ) (now : Known) (found : Option ℕ) → IsOnPath root key was mid i
      → (f : Followed fits joins width count mid i 0 x now)
      → Decides key found (record { from = i; link = 0; to = x; words = f.words })
      → IsSearched root key was found now
  arrives x now found p f decided =
      let hop : Hop = record { from = i; link = 0; to = x; words = f.words } in record {
        path = p.path;
        last = hop;
        are = ap hops_in f.is ∙ ap (λ (hops : List Hop). hop ∷ hops) p.are;
        is_path = p.is_path;
        along = refl;
        decided = decided;
      }
