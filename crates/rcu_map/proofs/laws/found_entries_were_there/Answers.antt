use Rattle.std.proofs.Common.{◌≡◌, ◌+◌, ℕ, List, None, Option, Some, refl, subst}
use Rattle.rcu_graph.specs.Search.{IsSearched}
use Rattle.rcu_graph.specs.declared.known.Known.{Known}
use Rattle.rcu_map.specs.Found.{IsEntryFound, IsOfNode}
use Rattle.rcu_map.specs.Keys.{bucket_of}
use Rattle.rcu_map.proofs.laws.found_entries_were_there.Goals as goal

-- an entry is that of a node
of_node : {E : Type 0} (holds : List ℕ → Type 0) (decode : List ℕ → E) (key : ℕ) (known : Known)
    (node : Option ℕ) (entry : E)
    → IsOfNode (λ i e. IsEntryFound holds decode key known i e) node (Some entry)
    → (i : ℕ) × (node ≡ Some i) × IsEntryFound holds decode key known i entry
of_node holds decode key known (Some i) entry is = (i, refl, is)
of_node holds decode key known None entry is = absurd is

pub returns : goal.returns
returns g c = λ plan opened key writer seat from done last moments now run entry some one width up
    early kept made walks got.
    let f = of_node g.E.Invariant.holds g.E.Value.decode key (moments (from + done)).section
    got.node entry got.told in
    let found = f.2 in (
      found.words,
      c.words_found_over_a_run_were_there.ensures plan opened key writer seat from done last f.0
          moments now run found.words some one width up early kept made walks
          (subst (λ (n : Option ℕ). IsSearched (bucket_of plan.roots plan.seed key) key
          (moments from).section n (moments (from + done)).section) f.1 got.searched)
          found.held found.is,
      found.is,
      found.told,
    )
