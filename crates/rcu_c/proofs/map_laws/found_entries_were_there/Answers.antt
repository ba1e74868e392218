use Rattle.std.proofs.Common.{ℕ, ◌+◌, Option, Some, arith, subst}
use Rattle.rcu_graph.specs.Nodes.{IsHeld}
use Rattle.rcu_graph.specs.Search.{IsSearched}
use Rattle.rcu_graph.specs.declared.known.Known.{Known}
use Rattle.rcu_graph.specs.declared.plan.Plan.{Plan}
use Rattle.rcu_map.specs.Keys.{bucket_of}
use Rattle.rcu_c.specs.Maps.{known_of, map_plan}
use Rattle.rcu_c.proofs.MapLaws.{node_told}
use Rattle.rcu_c.proofs.map_laws.found_entries_were_there.Goals as goal

pub returns : goal.returns
returns c = λ plan opened key writer id from done last moments now run before after room entry some
    one width up early kept made walks between keyed.
    let got = between.got in
    let is = got.got up in
    let node = node_told key (known_of after) is.node got.found room entry is.told
    (let sized = between.sized in omega (arith, sized, width)) got.is_told keyed in
    let Searches : Plan → Known → Known → Option ℕ → Type 0 =
    λ p was known n. IsSearched (bucket_of p.roots p.seed key) key was n known in
    let had = c.words_found_over_a_run_were_there.ensures plan opened key writer id from done last
    node.0 moments now run entry some one width up early kept made walks
    (subst (λ (p : Plan). Searches p (moments from).section (moments (from + done)).section
    (Some node.0)) between.planned
    (subst (λ (k : Known). Searches (map_plan before) k (moments (from + done)).section
    (Some node.0)) between.begins
    (subst (λ (k : Known). Searches (map_plan before) (known_of before) k (Some node.0))
    between.ends
    (subst (λ (n : Option ℕ). Searches (map_plan before) (known_of before) (known_of after) n)
    node.1 is.searched))))
    (subst (λ (k : Known). IsHeld k node.0 entry) between.ends node.2) node.3 in
    (had, node.3)
