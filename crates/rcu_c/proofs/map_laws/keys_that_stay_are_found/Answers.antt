use Rattle.std.proofs.Common.{◌+◌, subst}
use Rattle.rcu_graph.specs.Search.{IsSearched}
use Rattle.rcu_graph.specs.declared.known.Known.{Known}
use Rattle.rcu_graph.specs.declared.plan.Plan.{Plan}
use Rattle.rcu_map.specs.Keys.{bucket_of}
use Rattle.rcu_c.specs.Maps.{known_of, map_plan}
use Rattle.rcu_c.proofs.MapLaws.{told_of_key}
use Rattle.rcu_c.proofs.map_laws.keys_that_stay_are_found.Goals as goal

pub returns : goal.returns
returns c = λ plan opened key writer id from done last moments now run before after room entry some
    one width up early kept made has walks between.
    let got = between.got in
    let is = got.got up in
    let Searches : Plan → Known → Known → Type 0 =
    λ p was known. IsSearched (bucket_of p.roots p.seed key) key was is.node known in
    told_of_key key (known_of after) is.node got.found room entry is.told got.is_told
    (c.keys_that_stay_are_found_over_a_run.ensures plan opened key writer id from done last moments
    now run is.node some one width up early kept made has walks
    (subst (λ (p : Plan). Searches p (moments from).section (moments (from + done)).section)
    between.planned
    (subst (λ (k : Known). Searches (map_plan before) k (moments (from + done)).section)
    between.begins
    (subst (λ (k : Known). Searches (map_plan before) (known_of before) k) between.ends
    is.searched))))
