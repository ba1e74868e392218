use Rattle.std.proofs.Common.{◌<◌, arith}
use Rattle.rcu_graph.specs.Beside.{Moment}
use Rattle.rcu_graph.specs.Search.{IsSearched}
use Rattle.rcu_map.specs.Beside.{since}
use Rattle.rcu_map.specs.Keys.{bucket_of}
use Rattle.rcu_map.specs.Runs.{is_of}
use Rattle.rcu_map.proofs.Beside.{at_first, is_chain, part, part_linked, part_on}
use Rattle.rcu_map.proofs.laws.keys_that_stay_are_found_over_a_run.Goals as goal

pub returns : goal.returns
returns g c = λ plan opened key writer seat from done last moments now run found some one width up
    early kept made has walks search.
    let wide : 1 < plan.words = omega (arith, width) in
    let start = bucket_of plan.roots plan.seed key in
    c.keys_linked_over_a_run_are_found.ensures plan (is_of plan.roots plan.seed start) start key
    writer seat opened done (since from moments) found
    (is_chain g.E.Invariant.holds plan opened key writer last moments some one wide up kept)
    (part g.E.Invariant.holds plan opened key writer last moments some one wide up kept from done
    early now run made)
    walks
    (part_on g.E.Invariant.holds plan opened key writer last moments some one wide up kept from done
    early now run made)
    (at_first (λ (m : Moment). IsSearched start key m.section found
    (since from moments done).section) moments from search)
    (part_linked g.E.Invariant.holds plan opened key writer last moments some one wide up kept from
    done early now run made has)
