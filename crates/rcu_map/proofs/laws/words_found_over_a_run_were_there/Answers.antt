use Rattle.std.proofs.Common.{◌<◌, Some, arith}
use Rattle.rcu_graph.specs.Beside.{Moment}
use Rattle.rcu_graph.specs.Search.{IsSearched}
use Rattle.rcu_map.specs.Beside.{since}
use Rattle.rcu_map.specs.Keys.{bucket_of}
use Rattle.rcu_map.specs.Runs.{is_of}
use Rattle.rcu_map.proofs.Beside.{at_first, is_chain, part, part_had_entry, part_on}
use Rattle.rcu_map.proofs.laws.words_found_over_a_run_were_there.Goals as goal

pub returns : goal.returns
returns g c = λ plan opened key writer seat from done last node moments now run words some one width
    up early kept made walks search held keyed.
    let wide : 1 < plan.words = omega (arith, width) in
    let start = bucket_of plan.roots plan.seed key in
    let was = c.words_found_over_a_run_were_linked.ensures plan
    (is_of plan.roots plan.seed start)
    start key writer seat opened done node (since from moments) words
    (is_chain g.E.Invariant.holds plan opened key writer last moments some one wide up kept)
    (part g.E.Invariant.holds plan opened key writer last moments some one wide up kept from done
    early now run made)
    walks
    (part_on g.E.Invariant.holds plan opened key writer last moments some one wide up kept from done
    early now run made)
    (at_first (λ (m : Moment). IsSearched start key m.section (Some node)
    (since from moments done).section) moments from search)
    held in
    part_had_entry g.E.Invariant.holds plan opened key writer last moments some one wide up kept
    from done early now run made words keyed was.0 was.1 was.2
