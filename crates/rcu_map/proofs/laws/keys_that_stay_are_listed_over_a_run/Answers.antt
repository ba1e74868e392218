use Rattle.std.proofs.Common.{◌≡◌, ◌<◌, ◌++◌, arith, subst, sym, ◌∙◌}
use Rattle.std.proofs.lemmas.List.{append_cancel_right}
use Rattle.rcu_graph.specs.Absence.{AreMadeBy}
use Rattle.rcu_graph.specs.Beside.{Moment, nodes_at}
use Rattle.rcu_graph.specs.Nodes.{hops_in}
use Rattle.rcu_map.specs.Beside.{since}
use Rattle.rcu_map.specs.Keys.{bucket_of}
use Rattle.rcu_map.specs.Runs.{is_of}
use Rattle.rcu_map.proofs.Beside.{at_first, is_chain, part, part_linked, part_on}
use Rattle.rcu_map.proofs.laws.keys_that_stay_are_listed_over_a_run.Goals as goal

pub returns : goal.returns
returns g c = λ plan opened key writer seat from done last moments now run hops at some one width up
    early kept made has walks are goes ended.
    let wide : 1 < plan.words = omega (arith, width) in
    let start = bucket_of plan.roots plan.seed key in
    let short = part g.E.Invariant.holds plan opened key writer last moments some one wide up kept
    from done early now run made in
    let by = c.hops_are_made_by_their_run.ensures plan writer seat opened done (since from moments)
    short walks in
    let these = at_first (λ (m : Moment). hops_in (since from moments done).section
    ≡ hops ++ hops_in m.section) moments from are in
    c.linked_keys_are_listed.ensures (is_of plan.roots plan.seed start) opened plan.roots plan.seed
    key done (nodes_at (since from moments)) hops at some up goes ended
    (c.runs_are_histories.ensures plan (is_of plan.roots plan.seed start) start writer seat opened
    done (since from moments)
    (is_chain g.E.Invariant.holds plan opened key writer last moments some one wide up kept) short
    walks
    (part_on g.E.Invariant.holds plan opened key writer last moments some one wide up kept from done
    early now run made))
    (part_linked g.E.Invariant.holds plan opened key writer last moments some one wide up kept from
    done early now run made has)
    (subst (AreMadeBy (nodes_at (since from moments)) done)
    (append_cancel_right by.0 hops (hops_in (since from moments 0).section) (sym by.1 ∙ these))
    by.2)
