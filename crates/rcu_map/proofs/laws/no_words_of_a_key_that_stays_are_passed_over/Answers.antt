use Rattle.std.proofs.Common.{◌≡◌, ◌<◌, ◌+◌, ◌++◌, arith, subst, sym, ◌∙◌}
use Rattle.std.proofs.lemmas.List.{append_cancel_right}
use Rattle.rcu_graph.specs.Absence.{AreMadeBy}
use Rattle.rcu_graph.specs.Beside.{Moment, nodes_at}
use Rattle.rcu_graph.specs.Nodes.{hops_in}
use Rattle.rcu_map.specs.Beside.{since}
use Rattle.rcu_map.specs.Keys.{bucket_of}
use Rattle.rcu_map.specs.Runs.{is_of}
use Rattle.rcu_map.proofs.Behind.{next_up_to}
use Rattle.rcu_map.proofs.Beside.{at_first, is_chain, part, part_linked, part_on}
use Rattle.rcu_map.proofs.Buckets.{bucket_inside}
use Rattle.rcu_map.proofs.Listings.{not_missed}
use Rattle.rcu_map.proofs.laws.no_words_of_a_key_that_stays_are_passed_over.Goals as goal

pub returns : goal.returns
returns g c = λ plan opened key stays writer seat from done last moments now run next some one width
    up early kept made has walks behind is_next.
    let wide : 1 < plan.words = omega (arith, width) in
    let start = bucket_of plan.roots plan.seed stays in
    let short = part g.E.Invariant.holds plan opened stays writer last moments some one wide up kept
    from done early now run made in
    let by = c.hops_are_made_by_their_run.ensures plan writer seat opened done (since from moments)
    short walks in
    let history = c.runs_are_histories.ensures plan (is_of plan.roots plan.seed start) start writer
    seat opened done (since from moments)
    (is_chain g.E.Invariant.holds plan opened stays writer last moments some one wide up kept) short
    walks
    (part_on g.E.Invariant.holds plan opened stays writer last moments some one wide up kept from
    done early now run made) in
    let linked = part_linked g.E.Invariant.holds plan opened stays writer last moments some one wide
    up kept from done early now run made has in
    next_up_to plan.roots plan.seed key stays up (bucket_inside plan.roots plan.seed stays some)
    behind g.E.Invariant.holds (moments from).section (moments (from + done)).section next
    (λ hops are.
    let these = at_first (λ (m : Moment). hops_in (since from moments done).section
    ≡ hops ++ hops_in m.section) moments from are in
    not_missed c.linked_keys_are_found.ensures (is_of plan.roots plan.seed start) opened start stays
    done (nodes_at (since from moments)) hops history linked
    (subst (AreMadeBy (nodes_at (since from moments)) done)
    (append_cancel_right by.0 hops (hops_in (since from moments 0).section) (sym by.1 ∙ these))
    by.2))
    is_next
