use Rattle.std.proofs.Common.{◌+◌, ◌++◌, ap, subst, ◌∙◌}
use Rattle.rcu_graph.specs.Nodes.{hops_in}
use Rattle.rcu_graph.specs.declared.known.Known.{Known}
use Rattle.rcu_map.specs.Listing.{GoOn}
use Rattle.rcu_map.specs.declared.cursor.Cursor.{Cursor}
use Rattle.rcu_map.proofs.Nexts.{gone_to_end}
use Rattle.rcu_map.proofs.laws.keys_that_stay_are_returned_by_next.Goals as goal

pub returns : goal.returns
returns g c = λ plan opened key writer seat from done last moments now run first calls at some one
    width up early kept made has walks known root nexts end.
    let all = gone_to_end g.E.Invariant.holds g.E.Value.decode plan.roots plan.seed first calls
    (moments (from + done)).section at nexts end in
    all.returned key
    (c.keys_that_stay_are_listed_over_a_run.ensures plan opened key writer seat from done last
    moments now run all.hops at some one width up early kept made has walks
    (all.are ∙ ap (λ (k : Known). all.hops ++ hops_in k) known)
    (subst (λ (s : Cursor). GoOn plan.roots plan.seed s all.hops at) root all.goes) end.ended)
