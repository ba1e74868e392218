use Rattle.std.proofs.Common.{◌+◌, subst}
use Rattle.rcu_graph.specs.declared.known.Known.{Known}
use Rattle.rcu_graph.specs.declared.plan.Plan.{Plan}
use Rattle.rcu_map.specs.After.{IsNextAfter}
use Rattle.rcu_map.specs.Words.{as_words}
use Rattle.rcu_c.specs.MapEntries.{IsKeyed}
use Rattle.rcu_c.specs.Maps.{known_of, map_plan}
use Rattle.rcu_c.proofs.MapLaws.{told_next}
use Rattle.rcu_c.proofs.map_laws.no_key_that_stays_is_passed_over.Goals as goal

pub returns : goal.returns
returns c = λ plan opened key stays writer id from done last moments now run before after room entry
    some one width up early kept made has walks behind between.
    let went = between.next in
    let Goes : Plan → Known → Known → Type 0 =
    λ p was known. IsNextAfter IsKeyed as_words p.roots p.seed key was went.found known in
    let goes = subst (λ (p : Plan). Goes p (moments from).section (moments (from + done)).section)
    between.planned
    (subst (λ (k : Known). Goes (map_plan before) k (moments (from + done)).section) between.begins
    (subst (λ (k : Known). Goes (map_plan before) (known_of before) k) between.ends went.next))
    in
    told_next plan.roots plan.seed key stays (moments from).section (moments (from + done)).section
    went.found room entry went.is_told goes
    (c.no_words_of_a_key_that_stays_are_passed_over.ensures plan opened key stays writer id from
    done last moments now run went.found some one width up early kept made has walks behind goes)
