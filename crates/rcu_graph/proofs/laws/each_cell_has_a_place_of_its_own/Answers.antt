use Rattle.std.proofs.Common.{sym}
use Rattle.rcu_graph.proofs.Cells.{behind_first, next_root, place_inside_all, side_by_side, told}
use Rattle.rcu_graph.proofs.laws.each_cell_has_a_place_of_its_own.Goals as goal

pub returns-clause-own : goal.returns-clause-own
returns-clause-own c = λ plan node other k l small little same.
    told plan.roots plan.links plan.words node other k l small little same

pub returns-clause-inside : goal.returns-clause-inside
returns-clause-inside c = λ plan node k many low small. (
  behind_first plan.roots plan.links plan.words node k,
  place_inside_all plan.roots plan.links plan.words plan.nodes node k many low small,
)

pub returns-clause-words : goal.returns-clause-words
returns-clause-words c = λ plan node word.
    sym (side_by_side plan.roots plan.links plan.words node word)

pub returns-clause-links_of_roots : goal.returns-clause-links_of_roots
returns-clause-links_of_roots c = λ plan root k low small.
    next_root plan.roots plan.links plan.words root k low small
