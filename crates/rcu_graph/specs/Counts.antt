-- How many links lead to a node.
use Rattle.std.specs.Prelude.{ℕ, zero, suc, ◌+◌, Bool, true, false, List, nat_eq, slice_index}
use Rattle.std.specs.Prelude.{slice_set, sum_by, if◌then◌else◌}
use Rattle.rcu_graph.specs.Nodes.{is_live}
use Rattle.rcu_graph.specs.declared.known.Node.{Node}

abbrev pub one_if : Bool → ℕ
one_if true = 1
one_if false = 0

-- how many of these links have this word
abbrev pub times_in : List ℕ → ℕ → ℕ
times_in cells word = sum_by (λ x. one_if (nat_eq x word)) cells

-- how many links of the node lead to the node i, if it is live
abbrev pub links_from : Node → ℕ → ℕ
links_from v i = if is_live v.state then times_in v.links (suc i) else 0

-- how many links of live nodes lead to the node i
abbrev pub links_to : List Node → ℕ → ℕ
links_to nodes i = sum_by (λ v. links_from v i) nodes

-- the counts after one more link with this word
abbrev pub counted_up : List ℕ → ℕ → List ℕ
counted_up counts zero = counts
counted_up counts (suc i) = slice_set counts i (slice_index counts i + 1)
