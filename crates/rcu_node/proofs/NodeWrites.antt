-- One node of a list is written: what is read of all of them.
use Rattle.std.proofs.Common.{◌≡◌, ℕ, List, get_or, slice_set, map, sym, ap, ◌∙◌}
use Rattle.std.proofs.lemmas.List.{map-set, set-get_or}
use Rattle.rcu_node.specs.declared.node.Node.{Node}

-- a part that a write keeps in the node is kept in the list
pub map_kept : (read : Node → ℕ) (nodes : List Node) (i : ℕ) (new old : Node)
    → old ≡ get_or nodes i old → read new ≡ read old
    → map read (slice_set nodes i new) ≡ map read nodes
map_kept read nodes i new old was same =
    map-set read nodes i new
    ∙ ap (λ v. slice_set (map read nodes) i v) same
    ∙ sym (map-set read nodes i old)
    ∙ ap (map read) (ap (slice_set nodes i) was ∙ set-get_or nodes i old)
