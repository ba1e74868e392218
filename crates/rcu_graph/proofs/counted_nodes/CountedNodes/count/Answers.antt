use Rattle.std.proofs.Common.{◌≡◌, arith, get_or, sym}
use Rattle.std.proofs.lemmas.List.{get_or_read}
use Rattle.rcu_graph.proofs.counted_nodes.CountedNodes.count.Goals as goal

pub index_mut-requires : goal.index_mut-requires
index_mut-requires g c =
    let inside = c.requires.inside c.in-Some.node (sym c.in-Some.ensures) in
    omega (arith, inside, c.args.self.now.counts.ok.0)

pub overflow_add-index_mut : goal.overflow_add-index_mut
overflow_add-index_mut g c =
    let items = c.args.self.now.counts.items in
    let few = c.requires.few c.in-Some.node (sym c.in-Some.ensures) in
    let inside = c.requires.inside c.in-Some.node (sym c.in-Some.ensures) in
    let value : c.index_mut.result.now ≡ get_or items c.in-Some.node 0 =
    get_or_read items _ _ inside c.index_mut.ensures.value 0 in
    omega (arith, few, value)
