use Rattle.std.proofs.Common.{arith, ◌≡◌, ◌∙◌, ◌<◌, Option, None, ℕ, get_or, map, refl, sym}
use Rattle.std.specs.Prelude.{IfSome}
use Rattle.std.proofs.lemmas.List.Elements.{All-get_or}
use Rattle.std.proofs.Math.ListN.{get_or-map}
use lib.ListN.{length-map}
use Rattle.rcu_graph.specs.Graph.{word_to}
use Rattle.rcu_graph.specs.Mirror.{with_links_to}
use Rattle.rcu_graph.proofs.Filling.{below_more, can_store, link_filled, links_filled}
use Rattle.rcu_graph.proofs.Filling.{low_in, no_link_filled}
use Rattle.rcu_graph.proofs.known_nodes.KnownNodes.fill_links.Goals as goal

pub loop-link-init : goal.loop-link-init
loop-link-init g c =
    no_link_filled c.args.self.now c.args.node (map word_to c.args.links.now) c.requires.free.keeps

pub loop-link-preserved : goal.loop-link-preserved
loop-link-preserved g c =
    let l = c.loop-link.link in
    let links = c.args.links.now in
    let can = c.requires.free in
    let low = low_in c.args.node c.args.graph.now.plan.nodes _ can.few can.inside in
    let inside = low_in l c.args.graph.now.plan.links _ can.link_count
    (omega (arith, c.loop-link-test.true, c.requires.links)) in
    let small =
    low_in l c.args.graph.now.plan.links _ (length-map links word_to ∙ c.requires.links)
    (omega (arith, c.loop-link-test.true, c.requires.links)) in
    let x : c.word_of.result ≡ get_or (map word_to links) l 0 =
    c.word_of.ensures ∙ sym (get_or-map word_to links l None) in
    link_filled c.args.self.now c.args.node l c.word_of.result (map word_to links) c.loop-link.self
    c.write_link.new.self low inside small x c.loop-link.invariant c.write_link.ensures

pub word_of-requires : goal.word_of-requires
word_of-requires g c =
    let l = c.loop-link.link in
    let links = c.args.links.now in
    let small = low_in l c.args.graph.now.plan.links _ c.requires.links
    (omega (arith, c.loop-link-test.true, c.requires.links)) in
    below_more (get_or links l None) c.args.graph.now.plan.nodes 18446744073709551615
    (omega (arith, c.kept.ensures.nodes_fit))
    (All-get_or (λ (to : Option ℕ). IfSome to (λ other. other < c.args.graph.now.plan.nodes)) links
    l None small
    c.requires.inside)

pub write_link-requires : goal.write_link-requires
write_link-requires g c =
    can_store c.args.self.now c.args.node c.args.graph.now.plan.links c.loop-link.link
    c.args.graph.now c.loop-link.self
    (with_links_to c.loop-link.link (map word_to c.args.links.now)) c.requires.free refl
    c.loop-link.invariant
    (omega (arith, c.loop-link-test.true, c.requires.links))

pub returns : goal.returns
returns g c =
    let links = c.args.links.now in
    links_filled c.args.self.now c.args.node c.args.graph.now.plan.links c.loop-link.link
    (map word_to links)
    c.loop-link.self
    (omega (arith, c.loop-link-test.false, c.loop-link.auto.link-end, c.requires.links))
    (length-map links word_to ∙ c.requires.links) c.requires.free.link_count c.loop-link.invariant
