use Rattle.std.proofs.Common.{◌≤◌, ◌≡◌, ◌∙◌, ◌+◌, ◌-◌, ◌<◌, ◌∷◌, ℕ, List, ap, arith, get_or, set}
use Rattle.std.proofs.Common.{subst}
use Rattle.std.proofs.Common.{sym}
use Rattle.std.proofs.lemmas.Bool.{false≢true}
use Rattle.std.proofs.lemmas.List.{get_or_read}
use Rattle.rcu_graph.specs.Graph.{word_to}
use Rattle.rcu_graph.specs.Nodes.{in_state, is_live, nodes_in, renewed, state_at}
use Rattle.rcu_graph.specs.Collecting.{IsCollecting}
use Rattle.rcu_graph.specs.declared.known.Node.{Node}
use Rattle.rcu_graph.specs.declared.plan.Plan.{Plan}
use Rattle.rcu_graph.specs.declared.node_state.NodeState.TheVariants.{Live, Unlinked}
use Rattle.rcu_graph.proofs.Cascade.{led_counted, led_inside, led_within, nodes_are, released_kept}
use Rattle.rcu_graph.proofs.Cascade.{released_marked, released_nowhere, released_unlinked}
use Rattle.rcu_graph.proofs.Cascade.{room_left}
use Rattle.rcu_graph.proofs.Counting.{test_live}
use Rattle.rcu_graph.proofs.counted_nodes.CountedNodes.release_link.Goals as goal

pub returns-in_default-clause-collecting : goal.returns-in_default-clause-collecting
returns-in_default-clause-collecting g c = λ stored from words t.
    released_nowhere c.args.graph.now.plan.nodes c.args.graph.now.plan.roots
    c.args.graph.now.plan.links stored (nodes_in c.args.self.now.nodes.view.client.known)
    c.args.self.now.counts.items c.args.self.now.unlinking.items from c.args.unlinked words
    c.args.word
    (sym c.node_of.ensures ∙ ap word_to c.in_default.is) t

pub index-requires : goal.index-requires
index-requires g c =
    let r = c.requires.collecting in
    let low = led_within c.args.graph.now.plan.nodes c.args.graph.now.plan.roots
    c.args.graph.now.plan.links r.0
    (nodes_in c.args.self.now.nodes.view.client.known)
    c.args.self.now.counts.items c.args.self.now.unlinking.items r.1 c.args.unlinked r.2
    c.in-Some.node
    c.args.word c.in-Some.ensures r.3 in
    omega (arith, low, c.args.self.now.counts.ok.0)

pub index_mut-requires : goal.index_mut-requires
index_mut-requires g c =
    let r = c.requires.collecting in
    let low = led_within c.args.graph.now.plan.nodes c.args.graph.now.plan.roots
    c.args.graph.now.plan.links r.0
    (nodes_in c.args.self.now.nodes.view.client.known)
    c.args.self.now.counts.items c.args.self.now.unlinking.items r.1 c.args.unlinked r.2
    c.in-Some.node
    c.args.word c.in-Some.ensures r.3 in
    omega (arith, low, c.args.self.now.counts.ok.0)

pub overflow_sub-count : goal.overflow_sub-count
overflow_sub-count g c =
    let r = c.requires.collecting in
    let nodes : List Node = nodes_in c.args.self.now.nodes.view.client.known in
    let counts : List ℕ = c.args.self.now.counts.items in
    let unlinking : List ℕ = c.args.self.now.unlinking.items in
    let low = led_within c.args.graph.now.plan.nodes c.args.graph.now.plan.roots
    c.args.graph.now.plan.links r.0 nodes counts unlinking r.1 c.args.unlinked r.2
    c.in-Some.node c.args.word c.in-Some.ensures r.3 in
    let some = led_counted c.args.graph.now.plan.nodes c.args.graph.now.plan.roots
    c.args.graph.now.plan.links r.0 nodes counts unlinking r.1 c.args.unlinked r.2
    c.in-Some.node c.args.word c.in-Some.ensures r.3 in
    let value : c.index.result.now ≡ get_or counts c.in-Some.node 0 =
    get_or_read counts c.in-Some.node _ low c.index.ensures 0 in
    omega (arith, some, value)

pub returns-then-count-gt0-clause-collecting : goal.returns-then-count-gt0-clause-collecting
returns-then-count-gt0-clause-collecting g c = λ stored from words t.
    let nodes : List Node = nodes_in c.args.self.now.nodes.view.client.known in
    let counts : List ℕ = c.args.self.now.counts.items in
    let unlinking : List ℕ = c.args.self.now.unlinking.items in
    let low = led_within c.args.graph.now.plan.nodes c.args.graph.now.plan.roots
    c.args.graph.now.plan.links stored nodes counts unlinking from c.args.unlinked words
    c.in-Some.node c.args.word c.in-Some.ensures t in
    let some = led_counted c.args.graph.now.plan.nodes c.args.graph.now.plan.roots
    c.args.graph.now.plan.links stored nodes counts unlinking from c.args.unlinked
    words c.in-Some.node c.args.word c.in-Some.ensures t in
    let value : c.index.result.now ≡ get_or counts c.in-Some.node 0 =
    get_or_read counts c.in-Some.node _ low c.index.ensures 0 in
    released_kept c.args.graph.now.plan.nodes c.args.graph.now.plan.roots
    c.args.graph.now.plan.links
    stored nodes counts unlinking from c.args.unlinked words
    c.in-Some.node c.args.word c.in-Some.ensures t (c.index.result.now - 1)
    (omega (arith, some, value)) (λ live past. c.if-count-gt0.true)

pub returns-then-node-plan-clause-collecting : goal.returns-then-node-plan-clause-collecting
returns-then-node-plan-clause-collecting g c = λ stored from words t.
    let nodes : List Node = nodes_in c.args.self.now.nodes.view.client.known in
    let counts : List ℕ = c.args.self.now.counts.items in
    let unlinking : List ℕ = c.args.self.now.unlinking.items in
    let low = led_within c.args.graph.now.plan.nodes c.args.graph.now.plan.roots
    c.args.graph.now.plan.links stored nodes counts unlinking from c.args.unlinked words
    c.in-Some.node c.args.word c.in-Some.ensures t in
    let some = led_counted c.args.graph.now.plan.nodes c.args.graph.now.plan.roots
    c.args.graph.now.plan.links stored nodes counts unlinking from c.args.unlinked
    words c.in-Some.node c.args.word c.in-Some.ensures t in
    let value : c.index.result.now ≡ get_or counts c.in-Some.node 0 =
    get_or_read counts c.in-Some.node _ low c.index.ensures 0 in
    released_kept c.args.graph.now.plan.nodes c.args.graph.now.plan.roots
    c.args.graph.now.plan.links
    stored nodes counts unlinking from c.args.unlinked words
    c.in-Some.node c.args.word c.in-Some.ensures t (c.index.result.now - 1)
    (omega (arith, some, value)) (λ live past.
    absurd (let roots = ap (λ (q : Plan). q.roots) c.plan-plan.ensures.plan in
    omega (arith, past, roots, c.if-node-plan.true)))

pub state-requires : goal.state-requires
state-requires g c =
    let r = c.requires.collecting in
    let p : Plan = c.args.graph.now.plan in
    let nodes : List Node = nodes_in c.args.self.now.nodes.view.client.known in
    let counts : List ℕ = c.args.self.now.counts.items in
    let unlinking : List ℕ = c.args.self.now.unlinking.items in
    let low = led_inside p.nodes p.roots p.links r.0 nodes counts unlinking r.1 c.args.unlinked r.2
    c.in-Some.node c.args.word c.in-Some.ensures r.3 in
    subst (λ (q : Plan). c.in-Some.node < q.nodes)
    (sym (c.mirror.ensures.plan ∙ c.requires.graph.planned)) low

pub returns-then-not-is_live-clause-collecting : goal.returns-then-not-is_live-clause-collecting
returns-then-not-is_live-clause-collecting g c = λ stored from words t.
    let nodes : List Node = nodes_in c.args.self.now.nodes.view.client.known in
    let counts : List ℕ = c.args.self.now.counts.items in
    let unlinking : List ℕ = c.args.self.now.unlinking.items in
    let low = led_within c.args.graph.now.plan.nodes c.args.graph.now.plan.roots
    c.args.graph.now.plan.links stored nodes counts unlinking from c.args.unlinked words
    c.in-Some.node c.args.word c.in-Some.ensures t in
    let some = led_counted c.args.graph.now.plan.nodes c.args.graph.now.plan.roots
    c.args.graph.now.plan.links stored nodes counts unlinking from c.args.unlinked
    words c.in-Some.node c.args.word c.in-Some.ensures t in
    let value : c.index.result.now ≡ get_or counts c.in-Some.node 0 =
    get_or_read counts c.in-Some.node _ low c.index.ensures 0 in
    released_kept c.args.graph.now.plan.nodes c.args.graph.now.plan.roots
    c.args.graph.now.plan.links
    stored nodes counts unlinking from c.args.unlinked words
    c.in-Some.node c.args.word c.in-Some.ensures t (c.index.result.now - 1)
    (omega (arith, some, value))
    (λ live past. absurd (false≢true
    (sym c.if-not-is_live.true ∙ (c.is_live.ensures ∙ ap is_live (c.state.ensures
    ∙ (ap (λ (ns : List Node). state_at ns c.in-Some.node) c.mirror.ensures.nodes ∙ live))))))

pub mark_unlinked-requires : goal.mark_unlinked-requires
mark_unlinked-requires g c =
    let r = c.requires.collecting in
    let p : Plan = c.args.graph.now.plan in
    let nodes : List Node = nodes_in c.args.self.now.nodes.view.client.known in
    let counts : List ℕ = c.args.self.now.counts.items in
    let unlinking : List ℕ = c.args.self.now.unlinking.items in
    let low = led_within p.nodes p.roots p.links r.0 nodes counts unlinking r.1 c.args.unlinked r.2
    c.in-Some.node c.args.word c.in-Some.ensures r.3 in
    let some =
    led_counted p.nodes p.roots p.links r.0 nodes counts unlinking r.1 c.args.unlinked r.2
    c.in-Some.node c.args.word c.in-Some.ensures r.3 in
    let value : c.index.result.now ≡ get_or counts c.in-Some.node 0 =
    get_or_read counts c.in-Some.node _ low c.index.ensures 0 in
    let live : state_at nodes c.in-Some.node ≡ Live =
    test_live (state_at nodes c.in-Some.node)
    (sym (c.is_live.ensures ∙ ap is_live (c.state.ensures
    ∙ ap (λ (ns : List Node). state_at ns c.in-Some.node) c.mirror.ensures.nodes))
    ∙ c.if-not-is_live.false) in
    let no_root : p.roots ≤ c.in-Some.node =
    (let roots = ap (λ (q : Plan). q.roots) c.plan-plan.ensures.plan in
    omega (arith, roots, c.if-node-plan.false)) in
    record {
      graph = c.requires.graph;
      node = led_inside p.nodes p.roots p.links r.0 nodes counts unlinking r.1 c.args.unlinked r.2
          c.in-Some.node c.args.word c.in-Some.ensures r.3;
      no_root = no_root;
      live = live;
      unlinked =
          released_unlinked p.nodes p.roots p.links r.0 nodes counts unlinking r.1
          c.args.unlinked
          r.2 c.in-Some.node c.args.word c.in-Some.ensures r.3 (c.index.result.now - 1)
          (omega (arith, some, value)) live no_root (omega (arith, c.if-count-gt0.false));
    }

pub index_mut-requires-2 : goal.index_mut-requires-2
index_mut-requires-2 g c =
    let r = c.requires.collecting in
    let nodes : List Node = nodes_in c.args.self.now.nodes.view.client.known in
    let live : state_at nodes c.in-Some.node ≡ Live =
    test_live (state_at nodes c.in-Some.node)
    (sym (c.is_live.ensures ∙ ap is_live (c.state.ensures
    ∙ ap (λ (ns : List Node). state_at ns c.in-Some.node) c.mirror.ensures.nodes))
    ∙ c.if-not-is_live.false) in
    let room = room_left c.args.graph.now.plan.nodes c.args.graph.now.plan.roots
    c.args.graph.now.plan.links r.0 nodes c.args.self.now.counts.items
    c.args.self.now.unlinking.items r.1 c.args.unlinked (c.args.word ∷ r.2) c.in-Some.node
    r.3 live in
    omega (arith, room, c.args.self.now.unlinking.ok.0)

pub overflow_add-result : goal.overflow_add-result
overflow_add-result g c =
    let r = c.requires.collecting in
    let nodes : List Node = nodes_in c.args.self.now.nodes.view.client.known in
    let live : state_at nodes c.in-Some.node ≡ Live =
    test_live (state_at nodes c.in-Some.node)
    (sym (c.is_live.ensures ∙ ap is_live (c.state.ensures
    ∙ ap (λ (ns : List Node). state_at ns c.in-Some.node) c.mirror.ensures.nodes))
    ∙ c.if-not-is_live.false) in
    let room = room_left c.args.graph.now.plan.nodes c.args.graph.now.plan.roots
    c.args.graph.now.plan.links r.0 nodes c.args.self.now.counts.items
    c.args.self.now.unlinking.items r.1 c.args.unlinked (c.args.word ∷ r.2) c.in-Some.node
    r.3 live in
    let many = r.3.room in
    omega (arith, room, many, c.plan-plan.ensures.nodes_fit)

pub returns-clause-collecting : goal.returns-clause-collecting
returns-clause-collecting g c = λ stored from words t.
    let nodes : List Node = nodes_in c.args.self.now.nodes.view.client.known in
    let counts : List ℕ = c.args.self.now.counts.items in
    let unlinking : List ℕ = c.args.self.now.unlinking.items in
    let low = led_within c.args.graph.now.plan.nodes c.args.graph.now.plan.roots
    c.args.graph.now.plan.links stored nodes counts unlinking from c.args.unlinked words
    c.in-Some.node c.args.word c.in-Some.ensures t in
    let some = led_counted c.args.graph.now.plan.nodes c.args.graph.now.plan.roots
    c.args.graph.now.plan.links stored nodes counts unlinking from c.args.unlinked
    words c.in-Some.node c.args.word c.in-Some.ensures t in
    let value : c.index.result.now ≡ get_or counts c.in-Some.node 0 =
    get_or_read counts c.in-Some.node _ low c.index.ensures 0 in
    let live : state_at nodes c.in-Some.node ≡ Live =
    test_live (state_at nodes c.in-Some.node)
    (sym (c.is_live.ensures ∙ ap is_live (c.state.ensures
    ∙ ap (λ (ns : List Node). state_at ns c.in-Some.node) c.mirror.ensures.nodes))
    ∙ c.if-not-is_live.false) in
    subst (λ (l : List Node). IsCollecting c.args.graph.now.plan.nodes c.args.graph.now.plan.roots
    c.args.graph.now.plan.links stored l
    (set counts c.in-Some.node (c.index.result.now - 1))
    (set unlinking c.args.unlinked c.in-Some.node)
    from (c.args.unlinked + 1) words)
    (sym (nodes_are c.args.self.now.nodes c.mark_unlinked.new.self
    (renewed nodes c.in-Some.node (in_state Unlinked)) c.mark_unlinked.ensures.state))
    (released_marked c.args.graph.now.plan.nodes c.args.graph.now.plan.roots
    c.args.graph.now.plan.links stored nodes counts unlinking from c.args.unlinked words
    c.in-Some.node c.args.word c.in-Some.ensures t (c.index.result.now - 1)
    (omega (arith, some, value)) live (let roots = ap (λ (q : Plan). q.roots)
    c.plan-plan.ensures.plan in
    omega (arith, roots, c.if-node-plan.false)) (omega (arith, c.if-count-gt0.false)))
