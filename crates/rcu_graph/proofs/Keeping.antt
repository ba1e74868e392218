-- The nodes' writer is still their writer after each of its steps.
use Rattle.std.proofs.Common.{◌≡◌, ◌<◌, ℕ, suc, List, [], length, refl, sym, ap, ◌∙◌, subst}
use Rattle.std.proofs.lemmas.List.FromFn.{length-map-range_with_len}
use Rattle.rcu_live.specs.Board.{Object}
use Rattle.rcu_live.specs.Watcher.{Watching, after_word_step, watcher_at_first}
use Rattle.rcu_graph.specs.Graph.{IsWatcherOf}
use Rattle.rcu_graph.specs.Writer.{IsWriterOf, after_publish, stored_to}
use Rattle.rcu_graph.specs.Nodes.{first_node, first_nodes, in_state, linked_to, nodes_in}
use Rattle.rcu_graph.specs.Nodes.{place_of, renewed}
use Rattle.rcu_graph.specs.Planned.{knowing, tells_publish}
use Rattle.rcu_graph.specs.Steps.{IsPublished}
use Rattle.rcu_graph.specs.declared.known.Known.{Known}
use Rattle.rcu_graph.specs.declared.known.Planned.{Planned}
use Rattle.rcu_graph.specs.declared.known.Known.TheVariants.{Owner, Writer}
use Rattle.rcu_graph.specs.declared.known.Node.{Node}
use Rattle.rcu_graph.specs.declared.node_state.NodeState.TheVariants.{Live}
use Rattle.rcu_graph.specs.declared.plan.Plan.{Plan}
use Rattle.rcu_graph.proofs.Planned.{told_at}

-- a watcher of the graph still is one if its nodes change
pub watches_on : (graph : Object Plan) (s : Watching Planned) (known : Known)
    → IsWatcherOf graph s → IsWatcherOf graph (after_word_step s (knowing s.view.client known))
watches_on graph s known w = record { engine = w.engine; planned = w.planned }

pub keeps_on : (graph : Object Plan) (old new : Watching Planned) (latest : ℕ)
    (nodes : List Node) (stored : List (List Node))
    → new ≡ after_word_step old new.view.client
    → new.view.client.plan ≡ old.view.client.plan
    → new.view.client.known ≡ Writer latest nodes stored
    → length nodes ≡ graph.plan.nodes
    → IsWriterOf graph old
    → IsWriterOf graph new
keeps_on graph old new latest nodes stored same stays is few k =
    let after : Planned = record {
      plan = old.view.client.plan;
      known = Writer latest nodes stored;
    } in
    let both : new.view.client ≡ after = λ i. record { plan = stays i; known = is i } in
    subst (IsWriterOf graph) (sym (same ∙ ap (λ (c : Planned). after_word_step old c) both))
    (record {
      watches = watches_on graph old (Writer latest nodes stored) k.watches;
      role = k.role;
      keeps = tt;
      few = few;
    })

-- if a link was stored that leads to a node which is then live, it was led to that one
pub led_to : (old new : Watching Planned) (plan : Plan) (place from link to x : ℕ)
    → new ≡ after_word_step old new.view.client
    → old.view.client.plan ≡ plan
    → tells_publish place old.view.client x new.view.client
    → link < plan.links
    → place ≡ place_of plan.roots plan.links plan.words from link
    → x ≡ suc to
    → new ≡ after_publish old from link to
led_to old new plan place from link to x same planned told low at more =
    let known = told_at (λ (p : Plan). IsPublished p.roots p.links p.words) place old.view.client x
    new.view.client plan planned told from link to low at more in
    same
    ∙ ((λ i. after_word_step old (record { plan = told.0 i; known = known i }))
    ∙ ap (λ (y : ℕ). stored_to old
    (renewed (renewed (nodes_in old.view.client.known) to (in_state Live)) from (linked_to link y)))
    more)

-- the watcher that has claimed the nodes as they are at first
pub keeps_first : (plan : Plan) (base : ℕ) (first : ℕ → List ℕ) (graph : Object Plan)
    (own seat : Watching Planned)
    → graph.base ≡ base
    → graph.plan ≡ plan
    → own ≡ watcher_at_first graph.table base (record { plan = plan; known = Owner })
    → seat ≡ after_word_step own
    (knowing own.view.client
    (Writer 0
    (first_nodes graph.plan.links graph.plan.words first graph.plan.roots graph.plan.nodes)
    []))
    → IsWriterOf graph seat
keeps_first plan base first graph own seat begins same first_seat is =
    let p : Plan = graph.plan in
    let nodes : List Node = first_nodes p.links p.words first p.roots p.nodes in
    subst (IsWriterOf graph)
    (sym (is ∙ ap (λ (w : Watching Planned).
    after_word_step w (knowing w.view.client (Writer 0 nodes []))) first_seat))
    (record {
      watches = record { engine = (refl, sym begins); planned = sym same };
      role = refl;
      keeps = tt;
      few = length-map-range_with_len (first_node p.links p.words first p.roots) 0 p.nodes;
    })
