use Rattle.std.proofs.Common.{refl}
use Rattle.std.proofs.Math.Nat.{le-max_left}
use Rattle.rcu_graph.specs.Absence.{aside, linked, published}
use Rattle.rcu_graph.specs.Nodes.{in_state, latest_in, linked_to, nodes_in, worded}
use Rattle.rcu_graph.specs.declared.node_state.NodeState.TheVariants.{Unlinked}
use Rattle.rcu_graph.proofs.Chains.{same_reclaimed, same_where, unseen_where_free}
use Rattle.rcu_graph.proofs.laws.calls_are_writer_steps.Goals as goal

pub returns-clause-write : goal.returns-clause-write
returns-clause-write c =
    λ ours opened root node word value writer free.
    aside (unseen_where_free opened (nodes_in writer.view.client.known) node (worded word value)
    free)

pub returns-clause-write_link : goal.returns-clause-write_link
returns-clause-write_link c = λ ours opened root node link value writer free.
    aside (unseen_where_free opened (nodes_in writer.view.client.known) node (linked_to link value)
    free)

pub returns-clause-link : goal.returns-clause-link
returns-clause-link c = λ ours opened root node link value writer on.
    linked node link value on refl

pub returns-clause-publish : goal.returns-clause-publish
returns-clause-publish c = λ ours opened root from link to writer live free still.
    published from link to live free still refl

pub returns-clause-mark_unlinked : goal.returns-clause-mark_unlinked
returns-clause-mark_unlinked c = λ ours opened root node writer.
    aside (same_where opened (nodes_in writer.view.client.known) node (in_state Unlinked)
    (λ may. (tt, refl, refl)))

pub returns-clause-look : goal.returns-clause-look
returns-clause-look c = λ ours opened root number writer opens.
    aside (same_reclaimed opened number _ (nodes_in writer.view.client.known)
    (le-max_left number (latest_in writer.view.client.known)) opens)
