use Rattle.std.proofs.Common.{⊎_elim, inl, inr}
use Rattle.rcu_graph.specs.Nodes.{nodes_in}
use Rattle.rcu_map.specs.Room.{IsNoneFreeYet, IsOneTooMany}
use Rattle.rcu_map.proofs.Rooms.{insertion_has_room}
use Rattle.rcu_map.proofs.definition_laws.a_full_map_replaces.Goals as goal

pub returns-clause-replaced : goal.returns-clause-replaced
returns-clause-replaced c = λ writer key has lacks.
    ⊎_elim (λ (many : IsOneTooMany writer key). absurd (many.absent has))
    (λ (none : IsNoneFreeYet (nodes_in writer.view.client.known)). none) lacks

pub returns-clause-one_too_many : goal.returns-clause-one_too_many
returns-clause-one_too_many c = λ writer key absent full.
    inl (record { absent = absent; full = full })

pub returns-clause-none_free : goal.returns-clause-none_free
returns-clause-none_free c = λ writer key none. inr none

pub returns-clause-room : goal.returns-clause-room
returns-clause-room c = λ writer key node free not. insertion_has_room writer key node free not
