use Rattle.rcu_graph.proofs.GoingOn.{hop_goes, link_goes, look_goes, mark_unlinked_goes}
use Rattle.rcu_graph.proofs.GoingOn.{publish_goes, write_goes, write_link_goes}
use Rattle.rcu_graph.proofs.definition_laws.runs_go_on_by_steps.Goals as goal

pub returns-clause-followed : goal.returns-clause-followed
returns-clause-followed g c = λ plan writer seat opened number node link words before can low
    on.
    hop_goes g.F.Shape.fits g.F.Shape.joins g.F.Shape.first plan writer seat opened number before
    can node link words low on

pub returns-clause-wrote : goal.returns-clause-wrote
returns-clause-wrote g c = λ plan writer seat opened number node word value before can low free
    short.
    write_goes g.F.Shape.fits g.F.Shape.joins g.F.Shape.first plan writer seat opened number before
    can node word value low free short

pub returns-clause-wrote_link : goal.returns-clause-wrote_link
returns-clause-wrote_link g c = λ plan writer seat opened number node link value before can low
    free short.
    write_link_goes g.F.Shape.fits g.F.Shape.joins g.F.Shape.first plan writer seat opened number
    before can node link value low free short

pub returns-clause-led : goal.returns-clause-led
returns-clause-led g c = λ plan writer seat opened number node link value before can low short
    live target.
    link_goes g.F.Shape.fits g.F.Shape.joins g.F.Shape.first plan writer seat opened number before
    can node link value low short live target

pub returns-clause-published : goal.returns-clause-published
returns-clause-published g c = λ plan writer seat opened number from link to before can low
    inner short live ready joined.
    publish_goes g.F.Shape.fits g.F.Shape.joins g.F.Shape.first plan writer seat opened number
    before can from link to low inner short live ready joined

pub returns-clause-mark_unlinked : goal.returns-clause-mark_unlinked
returns-clause-mark_unlinked g c =
    λ plan writer seat opened number node before can low short past live
    unlinked.
    mark_unlinked_goes g.F.Shape.fits g.F.Shape.joins g.F.Shape.first plan writer seat opened
    number before
    can node low short past live unlinked

pub returns-clause-looked : goal.returns-clause-looked
returns-clause-looked g c = λ plan writer seat opened number before can.
    look_goes g.F.Shape.fits g.F.Shape.joins g.F.Shape.first plan writer seat opened number before
    can
