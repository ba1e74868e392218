use Rattle.std.proofs.Common.{◌≡◌, false, replicate, Ok, Err, OnOk, OnErr, inl, inr, ap, ◌∙◌, sym}
use Rattle.rcu_seq.specs.declared.tag.Tag.{Tag}
use Rattle.rcu_node.specs.CpuSet.{intersection}
use Rattle.rcu_report.proofs.Awaiting.{IsMerged, length-merged, none_merged}
use Rattle.rcu_report.proofs.replica.Replica.merge_from.Goals as goal

pub invariant_of-self : goal.invariant_of-self
invariant_of-self g c =
    let old = g.A.Awaited.awaited c.self.inside.inner in
    let other = g.B.Awaited.awaited c.other.inside.inner in
    let now = g.A.Awaited.awaited c.merge.new.to in
    let either : IsMerged old other now =
    elim c.merge.result as
    (λ r. OnOk r (now ≡ intersection old other)
    → OnErr r (c.merge.new.to ≡ c.self.inside.inner)
    → IsMerged old other now) [
      | Ok done ↦ λ ok err. inl ok
      | Err fault ↦ λ ok err. inr (ap (λ a. g.A.Awaited.awaited a) err)
    ] c.merge.ensures.awaited c.merge.ensures.unchanged in
    let sized = length-merged old other now either in
    record {
      latest = c.merge.ensures.tag ∙ c.self.invariant.latest;
      epoch = c.self.invariant.epoch;
      fresh = λ e.
          c.merge.ensures.start_set
          ∙ c.self.invariant.fresh (ap (λ (t : Tag). t.number) (sym c.merge.ensures.tag) ∙ e)
          ∙ ap (λ n. replicate n false) (sym sized);
      idle = λ rests. none_merged old other now either (c.self.invariant.idle rests);
    }
