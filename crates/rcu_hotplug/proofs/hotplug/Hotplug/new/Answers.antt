use Rattle.std.proofs.Common.{◌∙◌, ap, false, true, List, Bool, replicate, slice_set}
use Rattle.rcu_node.proofs.CpuSetLemmas.{is_none, none_within}
use Rattle.rcu_hotplug.proofs.hotplug.Hotplug.new.Goals as goal

pub returns-clause-state : goal.returns-clause-state
returns-clause-state g c =
    let inner = c.args.inner in
    let tag = c.requires.tag in
    let start_set = c.requires.empty in
    let awaited = is_none _ (none_within _ _ _ start_set (g.met.A.Awaited.within inner)) in
    let none = c.in_ok-online.ensures.state ∙ ap (λ n. replicate n false) c.cpus.ensures in
    let online = c.insert.ensures.set ∙ ap (λ (set : List Bool). slice_set set 0 true) none in
    cc
