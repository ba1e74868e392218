use Rattle.std.proofs.Common.{◌<◌, rules}
use Rattle.rcu_hotplug.specs.Hotplug.{cpus_of}
use Rattle.rcu_core.proofs.Steps.{along, does_tend}
use Rattle.rcu_core.proofs.event_core.Core+A+u64.tend.Goals as goal

pub returns : goal.returns
returns g c =
    let within : c.args.cpu < cpus_of c.self.inside.gp.grace.processors = search rules in
    let told = c.tend-done.ensures in
    along _ _ _ _ _ c.self.view_is
    (does_tend _ _ c.args.cpu _ _ c.self.invariant.sound within (search rules) told.done
    told.waiting)
