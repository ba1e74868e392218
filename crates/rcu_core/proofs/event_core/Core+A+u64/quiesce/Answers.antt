use Rattle.std.proofs.Common.{◌∙◌, ◌<◌, ◌≡◌, ◌++◌, ◌∷◌, [], ap, refl, rules}
use Rattle.rcu_hotplug.specs.Hotplug.{cpus_of}
use Rattle.rcu_cpu.specs.CpuData.{Processor, report_of}
use Rattle.rcu_core.specs.Core.{processor}
use Rattle.rcu_core.proofs.Sound.{at_place, sound_made}
use Rattle.rcu_core.proofs.event_core.Core+A+u64.quiesce.Goals as goal

pub invariant_of-self-2 : goal.invariant_of-self-2
invariant_of-self-2 g c =
    let within : c.args.cpu < cpus_of c.self.inside.gp.grace.processors = search rules in
    let here : c.index.result.now ≡ processor c.self.inside.cpus.items c.args.cpu =
    at_place _ _ _ c.self.invariant.sound within
    (rw c.in_ok-at.ensures.index at c.index.ensures) in
    let made : c.in_ok-report.report ≡ report_of (processor c.self.inside.cpus.items c.args.cpu) =
    c.in_ok-report.ensures.report ∙ ap (λ (p : Processor). report_of p) here in
    let pushed : c.push.new.self.items ≡ c.self.inside.reports.items ++ c.in_ok-report.report ∷ [] =
    search rules in
    record {
      sound = sound_made _ c.args.cpu _ within (pushed ∙ rw made refl) c.self.invariant.sound;
    }
