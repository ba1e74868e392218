use Rattle.std.proofs.Common.{rules, ◌∙◌, ap, sym}
use Rattle.rcu_hotplug.specs.Hotplug.{Processors}
use Rattle.rcu_state.specs.GpState.{lists_of}
use Rattle.rcu_live.proofs.Departures.{moved_alone, moved_awaits, only_memory}
use Rattle.rcu_live.proofs.engine.Engine.leave.Goals as goal

pub invariant_of-self-2 : goal.invariant_of-self-2
invariant_of-self-2 g c =
    let moved = moved_alone c.depart.new.gp.grace c.migrate.new.self.grace c.args.cpu
    c.migrate.result c.migrate.ensures.state c.migrate.ensures.unchanged in
    record {
      fits = search rules;
      role = search rules;
      number = search rules;
      epoch = search rules;
      cpus = search rules;
      already_quiescent = search rules;
      awaited =
          moved_awaits _ _ c.depart.new.gp.grace c.migrate.new.self.grace c.args.cpu
          c.migrate.result c.migrate.ensures.state c.migrate.ensures.unchanged (search rules);
      same = c.depart.ensures.awaited ∙ ap (λ (p : Processors). p.awaited) (sym moved);
      dealt = search rules;
      online = c.depart.ensures.online ∙ ap (λ (p : Processors). p.online) (sym moved);
    }

pub returns-clause-fault : goal.returns-clause-fault
returns-clause-fault g c =
    let memory =
    only_memory (lists_of c.depart.new.gp) c.args.cpu c.migrate.result c.migrate.ensures.fault in
    search rules

pub returns-clause-looked : goal.returns-clause-looked
returns-clause-looked g c =
    let memory =
    only_memory (lists_of c.depart.new.gp) c.args.cpu c.migrate.result c.migrate.ensures.fault in
    search rules
