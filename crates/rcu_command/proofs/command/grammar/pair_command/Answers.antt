use Rattle.rcu_command.proofs.GrammarLemmas.{IsLocal, app_kept, local_kept, with_last_option}
use Rattle.rcu_command.proofs.GrammarLemmas.{with_option}
use Rattle.rcu_command.proofs.command.grammar.pair_command.Goals as goal

pub returns-clause-app : goal.returns-clause-app
returns-clause-app c =
    let none : IsLocal c.described.result _ = record {
      app = c.described.ensures.app;
      local = c.described.ensures.local;
    } in
    let leaf = with_option _ _ _ _ _ c.in_ok-arg.ensures c.u32_option.ensures.rule
    c.u32_option.ensures.local none in
    let inner = with_option _ _ _ _ _ c.in_ok-arg-2.ensures c.u32_option-2.ensures.rule
    c.u32_option-2.ensures.local leaf in
    let leaf2 = with_option _ _ _ _ _ c.in_ok-arg-3.ensures c.u32_option-3.ensures.rule
    c.u32_option-3.ensures.local inner in
    let inner2 = with_option _ _ _ _ _ c.in_ok-arg-4.ensures c.u32_option-4.ensures.rule
    c.u32_option-4.ensures.local leaf2 in
    let cpus = with_option _ _ _ _ _ c.in_ok-arg-5.ensures c.u32_option-5.ensures.rule
    c.u32_option-5.ensures.local inner2 in
    app_kept c.arg-6.result _
    (with_last_option _ _ _ _ _ c.arg-6.ensures c.last_option.ensures.rule
    c.last_option.ensures.local cpus)

pub returns-clause-local : goal.returns-clause-local
returns-clause-local c =
    let none : IsLocal c.described.result _ = record {
      app = c.described.ensures.app;
      local = c.described.ensures.local;
    } in
    let leaf = with_option _ _ _ _ _ c.in_ok-arg.ensures c.u32_option.ensures.rule
    c.u32_option.ensures.local none in
    let inner = with_option _ _ _ _ _ c.in_ok-arg-2.ensures c.u32_option-2.ensures.rule
    c.u32_option-2.ensures.local leaf in
    let leaf2 = with_option _ _ _ _ _ c.in_ok-arg-3.ensures c.u32_option-3.ensures.rule
    c.u32_option-3.ensures.local inner in
    let inner2 = with_option _ _ _ _ _ c.in_ok-arg-4.ensures c.u32_option-4.ensures.rule
    c.u32_option-4.ensures.local leaf2 in
    let cpus = with_option _ _ _ _ _ c.in_ok-arg-5.ensures c.u32_option-5.ensures.rule
    c.u32_option-5.ensures.local inner2 in
    local_kept c.arg-6.result _
    (with_last_option _ _ _ _ _ c.arg-6.ensures c.last_option.ensures.rule
    c.last_option.ensures.local cpus)
