-- Processors that depart from the engine.
use Rattle.std.proofs.Common.{◌≡◌, ◌≢◌, ℕ, ◌<◌, Bool, true, false, if◌then◌else◌, Result, Ok, Err}
use Rattle.std.proofs.Common.{OnOk, OnErr, IfErr, Some, None, List, subst, sym, ap, ◌∙◌, arith}
use Rattle.std.proofs.lemmas.Bool.Decides.{nat_tests}
use Rattle.rcu_seq.specs.declared.fault.Fault.{Fault}
use Rattle.rcu_seq.specs.declared.fault.Fault.TheVariants.{NoMemory}
use Rattle.rcu_node.specs.CpuSet.{is_in}
use Rattle.rcu_hotplug.specs.Hotplug.{Depart, cpus_of, refusal}
use Rattle.rcu_barrier.specs.Lists.{ListsWithRooms, migrate_refusal}
use Rattle.rcu_barrier.proofs.Refusals.{migrate_met}
use Rattle.rcu_state.specs.GpState.{Grace, after_migrate, with_call}
use Rattle.rcu_live.specs.Engine.{AwaitsTheOthers}
use Rattle.rcu_live.specs.EngineLists.{with_departure}

-- a processor other than 0 departs if it is online
pub departed : {X U : Type 0} (g now : Grace X) (cpu : ℕ) (o : Result U Fault)
    → cpu < cpus_of g.processors
    → cpu ≢ 0
    → OnOk o (refusal g.processors (Depart cpu) ≡ None)
    → OnOk o (now ≡ with_call g (Depart cpu))
    → IfErr o (λ fault. refusal g.processors (Depart cpu) ≡ Some fault)
    → OnErr o (now ≡ g)
    → now ≡ with_departure g cpu
departed g now cpu (Ok u) inside other accepted state refused unchanged =
    let there : is_in g.processors.online cpu ≡ true = grind (arith, nat_tests) in
    state ∙ sym (ap (λ (b : Bool). if b then with_call g (Depart cpu) else g) there)
departed g now cpu (Err fault) inside other accepted state refused unchanged =
    let gone : is_in g.processors.online cpu ≡ false = grind (arith, nat_tests) in
    unchanged ∙ sym (ap (λ (b : Bool). if b then with_call g (Depart cpu) else g) gone)

-- if a list moves, or stays because memory was refused, the processors stay
pub moved_alone : {X U : Type 0} (g now : Grace X) (cpu : ℕ) (o : Result U Fault)
    → OnOk o (now ≡ after_migrate g cpu) → OnErr o (now ≡ g) → now.processors ≡ g.processors
moved_alone g now cpu (Ok u) state unchanged = ap (λ (y : Grace _). y.processors) state
moved_alone g now cpu (Err fault) state unchanged = ap (λ (y : Grace _). y.processors) unchanged

-- and a processor that is not cleared is awaited as before
pub moved_awaits : {X U : Type 0} (cpus : ℕ) (words : List (ℕ × ℕ)) (g now : Grace X) (cpu : ℕ)
    (o : Result U Fault) → OnOk o (now ≡ after_migrate g cpu) → OnErr o (now ≡ g)
    → AwaitsTheOthers cpus words g → AwaitsTheOthers cpus words now
moved_awaits cpus words g now cpu (Ok u) state unchanged others =
    subst (λ (y : Grace _). AwaitsTheOthers cpus words y) (sym state) others
moved_awaits cpus words g now cpu (Err fault) state unchanged others =
    subst (λ (y : Grace _). AwaitsTheOthers cpus words y) (sym unchanged) others

-- a migration is refused only if memory is
pub only_memory : {X U : Type 0} (lists : ListsWithRooms X) (cpu : ℕ) (o : Result U Fault)
    → IfErr o (λ fault. migrate_refusal lists cpu ≡ Some fault)
    → IfErr o (λ fault. fault ≡ NoMemory)
only_memory lists cpu (Ok u) refused = tt
only_memory lists cpu (Err met) refused = (migrate_met lists cpu met refused).1
