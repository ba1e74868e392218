-- An old section is on a processor that is awaited.
use Rattle.std.proofs.Common.{◌≡◌, ℕ, ◌<◌, ◌≤◌, true, List, Some, get_or, sym, ◌∙◌, subst, arith}
use Rattle.std.proofs.Common.{inl, inr}
use Rattle.std.proofs.lemmas.Bool.{cases_Bool}
use mathlib.Core.Option.{some}
use lib.ListN.{get_elem?}
use Rattle.atomic_table.specs.Table.{State}
use Rattle.rcu_seq.specs.Numbers.{Number, is_running}
use Rattle.rcu_seq.specs.Seq.{number_of}
use Rattle.rcu_node.specs.CpuSet.{is_in}
use Rattle.rcu_state.specs.GpState.{Grace}
use Rattle.rcu_state.proofs.Periods.{running_number}
use Rattle.rcu_live.specs.Client.{Views}
use Rattle.rcu_live.specs.Engine.{AwaitsTheOthers}
use Rattle.rcu_live.specs.Rule.{Fits, IsKept, is_cleared}
use Rattle.rcu_live.specs.View.{IsOfEngine}
use Rattle.rcu_live.specs.declared.view.Role.TheVariants.{Cpu}
use Rattle.rcu_live.specs.declared.view.View.{View}

pub old_awaited : {C X : Type 0} (holds : List ℕ → Views C → Type 0) (cpus : ℕ)
    (s : State (Unit {0}) (View C)) (i j : ℕ) (e v : View C) (g : Grace X) (at : Number)
    → IsKept holds cpus s
    → get_elem? s.views i ≡ some e
    → IsOfEngine e
    → e.seen ≡ number_of g.seq
    → AwaitsTheOthers cpus e.own_word_loads g
    → g.seq.running ≡ true
    → get_elem? s.views j ≡ some v
    → v.role ≡ Cpu
    → v.section ≡ Some at
    → at < e.seen
    → is_in g.processors.awaited v.cpu ≡ true
old_awaited holds cpus s i j e v g at k here engine number lock runs there cpu section old =
    elim (cases_Bool (is_in g.processors.awaited v.cpu)) [
      | inl awaited ↦ awaited
      | inr none ↦
          let f : Fits cpus s.words k.owner k.engine k.own_word_loads i e = k.fits i e here in
          let h : Fits cpus s.words k.owner k.engine k.own_word_loads j v = k.fits j v there in
          let n : ℕ = get_or s.words 0 0 in
          let same : e.seen ≡ n = f.number engine in
          let is : number_of g.seq ≡ n = sym number ∙ same in
          let cleared : is_cleared n v.cpu k.own_word_loads ≡ true =
          subst (λ (y : ℕ × List (ℕ × ℕ)). is_cleared y.0 v.cpu y.1 ≡ true)
          (λ x. (is x, f.found engine x)) (lock runs v.cpu (h.inside cpu) none) in
          let running : is_running n ≡ true =
          subst (λ (m : ℕ). is_running m ≡ true) is
          (running_number g.seq.ends g.seq.running runs) in
          let already_quiescent : n ≤ at = (h.sound cpu).cleared at section running cleared in
          absurd (omega (arith, already_quiescent, same, old))
    ]
