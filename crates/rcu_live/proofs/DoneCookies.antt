-- A cookie is not done while a section is open that was open when it was taken.
use Rattle.std.proofs.Common.{◌≡◌, ℕ, ◌≤◌, false, List, Some, get_or, arith}
use Rattle.std.proofs.lemmas.Bool.Decides.{nat_tests}
use Rattle.std.specs.Prelude.{slice_index}
use mathlib.Core.Option.{some}
use lib.ListN.{get_elem?}
use Rattle.atomic_table.specs.Table.{State}
use Rattle.rcu_seq.specs.Numbers.{Number}
use Rattle.rcu_seq.specs.Tags.{cookie_at, is_done_first, of_first_epoch}
use Rattle.rcu_live.specs.Client.{Views}
use Rattle.rcu_live.specs.Numbers.{is_past}
use Rattle.rcu_live.specs.Rule.{Fits, IsKept}
use Rattle.rcu_live.specs.declared.view.Role.TheVariants.{Cpu}
use Rattle.rcu_live.specs.declared.view.View.{View}

-- if no full grace period passed since a number, no cookie that was taken at it or later is done
taken_late : (at taken polled : Number) → is_past at polled ≡ false → at ≤ taken
    → is_done_first (cookie_at (of_first_epoch taken)) polled ≡ false
taken_late at taken polled current up = grind (arith, nat_tests)

pub not_done_while_open : {C : Type 0} (holds : List ℕ → Views C → Type 0) (cpus : ℕ)
    (s t : State (Unit {0}) (View C)) (i j : ℕ) (v w : View C) (at : Number)
    → IsKept holds cpus s
    → IsKept holds cpus t
    → get_elem? s.views i ≡ some v
    → v.role ≡ Cpu
    → v.section ≡ Some at
    → get_elem? t.views j ≡ some w
    → w.role ≡ Cpu
    → w.section ≡ Some at
    → is_done_first (cookie_at (of_first_epoch (slice_index s.words 0))) (slice_index t.words 0)
    ≡ false
not_done_while_open holds cpus s t i j v w at k l here cpu opened there also still =
    let f : Fits cpus s.words k.owner k.engine k.own_word_loads i v = k.fits i v here in
    let h : Fits cpus t.words l.owner l.engine l.own_word_loads j w = l.fits j w there in
    let taken : ℕ = get_or s.words 0 0 in
    let began : at ≤ v.seen = (f.sound cpu).to_seen at opened in
    let seen : v.seen ≤ taken = f.seen in
    taken_late at taken (get_or t.words 0 0) ((h.sound also).current at still)
    (omega (arith, began, seen))
