use Rattle.std.proofs.Common.{rules, ◌≡◌, ◌+◌, ◌<◌, ◌==◌, Bool, false, not, nat_lt, List, length, ℕ}
use Rattle.std.proofs.Common.{ap, refl, sym, ◌∙◌, subst, arith, length-set}
use Rattle.std.proofs.lemmas.Bool.Decides.{nat_tests}
use Rattle.std.proofs.lemmas.List.{get_or-set_other}
use Rattle.rcu_node.specs.CpuSet.{is_in}
use Rattle.rcu_node.proofs.CpuSetLemmas.{listed_same}
use Rattle.rcu_live.specs.Engine.{loaded_word}
use Rattle.rcu_live.specs.Numbers.{reports_quiescence}
use Rattle.atomic_table.specs.declared.shared.Seat.{Seat}
use Rattle.rcu_live.specs.Engine.{after_own_word_loads}
use Rattle.rcu_live.specs.View.{after_own_word_load, found_offline}
use Rattle.rcu_live.specs.Words.{own_word_index}
use Rattle.rcu_live.specs.View.{absent_from}
use Rattle.rcu_live.proofs.OnlineMasks.{absent_inside}
use Rattle.rcu_live.proofs.LoadedWords.{all_found, flags_all, flags_more, found_of}
use Rattle.rcu_live.proofs.LoadedWords.{mask_loaded}
use Rattle.rcu_live.proofs.LoadedWords.{none_found}
use Rattle.rcu_live.proofs.LoadedWords.{many_in_turn}
use Rattle.rcu_live.proofs.LoadedWords.{one_more}
use Rattle.rcu_live.proofs.begin.load_own_words.Goals as goal
use Rattle.rcu_live.proofs.begin.load_own_words.Goals.{then-mask-eq0+else-cpu-next}
use Rattle.rcu_live.proofs.begin.load_own_words.Goals.{else-mask-eq0}

none_below : (n : ℕ) → nat_lt n 0 ≡ false
none_below n = grind (arith, nat_tests)

pub load_online_mask-requires-clause-next : goal.load_online_mask-requires-clause-next
load_online_mask-requires-clause-next g c =
    many_in_turn c.args.seat.now.me.0 c.loop-cpu.seat.me.0 c.loop-cpu.cpu c.loop-cpu.invariant.1

pub loop-cpu-preserved-then-cpu-next : goal.loop-cpu-preserved-then-cpu-next
loop-cpu-preserved-then-cpu-next g c =
    let i = c.loop-cpu.invariant in
    let n = c.loop-cpu.cpu in
    let more = c.absent_from.result in
    let cpus = c.args.board.now.cpus in
    let o = c.set_offline.ensures in
    let first = c.args.seat.now.me.0 in
    let v = c.loop-cpu.seat.me.0 in
    let w = c.load_online_mask.new.seat.me.0 in
    let here : c.cpus-cpus.result ≡ cpus = c.cpus-cpus.ensures.value ∙ c.requires.cpus in
    let mask = c.load_online_mask.result in
    let found : w ≡ found_offline v n more =
    mask_loaded first v w n mask cpus i.1 c.requires.dealt c.load_online_mask.ensures.told
    ∙ ap (λ (m : ℕ). found_offline v n (absent_from mask n m)) (sym here)
    ∙ ap (found_offline v n) (sym c.absent_from.ensures) in
    let number = c.args.by_word.now.number in (
      c.load_online_mask.ensures.table ∙ i.0,
      all_found first v w n more i.1 found,
      ap (λ (l : List Bool). length l) (sym o.same) ∙ o.long ∙ ap (λ (l : List Bool). length l) i.16
          ∙ i.2,
      flags_all (λ (x : ℕ). not (x == 0)) c.set_offline.new.gp.grace.processors.online v w n more
          refl found
          (λ d low. o.before d low ∙ i.3 d low)
          (λ d far less. o.offline d far less),
      i.4,
      flags_all (nat_lt number) c.loop-cpu.by_word.already_quiescent v w n more (none_below number)
          found i.5 (λ d far less. i.12 d far),
      o.becomes.cpus ∙ i.6,
      o.becomes.seq ∙ i.7,
      o.becomes.needed ∙ i.8,
      o.becomes.lists ∙ i.9,
      i.10,
      flags_all (λ (x : ℕ). not (reports_quiescence number x)) c.loop-cpu.by_word.awaited v w n more
          refl found i.11 (λ d far less. i.13 d far),
      λ d far. i.12 d (omega (arith, far)),
      λ d far. i.13 d (omega (arith, far)),
      i.14,
      omega (
        arith,
        c.absent_from.ensures,
        absent_inside mask n c.cpus-cpus.result c.loop-cpu-test.true,
        here,
      ),
      o.same,
      λ e. absurd (omega (arith, e, c.if-cpu-next.true)),
    )

pub loop-cpu-preserved : goal.loop-cpu-preserved
loop-cpu-preserved g c =
    let i = c.loop-cpu.invariant in
    let n = c.loop-cpu.cpu in
    let told = c.load_own-word.ensures.told in
    let word = c.load_own-word.result in
    let u = c.if-mask-eq0.seat.me.0 in
    let v = c.loop-cpu.seat.me.0 in
    let here : c.cpus-cpus.result ≡ c.args.board.now.cpus =
    c.cpus-cpus.ensures.value ∙ c.requires.cpus in
    let same : u ≡ v = elim c.if-mask-eq0.branch [
      | then-mask-eq0+else-cpu-next w ↦
          let mask = w.load_online_mask.result in
          let none : absent_from mask n c.args.board.now.cpus ≡ 0 =
          ap (absent_from mask n) (sym here) ∙ sym w.absent_from.ensures
          ∙ omega (arith, w.if-cpu-next.false) in
          ap (λ (x : Seat _ _). x.me.0) w.seat-is
          ∙ mask_loaded c.args.seat.now.me.0 v _ n mask c.args.board.now.cpus i.1 c.requires.dealt
          w.load_online_mask.ensures.told
          ∙ none_found v n _ none
      | else-mask-eq0 w ↦ ap (λ (x : Seat _ _). x.me.0) w.seat-is
    ] in
    let table : c.if-mask-eq0.seat.table_id ≡ c.loop-cpu.seat.table_id =
    elim c.if-mask-eq0.branch [
      | then-mask-eq0+else-cpu-next w ↦
          ap (λ (x : Seat _ _). x.table_id) w.seat-is ∙ w.load_online_mask.ensures.table
      | else-mask-eq0 w ↦ ap (λ (x : Seat _ _). x.table_id) w.seat-is
    ] in
    let view = told.view ∙ ap (λ (x : _). after_own_word_load x (own_word_index n) word) same in
    let w = c.load_own-word.new.seat.me.0 in
    let s = c.set_online.ensures.state in
    let inside : n < c.args.board.now.cpus = omega (arith, c.loop-cpu-test.true, here) in
    let online =
    subst (λ (flags : List Bool).
    (d : ℕ) → d < n + 1 → is_in flags d ≡ not (loaded_word w.own_word_loads d == 0))
    (sym s.these)
    (found_of (λ (x : ℕ). not (x == 0)) _ v w n word view
    (flags_more (λ (x : ℕ). not (x == 0)) c.loop-cpu.gp.grace.processors.online v.own_word_loads n
    word _ (omega (arith, inside, i.2)) (search rules) i.3)) in
    let number = c.args.by_word.now.number in
    let sets = c.loop-cpu.by_word in
    let added = c.add.ensures in
    let already_quiescent = subst (λ (flags : List Bool).
    (d : ℕ) → d < n + 1 → is_in flags d ≡ nat_lt number (loaded_word w.own_word_loads d))
    (sym added.already_quiescent)
    (found_of (nat_lt number) _ v w n word view
    (flags_more (nat_lt number) sets.already_quiescent v.own_word_loads n word _
    (omega (arith, inside, i.4)) (ap (λ (m : ℕ). nat_lt m word) i.14) i.5)) in
    let awaits : ℕ → Bool = λ x. not (reports_quiescence number x) in
    let awaited = subst (λ (flags : List Bool).
    (d : ℕ) → d < n + 1 → is_in flags d ≡ awaits (loaded_word w.own_word_loads d))
    (sym added.awaited)
    (found_of awaits _ v w n word view
    (flags_more awaits sets.awaited v.own_word_loads n word _ (omega (arith, inside, i.10))
    (ap (λ (m : ℕ). not (reports_quiescence m word)) i.14) i.11)) in (
      c.load_own-word.ensures.table ∙ table ∙ i.0,
      one_more c.args.seat.now.me.0 v w n word i.1 view,
      ap (λ (l : List Bool). length l) s.these
          ∙ length-set c.loop-cpu.gp.grace.processors.online n _
          ∙ i.2,
      online,
      ap (λ (l : List Bool). length l) added.already_quiescent
          ∙ length-set sets.already_quiescent n _
          ∙ i.4,
      already_quiescent,
      s.cpus ∙ i.6,
      s.seq ∙ i.7,
      s.needed ∙ i.8,
      s.lists ∙ i.9,
      ap (λ (l : List Bool). length l) added.awaited ∙ length-set sets.awaited n _ ∙ i.10,
      awaited,
      λ d more.
          ap (λ (l : List Bool). is_in l d) added.already_quiescent
          ∙ get_or-set_other sets.already_quiescent n d _ false
          (λ e. absurd (omega (arith, e, more)))
          ∙ i.12 d (omega (arith, more)),
      λ d more.
          ap (λ (l : List Bool). is_in l d) added.awaited
          ∙ get_or-set_other sets.awaited n d _ false (λ e. absurd (omega (arith, e, more)))
          ∙ i.13 d (omega (arith, more)),
      added.number ∙ i.14,
      omega (arith, inside),
      added.online ∙ c.set_online.ensures.same,
      λ e. absurd (omega (arith, e)),
    )

pub returns-clause-view : goal.returns-clause-view
returns-clause-view g c =
    let i = c.loop-cpu.invariant in
    let end : c.loop-cpu.cpu ≡ c.args.board.now.cpus =
    omega (arith, c.loop-cpu-test.false, c.cpus-cpus.ensures.value, c.requires.cpus, i.15) in
    i.1
    ∙ ap (after_own_word_loads c.args.seat.now.me.0
    (loaded_word c.loop-cpu.seat.me.0.own_word_loads)) end

pub returns-clause-state : goal.returns-clause-state
returns-clause-state g c =
    let i = c.loop-cpu.invariant in
    record {
      these =
          sym (listed_same _ _ c.loop-cpu.gp.grace.processors.online i.2
          (λ d low. sym (i.3 d
          (omega (
            arith,
            low,
            c.loop-cpu-test.false,
            c.cpus-cpus.ensures.value,
            c.requires.cpus,
          )))));
      cpus = i.6;
      seq = i.7;
      needed = i.8;
      lists = i.9;
    }

pub returns-clause-already_quiescent : goal.returns-clause-already_quiescent
returns-clause-already_quiescent g c =
    let i = c.loop-cpu.invariant in
    sym (listed_same _ _ c.loop-cpu.by_word.already_quiescent i.4
    (λ d low. sym (i.5 d
    (omega (
      arith,
      low,
      c.loop-cpu-test.false,
      c.cpus-cpus.ensures.value,
      c.requires.cpus,
    )))))

pub returns-clause-awaited : goal.returns-clause-awaited
returns-clause-awaited g c =
    let i = c.loop-cpu.invariant in
    sym (listed_same _ _ c.loop-cpu.by_word.awaited i.10
    (λ d low. sym (i.11 d
    (omega (
      arith,
      low,
      c.loop-cpu-test.false,
      c.cpus-cpus.ensures.value,
      c.requires.cpus,
    )))))
