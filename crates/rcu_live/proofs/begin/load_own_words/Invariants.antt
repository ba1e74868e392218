use Rattle.std.proofs.Common.{◌≡◌, ◌-◌, ◌<◌, ◌≤◌, ◌==◌, false, not, nat_lt, length, ℕ}
use Rattle.rcu_node.specs.CpuSet.{is_in}
use Rattle.rcu_hotplug.specs.Hotplug.{cpus_of}
use Rattle.rcu_live.specs.Engine.{after_own_word_loads, loaded_word}
use Rattle.rcu_live.specs.Numbers.{reports_quiescence}
use Rattle.rcu_live.proofs.begin.load_own_words.Given as goal

abbrev pub invariant-loop-cpu : goal.invariant-loop-cpu
invariant-loop-cpu g l =
    (l.seat.table_id ≡ l.initial.seat.table_id)
    × (l.seat.me.0
    ≡ after_own_word_loads l.initial.seat.me.0 (loaded_word l.seat.me.0.own_word_loads) l.cpu)
    × (length l.gp.grace.processors.online ≡ l.board.cpus)
    × ((c : ℕ) → c < l.cpu → is_in l.gp.grace.processors.online c
    ≡ not (loaded_word l.seat.me.0.own_word_loads c == 0))
    × (length l.by_word.already_quiescent ≡ l.board.cpus)
    × ((c : ℕ) → c < l.cpu → is_in l.by_word.already_quiescent c
    ≡ nat_lt l.initial.by_word.number (loaded_word l.seat.me.0.own_word_loads c))
    × (cpus_of l.gp.grace.processors ≡ cpus_of l.initial.gp.grace.processors)
    × (l.gp.grace.seq ≡ l.initial.gp.grace.seq)
    × (l.gp.grace.needed ≡ l.initial.gp.grace.needed)
    × (l.gp.grace.lists ≡ l.initial.gp.grace.lists)
    × (length l.by_word.awaited ≡ l.board.cpus)
    × ((c : ℕ) → c < l.cpu → is_in l.by_word.awaited c
    ≡ not (reports_quiescence l.initial.by_word.number (loaded_word l.seat.me.0.own_word_loads c)))
    × ((c : ℕ) → l.cpu ≤ c → is_in l.by_word.already_quiescent c ≡ false)
    × ((c : ℕ) → l.cpu ≤ c → is_in l.by_word.awaited c ≡ false)
    × (l.by_word.number ≡ l.initial.by_word.number)
    × (l.cpu ≤ l.board.cpus)
    × (l.by_word.online ≡ l.gp.grace.processors.online)
    × (l.cpu ≡ 0 → l.mask ≡ 1)

abbrev pub decreases-loop-cpu : goal.decreases-loop-cpu
decreases-loop-cpu g l = l.board.cpus - l.cpu
