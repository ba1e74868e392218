use Rattle.std.proofs.Common.{◌≡◌, ◌<◌, ℕ, length}
use Rattle.std.specs.Prelude.{slice_index}
use Rattle.rcu_cell.specs.Lent.{lent, version_lent}
use Rattle.rcu_cell.proofs.version_guard.VersionGuard.snapshot.Given as goal

abbrev pub invariant-loop-word : goal.invariant-loop-word
invariant-loop-word g l =
    (lent l.self ≡ lent l.initial.self)
    × (length l.words ≡ length l.initial.words)
    × ((j : ℕ) → j < l.word → slice_index l.words j
    ≡ slice_index (version_lent g.P.Within.lens g.F.Version.first (lent l.initial.self)) j)
