use Rattle.std.proofs.Common.{◌≡◌, ◌≢◌, ◌+◌, ◌<◌, ℕ, length}
use Rattle.std.specs.Prelude.{slice_index}
use Rattle.rcu_graph.proofs.first_words.store_root.Given as goal

abbrev pub invariant-loop-word : goal.invariant-loop-word
invariant-loop-word g l =
    (length l.behind.items ≡ length l.initial.behind.items)
    × ((k : ℕ) → k < l.word → slice_index l.behind.items (l.place + k) ≡ slice_index
    (g.F.Shape.first l.plan l.root) k)
    × ((p : ℕ) → ((k : ℕ) → k < l.plan.words → p ≢ l.place + k) → slice_index l.behind.items p
    ≡ slice_index l.initial.behind.items p)
