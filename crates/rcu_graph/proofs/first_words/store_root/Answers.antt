use Rattle.std.proofs.Common.{◌≡◌, ◌≢◌, ◌+◌, ◌∙◌, ℕ, List, ap, arith, get_or, length-set, set, sym}
use Rattle.std.specs.Prelude.{slice_index}
use Rattle.std.proofs.lemmas.List.{get_or-set_other, get_or-set_same}
use mathlib.Core.Logic.{dite}
use native.Mathlib.Decide.{ℕ_discrete}
use Rattle.rcu_graph.proofs.first_words.store_root.Goals as goal

pub loop-word-preserved : goal.loop-word-preserved
loop-word-preserved g c =
    let i = c.loop-word.invariant in
    let old = c.loop-word.behind.items in
    let w = c.loop-word.word in
    let p = c.args.place + w in
    let words : List ℕ = g.F.Shape.first c.args.plan c.args.root in
    let x = c.first_word.result in
    let low = c.loop-word-test.true in (
      length-set old p x ∙ i.0,
      λ k small. dite (ℕ_discrete k w)
          (λ (e : k ≡ w).
          ap (λ (m : ℕ). get_or (set old p x) (c.args.place + m) 0) e
          ∙ (get_or-set_same old p x 0 (omega (arith, low, i.0, c.requires.room))
          ∙ (c.first_word.ensures ∙ sym (ap (λ (m : ℕ). slice_index words m) e))))
          (λ (ne : k ≢ w).
          get_or-set_other old p (c.args.place + k) x 0 (λ e. ne (omega (arith, e)))
          ∙ i.1 k (omega (arith, small, ne))),
      λ q apart. get_or-set_other old p q x 0 (apart w low) ∙ i.2 q apart,
    )
