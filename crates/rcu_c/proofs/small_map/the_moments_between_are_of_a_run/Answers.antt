use Rattle.std.proofs.Common.{◌≡◌, ℕ, suc, ◌+◌, arith, subst}
use Rattle.rcu_graph.specs.Beside.{IsSectionMove}
use Rattle.rcu_map.specs.Keys.{GoesUp, IsWhole, root_words}
use Rattle.rcu_map.specs.SmallMap.{small_moments, small_plan}
use Rattle.rcu_c.specs.MapEntries.{IsKeyed}
use Rattle.rcu_c.proofs.small_map.the_moments_between_are_of_a_run.Goals as goal

pub returns-clause-map : goal.returns-clause-map
returns-clause-map c = c.a_map_changes_beside_a_section.ensures.map

-- the section's move between two moments of the small run
abbrev Moves : ℕ → ℕ → Type 0
Moves from to = IsSectionMove (λ p. IsWhole IsKeyed p.words)
    (λ p _ words next. GoesUp p.roots p.seed words next) (λ p. root_words p.words) small_plan
    (small_moments from) (small_moments to)

pub returns-clause-reads : goal.returns-clause-reads
returns-clause-reads c =
    let reads = c.a_map_changes_beside_a_section.ensures.reads in
    record {
      at = λ t low. reads.at (1 + t) (omega (arith, low));
      moves = λ t low.
          let next : suc (1 + t) ≡ 1 + suc t = omega arith in
          subst (λ (n : ℕ). Moves (1 + t) n) next (reads.moves (1 + t) (omega (arith, low)));
    }

pub returns-clause-run : goal.returns-clause-run
returns-clause-run c = λ own.
    let is = c.a_map_changes_beside_a_section.ensures.run own in (is.0, is.1, is.3)
