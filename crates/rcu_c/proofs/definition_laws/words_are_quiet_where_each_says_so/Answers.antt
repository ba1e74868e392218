use Rattle.std.proofs.Common.{◌≡◌, ℕ, ◌≤◌, true, arith}
use Rattle.std.proofs.lemmas.Bool.Decides.{nat_tests}
use Rattle.rcu_live.specs.Engine.{next_number}
use Rattle.rcu_live.specs.Numbers.{reports_quiescence}
use Rattle.rcu_c.proofs.definition_laws.words_are_quiet_where_each_says_so.Goals as goal

not_told : (number word : ℕ) → 1 ≤ number → word ≡ 1 → reports_quiescence number word ≡ true → ⊥
not_told number word some is told = grind (arith, nat_tests)

pub returns-clause-woken : goal.returns-clause-woken
returns-clause-woken c = λ e word cpu is quiet.
    not_told (next_number e.grace) (word cpu) (omega arith) is (quiet cpu)
