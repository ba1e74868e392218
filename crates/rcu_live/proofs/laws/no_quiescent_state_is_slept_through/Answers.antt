use Rattle.std.proofs.Common.{sym, ⊎_elim}
use Rattle.rcu_live.proofs.laws.no_quiescent_state_is_slept_through.Goals as goal

pub returns-clause-before : goal.returns-clause-before
returns-clause-before g c =
    λ plan cpus s k seat m here cpu. ((m.kept.fits k seat here).sound cpu).own_word

pub returns-clause-behind : goal.returns-clause-behind
returns-clause-behind g c =
    λ plan cpus s i k asking seat m last there cpu asked since answered.
    ⊎_elim (λ none. none)
    (λ stands. absurd (since
    (m.awake.unreported i k asking seat last there stands cpu (sym asked) answered)))
    (m.awake.stands i asking last)
