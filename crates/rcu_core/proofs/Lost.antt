-- No callback is lost: the lists of the processors hold the callbacks that were queued and not
-- handed out.
use Rattle.std.proofs.Common.{◌≡◌, ℕ, zero, suc, ◌+◌, ◌<◌, ◌≤◌, List, refl, ap, ◌∙◌, arith}
use Rattle.std.specs.Prelude.{sum_by}
use Rattle.std.specs.List.{range_with_len}
use Rattle.std.proofs.lemmas.List.Sums.{sum_by_push}
use Rattle.rcu_cblist.specs.SegList.{callbacks}
use Rattle.rcu_barrier.specs.Runs.{copies}
use Rattle.rcu_barrier.proofs.Places.{copies_are, lies}
use Rattle.rcu_core.specs.Callbacks.{list, queue_count, times_handed_out}
use Rattle.rcu_core.specs.History.{History}
use Rattle.rcu_core.specs.Links.{times_listed}
use Rattle.rcu_core.specs.Replies.{Size}
use Rattle.rcu_core.specs.Runs.{IsLegalRun, history, Run as Trace}
use Rattle.rcu_node.proofs.RangeLemmas.{range_last}
use Rattle.rcu_core.proofs.Once.{lies_below, queued_once, sum_below}
use Rattle.rcu_core.proofs.Readers.{possible}

-- a sum over the processors, from the last one and from the first
pub sums_are : (n : ℕ) (f g : ℕ → ℕ) → ((c : ℕ) → f c ≡ g c)
    → sum_by f (range_with_len 0 n) ≡ sum_below n g
sums_are zero f g e = refl
sums_are (suc n) f g e =
    let one = e n in let rest = sums_are n f g e in
    ap (λ (xs : List ℕ). sum_by f xs) (range_last 0 n n (omega arith))
    ∙ sum_by_push f (range_with_len 0 n) n
    ∙ omega (arith, one, rest)

listed_are : (n j : ℕ) (h : History) → times_listed n j h ≡ lies_below n j h
listed_are n j h =
    sums_are n (λ c. copies j (callbacks (list c h))) (λ c. lies j (list c h))
    (λ c. copies_are j (list c h))

pub no_loss : (s : Size) (run : Trace) (j : ℕ)
    → IsLegalRun s run → 0 < j → j ≤ queue_count (history run)
    → times_handed_out j (history run) + times_listed s.cpus j (history run) ≡ 1
no_loss s run j l z b =
    ap (λ n. times_handed_out j (history run) + n) (listed_are s.cpus j (history run))
    ∙ queued_once s j (history run) (possible s run l) z b
