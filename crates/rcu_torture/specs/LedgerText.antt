-- The lines of a ledger.
use Rattle.std.specs.Prelude.{ℕ, List, ◌++◌, codes}
use Rattle.rcu_text.specs.Texts.{numbered_text}
use Rattle.rcu_stress.specs.Ledger.{Account, early_in, queued_in, ran_in, twice_in}

-- the ledger of this number of workers and rounds
abbrev pub ledger_text : ℕ → ℕ → Account → List ℕ
ledger_text workers rounds ledger =
    numbered_text (codes "workers ") workers
    ++ (numbered_text (codes "rounds ") rounds
    ++ (numbered_text (codes "queued ") (queued_in ledger)
    ++ (numbered_text (codes "ran ") (ran_in ledger)
    ++ (numbered_text (codes "early ") (early_in ledger)
    ++ numbered_text (codes "twice ") (twice_in ledger)))))
