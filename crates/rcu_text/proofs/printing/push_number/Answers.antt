use Rattle.std.proofs.Common.{◌≡◌, ◌+◌, ◌∷◌, [], arith}
use Rattle.std.proofs.lemmas.Fmt.{decimal_digit}
use Rattle.std.specs.Prelude.{decimal}
use Rattle.rcu_text.proofs.printing.push_number.Goals as goal

pub returns-then-n-lt10-clause-puts : goal.returns-then-n-lt10-clause-puts
returns-then-n-lt10-clause-puts g c =
    let e : decimal c.args.n ≡ (48 + c.args.n) ∷ [] = decimal_digit c.args.n (omega arith) in
    rw e (c.put_byte.ensures)

pub returns-then-n-lt10-clause-short : goal.returns-then-n-lt10-clause-short
returns-then-n-lt10-clause-short g c =
    let e : decimal c.args.n ≡ (48 + c.args.n) ∷ [] = decimal_digit c.args.n (omega arith) in
    rw e (omega arith)
