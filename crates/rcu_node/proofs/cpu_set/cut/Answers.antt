use Rattle.std.proofs.Common.{◌≡◌, ◌+◌, ◌*◌, ◌^◌, ◌%◌, arith}
use Rattle.std.proofs.lemmas.Nat.{one_shl}
use Rattle.rcu_node.proofs.Cut.{cut-is, whole-is}
use Rattle.rcu_node.proofs.cpu_set.cut.Goals as goal

pub returns : goal.returns
returns c =
    let both : c.from.result * 2 ^ 64 % 2 ^ 128 + c.from-2.result
    ≡ c.args.next * 2 ^ 64 + c.args.word =
    omega (arith, c.from.ensures, c.from-2.ensures, c.ranges.next.fits) in
    let ones : 1 * 2 ^ c.args.width % 2 ^ 128 ≡ 2 ^ c.args.width =
    one_shl c.args.width 128 (omega arith) in
    rw (both, ones)
    (λ bit. cut-is c.args.word c.args.next c.args.first c.args.width bit c.ranges.word.fits)

pub returns-then-width-eq-WORD_BITS : goal.returns-then-width-eq-WORD_BITS
returns-then-width-eq-WORD_BITS c =
    rw (c.if-first-eq0.true, c.if-width-eq-WORD_BITS.true)
    (λ bit. whole-is c.args.word c.args.next bit c.ranges.word.fits)
