-- The numbers that two batches wait for.
use Rattle.std.proofs.Common.{◌≡◌, ℕ, zero, suc, ◌<◌, refl, arith}
use Rattle.rcu_seq.specs.Numbers.{snapshot}
use Rattle.rcu_defer.specs.Marks.{IsAhead}

-- if the first number is not reached, the second one is not
pub second_waits : (a u b v n : ℕ) → (a ≡ 0 → b ≡ 0) → (0 < b → u < v) → (0 < a → n < u) → 0 < b
    → n < v
second_waits zero u b v n filled ascending h some = absurd (let none = filled refl in omega arith)
second_waits (suc a) u b v n filled ascending h some =
    let one = h (omega arith) in let two = ascending some in omega arith

-- if the first number is a snapshot, there is no second one
pub no_second : (u b v seen : ℕ) → (0 < b → u < v) → (0 < b → IsAhead seen v) → u ≡ snapshot seen
    → b ≡ 0
no_second u zero v seen ascending ahead same = refl
no_second u (suc b) v seen ascending ahead same =
    let above = ascending (omega arith) in
    let within = (ahead (omega arith)).within in
    absurd (omega arith)

-- a second number is the snapshot: no two numbers lie before it
pub second_is : (u v seen : ℕ) → IsAhead seen u → IsAhead seen v → u < v → v ≡ snapshot seen
second_is u v seen one two order =
    let a = one.above in
    let b = one.even in
    let d = two.within in
    let e = two.even in
    omega arith
