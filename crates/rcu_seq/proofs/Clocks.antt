-- Numbers of all epochs, counted on.
use Rattle.std.proofs.Common.{◌≡◌, ◌≤◌, ◌<◌, ◌+◌, ◌*◌, ◌%◌, ℕ, true, nat_le, nat_lt, arith, inl}
use Rattle.std.proofs.Common.{inr, sym, ap, ◌∙◌}
use Rattle.std.proofs.lemmas.Bool.Decides.{nat_tests}
use Rattle.std.proofs.lemmas.Bool.{cases_eq, cases_lt}
use Rattle.std.proofs.lemmas.Nat.{mul-mod_second}
use Rattle.std.proofs.Math.Nat.{add-mul, mul-le-mul_right, one-mul}
use Rattle.rcu_seq.specs.Numbers.{is_last, is_running, snapshot}
use Rattle.rcu_seq.specs.Tags.{clock_of, cookie_at, is_before, is_done_at}
use Rattle.rcu_seq.specs.declared.tag.Tag.{Tag}

-- the counts at the begin of epochs: of the same one, of the next one, and of later ones
pub next_epoch : (e last : ℕ) → (e + 1) * last ≡ e * last + last
next_epoch e last = add-mul e 1 last ∙ ap (λ k. e * last + k) (one-mul last)

pub later_epoch : (e f last : ℕ) → e < f → e * last + last ≤ f * last
later_epoch e f last l =
    let more = mul-le-mul_right {m = e + 1} {n = f} last (omega (arith, l)) in
    let next = next_epoch e last in omega (arith, more, next)

pub much_later_epoch : (e f last : ℕ) → e + 1 < f → e * last + 2 * last ≤ f * last
much_later_epoch e f last l =
    let more = later_epoch (e + 1) f last l in
    let next = next_epoch e last in omega (arith, more, next)

-- they are multiples of 4
pub by_fours : (e last : ℕ) → last % 4 ≡ 0 → (e * last) % 4 ≡ 0
by_fours e last z = sym (mul-mod_second e last 4) ∙ ap (λ r. (e * r) % 4) z ∙ omega arith

snapshot_on : (base n : ℕ) → base % 4 ≡ 0 → snapshot (base + n) ≡ base + snapshot n
snapshot_on base n z = omega (arith, z)

pub done_same : (last base : ℕ) (t n : Tag) → t.epoch ≡ n.epoch
    → is_done_at last (cookie_at t) n ≡ nat_le (base + snapshot t.number) (base + n.number)
done_same last base t n e = grind (arith, nat_tests, e)

done_next : (last base : ℕ) (t n : Tag) → is_last last ≡ true → t.number ≤ last → n.number ≤ last
    → t.epoch + 1 ≡ n.epoch
    → is_done_at last (cookie_at t) n ≡ nat_le (base + snapshot t.number) (base + last + n.number)
done_next last base t n w le m e = grind (arith, nat_tests, w, le, m, e)

done_later : (last base later : ℕ) (t n : Tag) → is_last last ≡ true → t.number ≤ last
    → t.epoch + 1 < n.epoch
    → base + 2 * last ≤ later
    → is_done_at last (cookie_at t) n ≡ nat_le (base + snapshot t.number) (later + n.number)
done_later last base later t n w le e l = grind (arith, nat_tests, w, le, e, l)

done_sooner : (last base sooner : ℕ) (t n : Tag) → is_last last ≡ true → n.number ≤ last
    → n.epoch < t.epoch
    → sooner + last ≤ base
    → is_done_at last (cookie_at t) n ≡ nat_le (base + snapshot t.number) (sooner + n.number)
done_sooner last base sooner t n w m e l = grind (arith, nat_tests, w, m, e, l)

pub last_fours : (last : ℕ) → is_last last ≡ true → last % 4 ≡ 0
last_fours last w = grind (arith, nat_tests, w)

-- if the counts differ, so do the epochs
pub done_by_clock : (last : ℕ) (t n : Tag) → is_last last ≡ true → t.number ≤ last → n.number ≤ last
    → is_done_at last (cookie_at t) n ≡ nat_le (snapshot (clock_of last t)) (clock_of last n)
done_by_clock last t n w le m =
    rw (snapshot_on (t.epoch * last) t.number (by_fours t.epoch last (last_fours last w)))
    (elim (cases_lt n.epoch t.epoch) [
      | inl e ↦ done_sooner last (t.epoch * last) (n.epoch * last) t n w m e
          (later_epoch n.epoch t.epoch last e)
      | inr g ↦ elim (cases_eq t.epoch n.epoch) [
        | inl e ↦ rw (ap (λ k. k * last) (sym e)) (done_same last (t.epoch * last) t n e)
        | inr d ↦ elim (cases_eq (t.epoch + 1) n.epoch) [
          | inl e ↦ rw (ap (λ k. k * last) (sym e), next_epoch t.epoch last)
              (done_next last (t.epoch * last) t n w le m e)
          | inr f ↦ (let later : t.epoch + 1 < n.epoch = omega (arith, g, d, f) in
              done_later last (t.epoch * last) (n.epoch * last) t n w le later
              (much_later_epoch t.epoch n.epoch last later))
        ]
      ]
    ])

pub before_same : (base : ℕ) (t n : Tag) → t.epoch ≡ n.epoch
    → is_before t n ≡ nat_lt (base + t.number) (base + n.number)
before_same base t n e = grind (arith, nat_tests, e)

before_later : (last base later : ℕ) (t n : Tag) → t.number ≤ last → is_running n.number ≡ true
    → t.epoch < n.epoch
    → base + last ≤ later → is_before t n ≡ nat_lt (base + t.number) (later + n.number)
before_later last base later t n le r e l = grind (arith, nat_tests, le, r, e, l)

before_sooner : (last base sooner : ℕ) (t n : Tag) → n.number ≤ last → n.epoch < t.epoch
    → sooner + last ≤ base → is_before t n ≡ nat_lt (base + t.number) (sooner + n.number)
before_sooner last base sooner t n m e l = grind (arith, nat_tests, m, e, l)

pub before_by_clock : (last : ℕ) (t n : Tag) → t.number ≤ last → is_running n.number ≡ true
    → n.number ≤ last
    → is_before t n ≡ nat_lt (clock_of last t) (clock_of last n)
before_by_clock last t n le r m =
    elim (cases_lt n.epoch t.epoch) [
      | inl e ↦ before_sooner last (t.epoch * last) (n.epoch * last) t n m e
          (later_epoch n.epoch t.epoch last e)
      | inr g ↦ elim (cases_eq t.epoch n.epoch) [
        | inl e ↦ rw (ap (λ k. k * last) (sym e)) (before_same (t.epoch * last) t n e)
        | inr d ↦ (let later : t.epoch < n.epoch = omega (arith, g, d) in
            before_later last (t.epoch * last) (n.epoch * last) t n le r later
            (later_epoch t.epoch n.epoch last later))
      ]
    ]

-- a lower count is that of a tag before
pub is_before_from : (last : ℕ) (t n : Tag) → n.number ≤ last → clock_of last t < clock_of last n
    → is_before t n ≡ true
is_before_from last t n m l =
    elim (cases_lt n.epoch t.epoch) [
      | inl e ↦ let more = later_epoch n.epoch t.epoch last e in
          absurd (let x : ⊥ = omega (arith, more, m, l) in x)
      | inr g ↦ elim (cases_eq t.epoch n.epoch) [
        | inl e ↦ (let same = ap (λ k. k * last) e in
            let low : t.number < n.number = omega (arith, same, l) in
            grind (arith, nat_tests, e, low))
        | inr d ↦ grind (arith, nat_tests, g, d)
      ]
    ]
