-- Numbers counted on over all epochs.
use Rattle.std.proofs.Common.{◌≡◌, ℕ, ◌+◌, ◌*◌, ◌<◌, ◌≤◌, Bool, true, false, [], ◌∷◌, None, refl}
use Rattle.std.proofs.Common.{sym, ap, ap₂, ◌∙◌, arith, cond}
use Rattle.std.specs.Prelude.{count_by, nat_lt, ◌&&◌}
use Rattle.std.proofs.lemmas.Bool.Decides.{nat_tests}
use Rattle.std.proofs.lemmas.List.Sums.{sum_by-cons}
use Rattle.rcu_seq.specs.Numbers.{is_last, number_at, snapshot}
use Rattle.rcu_seq.specs.Tags.{clock_of, cookie_at, is_before, is_done_at}
use Rattle.rcu_seq.specs.declared.tag.Tag.{Tag}
use Rattle.std.proofs.Common.{◌%◌, Some, not, inl, inr}
use Rattle.std.proofs.lemmas.Bool.{cases_Bool, true≢false}
use Rattle.rcu_seq.specs.declared.fault.Fault.TheVariants as fault
use Rattle.rcu_seq.proofs.Clocks.{before_by_clock, before_same, by_fours, done_by_clock, done_same}
use Rattle.rcu_seq.proofs.Clocks.{is_before_from, last_fours, next_epoch}
use Rattle.rcu_state.proofs.Periods.{running_number}
use Rattle.rcu_core.specs.History.{History, ends, enters, depth, ends_in_epoch, epoch, number}
use Rattle.rcu_core.specs.History.{opening, renumbers, running, tag_now}
use Rattle.std.specs.Prelude.{◌==◌}
use Rattle.rcu_core.specs.Replies.{Size, fault_in, AreAccepted}
use Rattle.rcu_core.specs.Situation.{situation}
use Rattle.rcu_core.specs.declared.event.Event.{Event}
use Rattle.rcu_core.specs.declared.event.Event.TheVariants.{Begin, End, Renumber}
use Rattle.rcu_core.proofs.Kept.{Turns, begin_counts, end_counts, turns}

-- four for each end ever, and one more while a grace period runs
abbrev pub clock : History → ℕ
clock h = number_at (count_by ends h) (running h)

pub renumber_counts : (h : History) → epoch (Renumber ∷ h) ≡ 1 + epoch h
renumber_counts h = sum_by-cons (λ e. cond (renumbers e) 1 0) Renumber h

-- the clock continues the count of the number in its epoch, since each passed epoch had as many
-- grace periods as the last number says; and the number is at most that. If there is no last
-- number, all is in the first epoch
pub record InEpoch (s : Size) (h : History) : Type 0 where
  pub ticks : clock h ≡ clock_of s.last (tag_now h)
  pub within : is_last s.last ≡ true → number h ≤ s.last
  pub alone : is_last s.last ≡ false → epoch h ≡ 0

in_epoch_step : (s : Size) (e : Event) (h : History) → fault_in s (situation h) e ≡ None → Turns h
    → InEpoch s h → InEpoch s (e ∷ h)
in_epoch_step s Begin h p t i =
    let u = begin_counts h in let k = i.ticks in let w = i.within in record {
      ticks = grind (arith, nat_tests);
      within = λ l. let m = w l in grind (arith, nat_tests);
      alone = i.alone;
    }
in_epoch_step s End h p t i =
    let u = end_counts h in let k = i.ticks in let w = i.within in record {
      ticks = grind (arith, nat_tests);
      within = λ l. let m = w l in grind (arith, nat_tests);
      alone = i.alone;
    }
in_epoch_step s Renumber h p t i =
    let k = i.ticks in
    let idle : running h ≡ false = grind (arith, nat_tests) in
    let last : is_last s.last ≡ true = none_so (running h) (is_last s.last) _ _ p in
    let at : number h ≡ s.last = grind (arith, nat_tests) in
    let more : epoch (Renumber ∷ h) * s.last ≡ epoch h * s.last + s.last =
    ap (λ n. n * s.last) (renumber_counts h ∙ turned (epoch h)) ∙ next_epoch (epoch h) s.last in
    let none : number (Renumber ∷ h) ≡ 0 = ap (λ b. number_at 0 b) idle in
    record {
      ticks = k ∙ omega (arith, at, more, none);
      within = λ l. omega (arith, none);
      alone = λ l. absurd (true≢false (sym last ∙ l));
    }
  where
    turned : (n : ℕ) → 1 + n ≡ n + 1
    turned n = omega arith

    none_so : (a b c d : Bool)
        → cond a (Some fault.Running)
        (cond (not (b && c)) (Some fault.NotLast) (cond d (Some fault.Exhausted) None))
        ≡ None
        → b ≡ true
    none_so true b c d p = absurd (cc)
    none_so false true c d p = refl
    none_so false false c d p = absurd (cc)
in_epoch_step s _ h p t i = record { ticks = i.ticks; within = i.within; alone = i.alone }

pub in_epoch : (s : Size) (h : History) → AreAccepted s h → InEpoch s h
in_epoch s [] p = record { ticks = omega arith; within = λ l. omega arith; alone = λ l. refl }
in_epoch s (e ∷ h) p = in_epoch_step s e h p.0 (turns s h p.1) (in_epoch s h p.1)

-- the count at which the epoch began is a multiple of 4
pub base_is_by_fours : (s : Size) (h : History) → AreAccepted s h → (epoch h * s.last) % 4 ≡ 0
base_is_by_fours s h p = elim (cases_Bool (is_last s.last)) [
  | inl l ↦ by_fours (epoch h) s.last (last_fours s.last l)
  | inr l ↦ ap (λ n. (n * s.last) % 4) ((in_epoch s h p).alone l) ∙ none s.last
]
  where
    none : (last : ℕ) → (0 * last) % 4 ≡ 0
    none last = omega arith

-- the history at the opening of a section is one of accepted events
accepted_if : (s : Size) (b : Bool) (x y : History) → AreAccepted s x → AreAccepted s y
    → AreAccepted s (cond b x y)
accepted_if s true x y p q = p
accepted_if s false x y p q = q

pub opening_accepted : (s : Size) (c : ℕ) (h : History) → AreAccepted s h
    → AreAccepted s (opening c h)
opening_accepted s c [] p = p
opening_accepted s c (e ∷ h) p =
    accepted_if s (enters c e && depth c h == 0) (e ∷ h) (opening c h) p
    (opening_accepted s c h p.1)

first_done : (last : ℕ) (t n : Tag)
    → t.epoch ≡ 0 → n.epoch ≡ 0 → is_done_at last (cookie_at t) n ≡ true
    → snapshot (clock_of last t) ≤ clock_of last n
first_done last t n e f d =
    let a : t.epoch * last ≡ 0 = ap (λ k. k * last) e ∙ omega arith in
    let b : n.epoch * last ≡ 0 = ap (λ k. k * last) f ∙ omega arith in
    let told = sym (done_same last 0 t n (e ∙ sym f)) ∙ d in
    let le : snapshot t.number ≤ n.number = grind (arith, nat_tests, told) in
    omega (arith, a, b, le)

told_done : (last : ℕ) (t n : Tag) → is_last last ≡ true → t.number ≤ last → n.number ≤ last
    → is_done_at last (cookie_at t) n ≡ true → snapshot (clock_of last t) ≤ clock_of last n
told_done last t n l le m d =
    let told = sym (done_by_clock last t n l le m) ∙ d in grind (arith, nat_tests, told)

-- a cookie tests done if the clock has reached the snapshot of the clock when it was taken
pub done_ticks : (s : Size) (g h : History) → AreAccepted s g → AreAccepted s h
    → is_done_at s.last (cookie_at (tag_now g)) (tag_now h) ≡ true → snapshot (clock g) ≤ clock h
done_ticks s g h p q d =
    let i = in_epoch s g p in let j = in_epoch s h q in
    rw (i.ticks, j.ticks) (elim (cases_Bool (is_last s.last)) [
      | inl l ↦ told_done s.last (tag_now g) (tag_now h) l (i.within l) (j.within l) d
      | inr l ↦ first_done s.last (tag_now g) (tag_now h) (i.alone l) (j.alone l) d
    ])

-- a tag is before that of a running grace period if the clock was lower
pub before_ticks : (s : Size) (g h : History) → AreAccepted s g → AreAccepted s h → running h ≡ true
    → is_before (tag_now g) (tag_now h) ≡ nat_lt (clock g) (clock h)
before_ticks s g h p q r =
    let i = in_epoch s g p in let j = in_epoch s h q in
    (elim (cases_Bool (is_last s.last)) [
      | inl l ↦ before_by_clock s.last (tag_now g) (tag_now h) (i.within l)
          (running_number (ends_in_epoch h) (running h) r) (j.within l)
      | inr l ↦
          before_same (epoch g * s.last) (tag_now g) (tag_now h) (i.alone l ∙ sym (j.alone l))
          ∙ ap (λ n. nat_lt (epoch g * s.last + number g) (n * s.last + number h))
          (i.alone l ∙ sym (j.alone l))
    ])
    ∙ ap₂ (λ a b. nat_lt a b) (sym i.ticks) (sym j.ticks)

-- a lower clock is that of a tag before
pub before_where_lower : (s : Size) (t : Tag) (h : History)
    → AreAccepted s h → (is_last s.last ≡ false → t.epoch ≡ 0) → clock_of s.last t < clock h
    → is_before t (tag_now h) ≡ true
before_where_lower s t h p alone l =
    let j = in_epoch s h p in
    let m : clock_of s.last t < clock_of s.last (tag_now h) = rw j.ticks at l in
    elim (cases_Bool (is_last s.last)) [
      | inl k ↦ is_before_from s.last t (tag_now h) (j.within k) m
      | inr k ↦
          (let same = alone k ∙ sym (j.alone k) in
          let q = ap (λ n. n * s.last) same in
          let low : nat_lt (t.epoch * s.last + t.number) (t.epoch * s.last + number h) ≡ true =
          grind (arith, nat_tests, q, m) in
          before_same (t.epoch * s.last) t (tag_now h) same ∙ low)
    ]
