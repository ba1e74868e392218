-- The count of full grace periods after a snapshot.
use Rattle.std.proofs.Common.{◌≡◌, ◌≤◌, ◌<◌, ◌+◌, ◌*◌, ℕ, true, false, ◌||◌, ◌&&◌, nat_lt, List, []}
use Rattle.std.proofs.Common.{◌∷◌, refl, arith, inl, inr}
use Rattle.std.proofs.lemmas.Bool.{cases_Bool}
use Rattle.std.proofs.lemmas.Bool.Decides.{nat_tests}
use Rattle.std.specs.List.{list_any}
use Rattle.rcu_seq.specs.Seq.{Periods, Turn, Begin, End, Renumber, AreAccepted, IsWithin}
use Rattle.rcu_seq.specs.Seq.{after_turns, begins, cookie_of}
use Rattle.rcu_seq.specs.Seq.{has_full_period, is_done, number_of}
use Rattle.rcu_seq.specs.Tags.{is_done_at, is_done_first}
use Rattle.rcu_seq.specs.declared.cookie.Cookie.{Cookie}

-- how many ended in these turns
abbrev ended : List Turn → ℕ
ended [] = 0
ended (End ∷ turns) = ended turns + 1
ended (Begin ∷ turns) = ended turns
ended (Renumber ∷ turns) = ended turns

-- after a snapshot while none runs: each end is the end of a full grace period
record FromIdle (p : Periods) (turns : List Turn) : Type 0 where
  pub begins : list_any begins turns ≡ (nat_lt 0 (ended turns) || (after_turns p turns).running)
  pub full : has_full_period turns ≡ nat_lt 0 (ended turns)

-- after a snapshot while one runs: the first end is the end of that one
record FromRunning (p : Periods) (turns : List Turn) : Type 0 where
  pub runs : ended turns ≡ 0 → (after_turns p turns).running ≡ true
  pub begins : list_any begins turns
      ≡ (nat_lt 1 (ended turns) || (nat_lt 0 (ended turns) && (after_turns p turns).running))
  pub full : has_full_period turns ≡ nat_lt 1 (ended turns)

from_idle : (p : Periods) (turns : List Turn) → p.running ≡ false → AreAccepted p turns
    → FromIdle p turns
from_idle p [] e a =
    record { begins = grind (arith, nat_tests, e); full = grind (arith, nat_tests) }
from_idle p (Begin ∷ turns) e a =
    let h = from_idle p turns e a.2 in let full = h.full in
    record { begins = grind (arith, nat_tests); full = full }
from_idle p (End ∷ turns) e a =
    let h = from_idle p turns e a.1 in
    let full = h.full in let begins = h.begins in let ran = a.0 in
    record {
      begins = grind (arith, nat_tests, begins, ran);
      full = grind (arith, nat_tests, begins, full, ran);
    }
from_idle p (Renumber ∷ turns) e a =
    let h = from_idle p turns e a.2 in record { begins = h.begins; full = h.full }

from_running : (p : Periods) (turns : List Turn) → p.running ≡ true → AreAccepted p turns
    → FromRunning p turns
from_running p [] e a = record {
  runs = λ _. e;
  begins = grind (arith, nat_tests);
  full = grind (arith, nat_tests);
}
from_running p (Begin ∷ turns) e a =
    let h = from_running p turns e a.2 in
    let full = h.full in let idle = a.0 in let runs = h.runs in
    let more : 0 < ended turns = grind (arith, runs, idle) in
    record { runs = λ _. refl; begins = grind (arith, nat_tests, more); full = full }
from_running p (End ∷ turns) e a =
    let h = from_running p turns e a.1 in
    let full = h.full in let begins = h.begins in let ran = a.0 in
    record {
      runs = λ l. absurd (let x : ⊥ = omega (arith, l) in x);
      begins = grind (arith, nat_tests, begins, ran);
      full = grind (arith, nat_tests, begins, full, ran);
    }
from_running p (Renumber ∷ turns) e a =
    let h = from_running p turns e a.2 in record { runs = h.runs; begins = h.begins; full = h.full }

-- how the number and the epoch give the count of grace periods that ended since the snapshot. A
-- renumbering comes at the last number, so that an epoch that has passed had as many grace periods
-- as its last number says
record Elapsed (p : Periods) (turns : List Turn) : Type 0 where
  pub last : (after_turns p turns).last ≡ p.last
  pub within : number_of (after_turns p turns) ≤ p.last
  pub rises : p.epoch ≤ (after_turns p turns).epoch
  pub here : (after_turns p turns).epoch ≡ p.epoch
      → (after_turns p turns).ends ≡ p.ends + ended turns
  pub next : (after_turns p turns).epoch ≡ p.epoch + 1
      → 4 * (after_turns p turns).ends + p.last ≡ 4 * (p.ends + ended turns)
  pub later : p.epoch + 2 ≤ (after_turns p turns).epoch → 2 * p.last ≤ 4 * (p.ends + ended turns)

elapsed : (p : Periods) (turns : List Turn) → IsWithin p → AreAccepted p turns → Elapsed p turns
elapsed p [] w a = record {
  last = refl;
  within = w.number;
  rises = omega arith;
  here = λ e. omega arith;
  next = λ e. absurd (let x : ⊥ = omega (arith, e) in x);
  later = λ e. absurd (let x : ⊥ = omega (arith, e) in x);
}
elapsed p (Begin ∷ turns) w a =
    let h = elapsed p turns w a.2 in let within = h.within in let idle = a.0 in let below = a.1 in
    let last = w.last in record {
      last = h.last;
      within = grind (arith, nat_tests, within, idle, below, last);
      rises = h.rises;
      here = h.here;
      next = h.next;
      later = h.later;
    }
elapsed p (End ∷ turns) w a =
    let h = elapsed p turns w a.1 in let within = h.within in let ran = a.0 in let last = w.last in
    let here = h.here in let next = h.next in let later = h.later in record {
      last = h.last;
      within = grind (arith, nat_tests, within, ran, last);
      rises = h.rises;
      here = λ e. let x = here e in omega (arith, x);
      next = λ e. let x = next e in omega (arith, x);
      later = λ e. let x = later e in omega (arith, x);
    }
elapsed p (Renumber ∷ turns) w a =
    let h = elapsed p turns w a.2 in
    let idle = a.0 in let at = a.1 in let last = w.last in let rises = h.rises in
    let here = h.here in let next = h.next in let later = h.later in
    let all : 4 * (after_turns p turns).ends ≡ p.last = grind (arith, idle, at) in record {
      last = h.last;
      within = grind (arith, nat_tests, idle);
      rises = omega (arith, rises);
      here = λ e. absurd (let x : ⊥ = omega (arith, e, rises) in x);
      next = λ e. let x = here (omega (arith, e)) in omega (arith, x, all);
      later = λ e. grind (arith, nat_tests, e, rises, next, later, all);
    }

-- a cookie tests done exactly if a full grace period lies after its snapshot
pub done_is_full : (p : Periods) (turns : List Turn) → IsWithin p → AreAccepted p turns
    → is_done (cookie_of p) (after_turns p turns) ≡ has_full_period turns
done_is_full p turns w a =
    let t = elapsed p turns w a in
    let same = t.last in let within = t.within in let rises = t.rises in
    let here = t.here in let next = t.next in
    let later = t.later in let number = w.number in let last = w.last in
    let runs = cases_Bool (after_turns p turns).running in
    elim (cases_Bool p.running) [
      | inl e ↦ (let h = from_running p turns e a in let full = h.full in
          let ran = h.runs in
          rw full (grind
          (arith, nat_tests, e, same, within, rises, here, next, later, number, last, runs, ran)))
      | inr e ↦ (let h = from_idle p turns e a in let full = h.full in
          rw full (grind
          (arith, nat_tests, e, same, within, rises, here, next, later, number, last, runs)))
    ]

pub done_first : (last : ℕ) (cookie : Cookie) (number : ℕ)
    → is_done_at last cookie (record { epoch = 0; number = number }) ≡ is_done_first cookie number
done_first last cookie number = grind (arith, nat_tests)
