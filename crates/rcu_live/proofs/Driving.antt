-- Wanted steps of driving if every word reports a quiescent state.
use Rattle.std.proofs.Common.{◌≡◌, ℕ, ◌+◌, ◌≤◌, ◌&&◌, Bool, true, false, not, nat_lt}
use Rattle.std.proofs.Common.{if◌then◌else◌, refl, sym, ap, ◌∙◌, subst, arith, inl, inr}
use Rattle.std.specs.Prelude.{◌==◌}
use Rattle.std.proofs.lemmas.Bool.{cases_Bool}
use Rattle.std.proofs.lemmas.Bool.Decides.{nat_tests}
use Rattle.rcu_seq.specs.Numbers.{number_at, snapshot}
use Rattle.rcu_seq.specs.Seq.{Periods, number_of}
use Rattle.rcu_node.specs.CpuSet.{listed}
use Rattle.rcu_node.proofs.CpuSetLemmas.{is_in-listed_any, size_of-empty}
use Rattle.rcu_state.specs.GpState.{awaited_in}
use Rattle.rcu_live.specs.Drive.{after_collections, after_drive, moved_on}
use Rattle.rcu_live.specs.Engine.{Locked, after_begin, after_end, next_number}
use Rattle.rcu_live.specs.Numbers.{reports_quiescence}
use Rattle.rcu_live.specs.Runs.{Drive}
use Rattle.rcu_live.proofs.Elapsed.{moved as call_moves}
use Rattle.rcu_live.proofs.Handing.{rises}
use Rattle.rcu_live.proofs.Quieting.{driven, ended_then, nobody_left, two_ends_reach}

-- a word that reports at a number does so at each earlier one
tells_earlier : (m n word : ℕ) → m ≤ n → reports_quiescence n word ≡ true
    → reports_quiescence m word ≡ true
tells_earlier m n word l t = grind (arith, nat_tests)

-- after an end the number is at least the snapshot of that before, if no grace period ran then
after_end_number : (p : Periods) → p.running ≡ false
    → snapshot (number_of p) ≤ number_of (record p { ends = p.ends + 1; running = false })
after_end_number p r = let i = ap (λ b. number_at p.ends b) r in omega (arith, i)

module _ {C X : Type 0} where
  begun_awaits_none : (e : Locked C X) (word : ℕ → ℕ)
      → ((c : ℕ) → reports_quiescence (next_number e.grace) (word c) ≡ true)
      → awaited_in (after_begin e word).grace ≡ 0
  begun_awaits_none e word told =
      let test = λ (c : ℕ). not (reports_quiescence (next_number e.grace) (word c)) in
      size_of-empty (listed e.cpus test)
      (λ c l.
      is_in-listed_any e.cpus test c
      ∙ none (nat_lt c e.cpus) (reports_quiescence (next_number e.grace) (word c)) (told c))
    where
      none : (a b : Bool) → b ≡ true → (a && not b) ≡ false
      none true b i = rw i refl
      none false b i = refl

  begun : (e : Locked C X) (word : ℕ → ℕ) → e.grace.seq.running ≡ false
      → moved_on e true word ≡ after_begin e word
  begun e word r =
      ap (λ (b : Bool). if b then after_collections e word else after_begin e word) r

  begun_ends : (e : Locked C X) (word : ℕ → ℕ) → e.grace.seq.running ≡ false
      → awaited_in (after_begin e word).grace ≡ 0
      → after_drive e true word ≡ after_end (after_begin e word)
  begun_ends e word r z =
      ap
      (λ (now : Locked C X).
      if now.grace.seq.running && (awaited_in now.grace == 0) then after_end now else now)
      (begun e word r)
      ∙ ended_then (after_begin e word) refl z

  -- a wanted step ends the running grace period, or one that it begins
  pub one_ends : (e : Locked C X) (word : ℕ → ℕ)
      → ((c : ℕ) → reports_quiescence (next_number e.grace) (word c) ≡ true)
      → (after_drive e true word).grace.seq
      ≡ record e.grace.seq { ends = e.grace.seq.ends + 1; running = false }
  one_ends e word told = elim (cases_Bool e.grace.seq.running) [
    | inl r ↦
        let here : number_of e.grace.seq ≡ next_number e.grace =
        ap (λ b. number_at e.grace.seq.ends b) r in
        ap (λ (y : Locked C X). y.grace.seq)
        (driven e true word r
        (nobody_left e word
        (λ c i. subst (λ n. reports_quiescence n (word c) ≡ true) (sym here) (told c))))
    | inr r ↦
        ap (λ (y : Locked C X). y.grace.seq) (begun_ends e word r (begun_awaits_none e word told))
  ]

  -- so two finish a cookie
  pub two_finish : (e : Locked C X) (first second : ℕ → ℕ)
      → ((c : ℕ) → reports_quiescence (snapshot (number_of e.grace.seq)) (first c) ≡ true)
      → ((c : ℕ) → reports_quiescence (snapshot (number_of e.grace.seq)) (second c) ≡ true)
      → snapshot (number_of e.grace.seq)
      ≤ number_of (after_drive (after_drive e true first) true second).grace.seq
  two_finish e first second f s =
      let e1 = after_drive e true first in
      let e2 = after_drive e1 true second in
      let p = e.grace.seq in
      let one = one_ends e first (λ c. tells_earlier (next_number e.grace) (snapshot (number_of p))
      (first c) (next_below p.ends p.running) (f c)) in
      elim (cases_Bool p.running) [
        | inl r ↦
            let ends_one = ap (λ (q : Periods). q.ends) one in
            let two = one_ends e1 second (λ c. tells_earlier (next_number e1.grace)
            (snapshot (number_of p)) (second c)
            (subst (λ n. number_at n true ≤ snapshot (number_of p)) (sym ends_one)
            (later_below p.ends p.running r)) (s c)) in
            let ends_two = ap (λ (q : Periods). q.ends) two in
            two_ends_reach e e2 (omega (arith, ends_one, ends_two))
        | inr r ↦
            let reached = after_end_number p r in
            let same = ap number_of one in
            let up = rises e1.grace.seq e2.grace.seq (call_moves e1 (Drive true second) tt) in
            omega (arith, reached, same, up)
      ]
    where
      next_below : (n : ℕ) (b : Bool) → number_at n true ≤ snapshot (number_at n b)
      next_below n b = grind (arith, nat_tests)

      later_below : (n : ℕ) (b : Bool) → b ≡ true
          → number_at (n + 1) true ≤ snapshot (number_at n b)
      later_below n b i = grind (arith, nat_tests)
