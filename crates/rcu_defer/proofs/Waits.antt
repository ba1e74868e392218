-- Over all calls: the due deferrals, their count, and that none is done early.
use Rattle.std.proofs.Common.{◌≡◌, ℕ, zero, suc, ◌+◌, ◌-◌, ◌<◌, ◌≤◌, nat_le, List, [], ◌∷◌, ◌++◌}
use Rattle.std.proofs.Common.{length, take, drop, replicate, get_or, refl, ap, ◌∙◌, subst, arith}
use Rattle.std.proofs.Common.{inl, inr, length-append, length-drop}
use Rattle.std.specs.Prelude.{All, IfSome, slice_get, true}
use Rattle.std.proofs.lemmas.List.{get_or-append_right, get_or_append_left, get_or-drop}
use Rattle.std.proofs.lemmas.List.{get_or-replicate, length-replicate}
use Rattle.std.proofs.lemmas.List.Elements.{All-nil, All-cons}
use Rattle.std.proofs.lemmas.Bool.{cases_Bool, cases_lt}
use Rattle.std.proofs.lemmas.Bool.Decides.{nat_tests}
use Rattle.rcu_seq.specs.Numbers.{Number, snapshot}
use Rattle.rcu_seq.specs.Seq.{Periods, Turn, after_turns, cookie_of, has_full_period, is_done}
use Rattle.rcu_seq.specs.Seq.{number_of}
use Rattle.rcu_defer.specs.Marks.{Marking, after_tend, deferred_of, due}
use Rattle.rcu_defer.specs.Histories.{Call, Defer, Tend, Take, HasWaited, deferred_in, marks_after}

-- no more is due than waits
pub due_within : (n : Number) (us : List Number) → due n us ≤ length us
due_within n [] = omega arith
due_within n (u ∷ us) = elim (cases_Bool (nat_le u n)) [
  | inl reached ↦ let rest = due_within n us in rw reached (omega arith)
  | inr none ↦ rw none (omega arith)
]

-- a number that is due is reached
pub due_reached : (n : Number) (us : List Number) (j d : ℕ) → j < due n us → get_or us j d ≤ n
due_reached n [] j d low = absurd (omega arith)
due_reached n (u ∷ us) zero d low = elim (cases_Bool (nat_le u n)) [
  | inl reached ↦ grind (arith, nat_tests)
  | inr none ↦ absurd (let here : due n (u ∷ us) ≡ 0 = rw none refl in omega arith)
]
due_reached n (u ∷ us) (suc j) d low = elim (cases_Bool (nat_le u n)) [
  | inl reached ↦
      let here : due n (u ∷ us) ≡ suc (due n us) = rw reached refl in
      due_reached n us j d (omega arith)
  | inr none ↦ absurd (let here : due n (u ∷ us) ≡ 0 = rw none refl in omega arith)
]

-- and so is each of the front
pub due_front : (n : Number) (us : List Number) → All (λ until. until ≤ n) (take (due n us) us)
due_front n [] = All-nil (λ until. until ≤ n)
due_front n (u ∷ us) = elim (cases_Bool (nat_le u n)) [
  | inl reached ↦
      rw reached
      (All-cons (λ until. until ≤ n) u (take (due n us) us) (grind (arith, nat_tests))
      (due_front n us))
  | inr none ↦ rw none (All-nil (λ until. until ≤ n))
]

-- the next one behind it is not
pub due_longest : (n : Number) (us : List Number)
    → IfSome (slice_get us (due n us)) (λ until. n < until)
due_longest n [] = tt
due_longest n (u ∷ us) = elim (cases_Bool (nat_le u n)) [
  | inl reached ↦ rw reached (due_longest n us)
  | inr none ↦ rw none (grind (arith, nat_tests))
]

-- a tend counts nothing more
pub tended_counted : (m : Marking) (n : Number) → deferred_of (after_tend m n) ≡ deferred_of m
tended_counted m n =
    let few = due_within n m.waiting in
    let left = drop (due n m.waiting) m.waiting in
    omega (
      arith,
      length-append left (replicate m.fresh (snapshot n)),
      length-drop (due n m.waiting) m.waiting,
      length-replicate m.fresh (snapshot n),
    )

module _ {X : Type 0} where
  -- each deferral is counted
  pub all_counted : (calls : List (Call X))
      → deferred_of (marks_after calls) ≡ length (deferred_in calls)
  all_counted [] = refl
  all_counted (Defer x ∷ calls) =
      let e = all_counted calls in omega (arith, length-append (deferred_in calls) (x ∷ []))
  all_counted (Tend n ∷ calls) = tended_counted (marks_after calls) n ∙ all_counted calls
  all_counted (Take most ∷ calls) = all_counted calls

  -- a value that was taken out is done
  pub taken_done : (calls : List (Call X)) → (marks_after calls).taken ≤ (marks_after calls).done
  taken_done [] = omega arith
  taken_done (Defer x ∷ calls) = taken_done calls
  taken_done (Tend n ∷ calls) = let e = taken_done calls in omega arith
  taken_done (Take most ∷ calls) = let e = taken_done calls in omega arith

  -- the deferral of this place waits for a number: the snapshot of that of a tend which came behind
  -- it
  record IsMarked (calls : List (Call X)) (k : ℕ) (u : Number) : Type 0 where
    at : Number
    later : List (Call X)
    earlier : List (Call X)
    is : calls ≡ later ++ Tend at ∷ earlier
    before : k < length (deferred_in earlier)
    until : u ≡ snapshot at

  -- facts on each done deferral, and on each waiting one
  record IsTold (calls : List (Call X)) : Type 0 where
    out : (k : ℕ) → k < (marks_after calls).done → HasWaited calls k
    waiting : (j : ℕ) → j < length (marks_after calls).waiting →
        IsMarked calls ((marks_after calls).done + j) (get_or (marks_after calls).waiting j 0)

  -- a call more
  waited_later : (call : Call X) (calls : List (Call X)) (k : ℕ) → HasWaited calls k
      → HasWaited (call ∷ calls) k
  waited_later call calls k h = record {
    at = h.at;
    now = h.now;
    later = call ∷ h.later;
    between = h.between;
    earlier = h.earlier;
    is = ap (λ l. call ∷ l) h.is;
    before = h.before;
    reached = h.reached;
  }

  marked_later : (call : Call X) (calls : List (Call X)) (k l : ℕ) (u v : Number)
      → k ≡ l → v ≡ u → IsMarked calls k u → IsMarked (call ∷ calls) l v
  marked_later call calls k l u v p q h = record {
    at = h.at;
    later = call ∷ h.later;
    earlier = h.earlier;
    is = ap (λ s. call ∷ s) h.is;
    before = (let low = h.before in omega arith);
    until = q ∙ h.until;
  }

  -- a tend at a number that a deferral waits for, or at a later one
  waited_now : (n : Number) (calls : List (Call X)) (k : ℕ) (u : Number)
      → IsMarked calls k u → u ≤ n → HasWaited (Tend n ∷ calls) k
  waited_now n calls k u h reached = record {
    at = h.at;
    now = n;
    later = [];
    between = h.later;
    earlier = h.earlier;
    is = ap (λ l. Tend n ∷ l) h.is;
    before = h.before;
    reached = (let until = h.until in omega arith);
  }

  -- the done deferrals after a tend
  out_tended : (n : Number) (calls : List (Call X)) → IsTold calls → (k : ℕ) →
      k < (marks_after (Tend n ∷ calls)).done → HasWaited (Tend n ∷ calls) k
  out_tended n calls t k low =
      let m = marks_after calls in
      elim (cases_lt k m.done) [
        | inl before ↦ waited_later (Tend n) calls k (t.out k before)
        | inr behind ↦
            let j = k - m.done in
            let few = due_within n m.waiting in
            let place : m.done + j ≡ k = omega arith in
            subst (λ (p : ℕ). HasWaited (Tend n ∷ calls) p) place
            (waited_now n calls (m.done + j) (get_or m.waiting j 0) (t.waiting j (omega arith))
            (due_reached n m.waiting j 0 (omega arith)))
      ]

  -- the waiting ones after it
  waiting_tended : (n : Number) (calls : List (Call X))
      → IsTold calls
      → (j : ℕ) → j < length (marks_after (Tend n ∷ calls)).waiting
      → IsMarked (Tend n ∷ calls) ((marks_after (Tend n ∷ calls)).done + j)
      (get_or (marks_after (Tend n ∷ calls)).waiting j 0)
  waiting_tended n calls t j low =
      let m = marks_after calls in
      let gone = due n m.waiting in
      let left = drop gone m.waiting in
      let new = replicate m.fresh (snapshot n) in
      let few = due_within n m.waiting in
      let all = all_counted calls in
      let long = length-append left new in
      let cut = length-drop gone m.waiting in
      let many : length new ≡ m.fresh = length-replicate m.fresh (snapshot n) in
      elim (cases_lt j (length left)) [
        | inl old ↦
            marked_later (Tend n) calls (m.done + (gone + j)) (m.done + gone + j)
            (get_or m.waiting (gone + j) 0) (get_or (left ++ new) j 0) (omega arith)
            (get_or_append_left left new 0 j old ∙ get_or-drop gone m.waiting j 0)
            (t.waiting (gone + j) (omega arith))
        | inr behind ↦ record {
          at = n;
          later = [];
          earlier = calls;
          is = refl;
          before = omega arith;
          until = get_or-append_right left new (length left) j 0 refl behind
              ∙ get_or-replicate m.fresh (j - length left) (snapshot n) 0 (omega arith);
        }
      ]

  told : (calls : List (Call X)) → IsTold calls
  told [] = record { out = λ k low. absurd (omega arith); waiting = λ j low. absurd (omega arith) }
  told (Defer x ∷ calls) =
      let t = told calls in
      record {
        out = λ k low. waited_later (Defer x) calls k (t.out k low);
        waiting = λ j low. marked_later (Defer x) calls _ _ _ _ refl refl (t.waiting j low);
      }
  told (Tend n ∷ calls) =
      let t = told calls in
      record { out = out_tended n calls t; waiting = waiting_tended n calls t }
  told (Take most ∷ calls) =
      let t = told calls in
      record {
        out = λ k low. waited_later (Take most) calls k (t.out k low);
        waiting = λ j low. marked_later (Take most) calls _ _ _ _ refl refl (t.waiting j low);
      }

  -- each deferral that is done has waited
  pub done_has_waited : (calls : List (Call X)) (k : ℕ) → k < (marks_after calls).done
      → HasWaited calls k
  done_has_waited calls k low = (told calls).out k low

-- if the number went from one to the snapshot of that or further, a full grace period lies between
pub full_between : (first : Periods) (turns : List Turn)
    → is_done (cookie_of first) (after_turns first turns) ≡ has_full_period turns
    → first.epoch ≡ 0 → (after_turns first turns).epoch ≡ 0
    → snapshot (number_of first) ≤ number_of (after_turns first turns)
    → has_full_period turns ≡ true
full_between first turns law start still reached =
    grind (law, start, still, reached, arith, nat_tests)
