-- Over all calls whose numbers never fall: a deferral that has waited is done.
use Rattle.std.proofs.Common.{◌≡◌, ℕ, suc, true, ◌+◌, ◌-◌, ◌<◌, ◌≤◌, nat_le, List, [], ◌∷◌, ◌++◌}
use Rattle.std.proofs.Common.{length, drop, replicate, get_or, refl, sym, ◌∙◌, subst, arith, inl}
use Rattle.std.proofs.Common.{inr, length-append, length-drop}
use Rattle.std.proofs.lemmas.List.{get_or-append_right, get_or_append_left, get_or-drop}
use Rattle.std.proofs.lemmas.List.{get_or-replicate, length-replicate}
use Rattle.std.proofs.lemmas.Bool.{cases_Bool, cases_lt}
use Rattle.std.proofs.lemmas.Bool.Decides.{nat_tests}
use Rattle.rcu_seq.specs.Numbers.{Number, snapshot}
use Rattle.rcu_defer.specs.Marks.{due}
use Rattle.rcu_defer.specs.Histories.{Call, Defer, Tend, Take, HasWaited, NeverFalls, deferred_in}
use Rattle.rcu_defer.specs.Histories.{marks_after}
use Rattle.rcu_defer.proofs.Waits.{all_counted, due_within}

-- at a greater number no less is due
due_more : (b n : Number) (us : List Number) → b ≤ n → due b us ≤ due n us
due_more b n [] order = omega arith
due_more b n (u ∷ us) order = elim (cases_Bool (nat_le u b)) [
  | inl reached ↦
      let later : nat_le u n ≡ true = grind (arith, nat_tests) in
      let rest = due_more b n us order in
      rw (reached, later) (omega arith)
  | inr none ↦ rw none (omega arith)
]

-- if more come behind, no fewer are due
due_behind : (b : Number) (us vs : List Number) → due b us ≤ due b (us ++ vs)
due_behind b [] vs = omega arith
due_behind b (u ∷ us) vs = elim (cases_Bool (nat_le u b)) [
  | inl reached ↦ let rest = due_behind b us vs in rw reached (omega arith)
  | inr none ↦ rw none (omega arith)
]

-- a due deferral of a list is due in the list after a tend, or done
due_rest : (b n : Number) (us vs : List Number)
    → due b us ≤ due n us + due b (drop (due n us) us ++ vs)
due_rest b n [] vs = omega arith
due_rest b n (u ∷ us) vs = elim (cases_Bool (nat_le u n)) [
  | inl reached ↦
      let rest = due_rest b n us vs in
      let here : due b (u ∷ us) ≤ suc (due b us) = elim (cases_Bool (nat_le u b)) [
        | inl first ↦ rw first (omega arith)
        | inr none ↦ rw none (omega arith)
      ] in
      rw reached (omega arith)
  | inr none ↦ let all = due_behind b (u ∷ us) vs in rw none (omega arith)
]

-- all are due if each number is reached
due_all : (b : Number) (us : List Number) → ((j d : ℕ) → j < length us → get_or us j d ≤ b)
    → due b us ≡ length us
due_all b [] each = omega arith
due_all b (u ∷ us) each =
    let first = each 0 0 (omega arith) in
    let reached : nat_le u b ≡ true = grind (arith, nat_tests) in
    let rest = due_all b us (λ j d low. each (suc j) d (omega arith)) in
    rw reached (omega arith)

module _ {X : Type 0} where
  -- the earlier ones of calls whose numbers never fall
  earlier_never_fall : (later earlier : List (Call X)) → NeverFalls (later ++ earlier)
      → NeverFalls earlier
  earlier_never_fall [] earlier h = h
  earlier_never_fall (Defer x ∷ later) earlier h = earlier_never_fall later earlier h
  earlier_never_fall (Tend n ∷ later) earlier h = earlier_never_fall later earlier h.1
  earlier_never_fall (Take most ∷ later) earlier h = earlier_never_fall later earlier h

  -- each waits for at most the snapshot of the last tend's number
  bounded : (calls : List (Call X))
      → NeverFalls calls → (j d : ℕ) → j < length (marks_after calls).waiting
      → get_or (marks_after calls).waiting j d ≤ snapshot (marks_after calls).seen
  bounded [] h j d low = absurd (omega arith)
  bounded (Defer x ∷ calls) h j d low = bounded calls h j d low
  bounded (Take most ∷ calls) h j d low = bounded calls h j d low
  bounded (Tend n ∷ calls) h j d low =
      let m = marks_after calls in
      let gone = due n m.waiting in
      let left = drop gone m.waiting in
      let new = replicate m.fresh (snapshot n) in
      let few = due_within n m.waiting in
      let long = length-append left new in
      let cut = length-drop gone m.waiting in
      let many : length new ≡ m.fresh = length-replicate m.fresh (snapshot n) in
      elim (cases_lt j (length left)) [
        | inl old ↦
            let order = h.0 in
            let before = bounded calls h.1 (gone + j) d (omega arith) in
            let same : get_or (left ++ new) j d ≡ get_or m.waiting (gone + j) d =
            get_or_append_left left new d j old ∙ get_or-drop gone m.waiting j d in
            omega arith
        | inr behind ↦
            let same : get_or (left ++ new) j d ≡ snapshot n =
            get_or-append_right left new (length left) j d refl behind
            ∙ get_or-replicate m.fresh (j - length left) (snapshot n) d (omega arith) in
            omega arith
      ]

  -- a deferral that is done or due at a number stays so
  stays_due : (b k : ℕ) (later earlier : List (Call X)) →
      k ≤ (marks_after earlier).done + due b (marks_after earlier).waiting →
      k ≤ (marks_after (later ++ earlier)).done + due b (marks_after (later ++ earlier)).waiting
  stays_due b k [] earlier h = h
  stays_due b k (Defer x ∷ later) earlier h = stays_due b k later earlier h
  stays_due b k (Take most ∷ later) earlier h = stays_due b k later earlier h
  stays_due b k (Tend n ∷ later) earlier h =
      let m = marks_after (later ++ earlier) in
      let before = stays_due b k later earlier h in
      let rest = due_rest b n m.waiting (replicate m.fresh (snapshot n)) in
      omega arith

  -- a done deferral stays done
  stays_done : (later earlier : List (Call X))
      → (marks_after earlier).done ≤ (marks_after (later ++ earlier)).done
  stays_done [] earlier = omega arith
  stays_done (Defer x ∷ later) earlier = stays_done later earlier
  stays_done (Take most ∷ later) earlier = stays_done later earlier
  stays_done (Tend n ∷ later) earlier = let before = stays_done later earlier in omega arith

  -- a deferral that has waited is done
  pub waited_is_done : (calls : List (Call X)) (k : ℕ) → NeverFalls calls → HasWaited calls k
      → k < (marks_after calls).done
  waited_is_done calls k never h =
      let marked = Tend h.at ∷ h.earlier in
      let reached = h.between ++ marked in
      let whole : NeverFalls (h.later ++ Tend h.now ∷ reached) = subst NeverFalls h.is never in
      let since = earlier_never_fall h.between marked
      (earlier_never_fall h.later (Tend h.now ∷ reached) whole).1 in
      let m = marks_after marked in
      let all = all_counted marked in
      let due_then = due_all (snapshot h.at) m.waiting (bounded marked since) in
      let base : length (deferred_in h.earlier) ≤ m.done + due (snapshot h.at) m.waiting =
      omega arith in
      let later =
      stays_due (snapshot h.at) (length (deferred_in h.earlier)) h.between marked base in
      let more = due_more (snapshot h.at) h.now (marks_after reached).waiting h.reached in
      let end = stays_done h.later (Tend h.now ∷ reached) in
      let before = h.before in
      subst (λ (c : List (Call X)). k < (marks_after c).done) (sym h.is) (omega arith)
