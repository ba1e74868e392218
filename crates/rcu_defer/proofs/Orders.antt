-- Over all calls: values come in the order in which they were deferred.
use Rattle.std.proofs.Common.{◌≡◌, min, List, [], ◌∷◌, ◌++◌, length, take, drop, refl, ap, sym, ◌∙◌}
use Rattle.std.proofs.Common.{append_assoc, length-append, length-take, arith}
use Rattle.std.proofs.lemmas.List.{take-append-drop, take_at}
use Rattle.rcu_defer.specs.Marks.{after_defer, after_take, after_tend, ready_of}
use Rattle.rcu_defer.specs.DeferList.{taken_values}
use Rattle.rcu_defer.specs.Histories.{Call, Defer, Tend, Take, deferred_in, list_after, marks_after}
use Rattle.rcu_defer.specs.Histories.{taken_in}
use Rattle.rcu_defer.proofs.Waits.{all_counted, taken_done}

module _ {X : Type 0} where
  -- the marks of the list are those of its calls
  pub same_marks : (calls : List (Call X)) → (list_after calls).marks ≡ marks_after calls
  same_marks [] = refl
  same_marks (Defer x ∷ calls) = ap after_defer (same_marks calls)
  same_marks (Tend n ∷ calls) = ap (λ m. after_tend m n) (same_marks calls)
  same_marks (Take most ∷ calls) = ap (λ m. after_take m most) (same_marks calls)

  -- the values that were taken out, and those in the list
  pub in_order : (calls : List (Call X))
      → taken_in calls ++ (list_after calls).values ≡ deferred_in calls
  in_order [] = refl
  in_order (Defer x ∷ calls) =
      sym (append_assoc (taken_in calls) (list_after calls).values (x ∷ []))
      ∙ ap (λ l. l ++ x ∷ []) (in_order calls)
  in_order (Tend n ∷ calls) = in_order calls
  in_order (Take most ∷ calls) =
      let s = list_after calls in
      let count = min most (ready_of s.marks) in
      append_assoc (taken_in calls) (take count s.values) (drop count s.values)
      ∙ (ap (λ l. taken_in calls ++ l) (take-append-drop count s.values) ∙ in_order calls)

  -- the values that were taken out came first
  pub taken_first : (calls : List (Call X))
      → taken_in calls ≡ take (length (taken_in calls)) (deferred_in calls)
  taken_first calls =
      let count = length (taken_in calls) in
      sym (take_at (taken_in calls) (list_after calls).values count refl)
      ∙ ap (take count) (in_order calls)

  -- how many were taken out
  pub taken_counted : (calls : List (Call X)) → length (taken_in calls) ≡ (marks_after calls).taken
  taken_counted [] = refl
  taken_counted (Defer x ∷ calls) = taken_counted calls
  taken_counted (Tend n ∷ calls) = taken_counted calls
  taken_counted (Take most ∷ calls) =
      let s = list_after calls in
      let m = marks_after calls in
      let before = taken_counted calls in
      let whole = ap length (in_order calls) in
      let all = all_counted calls in
      let order = taken_done calls in
      let both = length-append (taken_in calls) s.values in
      let cut = length-take (min most (ready_of s.marks)) s.values in
      let more = length-append (taken_in calls) (taken_values s most) in
      let same : ready_of s.marks ≡ ready_of m = ap ready_of (same_marks calls) in
      omega arith
