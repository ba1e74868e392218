-- Segments after a migration.
use Rattle.std.proofs.Common.{◌≡◌, ◌==◌, ℕ, zero, suc, Bool, true, false, ◌+◌, ◌<◌, ◌≤◌, nat_lt}
use Rattle.std.proofs.Common.{if◌then◌else◌, List, [], ◌∷◌, ◌++◌, length, map, take, drop, refl, ap}
use Rattle.std.proofs.Common.{sym, subst, ◌∙◌, append_assoc, length-append, arith}
use Rattle.std.proofs.lemmas.List.{append-nil, drop-append-le, drop_all, map-append, take-append-le}
use Rattle.std.proofs.lemmas.List.{take_all}
use Rattle.std.proofs.lemmas.Bool.Decides.{nat_tests}
use Rattle.rcu_cblist.specs.declared.items.Entry.{Entry}
use Rattle.rcu_cblist.specs.declared.items.Entry.TheVariants as entry
use Rattle.rcu_cblist.specs.declared.tail.Tail.{Tail}
use Rattle.rcu_cblist.specs.SegList.{Item, Unmarked, Until, Done, after_migrate, as_it_leaves}
use Rattle.rcu_cblist.specs.SegList.{begins_with_marker, behind, callbacks, front, is_empty}
use Rattle.rcu_cblist.specs.SegList.{without_mark}
use Rattle.rcu_cblist.specs.Entries.{item_of, marked, moved_behind, moved_in_front, unmarked}
use Rattle.rcu_cblist.specs.Cuts.{AreSegments, AreTails, IsTail, between}
use Rattle.rcu_cblist.specs.Segments.{joined}
use Rattle.rcu_cblist.proofs.Cuts.{Cuts, calls_joined, calls_marked, calls_within, first_joined}
use Rattle.rcu_cblist.proofs.Cuts.{rest_of, seen_at, segments_at}
use Rattle.rcu_cblist.proofs.Marking.{behind_four, entrained, marked_last, passed, some_kept, stays}
use Rattle.rcu_cblist.proofs.Taking.{calls_all}
use Rattle.rcu_cblist.proofs.Views.{behind_stripped, front_joined}

module _ {X : Type 0} where
  -- a list that leaves: the part that goes in front of a target, and the part that goes behind it
  pub record Leaves (leaving : List (Item X)) (P Q : List (Entry X)) : Type 0 where
    pub front_is : front leaving ≡ marked Done P
    pub behind_is : map without_mark (behind leaving) ≡ unmarked Q
    pub front_first : begins_with_marker (unmarked P) ≡ false
    pub behind_first : begins_with_marker (unmarked Q) ≡ false

  -- a list that is cut leaves at the end of its done part
  leaves_cut : (a b d w r : ℕ) (xs : List (Entry X))
      → d ≤ w
      → w ≤ r
      → AreSegments a b (take d xs) (between d w xs) (between w r xs) (drop r xs)
      → Leaves (joined a b (take d xs) (between d w xs) (between w r xs) (drop r xs)) (take d xs)
      (drop d xs)
  leaves_cut a b d w r xs first second h =
      let all : between d w xs ++ (between w r xs ++ drop r xs) ≡ drop d xs =
      ap (λ l. between d w xs ++ l) (rest_of w r xs second) ∙ rest_of d w xs first in
      record {
        front_is = front_joined a b _ _ _ _ h;
        behind_is = behind_stripped a b _ _ _ _ h ∙ ap unmarked all;
        front_first = h.done_first;
        behind_first = subst (λ l. begins_with_marker (unmarked l) ≡ false) all
            (first_joined (between d w xs) (between w r xs ++ drop r xs) h.wait_first
            (first_joined (between w r xs) (drop r xs) h.ready_first h.next_first));
      }

  -- with a marker behind it, too
  leaves_marked : (a b d w r : ℕ) (xs : List (Entry X))
      → d ≤ w
      → w ≤ r
      → r ≤ length xs
      → AreSegments a b (take d xs) (between d w xs) (between w r xs) (drop r xs)
      → is_empty (joined a b (take d xs) (between d w xs) (between w r xs) (drop r xs)) ≡ false
      → Leaves
      (as_it_leaves (joined a b (take d xs) (between d w xs) (between w r xs) (drop r xs)) true)
      (moved_in_front xs d true) (moved_behind xs d true)
  leaves_marked a b d w r xs first second within h some =
      let n = length xs in
      let place : ℕ → ℕ = λ k. if k == n then k + 1 else k in
      let m = marked_last a b xs d w r (place d) (place w) (place r) n h first second within refl
      refl refl refl (some_kept a b d w r xs first second some) in
      let more = xs ++ entry.Marker ∷ [] in
      let seen = joined a b (take d xs) (between d w xs) (between w r xs) (drop r xs) in
      let cut =
      leaves_cut a b (place d) (place w) (place r) more m.wait_behind m.ready_behind m.segments in
      let whole = m.seen ∙ entrained seen some in
      at (place d) refl (nat_lt d n) refl
      (subst (λ l. Leaves l (take (place d) more) (drop (place d) more)) whole cut)
    where
      leaving : List (Item X)
      leaving =
          as_it_leaves (joined a b (take d xs) (between d w xs) (between w r xs) (drop r xs)) true

      at : (d' : ℕ)
          → d' ≡ (if d == length xs then d + 1 else d)
          → (test : Bool) → nat_lt d (length xs) ≡ test
          → Leaves leaving (take d' (xs ++ entry.Marker ∷ [])) (drop d' (xs ++ entry.Marker ∷ []))
          → Leaves leaving (take d xs ++ (if test then [] else entry.Marker ∷ []))
          (drop d xs ++ (if test then entry.Marker ∷ [] else []))
      at d' is true before h =
          let under : d < length xs = grind (arith, nat_tests) in
          let same = stays (length xs) d d' is under in
          let in_front : take d' (xs ++ entry.Marker ∷ []) ≡ take d xs ++ [] =
          ap (λ k. take k (xs ++ entry.Marker ∷ [])) same
          ∙ (take-append-le d xs (entry.Marker ∷ []) (omega arith)
          ∙ sym (append-nil (take d xs))) in
          let behind_it : drop d' (xs ++ entry.Marker ∷ []) ≡ drop d xs ++ entry.Marker ∷ [] =
          ap (λ k. drop k (xs ++ entry.Marker ∷ [])) same
          ∙ drop-append-le d xs (entry.Marker ∷ []) (omega arith) in
          subst (λ l. Leaves leaving l (drop d xs ++ entry.Marker ∷ [])) in_front
          (subst (λ l. Leaves leaving (take d' (xs ++ entry.Marker ∷ [])) l) behind_it h)
      at d' is false past h =
          let end : d ≡ length xs =
          (let over : length xs ≤ d = grind (arith, nat_tests) in omega arith) in
          let more = passed (length xs) d d' is end in
          let long = length-append xs (entry.Marker ∷ []) in
          let in_front : take d' (xs ++ entry.Marker ∷ []) ≡ take d xs ++ entry.Marker ∷ [] =
          take_all d' (xs ++ entry.Marker ∷ []) (omega arith)
          ∙ ap (λ l. l ++ entry.Marker ∷ []) (sym (take_all d xs (omega arith))) in
          let behind_it : drop d' (xs ++ entry.Marker ∷ []) ≡ drop d xs ++ [] =
          drop_all d' (xs ++ entry.Marker ∷ []) (omega arith) ∙
          (sym (drop_all d xs (omega arith)) ∙ sym (append-nil (drop d xs))) in
          subst (λ l. Leaves leaving l (drop d xs ++ [])) in_front
          (subst (λ l. Leaves leaving (take d' (xs ++ entry.Marker ∷ [])) l) behind_it h)

  -- with a marker or without
  pub leaves : (a b d w r : ℕ) (xs : List (Entry X)) (wanted : Bool)
      → d ≤ w
      → w ≤ r
      → r ≤ length xs
      → AreSegments a b (take d xs) (between d w xs) (between w r xs) (drop r xs)
      → (wanted ≡ true
      → is_empty (joined a b (take d xs) (between d w xs) (between w r xs) (drop r xs)) ≡ false)
      → Leaves
      (as_it_leaves (joined a b (take d xs) (between d w xs) (between w r xs) (drop r xs)) wanted)
      (moved_in_front xs d wanted) (moved_behind xs d wanted)
  leaves a b d w r xs true first second within h some =
      leaves_marked a b d w r xs first second within h (some refl)
  leaves a b d w r xs false first second within h some =
      rw (append-nil (take d xs), append-nil (drop d xs)) (leaves_cut a b d w r xs first second h)

  -- the callbacks of both parts
  pub front_calls : (xs : List (Entry X)) (d : ℕ) (wanted : Bool)
      → length (callbacks (unmarked (moved_in_front xs d wanted)))
      ≡ length (callbacks (unmarked (take d xs)))
  front_calls xs d false = ap (λ l. length (callbacks (unmarked l))) (append-nil (take d xs))
  front_calls xs d true = at (nat_lt d (length xs))
    where
      at : (test : Bool)
          → length (callbacks (unmarked (take d xs ++ (if test then [] else entry.Marker ∷ []))))
          ≡ length (callbacks (unmarked (take d xs)))
      at true = ap (λ l. length (callbacks (unmarked l))) (append-nil (take d xs))
      at false = calls_marked (take d xs)

  pub behind_calls : (xs : List (Entry X)) (d : ℕ) (wanted : Bool)
      → length (callbacks (unmarked (moved_behind xs d wanted)))
      ≡ length (callbacks (unmarked (drop d xs)))
  behind_calls xs d false = ap (λ l. length (callbacks (unmarked l))) (append-nil (drop d xs))
  behind_calls xs d true = at (nat_lt d (length xs))
    where
      at : (test : Bool)
          → length (callbacks (unmarked (drop d xs ++ (if test then entry.Marker ∷ [] else []))))
          ≡ length (callbacks (unmarked (drop d xs)))
      at false = ap (λ l. length (callbacks (unmarked l))) (append-nil (drop d xs))
      at true = calls_marked (drop d xs)

  -- a place behind a list that was put in front
  take_over : (P ys : List (Entry X)) (t n : ℕ) → n ≡ length P + t
      → take n (P ++ ys) ≡ P ++ take t ys
  take_over [] ys t n is = ap (λ k. take k ys) (omega arith)
  take_over (x ∷ P) ys t zero is = absurd (omega arith)
  take_over (x ∷ P) ys t (suc n) is = ap (λ l. x ∷ l) (take_over P ys t n (omega arith))

  drop_over : (P ys : List (Entry X)) (t n : ℕ) → n ≡ length P + t → drop n (P ++ ys) ≡ drop t ys
  drop_over [] ys t n is = ap (λ k. drop k ys) (omega arith)
  drop_over (x ∷ P) ys t zero is = absurd (omega arith)
  drop_over (x ∷ P) ys t (suc n) is = drop_over P ys t n (omega arith)

  module _ (a b : ℕ) (P zs Q : List (Entry X)) (done wait ready ahead : Tail) (calls : ℕ)
      (k : AreTails zs done wait ready calls a b) (first : begins_with_marker (unmarked P) ≡ false)
      (last : begins_with_marker (unmarked Q) ≡ false) (long : ahead.items ≡ length P)
      (counted : ahead.calls ≡ length (callbacks (unmarked P))) where
    -- the list around the target's
    abbrev around : List (Entry X)
    around = P ++ (zs ++ Q)

    risen : (tail after : Tail) → IsTail zs tail → after.items ≡ tail.items + ahead.items →
        after.calls ≡ tail.calls + ahead.calls → IsTail around after
    risen tail after h items more =
        let within = h.within in
        let all = length-append P (zs ++ Q) in
        let others = length-append zs Q in
        let before : take after.items around ≡ P ++ take tail.items zs =
        take_over P (zs ++ Q) tail.items after.items (omega arith)
        ∙ ap (λ l. P ++ l) (take-append-le tail.items zs Q within) in
        let both =
        ap (λ l. length (callbacks (unmarked l))) before ∙ calls_joined P (take tail.items zs) in
        let own = h.calls in
        record { within = omega arith; calls = omega arith }

    cut_around : (d w r : ℕ)
        → d ≡ done.items + ahead.items
        → w ≡ wait.items + ahead.items
        → r ≡ ready.items + ahead.items
        → Cuts around (P ++ take done.items zs) (between done.items wait.items zs)
        (between wait.items ready.items zs) (drop ready.items zs ++ Q) d w r
    cut_around d w r is_d is_w is_r =
        let in_done = k.done_tail.within in
        let in_wait = k.wait_tail.within in
        let in_ready = k.ready_tail.within in
        record {
          is_done =
              take_over P (zs ++ Q) done.items d (omega arith)
              ∙ ap (λ l. P ++ l) (take-append-le done.items zs Q in_done);
          is_wait = ap (drop d) (take_over P (zs ++ Q) wait.items w (omega arith) ∙
              ap (λ l. P ++ l) (take-append-le wait.items zs Q in_wait)) ∙
              drop_over P (take wait.items zs) done.items d (omega arith);
          is_ready = ap (drop w) (take_over P (zs ++ Q) ready.items r (omega arith) ∙
              ap (λ l. P ++ l) (take-append-le ready.items zs Q in_ready)) ∙
              drop_over P (take ready.items zs) wait.items w (omega arith);
          is_next =
              drop_over P (zs ++ Q) ready.items r (omega arith)
              ∙ drop-append-le ready.items zs Q in_ready;
        }

    segments_around : AreSegments a b (P ++ take done.items zs) (between done.items wait.items zs)
        (between wait.items ready.items zs) (drop ready.items zs ++ Q)
    segments_around =
        let h = k.segments in
        record {
          filled = h.filled;
          ascending = h.ascending;
          done_first = first_joined P (take done.items zs) first h.done_first;
          wait_first = h.wait_first;
          ready_first = h.ready_first;
          next_first = first_joined (drop ready.items zs) Q h.next_first last;
        }

    -- it is cut as it has to be
    pub carried_tails : (done' wait' ready' : Tail) (calls' : ℕ)
        → done'.items ≡ done.items + ahead.items
        → done'.calls ≡ done.calls + ahead.calls
        → wait'.items ≡ wait.items + ahead.items
        → wait'.calls ≡ wait.calls + ahead.calls
        → ready'.items ≡ ready.items + ahead.items
        → ready'.calls ≡ ready.calls + ahead.calls
        → calls' ≡ calls + (length (callbacks (unmarked P)) + length (callbacks (unmarked Q)))
        → AreTails around done' wait' ready' calls' a b
    carried_tails done' wait' ready' calls' d dc w wc r rc all =
        let one = k.wait_behind in
        let two = k.ready_behind in
        let own = k.counted in
        let outer = calls_joined P (zs ++ Q) in
        let inner = calls_joined zs Q in
        record {
          done_tail = risen done done' k.done_tail d dc;
          wait_tail = risen wait wait' k.wait_tail w wc;
          ready_tail = risen ready ready' k.ready_tail r rc;
          counted = omega arith;
          wait_behind = omega arith;
          ready_behind = omega arith;
          segments = segments_at a b around _ _ _ _ _ _ _
              (cut_around done'.items wait'.items ready'.items d w r) segments_around;
        }

    -- and seen with both parts around the target's items
    pub carried_seen : (leaving : List (Item X)) (d w r : ℕ)
        → Leaves leaving P Q
        → d ≡ done.items + ahead.items
        → w ≡ wait.items + ahead.items
        → r ≡ ready.items + ahead.items
        → joined a b (take d around) (between d w around) (between w r around) (drop r around)
        ≡ after_migrate
        (joined a b (take done.items zs) (between done.items wait.items zs)
        (between wait.items ready.items zs) (drop ready.items zs))
        leaving
    carried_seen leaving d w r h is_d is_w is_r =
        let D = take done.items zs in
        let W = between done.items wait.items zs in
        let R = between wait.items ready.items zs in
        let N = drop ready.items zs in
        let inner = marked (Until a) W ++ (marked (Until b) R ++ unmarked (N ++ Q)) in
        let joined_is : joined a b (P ++ D) W R (N ++ Q)
        ≡ (marked Done P ++ joined a b D W R N) ++ unmarked Q =
        ap (λ l. l ++ inner) (map-append (item_of Done) P D)
        ∙ (append_assoc (marked Done P) (marked Done D) inner
        ∙ (ap
        (λ l. marked Done P ++ (marked Done D ++ (marked (Until a) W ++ (marked (Until b) R ++ l))))
        (map-append (item_of Unmarked) N Q)
        ∙ (ap (λ l. marked Done P ++ l)
        (sym (behind_four (marked Done D) (marked (Until a) W) (marked (Until b) R) (unmarked N)
        (unmarked Q)))
        ∙ sym (append_assoc (marked Done P) (joined a b D W R N) (unmarked Q))))) in
        seen_at a b around _ _ _ _ _ _ _ (cut_around d w r is_d is_w is_r) ∙
        (joined_is ∙ (ap (λ l. (l ++ joined a b D W R N) ++ unmarked Q) (sym h.front_is) ∙
        ap (λ l. (front leaving ++ joined a b D W R N) ++ l) (sym h.behind_is)))

  -- no more callbacks before a place than items in the list
  pub tail_few : (xs : List (Entry X)) (tail : Tail) → IsTail xs tail → tail.calls ≤ length xs
  tail_few xs tail k =
      let all = calls_all xs tail k in
      let few = calls_within xs in
      omega arith
