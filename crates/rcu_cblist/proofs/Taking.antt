-- Segments after a take.
use Rattle.std.proofs.Common.{◌≡◌, ℕ, zero, suc, ◌+◌, ◌-◌, ◌<◌, ◌≤◌, Bool, true, false, ◌==◌, inl}
use Rattle.std.proofs.Common.{inr, ◌⊎◌, List, [], ◌∷◌, ◌++◌, length, map, take, drop, refl, ap, sym}
use Rattle.std.proofs.Common.{subst, ◌∙◌, length-append, length-take, length-drop, arith}
use Rattle.std.proofs.lemmas.List.{drop-append-le, drop-drop, drop-map, drop-take, length-map}
use Rattle.std.proofs.lemmas.List.{take-append-drop, take-take}
use Rattle.std.proofs.lemmas.Bool.Decides.{nat_tests}
use mir.Val.{bool_byte}
use Rattle.rcu_cblist.specs.declared.items.Entry.{Entry}
use Rattle.rcu_cblist.specs.declared.tail.Tail.{Tail}
use Rattle.rcu_cblist.specs.SegList.{Item, Mark, Of, Marker, Unmarked, Until, Done, after_take}
use Rattle.rcu_cblist.specs.SegList.{as_it_leaves, begins_with_marker, callbacks, from_callback}
use Rattle.rcu_cblist.specs.SegList.{front, is_empty, markers, remarked, without_mark}
use Rattle.rcu_cblist.specs.Entries.{item_of, marked, unmarked}
use Rattle.rcu_cblist.specs.declared.segments.Segments.{Segments}
use Rattle.rcu_cblist.specs.Cuts.{AreSegments, AreTails, IsTail, between}
use Rattle.rcu_cblist.specs.Segments.{joined, seen}
use Rattle.rcu_cblist.proofs.Cuts.{Cuts, calls_joined, calls_some, first_joined, joins, rest_of}
use Rattle.rcu_cblist.proofs.Cuts.{seen_at, segments_at, whole}
use Rattle.rcu_cblist.proofs.Lists.{callbacks_from, callbacks_remarked, untaken_least}
use Rattle.rcu_cblist.proofs.SegListLemmas.{first_from, first_remarked, markers_remarked}
use Rattle.rcu_cblist.proofs.Views.{front_joined, marked_remarked, stripped}

module _ {X : Type 0} where
  -- how many items are before one of the callbacks
  abbrev passed : ℕ → List (Item X) → ℕ
  passed n [] = 0
  passed n (Marker ∷ xs) = suc (passed n xs)
  passed zero (Of call mark ∷ xs) = 0
  passed (suc n) (Of call mark ∷ xs) = suc (passed n xs)

  from_passed : (n : ℕ) (xs : List (Item X)) → from_callback n xs ≡ drop (passed n xs) xs
  from_passed n [] = refl
  from_passed n (Marker ∷ xs) = from_passed n xs
  from_passed zero (Of call mark ∷ xs) = refl
  from_passed (suc n) (Of call mark ∷ xs) = from_passed n xs

  passed_remarked : (change : Mark → Mark) (n : ℕ) (xs : List (Item X))
      → passed n (map (remarked change) xs) ≡ passed n xs
  passed_remarked change n [] = refl
  passed_remarked change n (Marker ∷ xs) = ap suc (passed_remarked change n xs)
  passed_remarked change zero (Of call mark ∷ xs) = refl
  passed_remarked change (suc n) (Of call mark ∷ xs) = ap suc (passed_remarked change n xs)

  passed_length : (n : ℕ) (xs : List (Item X))
      → length (from_callback n xs) + passed n xs ≡ length xs
  passed_length n [] = omega arith
  passed_length n (Marker ∷ xs) = let rest = passed_length n xs in omega arith
  passed_length zero (Of call mark ∷ xs) = omega arith
  passed_length (suc n) (Of call mark ∷ xs) = let rest = passed_length n xs in omega arith

  -- a place has no more callbacks before it than one behind it
  pub calls_order : (xs : List (Entry X)) (tail behind : Tail) → IsTail xs tail → IsTail xs behind
      → tail.items ≤ behind.items →
      tail.calls ≤ behind.calls
  calls_order xs tail behind k h order =
      let counted = k.calls in
      let counted_too = h.calls in
      let parts = calls_joined (take tail.items xs) (between tail.items behind.items xs) in
      let all =
      ap (λ l. length (callbacks (unmarked l))) (joins tail.items behind.items xs order) in
      omega arith

  -- and no more than the list has
  pub calls_all : (xs : List (Entry X)) (tail : Tail) → IsTail xs tail
      → tail.calls ≤ length (callbacks (unmarked xs))
  calls_all xs tail k =
      let counted = k.calls in
      let parts = calls_joined (take tail.items xs) (drop tail.items xs) in
      let all = ap (λ l. length (callbacks (unmarked l))) (take-append-drop tail.items xs) in
      omega arith

  -- the first part of a list begins as the list does
  first_part : (xs ys : List (Entry X)) → begins_with_marker (unmarked (xs ++ ys)) ≡ false →
      begins_with_marker (unmarked xs) ≡ false
  first_part [] ys none = refl
  first_part (x ∷ xs) ys none = none

  -- the callbacks of a done part
  pub calls_done : (a b : ℕ) (D W R N : List (Entry X)) → AreSegments a b D W R N →
      length (callbacks (front (joined a b D W R N))) ≡ length (callbacks (unmarked D))
  calls_done a b D W R N h =
      ap (λ l. length (callbacks l)) (front_joined a b D W R N h)
      ∙ ap length
      (sym (callbacks_remarked (λ _. Unmarked) (marked Done D))
      ∙ ap callbacks (marked_remarked (λ _. Unmarked) Done D))

  module _ (a b : ℕ) (xs : List (Entry X)) (done wait ready : Tail) (calls : ℕ)
      (k : AreTails xs done wait ready calls a b) where
    -- the list that is seen
    abbrev now : List (Item X)
    now =
        joined a b (take done.items xs) (between done.items wait.items xs)
        (between wait.items ready.items xs) (drop ready.items xs)

    -- without marks, it is the stored list
    pub now_stripped : map without_mark now ≡ unmarked xs
    now_stripped =
        stripped a b (take done.items xs) (between done.items wait.items xs)
        (between wait.items ready.items xs) (drop ready.items xs)
        ∙ ap unmarked (whole done.items wait.items ready.items xs k.wait_behind k.ready_behind)

    pub now_callbacks : callbacks now ≡ callbacks (unmarked xs)
    now_callbacks = sym (callbacks_remarked (λ _. Unmarked) now) ∙ ap callbacks now_stripped

    pub now_markers : markers now ≡ markers (unmarked xs)
    now_markers = sym (markers_remarked (λ _. Unmarked) now) ∙ ap markers now_stripped

    -- its done part has as many callbacks as are before the place
    pub now_done : length (callbacks (front now)) ≡ done.calls
    now_done = calls_done a b _ _ _ _ k.segments ∙ sym k.done_tail.calls

    -- the part behind the done part does not begin with a marker
    rest_first : begins_with_marker (unmarked (drop done.items xs)) ≡ false
    rest_first =
        subst (λ l. begins_with_marker (unmarked l) ≡ false)
        (ap (λ l. between done.items wait.items xs ++ l)
        (rest_of wait.items ready.items xs k.ready_behind)
        ∙ rest_of done.items wait.items xs k.wait_behind)
        (first_joined (between done.items wait.items xs)
        (between wait.items ready.items xs ++ drop ready.items xs) k.segments.wait_first
        (first_joined (between wait.items ready.items xs) (drop ready.items xs)
        k.segments.ready_first k.segments.next_first))

    -- nor does the whole
    pub kept_first : begins_with_marker (unmarked xs) ≡ false
    kept_first =
        subst (λ l. begins_with_marker (unmarked l) ≡ false) (take-append-drop done.items xs)
        (first_joined (take done.items xs) (drop done.items xs) k.segments.done_first rest_first)

    -- as it is seen
    pub now_first : begins_with_marker now ≡ false
    now_first =
        sym (first_remarked (λ _. Unmarked) now) ∙ (ap begins_with_marker now_stripped ∙ kept_first)

    -- after this number of callbacks of the done part, and the markers before the next one, are
    -- gone
    module _ (most gone : ℕ) (ys : List (Entry X)) (few : most ≤ done.calls)
        (rest : ys ≡ drop gone xs) (sized : gone + length ys ≡ length xs)
        (from : unmarked ys ≡ from_callback most (unmarked xs)) where
      -- this number of callbacks is gone
      fewer : length (callbacks (unmarked ys)) + most ≡ length (callbacks (unmarked xs))
      fewer =
          let parts = calls_joined (take done.items xs) (drop done.items xs) in
          let all = ap (λ l. length (callbacks (unmarked l))) (take-append-drop done.items xs) in
          let counted = k.done_tail.calls in
          ap (λ l. length (callbacks l) + most) from
          ∙ callbacks_from most (unmarked xs) (omega arith)

      calls_gone : length (callbacks (unmarked (take gone xs))) ≡ most
      calls_gone =
          let parts = calls_joined (take gone xs) (drop gone xs) in
          let all = ap (λ l. length (callbacks (unmarked l))) (take-append-drop gone xs) in
          let same = ap (λ l. length (callbacks (unmarked l))) rest in
          let less = fewer in
          omega arith

      -- they all were in the done part
      pub within_done : gone ≤ done.items
      within_done = by_order (order gone done.items)
        where
          order : (m n : ℕ) → (m ≤ n) ⊎ (n < m)
          order m n = grind arith

          by_order : (gone ≤ done.items) ⊎ (done.items < gone) → gone ≤ done.items
          by_order (inl is) = is
          by_order (inr past) =
              let parts = calls_joined (take done.items xs) (between done.items gone xs) in
              let all =
              ap (λ l. length (callbacks (unmarked l))) (joins done.items gone xs (omega arith)) in
              let counted = k.done_tail.calls in
              let least = calls_gone in
              let long : length (between done.items gone xs) ≡ gone - done.items =
              omega (arith, length-drop done.items (take gone xs), length-take gone xs) in
              let none : begins_with_marker (unmarked (between done.items gone xs)) ≡ false =
              first_part (between done.items gone xs) (drop gone xs)
              (subst (λ l. begins_with_marker (unmarked l) ≡ false)
              (sym (rest_of done.items gone xs (omega arith))) rest_first) in
              let one = calls_some (between done.items gone xs) (omega arith) none in
              absurd (omega arith)

      -- a place behind them
      fallen : (tail after : Tail)
          → IsTail xs tail
          → gone ≤ tail.items
          → after.items ≡ tail.items - gone
          → after.calls ≡ tail.calls - most
          → IsTail ys after
      fallen tail after h behind items calls =
          let within = h.within in
          let long : take after.items ys ≡ drop gone (take tail.items xs) =
          ap (take after.items) rest ∙ (sym (drop-take gone after.items xs) ∙
          ap (λ n. drop gone (take n xs)) (omega arith)) in
          let parts =
          calls_joined (take gone (take tail.items xs)) (drop gone (take tail.items xs)) in
          let all =
          ap (λ l. length (callbacks (unmarked l))) (take-append-drop gone (take tail.items xs)) in
          let first =
          ap (λ l. length (callbacks (unmarked l))) (take-take gone tail.items xs behind) in
          let least = calls_gone in
          let counted = h.calls in
          let seen = ap (λ l. length (callbacks (unmarked l))) long in
          record { within = omega arith; calls = omega arith }

      -- the items between places behind them
      between_fallen : (i j : ℕ) → gone ≤ i → gone ≤ j
          → between (i - gone) (j - gone) ys ≡ between i j xs
      between_fallen i j first second =
          ap (λ l. between (i - gone) (j - gone) l) rest
          ∙ (ap (drop (i - gone))
          (sym (drop-take gone (j - gone) xs) ∙ ap (λ n. drop gone (take n xs)) (omega arith))
          ∙ (drop-drop (i - gone) gone (take j xs) ∙ ap (λ n. drop n (take j xs)) (omega arith)))

      cut_taken : Cuts ys (drop gone (take done.items xs)) (between done.items wait.items xs)
          (between wait.items ready.items xs) (drop ready.items xs) (done.items - gone)
          (wait.items - gone) (ready.items - gone)
      cut_taken =
          let in_done = within_done in
          let first = k.wait_behind in
          let second = k.ready_behind in
          record {
            is_done =
                ap (take (done.items - gone)) rest
                ∙ (sym (drop-take gone (done.items - gone) xs)
                ∙ ap (λ n. drop gone (take n xs)) (omega arith));
            is_wait = between_fallen done.items wait.items in_done (omega arith);
            is_ready = between_fallen wait.items ready.items (omega arith) (omega arith);
            is_next =
                ap (drop (ready.items - gone)) rest
                ∙ (drop-drop (ready.items - gone) gone xs ∙ ap (λ n. drop n xs) (omega arith));
          }

      segments_taken : AreSegments a b (drop gone (take done.items xs))
          (between done.items wait.items xs) (between wait.items ready.items xs)
          (drop ready.items xs)
      segments_taken =
          let h = k.segments in
          let in_done = within_done in
          let parts = take-append-drop (done.items - gone) ys in
          record {
            filled = h.filled;
            ascending = h.ascending;
            done_first = subst (λ l. begins_with_marker (unmarked l) ≡ false) cut_taken.is_done
                (first_part (take (done.items - gone) ys) (drop (done.items - gone) ys)
                (subst (λ l. begins_with_marker (unmarked l) ≡ false) (sym parts)
                (subst (λ l. begins_with_marker l ≡ false) (sym from)
                (first_from most (unmarked xs)))));
            wait_first = h.wait_first;
            ready_first = h.ready_first;
            next_first = h.next_first;
          }

      -- the rest is cut as it has to be
      pub taken_tails : (done' wait' ready' : Tail) (calls' : ℕ)
          → done'.items ≡ done.items - gone
          → done'.calls ≡ done.calls - most
          → wait'.items ≡ wait.items - gone
          → wait'.calls ≡ wait.calls - most
          → ready'.items ≡ ready.items - gone
          → ready'.calls ≡ ready.calls - most
          → calls' ≡ calls - most
          → AreTails ys done' wait' ready' calls' a b
      taken_tails done' wait' ready' calls' d dc w wc r rc all =
          let in_done = within_done in
          let first = k.wait_behind in
          let second = k.ready_behind in
          let less = fewer in
          let counted = k.counted in
          record {
            done_tail = fallen done done' k.done_tail in_done d dc;
            wait_tail = fallen wait wait' k.wait_tail (omega arith) w wc;
            ready_tail = fallen ready ready' k.ready_tail (omega arith) r rc;
            counted = omega arith;
            wait_behind = omega arith;
            ready_behind = omega arith;
            segments = rw (d, w, r) (segments_at a b ys _ _ _ _ _ _ _ cut_taken segments_taken);
          }

      -- and seen as the list after a take
      pub taken_seen : (d w r : ℕ)
          → d ≡ done.items - gone
          → w ≡ wait.items - gone
          → r ≡ ready.items - gone
          → joined a b (take d ys) (between d w ys) (between w r ys) (drop r ys)
          ≡ after_take now most
      taken_seen d w r first second third =
          let in_done = within_done in
          let rest_seen =
          marked (Until a) (between done.items wait.items xs)
          ++ (marked (Until b) (between wait.items ready.items xs) ++
          unmarked (drop ready.items xs)) in
          let long : length (from_callback most (unmarked xs)) ≡ length ys =
          ap length (sym from) ∙ length-map ys (item_of Unmarked) in
          let whole_long = passed_length most (unmarked xs) in
          let same_long = length-map xs (item_of Unmarked) in
          let place : passed most now ≡ gone =
          sym (passed_remarked (λ _. Unmarked) most now)
          ∙ (ap (passed most) now_stripped ∙ omega arith) in
          let within = k.done_tail.within in
          let done_long : length (marked Done (take done.items xs)) ≡ done.items =
          omega
          (arith, length-map (take done.items xs) (item_of Done), length-take done.items xs) in
          let left : from_callback most now
          ≡ marked Done (drop gone (take done.items xs)) ++ rest_seen =
          from_passed most now ∙ (ap (λ n. drop n now) place ∙
          (drop-append-le gone (marked Done (take done.items xs)) rest_seen (omega arith) ∙
          ap (λ l. l ++ rest_seen) (drop-map (item_of Done) gone (take done.items xs)))) in
          let counted = now_done in
          rw (first, second, third) (seen_at a b ys _ _ _ _ _ _ _ cut_taken ∙
          (sym left ∙ untaken_least most most now (omega arith)))

  -- how far the places fall
  pub record Falls (s : Segments X) (most gone : ℕ) : Type 0 where
    pub in_done : gone ≤ s.done.items
    pub in_wait : gone ≤ s.wait.items
    pub in_ready : gone ≤ s.ready.items
    pub of_wait : most ≤ s.wait.calls
    pub of_ready : most ≤ s.ready.calls
    pub of_all : most ≤ s.calls

  pub falls : (s : Segments X) (most gone : ℕ) (ys : List (Entry X)) → most ≤ s.done.calls →
      ys ≡ drop gone s.items.items → gone + length ys ≡ length s.items.items →
      unmarked ys ≡ from_callback most (unmarked s.items.items) → Falls s most gone
  falls s most gone ys few rest sized from =
      let in_done = within_done s.wait_number s.ready_number s.items.items s.done s.wait s.ready
      s.calls s.cut most gone ys few rest sized from in
      let first = s.cut.wait_behind in
      let second = s.cut.ready_behind in
      let counted = s.cut.counted in
      let to_wait = calls_order s.items.items s.done s.wait s.cut.done_tail s.cut.wait_tail first in
      let to_ready =
      calls_order s.items.items s.wait s.ready s.cut.wait_tail s.cut.ready_tail second in
      let to_end = calls_all s.items.items s.ready s.cut.ready_tail in
      record {
        in_done = in_done;
        in_wait = omega arith;
        in_ready = omega arith;
        of_wait = omega arith;
        of_ready = omega arith;
        of_all = omega arith;
      }

  -- as many callbacks are seen as are counted
  pub counted_calls : (s : Segments X) → s.calls ≡ length (callbacks (seen s))
  counted_calls s =
      s.cut.counted
      ∙ ap length
      (sym (now_callbacks s.wait_number s.ready_number s.items.items s.done s.wait s.ready s.calls
      s.cut))

  -- and as many in the done part
  pub counted_done : (s : Segments X) → s.done.calls ≡ length (callbacks (front (seen s)))
  counted_done s =
      sym (now_done s.wait_number s.ready_number s.items.items s.done s.wait s.ready s.calls s.cut)

  -- as many items are seen as are stored
  pub seen_length : (s : Segments X) → length (seen s) ≡ length s.items.items
  seen_length s =
      sym (length-map (seen s) without_mark)
      ∙ (ap length
      (now_stripped s.wait_number s.ready_number s.items.items s.done s.wait s.ready s.calls s.cut)
      ∙ length-map s.items.items (item_of Unmarked))

  -- none is seen if none is stored
  pub seen_empty : (s : Segments X) (n : ℕ) → n ≡ length s.items.items
      → (n == 0) ≡ is_empty (seen s)
  seen_empty s n sized = at (seen s) (sized ∙ sym (seen_length s))
    where
      at : (xs : List (Item X)) → n ≡ length xs → (n == 0) ≡ is_empty xs
      at [] none = grind (arith, nat_tests)
      at (x ∷ xs) some = grind (arith, nat_tests)

  -- a list that is empty
  pub empty_is : (xs : List (Item X)) → is_empty xs ≡ true → xs ≡ []
  empty_is [] none = refl
  empty_is (x ∷ xs) none = absurd cc

  -- and one that is not
  pub some_is : (xs : List (Item X)) → is_empty xs ≡ false → xs ≡ [] → ⊥
  some_is xs some none = let is : false ≡ true = sym some ∙ ap is_empty none in absurd cc

  -- a list that leaves has one more marker if one is requested and it is not empty
  pub leaving_length : (xs : List (Item X)) (wanted : Bool) → is_empty xs ≡ false →
      length (as_it_leaves xs wanted) ≡ length xs + bool_byte wanted
  leaving_length xs false some = omega arith
  leaving_length [] true some = absurd cc
  leaving_length (x ∷ xs) true some = length-append (x ∷ xs) (Marker ∷ [])
