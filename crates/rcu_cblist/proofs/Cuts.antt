-- Segments: how tail places cut a list.
use Rattle.std.proofs.Common.{◌≡◌, ◌==◌, ℕ, false, ◌+◌, ◌-◌, ◌<◌, ◌≤◌, if◌then◌else◌, inl, inr}
use Rattle.std.proofs.Common.{List, [], ◌∷◌, ◌++◌, length, take, drop, refl, ap, sym, ◌∙◌}
use Rattle.std.proofs.Common.{append_assoc, length-append, length-take, length-drop, arith}
use Rattle.std.proofs.lemmas.List.{append_cancel_left, map-append, take-take, take-append-drop}
use Rattle.std.proofs.lemmas.List.{take-append-le, drop-append-le, take_all, drop_all}
use Rattle.std.proofs.lemmas.List.Elements.{filter_map-append}
use Rattle.std.proofs.lemmas.Bool.Decides.{nat_tests}
use Rattle.std.proofs.lemmas.Bool.{cases_eq}
use Rattle.rcu_cblist.specs.declared.items.Queued.{Queued}
use Rattle.rcu_cblist.specs.declared.items.Entry.{Entry}
use Rattle.rcu_cblist.specs.declared.items.Entry.TheVariants as entry
use Rattle.rcu_cblist.specs.declared.tail.Tail.{Tail}
use Rattle.rcu_cblist.specs.SegList.{Unmarked, begins_with_marker, callback_of, callbacks}
use Rattle.rcu_cblist.specs.Entries.{item_of, unmarked}
use Rattle.rcu_cblist.specs.Cuts.{AreSegments, AreTails, IsTail, between}
use Rattle.rcu_cblist.specs.Segments.{joined}

-- of places that are the same, as many items and as many callbacks are before both
pub same_items : (tail other : Tail) → tail ≡ other → tail.items ≡ other.items
same_items tail other same = ap (λ (t : Tail). t.items) same

pub same_calls : (tail other : Tail) → tail ≡ other → tail.calls ≡ other.calls
same_calls tail other same = ap (λ (t : Tail). t.calls) same

module _ {X : Type 0} where
  -- places cut a list into these four
  pub record Cuts (xs D W R N : List (Entry X)) (d w r : ℕ) : Type 0 where
    pub is_done : take d xs ≡ D
    pub is_wait : between d w xs ≡ W
    pub is_ready : between w r xs ≡ R
    pub is_next : drop r xs ≡ N

  -- the items before a place, and those from it to another one
  pub joins : (i j : ℕ) (xs : List (Entry X)) → i ≤ j → take i xs ++ between i j xs ≡ take j xs
  joins i j xs order =
      ap (λ l. l ++ between i j xs) (sym (take-take i j xs order)) ∙ take-append-drop i (take j xs)

  -- no item is between a place and itself
  pub nothing : (i : ℕ) (xs : List (Entry X)) → between i i xs ≡ []
  nothing i xs = drop_all i (take i xs) (omega (arith, length-take i xs))

  -- how many items are between two places
  pub length_between : (i j : ℕ) (xs : List (Entry X)) → j ≤ length xs
      → length (between i j xs) ≡ j - i
  length_between i j xs within = omega (arith, length-drop i (take j xs), length-take j xs)

  -- the items before a place, and the rest
  pub rest_of : (i j : ℕ) (xs : List (Entry X)) → i ≤ j → between i j xs ++ drop j xs ≡ drop i xs
  rest_of i j xs order =
      let both : take i xs ++ (between i j xs ++ drop j xs) ≡ take i xs ++ drop i xs =
      sym (append_assoc (take i xs) (between i j xs) (drop j xs))
      ∙ (ap (λ l. l ++ drop j xs) (joins i j xs order)
      ∙ (take-append-drop j xs ∙ sym (take-append-drop i xs))) in
      append_cancel_left (take i xs) (between i j xs ++ drop j xs) (drop i xs) both

  -- the whole list
  pub whole : (d w r : ℕ) (xs : List (Entry X)) → d ≤ w → w ≤ r →
      take d xs ++ (between d w xs ++ (between w r xs ++ drop r xs)) ≡ xs
  whole d w r xs first second =
      ap (λ l. take d xs ++ (between d w xs ++ l)) (rest_of w r xs second) ∙
      (ap (λ l. take d xs ++ l) (rest_of d w xs first) ∙ take-append-drop d xs)

  -- a property of four lists holds for the segments of a cut
  pub segments_at : (a b : ℕ) (xs D W R N : List (Entry X)) (d w r : ℕ) → Cuts xs D W R N d w r
      → AreSegments a b D W R N →
      AreSegments a b (take d xs) (between d w xs) (between w r xs) (drop r xs)
  segments_at a b xs D W R N d w r c h = rw (c.is_done, c.is_wait, c.is_ready, c.is_next) h

  pub seen_at : (a b : ℕ) (xs D W R N : List (Entry X)) (d w r : ℕ) → Cuts xs D W R N d w r →
      joined a b (take d xs) (between d w xs) (between w r xs) (drop r xs) ≡ joined a b D W R N
  seen_at a b xs D W R N d w r c = rw (c.is_done, c.is_wait, c.is_ready, c.is_next) refl

  -- a list of entries begins with a marker no more than its parts do
  pub first_joined : (xs ys : List (Entry X)) → begins_with_marker (unmarked xs) ≡ false →
      begins_with_marker (unmarked ys) ≡ false → begins_with_marker (unmarked (xs ++ ys)) ≡ false
  first_joined [] ys none others = others
  first_joined (x ∷ xs) ys none others = none

  -- a list with an item more at its end, if it has one already
  pub first_pushed : (xs : List (Entry X)) (x : Entry X)
      → 0 < length xs → begins_with_marker (unmarked xs) ≡ false
      → begins_with_marker (unmarked (xs ++ x ∷ [])) ≡ false
  first_pushed [] x some none = absurd (omega arith)
  first_pushed (y ∷ xs) x some none = none

  -- the callbacks of two lists together
  pub calls_joined : (xs ys : List (Entry X))
      → length (callbacks (unmarked (xs ++ ys)))
      ≡ length (callbacks (unmarked xs)) + length (callbacks (unmarked ys))
  calls_joined xs ys =
      ap (λ l. length (callbacks l)) (map-append (item_of Unmarked) xs ys) ∙
      (ap length (filter_map-append callback_of (unmarked xs) (unmarked ys)) ∙
      length-append (callbacks (unmarked xs)) (callbacks (unmarked ys)))

  -- no more callbacks than items
  pub calls_within : (xs : List (Entry X)) → length (callbacks (unmarked xs)) ≤ length xs
  calls_within [] = omega arith
  calls_within (entry.Call call ∷ xs) = let rest = calls_within xs in omega arith
  calls_within (entry.Marker ∷ xs) = let rest = calls_within xs in omega arith

  -- a list that begins with a callback has one
  pub calls_some : (xs : List (Entry X)) → 0 < length xs
      → begins_with_marker (unmarked xs) ≡ false → 0 < length (callbacks (unmarked xs))
  calls_some [] some none = absurd (omega arith)
  calls_some (entry.Call call ∷ xs) some none = omega arith
  calls_some (entry.Marker ∷ xs) some none = absurd cc

  -- a place before the end of a list that grows behind it
  pub tail_kept : (xs ys : List (Entry X)) (tail : Tail) → IsTail xs tail → IsTail (xs ++ ys) tail
  tail_kept xs ys tail h =
      let long = length-append xs ys in
      let within = h.within in
      record {
        within = omega arith;
        calls =
            h.calls
            ∙ ap (λ l. length (callbacks (unmarked l)))
            (sym (take-append-le tail.items xs ys h.within));
      }

  -- the end of a list is a place in it
  pub tail_end : (xs : List (Entry X)) (tail : Tail) → tail.items ≡ length xs →
      tail.calls ≡ length (callbacks (unmarked xs)) → IsTail xs tail
  tail_end xs tail items calls = record {
    within = omega arith;
    calls =
        calls
        ∙ ap (λ l. length (callbacks (unmarked l))) (sym (take_all tail.items xs (omega arith)));
  }

  -- a list that lost its numbers is cut behind its done part alone
  pub cut_lost : (xs : List (Entry X)) (d w r : ℕ) → d ≤ w → w ≤ r →
      Cuts xs (take d xs) [] [] (between d w xs ++ (between w r xs ++ drop r xs)) d d d
  cut_lost xs d w r first second = record {
    is_done = refl;
    is_wait = nothing d xs;
    is_ready = nothing d xs;
    is_next = sym (ap (λ l. between d w xs ++ l) (rest_of w r xs second) ∙ rest_of d w xs first);
  }

  -- its segments are as they have to be
  pub segments_lost : (a b : ℕ) (D W R N : List (Entry X)) → AreSegments a b D W R N →
      AreSegments a b D [] [] (W ++ (R ++ N))
  segments_lost a b D W R N h = record {
    filled = λ some. absurd (omega arith);
    ascending = λ some. absurd (omega arith);
    done_first = h.done_first;
    wait_first = refl;
    ready_first = refl;
    next_first = first_joined W (R ++ N) h.wait_first (first_joined R N h.ready_first h.next_first);
  }

  -- cut after an advance to the first number
  pub cut_one : (xs : List (Entry X)) (d w r : ℕ) → d ≤ w →
      Cuts xs (take d xs ++ between d w xs) (between w r xs) [] (drop r xs) w r r
  cut_one xs d w r first = record {
    is_done = sym (joins d w xs first);
    is_wait = refl;
    is_ready = nothing r xs;
    is_next = refl;
  }

  pub segments_one : (a b : ℕ) (D W R N : List (Entry X)) → AreSegments a b D W R N
      → AreSegments b b (D ++ W) R [] N
  segments_one a b D W R N h =
      record {
        filled = λ some. absurd (omega arith);
        ascending = λ some. absurd (omega arith);
        done_first = first_joined D W h.done_first h.wait_first;
        wait_first = h.ready_first;
        ready_first = refl;
        next_first = h.next_first;
      }

  -- cut after an advance to both numbers
  pub cut_both : (xs : List (Entry X)) (d w r : ℕ) → d ≤ w → w ≤ r →
      Cuts xs (take d xs ++ (between d w xs ++ between w r xs)) [] [] (drop r xs) r r r
  cut_both xs d w r first second =
      record {
        is_done = sym (sym (append_assoc (take d xs) (between d w xs) (between w r xs)) ∙
            (ap (λ l. l ++ between w r xs) (joins d w xs first) ∙ joins w r xs second));
        is_wait = nothing r xs;
        is_ready = nothing r xs;
        is_next = refl;
      }

  pub segments_both : (a b : ℕ) (D W R N : List (Entry X)) → AreSegments a b D W R N →
      AreSegments a b (D ++ (W ++ R)) [] [] N
  segments_both a b D W R N h = record {
    filled = λ some. absurd (omega arith);
    ascending = λ some. absurd (omega arith);
    done_first = first_joined D (W ++ R) h.done_first (first_joined W R h.wait_first h.ready_first);
    wait_first = refl;
    ready_first = refl;
    next_first = h.next_first;
  }

  -- items behind a list leave its places as they are
  pub cut_more : (xs ys : List (Entry X)) (d w r : ℕ) → d ≤ w → w ≤ r → r ≤ length xs →
      Cuts (xs ++ ys) (take d xs) (between d w xs) (between w r xs) (drop r xs ++ ys) d w r
  cut_more xs ys d w r first second within =
      record {
        is_done = take-append-le d xs ys (omega arith);
        is_wait = ap (drop d) (take-append-le w xs ys (omega arith));
        is_ready = ap (drop w) (take-append-le r xs ys within);
        is_next = drop-append-le r xs ys within;
      }

  -- the last segment, with items that begin with no marker behind it
  pub segments_more : (a b : ℕ) (D W R N ys : List (Entry X)) → AreSegments a b D W R N →
      begins_with_marker (unmarked (N ++ ys)) ≡ false → AreSegments a b D W R (N ++ ys)
  segments_more a b D W R N ys h none =
      record {
        filled = h.filled;
        ascending = h.ascending;
        done_first = h.done_first;
        wait_first = h.wait_first;
        ready_first = h.ready_first;
        next_first = none;
      }

  -- a callback at the end
  pub pushed : (xs : List (Entry X)) (call : Queued X) (done wait ready : Tail) (calls a b : ℕ)
      → AreTails xs done wait ready calls a b
      → AreTails (xs ++ entry.Call call ∷ []) done wait ready (calls + 1) a b
  pushed xs call done wait ready calls a b k =
      let more = entry.Call call ∷ [] in
      let counted = k.counted in
      let all = calls_joined xs more in
      record {
        done_tail = tail_kept xs more done k.done_tail;
        wait_tail = tail_kept xs more wait k.wait_tail;
        ready_tail = tail_kept xs more ready k.ready_tail;
        counted = omega arith;
        wait_behind = k.wait_behind;
        ready_behind = k.ready_behind;
        segments = segments_at a b (xs ++ more) _ _ _ _ _ _ _
            (cut_more xs more done.items wait.items ready.items k.wait_behind k.ready_behind
            k.ready_tail.within)
            (segments_more a b _ _ _ _ more k.segments
            (first_joined (drop ready.items xs) more k.segments.next_first refl));
      }

  -- the cut if the third segment takes in the last one
  pub cut_late : (xs : List (Entry X)) (d w r n : ℕ) → d ≤ w → w ≤ r → r ≤ length xs → n ≡ length xs
      → Cuts xs (take d xs) (between d w xs) (between w r xs ++ drop r xs) [] d w n
  cut_late xs d w r n first second within end =
      record {
        is_done = refl;
        is_wait = refl;
        is_ready = ap (drop w) (take_all n xs (omega arith)) ∙ sym (rest_of w r xs second);
        is_next = drop_all n xs (omega arith);
      }

  pub segments_late : (a b snap : ℕ) (D W R N : List (Entry X))
      → AreSegments a b D W R N → 0 < length W → a < snap → AreSegments a snap D W (R ++ N) []
  segments_late a b snap D W R N h some below =
      record {
        filled = λ _. some;
        ascending = λ _. below;
        done_first = h.done_first;
        wait_first = h.wait_first;
        ready_first = first_joined R N h.ready_first h.next_first;
        next_first = refl;
      }

  -- the cut if the second segment takes in both behind it
  pub cut_early : (xs : List (Entry X)) (d w r n : ℕ) → d ≤ w → w ≤ r → r ≤ length xs
      → n ≡ length xs
      → Cuts xs (take d xs) (between d w xs ++ (between w r xs ++ drop r xs)) [] [] d n n
  cut_early xs d w r n first second within end =
      record {
        is_done = refl;
        is_wait = ap (drop d) (take_all n xs (omega arith)) ∙
            sym (ap (λ l. between d w xs ++ l) (rest_of w r xs second) ∙ rest_of d w xs first);
        is_ready = nothing n xs;
        is_next = drop_all n xs (omega arith);
      }

  pub segments_early : (a b snap : ℕ) (D W R N : List (Entry X)) → AreSegments a b D W R N →
      AreSegments snap b D (W ++ (R ++ N)) [] []
  segments_early a b snap D W R N h = record {
    filled = λ some. absurd (omega arith);
    ascending = λ some. absurd (omega arith);
    done_first = h.done_first;
    wait_first = first_joined W (R ++ N) h.wait_first (first_joined R N h.ready_first h.next_first);
    ready_first = refl;
    next_first = refl;
  }

  -- a marker at the end is no callback
  pub calls_marked : (xs : List (Entry X)) →
      length (callbacks (unmarked (xs ++ entry.Marker ∷ []))) ≡ length (callbacks (unmarked xs))
  calls_marked xs = omega (arith, calls_joined xs (entry.Marker ∷ []))

  -- a place that is before the end stays where it is, and one at the end is behind the marker then
  pub tail_passed : (xs : List (Entry X)) (n : ℕ) (tail after : Tail)
      → IsTail xs tail
      → n ≡ length xs
      → after.items ≡ (if tail.items == n then tail.items + 1 else tail.items)
      → after.calls ≡ tail.calls
      → IsTail (xs ++ entry.Marker ∷ []) after
  tail_passed xs n tail after k end items calls = elim (cases_eq tail.items n) [
    | inl same ↦
        let long = length-append xs (entry.Marker ∷ []) in
        let passed : after.items ≡ n + 1 = grind (arith, nat_tests) in
        tail_end (xs ++ entry.Marker ∷ []) after (omega arith)
        (calls
        ∙ (k.calls
        ∙ (ap (λ l. length (callbacks (unmarked l))) (take_all tail.items xs (omega arith))
        ∙ sym (calls_marked xs))))
    | inr differ ↦
        let stays : after.items ≡ tail.items = grind (arith, nat_tests) in
        tail_same (xs ++ entry.Marker ∷ []) tail after stays calls
        (tail_kept xs (entry.Marker ∷ []) tail k)
  ]
    where
      tail_same : (ys : List (Entry X)) (tail after : Tail)
          → after.items ≡ tail.items → after.calls ≡ tail.calls → IsTail ys tail → IsTail ys after
      tail_same ys tail after items calls k =
          let within = k.within in
          record {
            within = omega arith;
            calls =
                calls ∙ (k.calls ∙ ap (λ n. length (callbacks (unmarked (take n ys)))) (sym items));
          }

  -- the items from a place to the end, with an item more there
  pub from_pushed : (xs : List (Entry X)) (x : Entry X) (i j n : ℕ)
      → i ≤ j → j ≡ length xs → n ≡ j + 1 → between i n (xs ++ x ∷ []) ≡ between i j xs ++ x ∷ []
  from_pushed xs x i j n order end after =
      let long = length-append xs (x ∷ []) in
      ap (drop i) (take_all n (xs ++ x ∷ []) (omega arith))
      ∙ (drop-append-le i xs (x ∷ []) (omega arith)
      ∙ ap (λ l. drop i l ++ x ∷ []) (sym (take_all j xs (omega arith))))

  -- the items between places before the end
  pub to_pushed : (xs : List (Entry X)) (x : Entry X) (i j n : ℕ) → j ≤ length xs → n ≡ j →
      between i n (xs ++ x ∷ []) ≡ between i j xs
  to_pushed xs x i j n within after =
      ap (λ k. between i k (xs ++ x ∷ [])) after ∙ ap (drop i) (take-append-le j xs (x ∷ []) within)
