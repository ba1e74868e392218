-- Segments: a marker at the end of the last one that has items.
use Rattle.std.proofs.Common.{◌≡◌, ◌==◌, ℕ, false, ◌+◌, ◌<◌, ◌≤◌, if◌then◌else◌, inl, inr, List, []}
use Rattle.std.proofs.Common.{◌∷◌, ◌++◌, length, take, drop, refl, ap, sym, ◌∙◌, append_assoc}
use Rattle.std.proofs.Common.{length-append, length-take, length-drop, arith}
use Rattle.std.proofs.lemmas.List.{append-nil, length-map, map_push, take_all, drop_all}
use Rattle.std.proofs.lemmas.List.{take-append-le}
use Rattle.std.proofs.lemmas.Bool.Decides.{nat_tests}
use Rattle.std.proofs.lemmas.Bool.{cases_eq}
use Rattle.rcu_cblist.specs.declared.items.Entry.{Entry}
use Rattle.rcu_cblist.specs.declared.items.Entry.TheVariants as entry
use Rattle.rcu_cblist.specs.declared.tail.Tail.{Tail}
use Rattle.rcu_cblist.specs.SegList.{Item, Marker, Unmarked, Until, Done, after_entrain, is_empty}
use Rattle.rcu_cblist.specs.SegList.{without_mark}
use Rattle.rcu_cblist.specs.Entries.{item_of, marked, unmarked}
use Rattle.rcu_cblist.specs.Cuts.{AreSegments, AreTails, between}
use Rattle.rcu_cblist.specs.Segments.{joined}
use Rattle.rcu_cblist.proofs.Cuts.{Cuts, calls_marked, cut_more, first_pushed, from_pushed}
use Rattle.rcu_cblist.proofs.Cuts.{length_between, seen_at, segments_at, tail_passed, to_pushed}
use Rattle.rcu_cblist.proofs.Cuts.{whole}
use Rattle.rcu_cblist.proofs.Views.{stripped}

-- the place once a marker is put at the end
pub passed : (n place after : ℕ) → after ≡ (if place == n then place + 1 else place) → place ≡ n
    → after ≡ n + 1
passed n place after is end = grind (arith, nat_tests)

pub stays : (n place after : ℕ) → after ≡ (if place == n then place + 1 else place) → place < n
    → after ≡ place
stays n place after is before = grind (arith, nat_tests)

module _ {X : Type 0} where
  -- one more behind four lists
  pub behind_four : (P Q S T M : List (Item X))
      → (P ++ (Q ++ (S ++ T))) ++ M ≡ P ++ (Q ++ (S ++ (T ++ M)))
  behind_four P Q S T M =
      append_assoc P (Q ++ (S ++ T)) M ∙
      ap (λ l. P ++ l) (append_assoc Q (S ++ T) M ∙ ap (λ l. Q ++ l) (append_assoc S T M))

  -- a marker at the end of the last, the third, the second, and the first
  pub end_next : (a b : ℕ) (D W R N : List (Entry X))
      → joined a b D W R (N ++ entry.Marker ∷ []) ≡ joined a b D W R N ++ Marker ∷ []
  end_next a b D W R N =
      sym (behind_four (marked Done D) (marked (Until a) W) (marked (Until b) R) (unmarked N)
      (Marker ∷ [])
      ∙ ap (λ l. marked Done D ++ (marked (Until a) W ++ (marked (Until b) R ++ l)))
      (sym (map_push (item_of Unmarked) N entry.Marker)))

  end_ready : (a b : ℕ) (D W R : List (Entry X))
      → joined a b D W (R ++ entry.Marker ∷ []) [] ≡ joined a b D W R [] ++ Marker ∷ []
  end_ready a b D W R =
      sym (behind_four (marked Done D) (marked (Until a) W) (marked (Until b) R) [] (Marker ∷ [])
      ∙ ap (λ l. marked Done D ++ (marked (Until a) W ++ l))
      (sym (map_push (item_of (Until b)) R entry.Marker)
      ∙ sym (append-nil (marked (Until b) (R ++ entry.Marker ∷ [])))))

  end_wait : (a b : ℕ) (D W : List (Entry X))
      → joined a b D (W ++ entry.Marker ∷ []) [] [] ≡ joined a b D W [] [] ++ Marker ∷ []
  end_wait a b D W =
      sym (behind_four (marked Done D) (marked (Until a) W) [] [] (Marker ∷ [])
      ∙ ap (λ l. marked Done D ++ l)
      (sym (map_push (item_of (Until a)) W entry.Marker)
      ∙ sym (append-nil (marked (Until a) (W ++ entry.Marker ∷ [])))))

  end_done : (a b : ℕ) (D : List (Entry X))
      → joined a b (D ++ entry.Marker ∷ []) [] [] [] ≡ joined a b D [] [] [] ++ Marker ∷ []
  end_done a b D =
      sym (behind_four (marked Done D) [] [] [] (Marker ∷ [])
      ∙ (sym (map_push (item_of Done) D entry.Marker)
      ∙ sym (append-nil (marked Done (D ++ entry.Marker ∷ [])))))

  -- the segments once a marker is at the end: as they have to be, and seen with it at the end
  pub record Marked (a b : ℕ) (xs ys : List (Entry X)) (d w r d' w' r' : ℕ) : Type 0 where
    pub segments : AreSegments a b (take d' ys) (between d' w' ys) (between w' r' ys) (drop r' ys)
    pub seen : joined a b (take d' ys) (between d' w' ys) (between w' r' ys) (drop r' ys)
        ≡ joined a b (take d xs) (between d w xs) (between w r xs) (drop r xs) ++ Marker ∷ []
    pub wait_behind : d' ≤ w'
    pub ready_behind : w' ≤ r'

  -- from the cuts before and after
  marked_from : (a b : ℕ) (xs ys D W R N D' W' R' N' : List (Entry X)) (d w r d' w' r' : ℕ)
      → Cuts xs D W R N d w r
      → Cuts ys D' W' R' N' d' w' r'
      → AreSegments a b D' W' R' N'
      → joined a b D' W' R' N' ≡ joined a b D W R N ++ Marker ∷ []
      → d' ≤ w'
      → w' ≤ r'
      → Marked a b xs ys d w r d' w' r'
  marked_from a b xs ys D W R N D' W' R' N' d w r d' w' r' before after kept is first second =
      record {
        segments = segments_at a b ys D' W' R' N' d' w' r' after kept;
        seen = seen_at a b ys D' W' R' N' d' w' r' after ∙
            (is ∙ ap (λ l. l ++ Marker ∷ []) (sym (seen_at a b xs D W R N d w r before)));
        wait_behind = first;
        ready_behind = second;
      }

  module _ (a b : ℕ) (xs : List (Entry X)) (d w r d' w' r' n : ℕ)
      (h : AreSegments a b (take d xs) (between d w xs) (between w r xs) (drop r xs))
      (first : d ≤ w) (second : w ≤ r) (third : r ≤ n) (end : n ≡ length xs)
      (done : d' ≡ (if d == n then d + 1 else d)) (wait : w' ≡ (if w == n then w + 1 else w))
      (ready : r' ≡ (if r == n then r + 1 else r)) where
    -- the list with the marker
    abbrev more : List (Entry X)
    more = xs ++ entry.Marker ∷ []

    marked_next : r < n → Marked a b xs more d w r d' w' r'
    marked_next some =
        let same_done = stays n d d' done (omega arith) in
        let same_wait = stays n w w' wait (omega arith) in
        let same_ready = stays n r r' ready some in
        let long = length-drop r xs in
        marked_from a b xs more _ _ _ _ _ _ _ _ d w r d' w' r'
        (record { is_done = refl; is_wait = refl; is_ready = refl; is_next = refl })
        (rw (same_done, same_wait, same_ready)
        (cut_more xs (entry.Marker ∷ []) d w r first second (omega arith)))
        (record {
          filled = h.filled;
          ascending = h.ascending;
          done_first = h.done_first;
          wait_first = h.wait_first;
          ready_first = h.ready_first;
          next_first = first_pushed (drop r xs) entry.Marker (omega arith) h.next_first;
        })
        (end_next a b (take d xs) (between d w xs) (between w r xs) (drop r xs)) (omega arith)
        (omega arith)

    marked_ready : r ≡ n → w < n → Marked a b xs more d w r d' w' r'
    marked_ready at some =
        let same_done = stays n d d' done (omega arith) in
        let same_wait = stays n w w' wait some in
        let more_ready = passed n r r' ready at in
        let long = length_between w r xs (omega arith) in
        let has : 0 < length (between w r xs) = omega arith in
        let all = length-append xs (entry.Marker ∷ []) in
        marked_from a b xs more (take d xs) (between d w xs) (between w r xs) [] (take d xs)
        (between d w xs) (between w r xs ++ entry.Marker ∷ []) [] d w r d' w' r'
        (record {
          is_done = refl;
          is_wait = refl;
          is_ready = refl;
          is_next = drop_all r xs (omega arith);
        })
        (record {
          is_done =
              ap (λ k. take k more) same_done
              ∙ take-append-le d xs (entry.Marker ∷ []) (omega arith);
          is_wait =
              ap (λ k. between k w' more) same_done
              ∙ to_pushed xs entry.Marker d w w' (omega arith) same_wait;
          is_ready =
              ap (λ k. between k r' more) same_wait
              ∙ from_pushed xs entry.Marker w r r' second (omega arith) (omega arith);
          is_next = drop_all r' more (omega arith);
        })
        (record {
          filled = λ _. h.filled has;
          ascending = λ _. h.ascending has;
          done_first = h.done_first;
          wait_first = h.wait_first;
          ready_first = first_pushed (between w r xs) entry.Marker has h.ready_first;
          next_first = refl;
        })
        (end_ready a b (take d xs) (between d w xs) (between w r xs)) (omega arith) (omega arith)

    marked_wait : w ≡ n → d < n → Marked a b xs more d w r d' w' r'
    marked_wait at some =
        let same_done = stays n d d' done some in
        let more_wait = passed n w w' wait at in
        let more_ready = passed n r r' ready (omega arith) in
        let long = length_between d w xs (omega arith) in
        let all = length-append xs (entry.Marker ∷ []) in
        marked_from a b xs more (take d xs) (between d w xs) [] [] (take d xs)
        (between d w xs ++ entry.Marker ∷ []) [] [] d w r d' w' r'
        (record {
          is_done = refl;
          is_wait = refl;
          is_ready = drop_all w (take r xs) (omega (arith, length-take r xs));
          is_next = drop_all r xs (omega arith);
        })
        (record {
          is_done =
              ap (λ k. take k more) same_done
              ∙ take-append-le d xs (entry.Marker ∷ []) (omega arith);
          is_wait =
              ap (λ k. between k w' more) same_done
              ∙ from_pushed xs entry.Marker d w w' first (omega arith) (omega arith);
          is_ready = drop_all w' (take r' more) (omega (arith, length-take r' more));
          is_next = drop_all r' more (omega arith);
        })
        (record {
          filled = λ none. absurd (omega arith);
          ascending = λ none. absurd (omega arith);
          done_first = h.done_first;
          wait_first = first_pushed (between d w xs) entry.Marker (omega arith) h.wait_first;
          ready_first = refl;
          next_first = refl;
        })
        (end_wait a b (take d xs) (between d w xs)) (omega arith) (omega arith)

    marked_done : d ≡ n → 0 < n → Marked a b xs more d w r d' w' r'
    marked_done at some =
        let more_done = passed n d d' done at in
        let more_wait = passed n w w' wait (omega arith) in
        let more_ready = passed n r r' ready (omega arith) in
        let all = length-append xs (entry.Marker ∷ []) in
        let long = length-take d xs in
        marked_from a b xs more (take d xs) [] [] [] (take d xs ++ entry.Marker ∷ []) [] [] [] d w r
        d' w' r'
        (record {
          is_done = refl;
          is_wait = drop_all d (take w xs) (omega (arith, length-take w xs));
          is_ready = drop_all w (take r xs) (omega (arith, length-take r xs));
          is_next = drop_all r xs (omega arith);
        })
        (record {
          is_done =
              take_all d' more (omega arith)
              ∙ ap (λ l. l ++ entry.Marker ∷ []) (sym (take_all d xs (omega arith)));
          is_wait = drop_all d' (take w' more) (omega (arith, length-take w' more));
          is_ready = drop_all w' (take r' more) (omega (arith, length-take r' more));
          is_next = drop_all r' more (omega arith);
        })
        (record {
          filled = λ none. absurd (omega arith);
          ascending = λ none. absurd (omega arith);
          done_first = first_pushed (take d xs) entry.Marker (omega arith) h.done_first;
          wait_first = refl;
          ready_first = refl;
          next_first = refl;
        })
        (end_done a b (take d xs)) (omega arith) (omega arith)

    -- whichever is the last one with items
    pub marked_last : 0 < n → Marked a b xs more d w r d' w' r'
    marked_last some =
        elim (cases_eq r n) [
          | inr before ↦ marked_next (omega arith)
          | inl at ↦ elim (cases_eq w n) [
            | inr before ↦ marked_ready at (omega arith)
            | inl at_too ↦ elim (cases_eq d n) [
              | inr before ↦ marked_wait at_too (omega arith)
              | inl at_all ↦ marked_done at_all some
            ]
          ]
        ]

  -- a marker at the end
  pub push_marked : (a b calls n : ℕ) (xs : List (Entry X))
      (done wait ready done' wait' ready' : Tail)
      → AreTails xs done wait ready calls a b
      → n ≡ length xs
      → 0 < n
      → done'.items ≡ (if done.items == n then done.items + 1 else done.items)
      → done'.calls ≡ done.calls
      → wait'.items ≡ (if wait.items == n then wait.items + 1 else wait.items)
      → wait'.calls ≡ wait.calls
      → ready'.items ≡ (if ready.items == n then ready.items + 1 else ready.items)
      → ready'.calls ≡ ready.calls
      → AreTails (xs ++ entry.Marker ∷ []) done' wait' ready' calls a b
      × Marked a b xs (xs ++ entry.Marker ∷ []) done.items wait.items ready.items done'.items
      wait'.items ready'.items
  push_marked a b calls n xs done wait ready done' wait' ready' k end some d dc w wc r rc =
      let within = k.ready_tail.within in
      let m = marked_last a b xs done.items wait.items ready.items done'.items wait'.items
      ready'.items n k.segments k.wait_behind k.ready_behind (omega arith) end d w r some in (
        record {
          done_tail = tail_passed xs n done done' k.done_tail end d dc;
          wait_tail = tail_passed xs n wait wait' k.wait_tail end w wc;
          ready_tail = tail_passed xs n ready ready' k.ready_tail end r rc;
          counted = k.counted ∙ sym (calls_marked xs);
          wait_behind = m.wait_behind;
          ready_behind = m.ready_behind;
          segments = m.segments;
        },
        m,
      )

  -- if an item is seen, one is kept
  pub some_kept : (a b d w r : ℕ) (xs : List (Entry X))
      → d ≤ w
      → w ≤ r
      → is_empty (joined a b (take d xs) (between d w xs) (between w r xs) (drop r xs)) ≡ false
      → 0 < length xs
  some_kept a b d w r xs first second some =
      let seen = joined a b (take d xs) (between d w xs) (between w r xs) (drop r xs) in
      let long : length seen ≡ length xs =
      sym (length-map seen without_mark)
      ∙ (ap length (stripped a b (take d xs) (between d w xs) (between w r xs) (drop r xs)) ∙
      (length-map _ (item_of Unmarked) ∙ ap length (whole d w r xs first second))) in
      let more = not_empty seen some in
      omega arith
    where
      not_empty : (xs : List (Item X)) → is_empty xs ≡ false → 0 < length xs
      not_empty [] some = absurd cc
      not_empty (x ∷ xs) some = omega arith

  -- a marker goes to the end of a list that is not empty
  pub entrained : (xs : List (Item X)) → is_empty xs ≡ false → xs ++ Marker ∷ [] ≡ after_entrain xs
  entrained xs some = rw some refl
