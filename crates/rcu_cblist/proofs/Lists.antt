-- Lists with one callback more, walks over a list, and its parts.
use Rattle.std.proofs.Common.{◌≡◌, ℕ, Bool, zero, suc, ◌+◌, ◌-◌, ◌≤◌, min, List, [], ◌∷◌, ◌++◌}
use Rattle.std.proofs.Common.{length, map, take, drop, refl, ap, sym, ◌∙◌, append_assoc}
use Rattle.std.proofs.Common.{length-append, length-take, length-drop, arith}
use Rattle.std.proofs.Math.Seq.{take-append_seam, drop-append_seam}
use Rattle.std.proofs.lemmas.List.{take-append-le, take_min, drop-drop, drop_all, take-append-drop}
use Rattle.std.proofs.lemmas.List.Sums.{sum_by-append}
use Rattle.std.specs.Prelude.{count_by, if◌then◌else◌}
use Rattle.std.proofs.lemmas.List.Elements.{filter_map-append}
use Rattle.rcu_cblist.specs.declared.items.Queued.{Queued}
use Rattle.rcu_cblist.specs.SegList.{Item, Mark, Of, Marker, Unmarked, Until, Done, callback_of}
use Rattle.rcu_cblist.specs.SegList.{callbacks, remarked, without_mark, front, behind, take_answer}
use Rattle.rcu_cblist.specs.SegList.{from_callback, after_take, after_migrate}

-- the first item and the others, as they are seen
pub map_split : {X Y : Type 0} (f : X → Y) (xs ys : List X) (x : X) → xs ≡ x ∷ ys
    → map f xs ≡ f x ∷ map f ys
map_split f xs ys x whole = ap (map f) whole

-- the rest of a list once one item more is gone
pub gone_more : {X : Type 0} (start xs ys : List X) (j k : ℕ)
    → ys ≡ drop 1 xs → xs ≡ drop k start → j ≡ k + 1 → ys ≡ drop j start
gone_more start xs ys j k next so_far more =
    next ∙ (ap (drop 1) so_far ∙ (drop-drop 1 k start ∙ ap (λ n. drop n start) (sym more)))

-- the callbacks of the done part, and those behind it
pub callbacks_split : {X : Type 0} (xs : List (Item X))
    → callbacks xs ≡ callbacks (front xs) ++ callbacks (behind xs)
callbacks_split [] = refl
callbacks_split (Marker ∷ xs) = callbacks_split xs
callbacks_split (Of call Done ∷ xs) = ap (λ l. call ∷ l) (callbacks_split xs)
callbacks_split (Of call Unmarked ∷ xs) = refl
callbacks_split (Of call (Until n) ∷ xs) = refl

-- as many callbacks as in both parts
pub callbacks_parts : {X : Type 0} (xs : List (Item X)) →
    length (callbacks xs) ≡ length (callbacks (front xs)) + length (callbacks (behind xs))
callbacks_parts xs =
    ap length (callbacks_split xs) ∙ length-append (callbacks (front xs)) (callbacks (behind xs))

-- a change of marks keeps the callbacks
pub callbacks_remarked : {X : Type 0} (change : Mark → Mark) (xs : List (Item X)) →
    callbacks (map (remarked change) xs) ≡ callbacks xs
callbacks_remarked change [] = refl
callbacks_remarked change (Marker ∷ xs) = callbacks_remarked change xs
callbacks_remarked change (Of call mark ∷ xs) = ap (λ l. call ∷ l) (callbacks_remarked change xs)

-- the callbacks from one of them on are as many less
pub callbacks_from : {X : Type 0} (n : ℕ) (xs : List (Item X)) → n ≤ length (callbacks xs) →
    length (callbacks (from_callback n xs)) + n ≡ length (callbacks xs)
callbacks_from n [] within = omega arith
callbacks_from n (Marker ∷ xs) within = callbacks_from n xs within
callbacks_from zero (Of call mark ∷ xs) within = omega arith
callbacks_from (suc n) (Of call mark ∷ xs) within =
    let rest = callbacks_from n xs (omega arith) in omega arith

-- a take hands out as many as it may, or all that are done
pub length_taken : {X : Type 0} (most : ℕ) (xs : List (Item X)) →
    length (take_answer xs most) ≡ min (length (callbacks (front xs))) most
length_taken most xs = omega (arith, length-take most (callbacks (front xs)))

-- the first callbacks of all are those that a take hands out
pub taken_least : {X : Type 0} (most k : ℕ) (xs : List (Item X))
    → k ≡ min (length (callbacks (front xs))) most → take k (callbacks xs) ≡ take_answer xs most
taken_least most k xs least =
    let done = callbacks (front xs) in
    let least_too : k ≡ min most (length done) = omega arith in
    ap (take k) (callbacks_split xs) ∙ take-append-le k done (callbacks (behind xs)) (omega arith) ∙
    (ap (λ n. take n done) least_too ∙ take_min most done)

-- the list from the next callback on is the list after a take
pub untaken_least : {X : Type 0} (most k : ℕ) (xs : List (Item X))
    → k ≡ min (length (callbacks (front xs))) most → from_callback k xs ≡ after_take xs most
untaken_least most k xs least = ap (λ n. from_callback n xs) (least ∙ sym (length_taken most xs))

-- a take of as many as another one hands out hands out the same
pub taken_fewer : {X : Type 0} (most k : ℕ) (xs : List (Item X))
    → k ≡ min (length (callbacks (front xs))) most → take_answer xs k ≡ take_answer xs most
taken_fewer most k xs least =
    let done = callbacks (front xs) in
    let least_too : k ≡ min most (length done) = omega arith in
    ap (λ n. take n done) least_too ∙ take_min most done

-- the callbacks from one of them on
callbacks_left : {X : Type 0} (n : ℕ) (xs : List (Item X))
    → callbacks (from_callback n xs) ≡ drop n (callbacks xs)
callbacks_left n [] = sym (drop_all n [] (omega arith))
callbacks_left n (Marker ∷ xs) = callbacks_left n xs
callbacks_left zero (Of call mark ∷ xs) = refl
callbacks_left (suc n) (Of call mark ∷ xs) = callbacks_left n xs

-- the callbacks that a take hands out, and the list after it
pub taken_and_left : {X : Type 0} (most : ℕ) (xs : List (Item X)) →
    take_answer xs most ++ callbacks (after_take xs most) ≡ callbacks xs
taken_and_left most xs =
    let k = length (take_answer xs most) in
    ap (λ l. l ++ callbacks (from_callback k xs))
    (sym (taken_least most k xs (length_taken most xs)))
    ∙ (ap (λ l. take k (callbacks xs) ++ l) (callbacks_left k xs)
    ∙ take-append-drop k (callbacks xs))

-- after a migration, as many callbacks pass a test
pub tested_moved : {X : Type 0} (test : Queued X → Bool) (xs ys : List (Item X))
    → count_by test (callbacks (after_migrate ys xs))
    ≡ count_by test (callbacks xs) + count_by test (callbacks ys)
tested_moved {X = X} test xs ys =
    let all =
    ap (count_by test)
    (filter_map-append callback_of (front xs ++ ys) (map without_mark (behind xs)))
    ∙ tested_append (callbacks (front xs ++ ys)) (callbacks (map without_mark (behind xs))) in
    let first =
    ap (count_by test) (filter_map-append callback_of (front xs) ys)
    ∙ tested_append (callbacks (front xs)) (callbacks ys) in
    let rest = ap (count_by test) (callbacks_remarked (λ _. Unmarked) (behind xs)) in
    let parts =
    ap (count_by test) (callbacks_split xs)
    ∙ tested_append (callbacks (front xs)) (callbacks (behind xs)) in
    omega arith
  where
    tested_append : (cs ds : List (Queued X))
        → count_by test (cs ++ ds) ≡ count_by test cs + count_by test ds
    tested_append cs ds = sum_by-append (λ call. if test call then 1 else 0) cs ds

-- the first part of two
cut_front : {X : Type 0} (xs ys : List X) (k : ℕ) → k ≡ length xs → take k (xs ++ ys) ≡ xs
cut_front xs ys k whole = ap (λ n. take n (xs ++ ys)) whole ∙ take-append_seam xs ys

-- the second part of two
cut_behind : {X : Type 0} (xs ys : List X) (k : ℕ) → k ≡ length xs → drop k (xs ++ ys) ≡ ys
cut_behind xs ys k whole = ap (λ n. drop n (xs ++ ys)) whole ∙ drop-append_seam xs ys

-- a list that is turned, put behind another and turned back lies around it
pub cut_joined : {X : Type 0} (target items : List X) (k n : ℕ)
    → k ≤ length items
    → n ≡ length target + length items
    → drop (n - k) (target ++ (drop k items ++ take k items))
    ++ take (n - k) (target ++ (drop k items ++ take k items))
    ≡ take k items ++ (target ++ drop k items)
cut_joined target items k n within sized =
    let first = length-take k items in
    let rest = length-drop k items in
    let both = length-append target (drop k items) in
    let cut : n - k ≡ length (target ++ drop k items) = omega arith in
    rw (
      ← append_assoc target (drop k items) (take k items),
      cut_front (target ++ drop k items) (take k items) (n - k) cut,
      cut_behind (target ++ drop k items) (take k items) (n - k) cut,
    ) refl
