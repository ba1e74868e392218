-- Lists in two parts, of which the second has no marker: so no marker waits for an item that is not
-- in the first.
use Rattle.std.proofs.Common.{◌≡◌, ℕ, zero, suc, ◌≤◌, Bool, true, false, nat_le, List, [], ◌∷◌}
use Rattle.std.proofs.Common.{◌++◌, refl, sym, ap, ◌∙◌, subst, arith, cond, map, append_assoc}
use Rattle.std.proofs.Common.{append-nil, length, ◌+◌}
use Rattle.std.specs.Prelude.{All}
use Rattle.std.proofs.lemmas.List.{length-append, map-append, take_all}
use Rattle.std.proofs.lemmas.List.Elements.{All-nil, All-cons, All-head, All-tail, All-map}
use Rattle.std.proofs.lemmas.List.Elements.{All-weaker}
use Rattle.std.proofs.lemmas.List.Elements.{filter_map-append}
use Rattle.rcu_seq.specs.Numbers.{snapshot}
use Rattle.rcu_cblist.specs.declared.items.Queued.{Queued}
use Rattle.rcu_cblist.specs.SegList.{Item, Of, Marker, Unmarked, Until, Done, IsAtMost}
use Rattle.rcu_cblist.specs.SegList.{after_take, behind, callback_of, callbacks, from_callback}
use Rattle.rcu_cblist.specs.SegList.{front, mark_given, markers, numbers, remarked, take_answer}
use Rattle.rcu_cblist.specs.SegList.{waits}
use Rattle.rcu_cblist.proofs.SegListLemmas.{marker_more, markers_append, markers_remarked}
use Rattle.rcu_barrier.specs.Tending.{after_tend, mark_after_tend}
use Rattle.rcu_barrier.proofs.Maturing.{Soon}

module _ {X : Type 0} where
  -- the first part has only such items, and the second has no marker
  pub record Ahead (P : Item X → Type 0) (xs : List (Item X)) : Type 0 where
    pub first : List (Item X)
    pub rest : List (Item X)
    pub is : xs ≡ first ++ rest
    pub each : All P first
    pub none : markers rest ≡ 0

  pub whole_ahead : (P : Item X → Type 0) (xs : List (Item X)) → All P xs → Ahead P xs
  whole_ahead P xs each = record {
    first = xs;
    rest = [];
    is = sym (append-nil xs);
    each = each;
    none = refl;
  }

  -- nothing is ahead of no marker
  pub none_ahead : (P : Item X → Type 0) (xs : List (Item X)) → markers xs ≡ 0 → Ahead P xs
  none_ahead P xs z = record { first = []; rest = xs; is = refl; each = All-nil P; none = z }

  pub ahead_queued : (P : Item X → Type 0) (xs : List (Item X)) (call : Queued X) → Ahead P xs
      → Ahead P (xs ++ Of call Unmarked ∷ [])
  ahead_queued P xs call a =
      let new : List (Item X) = Of call Unmarked ∷ [] in record {
        first = a.first;
        rest = a.rest ++ new;
        is = ap (λ (ys : List (Item X)). ys ++ new) a.is ∙ append_assoc a.first a.rest new;
        each = a.each;
        none = markers_append a.rest new ∙ ap (λ n. n + 0) a.none;
      }

  pub ahead_tended : (P Q : Item X → Type 0) (v : ℕ) (xs : List (Item X))
      → ((x : Item X) → P x → Q (remarked (mark_after_tend v) x)) → Ahead P xs
      → Ahead Q (after_tend xs v)
  ahead_tended P Q v xs k a =
      let change = remarked (mark_after_tend v) in record {
        first = map change a.first;
        rest = map change a.rest;
        is = ap (λ (ys : List (Item X)). map change ys) a.is ∙ map-append change a.first a.rest;
        each = All-map Q change a.first (All-weaker P (λ x. Q (change x)) k a.first a.each);
        none = markers_remarked (mark_after_tend v) a.rest ∙ a.none;
      }

  -- if there was no marker, there is none from a callback on
  none_from : (n : ℕ) (xs : List (Item X)) → markers xs ≡ 0 → markers (from_callback n xs) ≡ 0
  none_from n [] z = refl
  none_from n (Marker ∷ xs) z = absurd (let m = marker_more xs in omega (arith, m, z))
  none_from zero (Of call mark ∷ xs) z = z
  none_from (suc n) (Of call mark ∷ xs) z = none_from n xs z

  ahead_from : (P : Item X → Type 0) (k : ℕ) (first rest : List (Item X)) → All P first
      → markers rest ≡ 0 → Ahead P (from_callback k (first ++ rest))
  ahead_from P k [] rest a z = record {
    first = [];
    rest = from_callback k rest;
    is = refl;
    each = All-nil P;
    none = none_from k rest z;
  }
  ahead_from P k (Marker ∷ first) rest a z =
      ahead_from P k first rest (All-tail P Marker first a) z
  ahead_from P zero (Of call mark ∷ first) rest a z =
      record { first = Of call mark ∷ first; rest = rest; is = refl; each = a; none = z }
  ahead_from P (suc k) (Of call mark ∷ first) rest a z =
      ahead_from P k first rest (All-tail P (Of call mark) first a) z

  pub ahead_taken : (P : Item X → Type 0) (most : ℕ) (xs : List (Item X)) → Ahead P xs
      → Ahead P (after_take xs most)
  ahead_taken P most xs a =
      subst (λ ys. Ahead P (from_callback (length (take_answer xs most)) ys)) (sym a.is)
      (ahead_from P (length (take_answer xs most)) a.first a.rest a.each a.none)

  -- an item that does not wait
  abbrev pub Ready : Item X → Type 0
  Ready x = waits x ≡ false

  pub ready_tended : (v : ℕ) (x : Item X) → Ready x → Ready (remarked (mark_after_tend v) x)
  ready_tended v (Of call Unmarked) b = absurd (cc)
  ready_tended v (Of call (Until k)) b = absurd (cc)
  ready_tended v (Of call Done) b = refl
  ready_tended v Marker b = refl

  passed : (k : ℕ) (first rest : List (Item X)) → length (callbacks first) ≤ k
      → markers rest ≡ 0 → markers (from_callback k (first ++ rest)) ≡ 0
  passed k [] rest l z = none_from k rest z
  passed k (Marker ∷ first) rest l z = passed k first rest l z
  passed zero (Of call mark ∷ first) rest l z = absurd (omega (arith, l))
  passed (suc k) (Of call mark ∷ first) rest l z = passed k first rest (omega (arith, l)) z

  pub front_ready : (first rest : List (Item X)) → All Ready first
      → front (first ++ rest) ≡ first ++ front rest
  front_ready [] rest a = refl
  front_ready (x ∷ first) rest a =
      ap (λ (b : Bool). cond b [] (x ∷ front (first ++ rest))) (All-head Ready x first a)
      ∙ ap (λ (ys : List (Item X)). x ∷ ys) (front_ready first rest (All-tail Ready x first a))

  pub behind_ready : (xs : List (Item X)) → All Ready xs → behind xs ≡ []
  behind_ready [] a = refl
  behind_ready (x ∷ xs) a =
      ap (λ (b : Bool). cond b (x ∷ xs) (behind xs)) (All-head Ready x xs a)
      ∙ behind_ready xs (All-tail Ready x xs a)

  -- if all is done that is ahead of each marker, a take of all that is done leaves no marker
  pub none_left : (most : ℕ) (xs : List (Item X)) → Ahead Ready xs
      → length (callbacks (front xs)) ≤ most → markers (after_take xs most) ≡ 0
  none_left most xs a enough =
      let all = ap (λ (l : List (Queued X)). length l) (take_all most (callbacks (front xs)) enough)
      in
      let parts = ap (λ ys. length (callbacks (front ys))) a.is
      ∙ ap (λ ys. length (callbacks ys)) (front_ready a.first a.rest a.each)
      ∙ ap (λ (l : List (Queued X)). length l)
      (filter_map-append callback_of a.first (front a.rest))
      ∙ length-append (callbacks a.first) (callbacks (front a.rest)) in
      ap (λ ys. markers (from_callback (length (take_answer xs most)) ys)) a.is
      ∙ passed (length (take_answer xs most)) a.first a.rest (omega (arith, all, parts)) a.none

  until_soon : (v n k : ℕ) (call : Queued X) (b : Bool) (ys : List (Item X))
      → IsAtMost n (Of call (mark_given (snapshot v) (cond b Done (Until k))) ∷ ys)
      → (IsAtMost n ys → All (Soon n) ys)
      → All (Soon n) (Of call (mark_given (snapshot v) (cond b Done (Until k))) ∷ ys)
  until_soon v n k call true ys a rest = All-cons (Soon n) (Of call Done) ys tt (rest a)
  until_soon v n k call false ys a rest =
      All-cons (Soon n) (Of call (Until k)) ys (All-head (λ m. m ≤ n) k (numbers ys) a)
      (rest (All-tail (λ m. m ≤ n) k (numbers ys) a))

  -- after a tend each callback is done or waits for a number: for at most one that bounds them
  pub tended_soon : (v n : ℕ) (xs : List (Item X)) → IsAtMost n (after_tend xs v)
      → All (Soon n) (after_tend xs v)
  tended_soon v n [] a = All-nil (Soon n)
  tended_soon v n (Marker ∷ xs) a =
      All-cons (Soon n) Marker (after_tend xs v) tt (tended_soon v n xs a)
  tended_soon v n (Of call Done ∷ xs) a =
      All-cons (Soon n) (Of call Done) (after_tend xs v) tt (tended_soon v n xs a)
  tended_soon v n (Of call Unmarked ∷ xs) a =
      let ys = after_tend xs v in
      All-cons (Soon n) (Of call (Until (snapshot v))) ys
      (All-head (λ m. m ≤ n) (snapshot v) (numbers ys) a)
      (tended_soon v n xs (All-tail (λ m. m ≤ n) (snapshot v) (numbers ys) a))
  tended_soon v n (Of call (Until k) ∷ xs) a =
      until_soon v n k call (nat_le k v) (after_tend xs v) a (λ b. tended_soon v n xs b)
