-- For callers: callbacks stay timely, as the number rises, and in each list that a call leaves.
use Rattle.std.proofs.Common.{◌≡◌, ℕ, zero, suc, ◌<◌, ◌≤◌, Bool, true, false, nat_le, List, [], ◌∷◌}
use Rattle.std.proofs.Common.{◌++◌, length, map, get_or, refl, sym, subst, ap, ◌∙◌, arith}
use Rattle.std.specs.Prelude.{if◌then◌else◌, All, IfSome, None, Option, Some, max, fold, slice_get}
use Rattle.std.proofs.lemmas.List.Elements.{All-nil, All-cons, All-head, All-map, All-tail}
use Rattle.std.proofs.lemmas.List.Elements.{All-take, All-weaker}
use Rattle.std.proofs.lemmas.Option.{slice_get_within, get_or_from_slice_get}
use borrow.Author.Tests.{leb-true}
use Rattle.rcu_seq.specs.Numbers.{Number}
use Rattle.rcu_cblist.specs.declared.items.Queued.{Queued}
use Rattle.rcu_cblist.specs.SegList.{Item, Mark, Of, Marker, Unmarked, Until, Done, IsAtMost}
use Rattle.rcu_cblist.specs.SegList.{behind, callbacks, after_entrain, from_callback, front}
use Rattle.rcu_cblist.specs.SegList.{greatest, mark_given, after_migrate, numbers, take_answer}
use Rattle.rcu_cblist.specs.SegList.{without_mark, after_take, as_it_leaves}
use Rattle.rcu_seq.specs.Numbers.{snapshot}
use Rattle.rcu_barrier.specs.Tending.{after_tend, mark_after_tend}
use Rattle.rcu_state.specs.Periods.{greatest_from}
use Rattle.rcu_state.specs.GpState.{AreTimely, HasWaited, IsDue, IsNoLater, IsTimely}
use Rattle.rcu_cblist.specs.SegList.{after_renumber, mark_renumbered}
use Rattle.rcu_seq.specs.declared.tag.Tag.{Tag}

pub snapshot_rises : (n m : Number) → n ≤ m → snapshot n ≤ snapshot m
snapshot_rises n m le = omega arith

-- a callback queued no later than now was so at each later number of the epoch
no_later_on : (n m at : Tag) → n.epoch ≡ m.epoch → n.number ≤ m.number → IsNoLater n at
    → IsNoLater m at
no_later_on n m at e le h =
    let epoch = h.0 in
    (omega (arith, e, epoch), λ i. let x = h.1 (i ∙ sym e) in omega (arith, x, le))

due_on : (n m at : Tag) (k l : Number) → n.epoch ≡ m.epoch → k ≤ l → IsDue n at k → IsDue m at l
due_on n m at k l e le h = λ i. let x = h (i ∙ sym e) in omega (arith, x, le)

-- one mark, as the number rises
pub mark_later : (n m at : Tag) (mark : Mark)
    → n.epoch ≡ m.epoch → n.number ≤ m.number → IsTimely n at mark → IsTimely m at mark
mark_later n m at Unmarked e le timely = no_later_on n m at e le timely
mark_later n m at (Until k) e le timely = (
  no_later_on n m at e le timely.0,
  due_on n m at k k e (omega arith) timely.1,
  (let more = snapshot_rises n.number m.number le in
      let least = timely.2 in omega (arith, more, least)),
)
mark_later n m at Done e le timely =
    (no_later_on n m at e le timely.0, due_on n m at n.number m.number e le timely.1)

-- after a renumbering
no_later_next : (n m at : Tag) → n.epoch < m.epoch → IsNoLater n at → IsNoLater m at
no_later_next n m at l h =
    let epoch = h.0 in
    (omega (arith, l, epoch), λ i. absurd (let x : ⊥ = omega (arith, i, l, epoch) in x))

mark_next : (n m at : Tag) (mark : Mark) → n.epoch < m.epoch → IsTimely n at mark
    → IsTimely m at (mark_renumbered mark)
mark_next n m at Unmarked l timely = no_later_next n m at l timely
mark_next n m at (Until k) l timely = no_later_next n m at l timely.0
mark_next n m at Done l timely =
    let epoch = timely.0.0 in
    (no_later_next n m at l timely.0, λ i. absurd (let x : ⊥ = omega (arith, i, l, epoch) in x))

reached_mark : (now at : Tag) (n : Number) (reached : Bool)
    → nat_le n now.number ≡ reached → IsTimely now at (Until n)
    → IsTimely now at (mark_given (snapshot now.number) (if reached then Done else Until n))
reached_mark now at n true is timely =
    let le = leb-true n now.number is in (timely.0, λ i. let x = timely.1 i in omega (arith, x, le))
reached_mark now at n false is timely = timely

-- as it is tended
pub mark_tended : (now at : Tag) (mark : Mark) → IsTimely now at mark →
    IsTimely now at (mark_after_tend now.number mark)
mark_tended now at Unmarked timely =
    (timely, (λ i. snapshot_rises at.number now.number (timely.1 i)), omega arith)
mark_tended now at (Until n) timely = reached_mark now at n (nat_le n now.number) refl timely
mark_tended now at Done timely = timely

-- and as it is dropped
pub mark_dropped : (now at : Tag) (mark : Mark) → IsTimely now at mark → IsNoLater now at
mark_dropped now at Unmarked timely = timely
mark_dropped now at (Until n) timely = timely.0
mark_dropped now at Done timely = timely.0

-- a callback that is timely now is so at each later number of the epoch
pub timely_later : {X : Type 0} (n m : Tag) (xs : List (Item X))
    → n.epoch ≡ m.epoch → n.number ≤ m.number → AreTimely n xs → AreTimely m xs
timely_later n m [] e le timely = tt
timely_later n m (Of call mark ∷ xs) e le timely =
    (mark_later n m call.at mark e le timely.0, timely_later n m xs e le timely.1)
timely_later n m (Marker ∷ xs) e le timely = timely_later n m xs e le timely

-- and so are all lists
pub all_later : {X : Type 0} (n m : Tag) (lists : List (List (Item X)))
    → n.epoch ≡ m.epoch → n.number ≤ m.number → All (AreTimely n) lists → All (AreTimely m) lists
all_later n m lists e le timely =
    All-weaker (AreTimely n) (AreTimely m) (λ xs. timely_later n m xs e le) lists timely

-- in the next epoch they are once their numbers are lost
timely_next : {X : Type 0} (n m : Tag) (xs : List (Item X)) → n.epoch < m.epoch → AreTimely n xs
    → AreTimely m (after_renumber xs)
timely_next n m [] l timely = tt
timely_next n m (Of call mark ∷ xs) l timely =
    (mark_next n m call.at mark l timely.0, timely_next n m xs l timely.1)
timely_next n m (Marker ∷ xs) l timely = timely_next n m xs l timely

pub all_next : {X : Type 0} (n m : Tag) (lists : List (List (Item X)))
    → n.epoch < m.epoch → All (AreTimely n) lists → All (AreTimely m) (map after_renumber lists)
all_next n m lists l timely =
    All-map (AreTimely m) after_renumber lists
    (All-weaker (AreTimely n) (λ xs. AreTimely m (after_renumber xs)) (λ xs. timely_next n m xs l)
    lists timely)

-- one of the lists
pub timely_get : {X : Type 0} (n : Tag) (lists : List (List (Item X))) (cpu : ℕ)
    → All (AreTimely n) lists → AreTimely n (get_or lists cpu [])
timely_get n [] cpu timely = tt
timely_get n (xs ∷ lists) zero timely = All-head (AreTimely n) xs lists timely
timely_get n (xs ∷ lists) (suc cpu) timely =
    timely_get n lists cpu (All-tail (AreTimely n) xs lists timely)

-- a list behind another
pub timely_append : {X : Type 0} (n : Tag) (xs ys : List (Item X)) → AreTimely n xs → AreTimely n ys
    → AreTimely n (xs ++ ys)
timely_append n [] ys timely others = others
timely_append n (Of call mark ∷ xs) ys timely others = (
  timely.0,
  timely_append n xs ys timely.1 others,
)
timely_append n (Marker ∷ xs) ys timely others = timely_append n xs ys timely others

timely_from : {X : Type 0} (n : Tag) (k : ℕ) (xs : List (Item X)) → AreTimely n xs
    → AreTimely n (from_callback k xs)
timely_from n k [] timely = tt
timely_from n k (Marker ∷ xs) timely = timely_from n k xs timely
timely_from n zero (Of call mark ∷ xs) timely = timely
timely_from n (suc k) (Of call mark ∷ xs) timely = timely_from n k xs timely.1

-- the list after a take
pub timely_untaken : {X : Type 0} (n : Tag) (most : ℕ) (xs : List (Item X)) → AreTimely n xs
    → AreTimely n (after_take xs most)
timely_untaken n most xs timely = timely_from n (length (take_answer xs most)) xs timely

-- a marker behind a list
pub timely_entrained : {X : Type 0} (n : Tag) (xs : List (Item X)) → AreTimely n xs
    → AreTimely n (after_entrain xs)
timely_entrained n [] timely = tt
timely_entrained n (x ∷ xs) timely = timely_append n (x ∷ xs) (Marker ∷ []) timely tt

-- a marker, if one is owed
pub timely_leaving : {X : Type 0} (n : Tag) (owed : Bool) (xs : List (Item X)) → AreTimely n xs
    → AreTimely n (as_it_leaves xs owed)
timely_leaving n true xs timely = timely_entrained n xs timely
timely_leaving n false xs timely = timely

timely_front : {X : Type 0} (n : Tag) (xs : List (Item X)) → AreTimely n xs → AreTimely n (front xs)
timely_front n [] timely = tt
timely_front n (Marker ∷ xs) timely = timely_front n xs timely
timely_front n (Of call Done ∷ xs) timely = (timely.0, timely_front n xs timely.1)
timely_front n (Of call Unmarked ∷ xs) timely = tt
timely_front n (Of call (Until k) ∷ xs) timely = tt

timely_behind : {X : Type 0} (n : Tag) (xs : List (Item X)) → AreTimely n xs
    → AreTimely n (behind xs)
timely_behind n [] timely = tt
timely_behind n (Marker ∷ xs) timely = timely_behind n xs timely
timely_behind n (Of call Done ∷ xs) timely = timely_behind n xs timely.1
timely_behind n (Of call Unmarked ∷ xs) timely = timely
timely_behind n (Of call (Until k) ∷ xs) timely = timely

timely_unmarked : {X : Type 0} (n : Tag) (xs : List (Item X)) → AreTimely n xs
    → AreTimely n (map without_mark xs)
timely_unmarked n [] timely = tt
timely_unmarked n (Marker ∷ xs) timely = timely_unmarked n xs timely
timely_unmarked n (Of call mark ∷ xs) timely = (
  mark_dropped n call.at mark timely.0,
  timely_unmarked n xs timely.1,
)

-- a migration
pub timely_moved : {X : Type 0} (n : Tag) (xs ys : List (Item X)) → AreTimely n xs → AreTimely n ys
    → AreTimely n (after_migrate ys xs)
timely_moved n xs ys timely others =
    timely_append n (front xs ++ ys) (map without_mark (behind xs))
    (timely_append n (front xs) ys (timely_front n xs timely) others)
    (timely_unmarked n (behind xs) (timely_behind n xs timely))

-- a tend at the number
pub timely_tended : {X : Type 0} (now : Tag) (xs : List (Item X)) → AreTimely now xs →
    AreTimely now (after_tend xs now.number)
timely_tended now [] timely = tt
timely_tended now (Marker ∷ xs) timely = timely_tended now xs timely
timely_tended now (Of call mark ∷ xs) timely =
    (mark_tended now call.at mark timely.0, timely_tended now xs timely.1)

-- no callback waits for more than the number's snapshot
pub timely_at_most : {X : Type 0} (now : Tag) (xs : List (Item X)) → AreTimely now xs
    → IsAtMost (snapshot now.number) xs
timely_at_most now [] timely = All-nil (λ n. n ≤ snapshot now.number)
timely_at_most now (Marker ∷ xs) timely = timely_at_most now xs timely
timely_at_most now (Of call Unmarked ∷ xs) timely = timely_at_most now xs timely.1
timely_at_most now (Of call (Until n) ∷ xs) timely =
    All-cons (λ k. k ≤ snapshot now.number) n (numbers xs) timely.0.2
    (timely_at_most now xs timely.1)
timely_at_most now (Of call Done ∷ xs) timely = timely_at_most now xs timely.1

front_waited : {X : Type 0} (now : Tag) (xs : List (Item X)) → AreTimely now xs →
    All (λ (call : Queued X). HasWaited now call.at) (callbacks (front xs))
front_waited now [] timely = All-nil (λ call. HasWaited now call.at)
front_waited now (Marker ∷ xs) timely = front_waited now xs timely
front_waited now (Of call Unmarked ∷ xs) timely = All-nil (λ call. HasWaited now call.at)
front_waited now (Of call (Until n) ∷ xs) timely = All-nil (λ call. HasWaited now call.at)
front_waited now (Of call Done ∷ xs) timely =
    All-cons (λ call. HasWaited now call.at) call (callbacks (front xs)) (timely.0.0.0, timely.0.1)
    (front_waited now xs timely.1)

-- a take hands out only callbacks whose snapshot the now has reached
pub taken_waited : {X : Type 0} (now : Tag) (most : ℕ) (xs : List (Item X))
    (calls : List (Queued X))
    → AreTimely now xs
    → calls ≡ take_answer xs most
    → All (λ call. HasWaited now call.at) calls
taken_waited now most xs calls timely is =
    rw is
    (All-take (λ call. HasWaited now call.at) most (callbacks (front xs))
    (front_waited now xs timely))

-- a fact of each element, at one place
pub all_at : {X : Type 0} (P : X → Type 0) (xs : List X) (k : ℕ) (x : X)
    → All P xs → slice_get xs k ≡ Some x → P x
all_at P xs k x a e = subst P (get_or_from_slice_get xs k x x e) (a k x (slice_get_within xs k x e))

-- nor does a take of one hand out another
pub popped_waited : {X : Type 0} (now : Tag) (xs : List (Item X)) (popped : Option (Queued X))
    → AreTimely now xs → popped ≡ slice_get (take_answer xs 1) 0
    → IfSome popped (λ call. HasWaited now call.at)
popped_waited now xs None timely is = tt
popped_waited now xs (Some call) timely is =
    all_at (λ call. HasWaited now call.at) (take_answer xs 1) 0 call
    (taken_waited now 1 xs _ timely refl) (sym is)

max_of_three : (a b c : Number) → max (max a b) c ≡ max a (max b c)
max_of_three a b c = omega arith

fold_from : (a b : Number) (ns : List Number) → fold max (max a b) ns ≡ max a (fold max b ns)
fold_from a b [] = refl
fold_from a b (n ∷ ns) = ap (λ m. fold max m ns) (max_of_three a b n) ∙ fold_from a (max b n) ns

-- the greatest of a number and some others is the greater of that number and their greatest
pub greatest_is : (a n : Number) (ns : List Number) → greatest ns ≡ Some n
    → max a n ≡ greatest_from a ns
greatest_is a n [] is = cc
greatest_is a n (k ∷ ns) is =
    let same : fold max k ns ≡ n = cc in ap (λ m. max a m) (sym same) ∙ sym (fold_from a k ns)
