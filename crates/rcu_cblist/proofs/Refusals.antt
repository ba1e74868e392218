-- Facts on a list by its items and its room, and on calls that need room.
use Rattle.std.proofs.Common.{◌≡◌, ℕ, ◌+◌, ◌<◌, Bool, true, false, List, [], ◌∷◌, length, refl}
use Rattle.std.proofs.Common.{ap, ◌∙◌, arith}
use Rattle.std.proofs.lemmas.Bool.Decides.{nat_tests}
use Rattle.std.specs.Prelude.{◌&&◌, not, nat_le, nat_lt, Some}
use Rattle.rcu_seq.specs.Fault.{first_fault}
use Rattle.rcu_seq.specs.declared.fault.Fault.TheVariants.{NoMemory}
use Rattle.rcu_cblist.specs.SegList.{Item, Segmented, as_it_leaves, entrain_refusal}
use Rattle.rcu_cblist.specs.SegList.{is_empty, move_refusal}
use Rattle.rcu_cblist.specs.SegList.{queue_refusal, take_answer, take_refusal}

-- tests of numbers
too_full : (m n : ℕ) → n < m → nat_le m n ≡ false
too_full m n less = grind (arith, nat_tests)

above : (m n : ℕ) → m < n → nat_lt m n ≡ true
above m n less = grind (arith, nat_tests)

module _ {X : Type 0} where
  -- a list with these items and this room
  abbrev pub list_of : List (Item X) → ℕ → Segmented X
  list_of xs room = record { items = xs; room = room }

  -- lists of the same items and the same room are the same
  pub list_is : (xs ys : List (Item X)) (a b : ℕ) → xs ≡ ys → a ≡ b → list_of xs a ≡ list_of ys b
  list_is xs ys a b items room = ap (λ l. list_of l a) items ∙ ap (λ n. list_of ys n) room

  -- a callback or a marker for which the list has no room
  pub queue_refused : (list : Segmented X) → list.room < length list.items + 1 →
      queue_refusal list ≡ Some NoMemory
  queue_refused list full = rw (too_full (length list.items + 1) list.room full) refl

  pub entrain_refused : (list : Segmented X) → is_empty list.items ≡ false →
      list.room < length list.items + 1 →
      entrain_refusal list ≡ Some NoMemory
  entrain_refused list some full = rw (some, too_full (length list.items + 1) list.room full) refl

  -- a list that does not move, as the target has no room for it
  pub move_refused : (list : Segmented X) (marked : Bool) (target : Segmented X) →
      is_empty list.items ≡ false →
      target.room < length target.items + length (as_it_leaves list.items marked) →
      move_refusal list marked target ≡ Some NoMemory
  move_refused list marked target some full =
      at (is_empty list.items)
      (nat_le (length target.items + length (as_it_leaves list.items marked)) target.room) some
      (too_full (length target.items + length (as_it_leaves list.items marked)) target.room full)
    where
      at : (none fits : Bool) → none ≡ false → fits ≡ false →
          first_fault ((not none && not fits, NoMemory) ∷ []) ≡ Some NoMemory
      at true fits some full = absurd cc
      at false true some full = absurd cc
      at false false some full = refl

  -- a take that is refused memory for the callbacks that it hands out
  pub take_refused : (xs : List (Item X)) (most : ℕ) → 0 < length (take_answer xs most) →
      take_refusal xs most ≡ Some NoMemory
  take_refused xs most some = rw (above 0 (length (take_answer xs most)) some) refl
