-- One processor's list after a tend, and the numbers that a callback may wait for.
use Rattle.std.specs.Prelude.{ℕ, ◌≡◌, ◌<◌, ◌≤◌, ◌%◌, List, length, map, All}
use Rattle.rcu_seq.specs.Numbers.{Number, snapshot}
use Rattle.rcu_cblist.specs.SegList.{Item, Mark, behind, callbacks, front, mark_advanced}
use Rattle.rcu_cblist.specs.SegList.{mark_given, numbers, remarked}

-- the mark after a tend: a number at most the given one becomes done, and a callback without a mark
-- gets the snapshot
abbrev pub mark_after_tend : Number → Mark → Mark
mark_after_tend number mark = mark_given (snapshot number) (mark_advanced number mark)

-- a number that a callback may wait for: a multiple of 4 above the given number and at most its
-- snapshot
pub record MayWait (number n : Number) : Type 0 where
  pub above : number < n
  pub within : n ≤ snapshot number
  pub state : n % 4 ≡ 0

module _ {X : Type 0} where
  -- the list after a tend
  abbrev pub after_tend : List (Item X) → Number → List (Item X)
  after_tend xs number = map (remarked (mark_after_tend number)) xs

  -- each number that a callback of the list carries is a multiple of 4
  abbrev pub AreFours : List (Item X) → Type 0
  AreFours xs = All (λ n. n % 4 ≡ 0) (numbers xs)

  -- the answer of a tend: how many callbacks are done and how many wait afterwards
  abbrev pub tend_answer : List (Item X) → Number → ℕ × ℕ
  tend_answer xs number = (
    length (callbacks (front (after_tend xs number))),
    length (callbacks (behind (after_tend xs number))),
  )
