-- The actions of workers: the share of each, and the ledger over all of them.
use Rattle.std.specs.Prelude.{ℕ, ◌+◌, ◌-◌, ◌*◌, ◌≤◌, ◌==◌, Bool, List, [], ◌∷◌, ◌++◌, count_by}
use Rattle.std.specs.Prelude.{if◌then◌else◌, length, map, nat_lt, sum_by}
use Rattle.std.specs.List.{flat_map}
use Rattle.std.specs.Set.{distinct_count}
use Rattle.rcu_seq.specs.Numbers.{Number, snapshot}
use Rattle.rcu_cblist.specs.declared.items.Queued.{Queued}

-- the greatest number of workers, and of rounds
abbrev pub most_workers : ℕ
most_workers = 64

abbrev pub most_rounds : ℕ
most_rounds = 10000

-- a share: how many callbacks were queued, how often a cookie or a callback came early, the ids of
-- the callbacks that were handed out, in order, and for how many more of them it has room
pub record Counts : Type 0 where
  pub queued : ℕ
  pub early : ℕ
  pub ids : List ℕ
  pub room : ℕ

-- how many callbacks a round hands out at most
abbrev pub most_in_round : ℕ
most_in_round = 8

-- the most that a worker counts in this number of rounds: in each round one queued callback, one
-- cookie that came early, and a fixed number of callbacks handed out after it queued one. A
-- callback that is handed out never comes early
pub record IsOfRounds (rounds : ℕ) (s : Counts) : Type 0 where
  pub queued : s.queued ≤ rounds
  pub early : s.early ≤ rounds
  pub ran : length s.ids ≤ most_in_round * s.queued

-- how many callbacks were handed out
abbrev pub ran_of : Counts → ℕ
ran_of s = length s.ids

-- after a poll of a cookie inside the section in which it was taken, with this answer
abbrev pub after_poll : Counts → Bool → Counts
after_poll s done = record s { early = s.early + (if done then 1 else 0) }

-- a callback that was handed out at this number came early: the snapshot at which it was queued is
-- above the number
abbrev pub is_early : Number → Queued ℕ → Bool
is_early number call = nat_lt number (snapshot call.at.number)

-- after a run at this number that handed these callbacks out
abbrev pub after_run : Counts → Number → List (Queued ℕ) → Counts
after_run s number calls = record s {
  early = s.early + count_by (is_early number) calls;
  ids = s.ids ++ map (λ call. call.value) calls;
  room = s.room - length calls;
}

-- a ledger: the shares of the workers, in order, and the program's own
pub record Account : Type 0 where
  pub shares : List Counts
  pub own : Counts

-- all shares
abbrev pub parts : Account → List Counts
parts a = a.shares ++ a.own ∷ []

-- the sums over the shares of the workers and the program's own
abbrev pub queued_in : Account → ℕ
queued_in a = sum_by (λ s. s.queued) (parts a)

abbrev pub ran_in : Account → ℕ
ran_in a = sum_by ran_of (parts a)

abbrev pub early_in : Account → ℕ
early_in a = sum_by (λ s. s.early) (parts a)

-- the ids of all callbacks that were handed out
abbrev pub ids_in : Account → List ℕ
ids_in a = flat_map (λ s. s.ids) (parts a)

-- how many callbacks were handed out with an id that another one had: all of them less the
-- different ids
abbrev pub twice_in : Account → ℕ
twice_in a = length (ids_in a) - distinct_count (λ x y. x == y) (ids_in a)
