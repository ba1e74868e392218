-- The caller's seat and watcher after a wait for a grace period.
use Rattle.std.specs.Prelude.{◌≡◌, ℕ, zero, suc, ◌+◌, ◌<◌, ◌≤◌, false, true, nat_lt}
use Rattle.std.specs.Prelude.{if◌then◌else◌}
use Rattle.rcu_node.specs.CpuSet.{is_in}
use Rattle.rcu_seq.specs.Numbers.{Number}
use Rattle.rcu_seq.specs.Seq.{number_of}
use Rattle.rcu_seq.specs.Tags.{cookie_at, is_done_first, of_first_epoch}
use Rattle.rcu_seq.specs.declared.cookie.Cookie.{Cookie}
use Rattle.rcu_seq.specs.declared.fault.Fault.{Fault}
use Rattle.rcu_seq.specs.declared.fault.Fault.TheVariants.{Exhausted, InSection}
use Rattle.rcu_live.specs.CpuSeat.{Seated}
use Rattle.rcu_live.specs.Engine.{Locked}
use Rattle.rcu_live.specs.NextCpu.{IsNextFrom}
use Rattle.rcu_live.specs.Numbers.{may_open}
use Rattle.rcu_live.specs.Watcher.{Watching}

-- why a wait was refused, if the caller's sections nest this deep: in a section it would wait for
-- itself; else the last number is reached
abbrev pub wait_fault : ℕ → Fault
wait_fault depth = if nat_lt 0 depth then InSection else Exhausted

module _ {C : Type 0} where
  -- after this many quiescent states, the last of which saw n, each with a look whether it has to
  -- wake other waiters. A processor that is offline or idle passes none, since no grace period
  -- waits for it
  abbrev pub after_rests : Seated C → ℕ → Number → Seated C
  after_rests s zero n = s
  after_rests s (suc times) n =
      if may_open s.view.own_word
      then record s {
        view = record s.view {
          seen = n;
          loads = s.view.loads + suc times;
          stores = s.view.stores + suc times;
          looks = s.view.looks + suc times;
          answered = true;
          own_word = n + 1;
        };
      }
      else s

  -- from one state of the seat to the other it passed quiescent states, and did nothing else
  pub record HasRested (s t : Seated C) : Type 0 where
    pub times : ℕ
    pub table : t.table ≡ s.table
    pub depth : t.depth ≡ s.depth
    pub later : s.view.seen ≤ t.view.seen
    pub state : t ≡ after_rests s times t.view.seen

  -- from one state of the watcher to the other it loaded the number, and did nothing else
  pub record HasLooked (w v : Watching C) : Type 0 where
    pub table : v.table ≡ w.table
    pub later : w.view.seen ≤ v.view.seen
    pub more : w.view.loads ≤ v.view.loads
    pub state : v ≡ record w { view = record w.view { seen = v.view.seen; loads = v.view.loads } }

  -- if a section of the caller was open, its seat and its watcher did nothing
  pub record HasStayedInside (s t : Seated C) (w v : Watching C) : Type 0 where
    pub seat : 0 < s.depth → t ≡ s
    pub watcher : 0 < s.depth → v ≡ w

-- a wait for a cookie, by the thread of processor `own`, asks this processor to wake it: the first
-- awaited one, if the cookie is not done and `own` is not awaited
pub record IsAskedFor {C X : Type 0} (e : Locked C X) (own : ℕ) (cookie : Cookie) (cpu : ℕ) : Type 0
  where
    pub undone : is_done_first cookie (number_of e.grace.seq) ≡ false
    pub other : is_in e.grace.processors.awaited own ≡ false
    pub first : IsNextFrom e.grace.processors.awaited 0 cpu

-- the rounds of a wait outside of sections, if the processor is awake: the watcher loaded the
-- number this many times more than the processor passed quiescent states
abbrev pub AreRounds : {C D : Type 0} → ℕ → Seated C → Seated C → Watching D → Watching D → Type 0
AreRounds more s t w v = s.depth ≡ 0 → may_open t.view.own_word ≡ true
    → v.view.loads + s.view.loads ≡ w.view.loads + t.view.loads + more

-- a full grace period has passed: the cookie of a number that was seen, which is at least `before`,
-- is done at `now`
pub record HasPassed (before now : Number) : Type 0 where
  pub taken : Number
  pub later : before ≤ taken
  pub done : is_done_first (cookie_at (of_first_epoch taken)) now ≡ true
