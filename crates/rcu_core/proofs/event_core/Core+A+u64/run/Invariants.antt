use Rattle.std.proofs.Common.{◌≡◌, ◌≤◌, length, take, vec_len, vec_capacity}
use Rattle.rcu_core.specs.History.{History}
use Rattle.rcu_core.specs.Runs.{RunsLegally}
use Rattle.rcu_core.specs.Core.{Represents}
use Rattle.rcu_core.proofs.event_core.Core+A+u64.run.Given as goal

-- the events so far were answered, with room for the other replies
abbrev pub invariant-loop-event : goal.invariant-loop-event
invariant-loop-event g l = record {
  room : length l.events ≤ vec_capacity l.replies;
  count : vec_len l.replies ≡ l.event-index;
  ran : (h : History) → Represents l.fn.self h
      → RunsLegally l.fn.self h (take l.event-index l.events) l.replies.items l.self;
}
