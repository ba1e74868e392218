use Rattle.std.proofs.Common.{◌≡◌, ◌<◌, ◌≤◌, ℕ, false, length}
use Rattle.rcu_node.specs.CpuSet.{is_in}
use Rattle.rcu_live.specs.Engine.{OnlineBecomes}
use Rattle.rcu_live.proofs.begin.set_offline.Given as goal

-- the processors before this one are offline
abbrev pub invariant-loop-cpu : goal.invariant-loop-cpu
invariant-loop-cpu g l = record {
  becomes : OnlineBecomes l.gp.grace.processors.online l.initial.gp.grace l.gp.grace;
  offline : (c : ℕ) → l.from ≤ c → c < l.cpu → is_in l.gp.grace.processors.online c ≡ false;
  before : (c : ℕ) → c < l.from
      → is_in l.gp.grace.processors.online c ≡ is_in l.initial.gp.grace.processors.online c;
  same : l.online ≡ l.gp.grace.processors.online;
  long : length l.online ≡ length l.initial.online;
}
