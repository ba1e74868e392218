-- The situation after the events so far, in three parts: grace periods, processors and callbacks.
use Rattle.std.specs.Prelude.{ℕ, Bool, List}
use Rattle.rcu_seq.specs.declared.tag.Tag.{Tag}
use Rattle.rcu_report.specs.declared.batch.Report.{Report}
use Rattle.rcu_cblist.specs.SegList.{Item}
use Rattle.rcu_core.specs.Callbacks.{barrier_runs, is_owed, list, needed, queue_count}
use Rattle.rcu_core.specs.History.{History, awaits, depth, ends_in_epoch, epoch, noted, online}
use Rattle.rcu_core.specs.History.{reports_made, is_idle, running}
use Rattle.rcu_state.specs.Periods.{PeriodSituation}

-- the situation of the processors: which are online, which are idle, which are awaited, how deep
-- the sections of each nest, which tag it noted last; and all reports
pub record CpuSituation : Type 0 where
  pub online : ℕ → Bool
  pub idle : ℕ → Bool
  pub awaits : ℕ → Bool
  pub depth : ℕ → ℕ
  pub noted : ℕ → Tag
  pub made : List Report

-- the situation of callbacks: how many were queued, each processor's list, whether a barrier runs,
-- and which processors it owes a visit
pub record CallbackSituation : Type 0 where
  pub queued : ℕ
  pub list : ℕ → List (Item ℕ)
  pub barrier : Bool
  pub owed : ℕ → Bool

-- the situation after the events so far
pub record Situation : Type 0 where
  pub periods : PeriodSituation
  pub cpus : CpuSituation
  pub calls : CallbackSituation

-- the three parts of a history's situation
abbrev pub periods_in : History → PeriodSituation
periods_in h = record {
  epoch = epoch h;
  ends = ends_in_epoch h;
  running = running h;
  needed = needed h;
}

abbrev pub cpus_in : History → CpuSituation
cpus_in h = record {
  online = λ cpu. online cpu h;
  idle = λ cpu. is_idle cpu h;
  awaits = λ cpu. awaits cpu h;
  depth = λ cpu. depth cpu h;
  noted = λ cpu. noted cpu h;
  made = reports_made h;
}

abbrev pub calls_in : History → CallbackSituation
calls_in h = record {
  queued = queue_count h;
  list = λ cpu. list cpu h;
  barrier = barrier_runs h;
  owed = λ cpu. is_owed cpu h;
}

-- the situation of a history
abbrev pub situation : History → Situation
situation h = record { periods = periods_in h; cpus = cpus_in h; calls = calls_in h }
