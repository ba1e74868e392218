-- The shared object, as contracts see it.
use Rattle.std.specs.Prelude.{◌≡◌, ℕ, ◌+◌, ◌<◌, ◌≤◌}
use Rattle.atomic_table.specs.Seated.{TableId}
use Rattle.rcu_seq.specs.Numbers.{Number}
use Rattle.rcu_live.specs.Words.{base_of}

-- which object it is, its client's plan, how many processors it has, the start of the client's
-- words, its last number, and how many callbacks may be queued
pub record Object (P : Type 0) : Type 0 where
  pub table : TableId
  pub plan : P
  pub cpus : ℕ
  pub base : ℕ
  pub last : Number
  pub most : ℕ

-- an engine may have this number of processors: 1 to 4,096
pub record IsCpuCount (cpus : ℕ) : Type 0 where
  pub some : 0 < cpus
  pub few : cpus ≤ 4096

-- it is an object of this number of processors, with this last number and this limit of callbacks,
-- with `behind` words of a client behind the engine's own
pub record IsSized {P : Type 0} (cpus : ℕ) (last : Number) (most behind : ℕ)
    (engine : Object P) : Type 0 where
  pub count : engine.cpus ≡ cpus
  pub base : engine.base ≡ base_of cpus
  pub end : engine.last ≡ last
  pub full : engine.most ≡ most
  pub words : engine.table.words ≡ base_of cpus + behind

-- the client has this word
abbrev pub HasWord : {P : Type 0} → Object P → ℕ → Type 0
HasWord engine word = engine.base + word < engine.table.words
