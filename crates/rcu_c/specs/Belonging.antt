-- Seats of their engine, and moments of the words that an engine and its seats share.
use Rattle.std.specs.Prelude.{◌≡◌, ℕ, true, List, Some}
use Rattle.std.specs.Prelude as std
use mathlib.Core.Option.{some}
use lib.ListN.{get_elem?}
use Rattle.atomic_table.specs.Table.{State}
use Rattle.rcu_seq.specs.Numbers.{Number}
use Rattle.rcu_seq.specs.Seq.{number_of}
use Rattle.rcu_live.specs.Client.{Views}
use Rattle.rcu_live.specs.Engine.{Locked}
use Rattle.rcu_live.specs.Rule.{IsKept}
use Rattle.rcu_live.specs.View.{IsOfEngine}
use Rattle.rcu_live.specs.declared.view.Role.TheVariants.{Cpu}
use Rattle.rcu_live.specs.declared.view.View.{View}
use Rattle.rcu_graph.specs.Planned.{IsKeptBy}
use Rattle.rcu_graph.specs.declared.known.Planned.{Planned}
use Rattle.rcu_graph.specs.declared.plan.Plan.{Plan}
use Rattle.rcu_map.specs.Keys.{GoesUp, IsWhole, root_words}
use Rattle.rcu_c.specs.Engines.{is_own}
use Rattle.rcu_c.specs.Holding.{ReadsMapOf, ReadsWordsOf, cpu_of, engine_of, grace_of, opened_of}
use Rattle.rcu_c.specs.Holding.{requester_of, requests_of, seat_of}
use Rattle.rcu_c.specs.MapEntries.{IsKeyed}
use Rattle.rcu_c.specs.declared.contents.Contents.{Contents}

-- the seat is one of the engine's: it reads the words that the engine writes, and the map that the
-- engine's writer keeps, its requests are those that the engine reads, and the engine takes it
pub record BelongsTo (seat rcu : std.Option Contents) : Type 0 where
  pub words : ReadsWordsOf seat rcu
  pub map : ReadsMapOf seat rcu
  pub requests : (requester_of seat).words ≡ (requests_of rcu).words
  pub taken : is_own (opened_of rcu) (seat_of seat) ≡ true

-- the one engine is the other: it writes the same words, and has as many processors
pub record IsSameObject (e f : Locked Planned ℕ) : Type 0 where
  pub table : f.table ≡ e.table
  pub cpus : f.cpus ≡ e.cpus

-- the rule of the client of an engine of C's: an invariant of the words of a map of this plan, and
-- of the knowledge of all seats about it
abbrev pub IsMapKept : Plan → List ℕ → Views Planned → Type 0
IsMapKept = IsKeptBy (λ plan. IsWhole IsKeyed plan.words)
    (λ plan _ from to. GoesUp plan.roots plan.seed from to) (λ plan. root_words plan.words)

-- the shared words at one moment, and the view of each seat
abbrev pub Moment : Type 0
Moment = State (Unit {0}) (View Planned)

-- at this moment the rule of the words holds, with that of the engine's map, and the engine of the
-- handle is among the seats
pub record IsEngineAt (now : Moment) (id : ℕ) (rcu : std.Option Contents) : Type 0 where
  pub kept : IsKept (IsMapKept (engine_of rcu).view.client.plan) (engine_of rcu).cpus now
  pub here : get_elem? now.views id ≡ some (engine_of rcu).view
  pub role : IsOfEngine (engine_of rcu).view
  pub number : (engine_of rcu).view.seen ≡ number_of (grace_of rcu).seq

-- at this moment the seat of the handle has a section open that began at this number
pub record HasSectionAt (now : Moment) (id : ℕ) (seat : std.Option Contents)
    (at : Number) : Type 0 where
  pub here : get_elem? now.views id ≡ some (cpu_of seat).view
  pub role : (cpu_of seat).view.role ≡ Cpu
  pub section : (cpu_of seat).view.section ≡ Some at
