-- The seat of an open handle, as contracts see it.
use Rattle.std.specs.Prelude.{ℕ, List, Option}
use Rattle.atomic_table.specs.Seated.{TableId}
use Rattle.rcu_live.specs.CpuSeat.{Seated, at_first}
use Rattle.rcu_live.specs.Watcher.{Watching, watcher_at_first}
use Rattle.rcu_live.specs.Words.{base_of}
use Rattle.rcu_defer.specs.DeferList.{Deferring, list_at_first}
use Rattle.rcu_graph.specs.Nodes.{closed}
use Rattle.rcu_graph.specs.Planned.{knowing, of_plan}
use Rattle.rcu_graph.specs.declared.known.Known.TheVariants.{Idle}
use Rattle.rcu_graph.specs.declared.known.Planned.{Planned}
use Rattle.rcu_graph.specs.declared.plan.Plan.{Plan}
use Rattle.rcu_request.specs.Requests.{Requesting, requester_at_first}
use Rattle.rcu_c.specs.Links.{no_links}
use Rattle.rcu_c.specs.declared.identity.Identity.{Identity}
use Rattle.rcu_c.specs.declared.links.Links.{Links}

-- the knowledge about the map that a seat keeps when its section closes
abbrev pub closing : Planned → Planned
closing c = knowing c (closed c.known)

-- the words that a seat reads, how many processors have one among them, and the size of the map
-- behind those
pub record Words : Type 0 where
  pub table : TableId
  pub cpus : ℕ
  pub plan : Plan

-- the words that the seats of an engine read, their words for requests, and the identity of the
-- engine
pub record Shared : Type 0 where
  pub words : Words
  pub requests : TableId
  pub identity : Identity

-- the words that it reads, its processor's seat, its watcher's view, the values and links that its
-- thread deferred, its knowledge about requests, and its engine's identity
pub record Seat : Type 0 where
  pub words : Words
  pub cpu : Seated Planned
  pub watcher : Watching Planned
  pub values : Deferring ℕ
  pub links : Links
  pub requester : Requesting
  pub identity : Identity

-- the seats of an engine that no thread has: the parts that all its seats share, and for each
-- processor its seat, none if a thread has it
pub record Kept : Type 0 where
  pub shared : Shared
  pub seats : List (Option Seat)

-- the seat of a processor as it is opened, of an engine with these words, these for requests, and a
-- map of this plan
abbrev pub seat_at_first : Identity → TableId → TableId → Plan → ℕ → ℕ → Seat
seat_at_first identity table requests plan cpus cpu = record {
  words = record { table = table; cpus = cpus; plan = plan };
  cpu = at_first table (base_of cpus) (of_plan plan Idle) cpu;
  watcher = watcher_at_first table (base_of cpus) (of_plan plan Idle);
  values = list_at_first;
  links = no_links;
  requester = requester_at_first requests;
  identity = identity;
}
