-- The sizes of the map of an engine of C's.
use Rattle.std.specs.Prelude.{ℕ, ◌+◌, ◌*◌, ◌^◌, ◌==◌, ◌&&◌, Bool, nat_le, nat_lt, if◌then◌else◌}
use Rattle.std.specs.Prelude.{Option, Some}
use Rattle.rcu_geometry.specs.Opening.{opening_refusal}
use Rattle.rcu_seq.specs.Numbers.{Number}
use Rattle.rcu_graph.specs.declared.plan.Plan.{Plan}
use Rattle.rcu_map.specs.Chains.{plan_of_map}
use Rattle.rcu_c.specs.Refusals.{by_engine}
use Rattle.rcu_c.specs.declared.map_sizes.MapSizes.{MapSizes}
use Rattle.rcu_c.specs.declared.refusal.Refusal.{Refusal}
use Rattle.rcu_c.specs.declared.refusal.Refusal.TheVariants.{BadSizes}

-- how many words an entry has: 0 means 2, a key and a value
abbrev pub width_in : MapSizes → ℕ
width_in s = if s.words == 0 then 2 else s.words

-- a map may have these sizes: it has a bucket, an entry has two words or more, and the words of all
-- nodes, with a link each, are no more than 2^32
abbrev pub are_sizes : MapSizes → Bool
are_sizes s =
    nat_lt 0 s.buckets
    && (nat_le 2 (width_in s) && nat_le ((1 + width_in s) * (s.buckets + s.entries + 1)) (2 ^ 32))

-- the plan of a map of these sizes
abbrev pub plan_of_sizes : MapSizes → Plan
plan_of_sizes s = plan_of_map s.buckets (width_in s) s.entries s.seed

-- the sizes of the smallest map, which has no room for an entry
abbrev pub least_sizes : MapSizes
least_sizes = record { buckets = 1; entries = 0; seed = 0; words = 0 }

-- why an engine is not opened with a map of these sizes: no map has them, or as without a map
abbrev pub map_opening_refusal : MapSizes → ℕ → Number → Option Refusal
map_opening_refusal s cpus last =
    if are_sizes s then by_engine (opening_refusal 16 64 cpus last) else Some BadSizes
