-- The tests of the opening of a run.
use Rattle.std.specs.Prelude.{ℕ, ◌==◌, ◌&&◌, ◌||◌, not, Bool, Option, Some, if◌then◌else◌}
use Rattle.rcu_seq.specs.Numbers.{Number}
use Rattle.rcu_seq.specs.declared.fault.Fault.{Fault}
use Rattle.rcu_seq.specs.declared.fault.Fault.TheVariants.{BadFanout}
use Rattle.rcu_geometry.specs.Opening.{opening_refusal}
use Rattle.rcu_barrier.specs.Lists.{most_queued}
use Rattle.rcu_core.specs.Replies.{Size}
use Rattle.rcu_script.specs.declared.runs.Setup.{Setup}

-- the pairs of fanouts that the program offers
abbrev pub is_offered : ℕ → ℕ → Bool
is_offered leaf inner =
    (leaf == 2 && inner == 2)
    || ((leaf == 2 && inner == 3)
    || ((leaf == 4 && inner == 4) || ((leaf == 16 && inner == 64) || (leaf == 64 && inner == 64))))

-- the first fault of a setup
abbrev pub opening_fault : Setup → Option Fault
opening_fault setup = if not (is_offered setup.leaf setup.inner) then Some BadFanout
    else opening_refusal setup.leaf setup.inner setup.cpus setup.last

-- the size of the opened engine, for which a setup sets no limit of callbacks
abbrev pub opened_size : ℕ → Number → Size
opened_size cpus last = record { cpus = cpus; last = last; most = most_queued }

-- that of a setup
abbrev pub size_of_setup : Setup → Size
size_of_setup setup = opened_size setup.cpus setup.last
