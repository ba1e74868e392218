use Rattle.std.proofs.Common.{◌<◌, arith}
use Rattle.rcu_map.specs.Keys.{bucket_of}
use Rattle.rcu_map.specs.Runs.{is_of, last_of, seen_in}
use Rattle.rcu_map.proofs.Runs.{run_history}
use Rattle.rcu_map.proofs.laws.found_keys_were_there.Goals as goal

pub returns : goal.returns
returns g c = λ plan opened key now run was known node search some width up made.
    let wide : 1 < plan.words = omega (arith, width) in
    let start = bucket_of plan.roots plan.seed key in
    c.found_keys_were_linked.ensures (is_of plan.roots plan.seed start) opened start key
    (last_of g.E.Invariant.holds plan opened now run)
    (seen_in g.E.Invariant.holds plan opened now run) was known node search
    (run_history g.E.Invariant.holds plan opened key some wide up now run) made
