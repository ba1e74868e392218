use Rattle.std.proofs.Common.{◌<◌, arith}
use Rattle.rcu_map.specs.Keys.{bucket_of}
use Rattle.rcu_map.specs.Runs.{is_of, last_of, seen_in}
use Rattle.rcu_map.proofs.Runs.{run_history, run_linked}
use Rattle.rcu_map.proofs.laws.keys_that_stay_are_found.Goals as goal

pub returns : goal.returns
returns g c = λ plan opened key now run was known found search some width up has made.
    let wide : 1 < plan.words = omega (arith, width) in
    let start = bucket_of plan.roots plan.seed key in
    c.linked_keys_are_found.ensures (is_of plan.roots plan.seed start) opened start key
    (last_of g.E.Invariant.holds plan opened now run)
    (seen_in g.E.Invariant.holds plan opened now run) was known found search
    (run_history g.E.Invariant.holds plan opened key some wide up now run)
    (run_linked g.E.Invariant.holds plan opened key some wide up now run has) made
