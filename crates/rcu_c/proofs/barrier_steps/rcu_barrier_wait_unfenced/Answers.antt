use Rattle.rcu_live.specs.Engine.{latest_words}
use Rattle.rcu_live.specs.Runs.{engine_after}
use Rattle.rcu_c.specs.BarrierSteps.{whole_step}
use Rattle.rcu_c.proofs.BarrierRuns.{accepted, on_inner, whole}
use Rattle.rcu_c.proofs.barrier_steps.rcu_barrier_wait_unfenced.Goals as goal

pub returns-clause-state : goal.returns-clause-state
returns-clause-state c = λ none.
    let e = c.opened.inside.inner in
    let ready = c.make_ready.new.engine in
    let now = c.drive_and_test.new.engine in
    let word = latest_words now in
    let taken = whole e ready now word c.in_default.ensures.state
    (accepted c.drive_and_test.result c.write_out.result c.write_out.ensures.fault none
    c.drive_and_test.ensures.state) in
    on_inner c.args.rcu.now.contents c.in-Ok.opened.now _ now
    (λ x. engine_after x (whole_step x word)) c.in-Ok.ensures.value c.opened.view_is taken
