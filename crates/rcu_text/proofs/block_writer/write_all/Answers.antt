use Rattle.rcu_text.proofs.StreamLemmas.{takes_more}
use Rattle.rcu_text.proofs.block_writer.write_all.Goals as goal

pub loop-rest-preserved : goal.loop-rest-preserved
loop-rest-preserved g c =
    rw c.split_at.ensures.back
    (takes_more _ _ _ c.args.bytes.now c.loop-rest.rest.now c.in_ok-taken.taken
    c.loop-rest.invariant c.in_ok-taken.ensures.bytes c.in_ok-taken.ensures.sound)
