use Rattle.rcu_script.proofs.script.print.put_reply.Goals as goal

pub returns-in-Moved : goal.returns-in-Moved
returns-in-Moved g c = rw c.in-Moved.is c.put_numbered-in-Moved.ensures

pub returns-in-BarBegun : goal.returns-in-BarBegun
returns-in-BarBegun g c = rw c.in-BarBegun.is c.put_line-in-BarBegun.ensures

pub returns-in-BarDone : goal.returns-in-BarDone
returns-in-BarDone g c = rw c.in-BarDone.is c.put_line-in-BarDone.ensures
