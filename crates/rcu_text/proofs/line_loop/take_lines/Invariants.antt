use Rattle.std.proofs.Common.{◌≡◌, ◌++◌, ℕ, List, length}
use Rattle.rcu_text.specs.Outputs.{Out}
use Rattle.rcu_text.specs.Underway.{Underway}
use Rattle.rcu_text.proofs.line_loop.take_lines.Given as goal

-- the bytes before the rest are done
abbrev pub invariant-loop-front : goal.invariant-loop-front
invariant-loop-front g l = record {
  done : List ℕ;
  whole : l.piece ≡ done ++ l.rest;
  goes : (opened : g.row.A.Denot) (start : Out) (bytes : List ℕ)
      → Underway (g.A.Responder.past opened l.fn.responder) start (g.O.Output.out l.fn.out)
      l.fn.line bytes
      → Underway (g.A.Responder.past opened l.responder) start (g.O.Output.out l.out) l.line
      (bytes ++ done);
  same : (g.O.Output.out l.out).name ≡ (g.O.Output.out l.fn.out).name;
}

abbrev pub decreases-loop-front : goal.decreases-loop-front
decreases-loop-front g l = length l.rest
