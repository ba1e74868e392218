use Rattle.std.proofs.Common.{◌≡◌, []}
use Rattle.rcu_text.proofs.RunLemmas.{Midway}
use Rattle.rcu_text.proofs.line_loop.run_through.Given as goal

-- the lines read so far are answered, and no byte is buffered
abbrev pub invariant-loop-turn : goal.invariant-loop-turn
invariant-loop-turn g l = record {
  goes : g.A.Responder.past l.fn.responder l.fn.responder [] []
      → Midway (g.A.Responder.past l.fn.responder l.responder)
      (g.R.Source.incoming l.fn.reader).remaining (g.R.Source.incoming l.reader).remaining
      (g.O.Output.out l.fn.out) (g.O.Output.out l.out) l.line l._turn;
  empty : (g.O.Output.out l.out).waiting ≡ [];
  sound : (g.R.Source.incoming l.reader).failed ≡ (g.R.Source.incoming l.fn.reader).failed;
  same : (g.O.Output.out l.out).name ≡ (g.O.Output.out l.fn.out).name;
}
