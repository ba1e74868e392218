use Rattle.std.proofs.Common.{arith}
use Rattle.rcu_graph.proofs.writer.Writer.unlink.Goals as goal

pub link-requires : goal.link-requires
link-requires g c = record {
  from = c.requires.from;
  link = c.requires.link;
  live = c.requires.live;
  target = λ j is. absurd (omega (arith, is));
}
