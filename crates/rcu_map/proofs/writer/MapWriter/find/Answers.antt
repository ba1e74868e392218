use Rattle.std.proofs.Common.{ℕ, subst, sym}
use Rattle.rcu_live.specs.Watcher.{Watching}
use Rattle.rcu_graph.specs.Nodes.{nodes_in}
use Rattle.rcu_graph.specs.declared.known.Planned.{Planned}
use Rattle.rcu_map.specs.Chains.{buckets_in}
use Rattle.rcu_map.specs.Entries.{HasKey}
use Rattle.rcu_map.proofs.Chains.{no_entry_of_0}
use Rattle.rcu_map.proofs.writer.MapWriter.find.Goals as goal

pub returns-then-key-eq0 : goal.returns-then-key-eq0
returns-then-key-eq0 g c = λ has. no_entry_of_0 _ _ _ _ _ _ c.self.invariant.map
    (subst (λ (w : Watching Planned). HasKey (buckets_in w) (nodes_in w.view.client.known) 0)
    (sym c.self.view_is)
    (subst (λ (n : ℕ). HasKey (buckets_in c.args.self.now) (nodes_in
    c.args.self.now.view.client.known) n)
    c.if-key-eq0.true has))

pub returns : goal.returns
returns g c = c.place_of.ensures.told
