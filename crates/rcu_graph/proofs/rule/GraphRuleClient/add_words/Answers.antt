use Rattle.std.proofs.Common.{List, ◌∙◌, ◌++◌, None, ℕ, ap}
use Rattle.rcu_graph.specs.declared.known.Known.TheVariants.{Owner}
use Rattle.rcu_graph.specs.declared.plan.Plan.{Plan}
use Rattle.rcu_graph.proofs.Planned.{told_first}
use Rattle.rcu_graph.proofs.Starts.{starts}
use Rattle.rcu_graph.proofs.rule.GraphRuleClient.add_words.Goals as goal

pub returns : goal.returns
returns g c =
    let e = c.in_ok-own.ensures in
    let p : Plan = c.args.plan in
    let r = c.requires in record {
      own = c.in_ok-own.own.items;
      added = c.in_ok-extend_from_slice.ensures.items
          ∙ ap (λ (more : List ℕ). c.args.words.now.items ++ more) c.as_slice.ensures.value;
      many = e.length;
      kept = record {
        told = told_first (None, None, record { plan = p; known = Owner });
        kept = starts (g.F.Shape.fits p) (g.F.Shape.joins p) (g.F.Shape.first p) p.roots p.links
            p.words p.nodes c.in_ok-own.own.items r.0.inside e.length r.1.sized r.1.fit e.first;
      };
    }
