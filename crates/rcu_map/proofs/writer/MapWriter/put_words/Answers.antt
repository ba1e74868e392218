use Rattle.std.proofs.Common.{◌∙◌, inr, refl, rules, sym}
use Rattle.std.proofs.lemmas.Bool.{false≢true}
use Rattle.std.proofs.lemmas.Result.{err_from_is_err_and}
use Rattle.rcu_graph.specs.Nodes.{nodes_in}
use Rattle.rcu_map.specs.Chains.{buckets_in}
use Rattle.rcu_map.specs.Entries.{IsNodeOf}
use Rattle.rcu_map.specs.Keys.{key_in}
use Rattle.rcu_map.proofs.AsRead.{holder}
use Rattle.rcu_map.proofs.Rooms.{insertion_has_room, replacement_has_room}
use Rattle.rcu_map.proofs.writer.MapWriter.put_words.Goals as goal

pub returns-in_ok-put_behind-clause-put : goal.returns-in_ok-put_behind-clause-put
returns-in_ok-put_behind-clause-put g c =
    let done = c.in_ok-put_behind.ensures.put in
    record {
      same = c.in_ok-put_behind.ensures.same;
      old = search rules;
      put = search rules;
      room = λ e. insertion_has_room c.args.self.now (key_in c.args.words.now) done.nodes.node
          done.nodes.was_free
          (λ full. false≢true (sym c.if-is_full.false ∙ c.is_full.ensures.1 full));
      wanted = tt;
      full = tt;
      unchanged = tt;
    }

pub returns-in_err-free_node-clause-put : goal.returns-in_err-free_node-clause-put
returns-in_err-free_node-clause-put g c =
    let p = err_from_is_err_and c.from_residual-in_err-free_node.result
    c.from_residual-in_err-free_node.ensures.1 in
    rw p.1
    (record {
      same = search rules;
      old = tt;
      put = tt;
      room = tt;
      wanted = search rules;
      full = inr (record {
        used = search rules;
        waits = c.kept.ensures.entry (key_in c.args.words.now)
            (c.in-Some.node, search rules);
      });
      unchanged = refl;
    })

pub returns-clause-put : goal.returns-clause-put
returns-clause-put g c =
    let done = c.in-Ok.ensures.put in
    let one : IsNodeOf (buckets_in c.args.self.now) (nodes_in c.args.self.now.view.client.known)
    (key_in c.args.words.now) c.in-Some.node = search rules in
    record {
      same = c.in-Ok.ensures.same;
      old = holder g.E.Invariant.holds (buckets_in c.args.self.now)
          (nodes_in c.args.self.now.view.client.known) (key_in c.args.words.now) c.in-Some.node
          c.copy_words-2.new.entry one c.copy_words-2.ensures.same c.copy_words-2.ensures.whole;
      put = search rules;
      room = λ e. replacement_has_room c.args.self.now (key_in c.args.words.now) done.nodes.node
          done.nodes.was_free (c.in-Some.node, one);
      wanted = tt;
      full = tt;
      unchanged = tt;
    }
