use Rattle.std.proofs.Common.{◌≡◌, ℕ, rules, subst, true}
use Rattle.rcu_graph.specs.Nodes.{nodes_in}
use Rattle.rcu_map.specs.Chains.{buckets_in}
use Rattle.rcu_map.specs.Compared.{IsAsRead}
use Rattle.rcu_map.specs.Entries.{IsNodeOf}
use Rattle.rcu_map.specs.Keys.{key_in}
use Rattle.std.proofs.lemmas.Result.{err_from_is_err_and}
use Rattle.rcu_map.proofs.Compares.{none_free, replaced}
use Rattle.rcu_map.proofs.writer.MapWriter.compare_replace_words.Goals as goal

pub returns-in_err-put_over-clause-replaced : goal.returns-in_err-put_over-clause-replaced
returns-in_err-put_over-clause-replaced g c =
    let one : IsNodeOf (buckets_in c.args.self.now) (nodes_in c.args.self.now.view.client.known)
    (key_in c.args.words.now) c.in-Some.node = search rules in
    let read : c.read_again.result ≡ true = c.if-not-read_again.false in
    let was = subst (λ (k : ℕ). IsAsRead (buckets_in c.args.self.now)
    (nodes_in c.args.self.now.view.client.known) k c.args.read.now) one.is
    (c.read_again.ensures.as_read.0 read) in
    let p = err_from_is_err_and c.from_residual.result c.from_residual.ensures.1 in
    let full = c.in_err-put_over.ensures.put in
    rw (p.1, full.unchanged)
    (none_free g.E.Invariant.holds c.args.self.now (key_in c.args.words.now) c.args.read.now
    c.args.words.now p.0 was full.full
    (c.kept.ensures.entry (key_in c.args.words.now) (c.in-Some.node, one)))

pub returns-clause-replaced : goal.returns-clause-replaced
returns-clause-replaced g c =
    let one : IsNodeOf (buckets_in c.args.self.now) (nodes_in c.args.self.now.view.client.known)
    (key_in c.args.words.now) c.in-Some.node = search rules in
    let read : c.read_again.result ≡ true = c.if-not-read_again.false in
    let was = subst (λ (k : ℕ). IsAsRead (buckets_in c.args.self.now)
    (nodes_in c.args.self.now.view.client.known) k c.args.read.now) one.is
    (c.read_again.ensures.as_read.0 read) in
    replaced g.E.Invariant.holds c.args.self.now (key_in c.args.words.now) c.args.read.now
    c.in-Some.node one c.read_again.new.words c.read_again.ensures.same c.read_again.ensures.whole
    was c.put_over.new.self c.in_ok-put_over.ensures.same c.args.words.now
    c.in_ok-put_over.ensures.put
