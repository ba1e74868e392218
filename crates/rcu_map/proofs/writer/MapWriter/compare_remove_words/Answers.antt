use Rattle.std.proofs.Common.{◌≡◌, ◌∙◌, ℕ, rules, subst, sym, true}
use Rattle.rcu_live.specs.Watcher.{Watching}
use Rattle.rcu_graph.specs.Nodes.{nodes_in}
use Rattle.rcu_graph.specs.declared.known.Planned.{Planned}
use Rattle.rcu_map.specs.Chains.{IsMap, buckets_in}
use Rattle.rcu_map.specs.Compared.{IsAsRead}
use Rattle.rcu_map.specs.Entries.{IsNodeOf}
use Rattle.rcu_map.specs.Keys.{key_in}
use Rattle.rcu_map.proofs.Compares.{is_there, it_holds, removed, same_entry}
use Rattle.rcu_map.proofs.writer.MapWriter.compare_remove_words.Goals as goal

pub returns-clause-removed : goal.returns-clause-removed
returns-clause-removed g c =
    let one : IsNodeOf (buckets_in c.args.self.now) (nodes_in c.args.self.now.view.client.known)
    (key_in c.args.read.now) c.in-Some.node = search rules in
    let there = is_there g.E.Invariant.holds (buckets_in c.args.self.now)
    (nodes_in c.args.self.now.view.client.known) (key_in c.args.read.now) c.remove_words.result
    c.remove_words.new.old c.remove_words.ensures.old (c.in-Some.node, one) in
    let h = it_holds g.E.Invariant.holds (buckets_in c.args.self.now)
    (nodes_in c.args.self.now.view.client.known) (key_in c.args.read.now) c.remove_words.result
    c.remove_words.new.old c.remove_words.ensures.old there in
    let map = subst (λ (w : Watching Planned). IsMap g.E.Invariant.holds w.view.client.plan.roots
    w.view.client.plan.seed w.view.client.plan.words w.view.client.plan.nodes
    (nodes_in w.view.client.known)) c.self.view_is c.self.invariant.map in
    let told = same_entry g.E.Invariant.holds _ _ _ _ (nodes_in c.args.self.now.view.client.known)
    map (key_in c.args.read.now) c.in-Some.node c.remove_words.new.old one h in
    let read : c.read_again.result ≡ true = c.if-not-read_again.false in
    let was = subst (λ (k : ℕ). IsAsRead (buckets_in c.args.self.now)
    (nodes_in c.args.self.now.view.client.known) k c.args.read.now) one.is
    (c.read_again.ensures.as_read.0 read) in
    removed g.E.Invariant.holds c.args.self.now (key_in c.args.read.now) c.args.read.now
    c.in-Some.node one c.remove_words.new.old told h.sound was c.remove_words.new.self
    c.remove_words.ensures.same (c.remove_words.ensures.removed there)

pub returns-clause-unchanged : goal.returns-clause-unchanged
returns-clause-unchanged g c = λ ne.
    let one : IsNodeOf (buckets_in c.args.self.now) (nodes_in c.args.self.now.view.client.known)
    (key_in c.args.read.now) c.in-Some.node = search rules in
    let there = is_there g.E.Invariant.holds (buckets_in c.args.self.now)
    (nodes_in c.args.self.now.view.client.known) (key_in c.args.read.now) c.remove_words.result
    c.remove_words.new.old c.remove_words.ensures.old (c.in-Some.node, one) in
    let h = it_holds g.E.Invariant.holds (buckets_in c.args.self.now)
    (nodes_in c.args.self.now.view.client.known) (key_in c.args.read.now) c.remove_words.result
    c.remove_words.new.old c.remove_words.ensures.old there in
    let map = subst (λ (w : Watching Planned). IsMap g.E.Invariant.holds w.view.client.plan.roots
    w.view.client.plan.seed w.view.client.plan.words w.view.client.plan.nodes
    (nodes_in w.view.client.known)) c.self.view_is c.self.invariant.map in
    let told = same_entry g.E.Invariant.holds _ _ _ _ (nodes_in c.args.self.now.view.client.known)
    map (key_in c.args.read.now) c.in-Some.node c.remove_words.new.old one h in
    let read : c.read_again.result ≡ true = c.if-not-read_again.false in
    told ∙ (sym c.read_again.ensures.same ∙ c.read_again.ensures.unchanged read)
