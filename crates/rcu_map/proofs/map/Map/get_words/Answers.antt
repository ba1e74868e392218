use Rattle.std.proofs.Common.{◌∙◌, Some, None, ap, arith, inr, subst, sym, ℕ}
use Rattle.rcu_live.specs.CpuSeat.{Seated}
use Rattle.rcu_graph.specs.Nodes.{IsHeld}
use Rattle.rcu_graph.specs.Search.{IsSearched}
use Rattle.rcu_map.specs.Keys.{bucket_of, key_in}
use Rattle.rcu_map.proofs.map.Map.get_words.Goals as goal

pub returns-in_default-clause-got : goal.returns-in_default-clause-got
returns-in_default-clause-got g c = λ up. record {
  node = None;
  searched = c.in_default.ensures.searched up;
  told = tt;
}

pub returns-clause-got : goal.returns-clause-got
returns-clause-got g c = λ up.
    let f = c.in-Some.ensures.found in
    let node : ℕ = c.in-Some.node in
    let back = sym c.read_words.ensures.same in
    let bucket : ℕ = bucket_of c.args.self.now.plan.roots c.args.self.now.plan.seed c.args.key in
    record {
      node = Some node;
      searched = subst (λ (s : Seated g.row.P-Whole-Known.Denot). IsSearched bucket c.args.key
          (g.P.Within.lens.get c.args.seat.now.view.client).known (Some node)
          (g.P.Within.lens.get s.view.client).known)
          back (c.in-Some.ensures.searched up);
      told = record {
        words = f.words;
        held = subst (λ (s : Seated g.row.P-Whole-Known.Denot). IsHeld
            (g.P.Within.lens.get s.view.client).known node f.words) back f.held;
        whole = f.whole.entry (let is = f.is in omega (arith, is, up));
        is = f.is;
        told = c.read_words.ensures.told f.words (inr f.held) f.whole f.is;
      };
    }

pub returns-clause-keyed : goal.returns-clause-keyed
returns-clause-keyed g c = λ there.
    let f = c.in-Some.ensures.found in
    ap key_in (c.read_words.ensures.told f.words (inr f.held) f.whole f.is) ∙ f.is

pub returns-clause-whole : goal.returns-clause-whole
returns-clause-whole g c = λ there.
    let f = c.in-Some.ensures.found in
    let up = c.in-Some.ensures.keyed in
    subst g.E.Invariant.holds
    (sym (c.read_words.ensures.told f.words (inr f.held) f.whole f.is))
    (f.whole.entry (let is = f.is in omega (arith, is, up)))
