use Rattle.std.proofs.Common.{◌≡◌, ◌-◌, ◌≤◌, ◌∙◌, ap, arith, eqb, length, rules, vec_len}
use Rattle.std.specs.Set.{distinct_count}
use Rattle.rcu_stress.specs.Ledger.{Account}
use Rattle.rcu_stress.proofs.LedgerLemmas.{ids_in-from_first, ran_in-is, sum_in-from_first}
use Rattle.rcu_stress.proofs.ledger.Ledger.of.Goals as goal

pub invariant_of-result : goal.invariant_of-result
invariant_of-result c =
    let a : Account = record { shares = c.args.shares.items; own = c.args.own } in
    let kept = c.loop-share.invariant in
    let added = c.in_ok-add-2.ensures in
    let same = c.deref-share-items.ensures.value in
    let all : length c.deref-share-items.result.now ≤ c.loop-share.share-index =
    (let h = c.loop-share-test.false in omega arith) in
    let ids = ids_in-from_first a _ _ _ _ same all kept.ids added.ids in
    let len : vec_len c.add-2.new.self.ids ≡ length c.add-2.new.self.ids.items = search rules in
    record {
      queued = sum_in-from_first (λ s. s.queued) a _ _ _ _ same all kept.queued added.queued;
      ran = c.len.ensures ∙ len ∙ ap length ids ∙ ran_in-is a;
      early = sum_in-from_first (λ s. s.early) a _ _ _ _ same all kept.early added.early;
      twice =
          c.in_ok-twice.ensures
          ∙ ap (λ xs. length xs - distinct_count eqb xs) (c.deref.ensures.value ∙ ids);
    }
