-- The awaited set after the processors of a set are reported, one after another.
use Rattle.std.proofs.Common.{◌≡◌, ℕ, ◌+◌, ◌<◌, ◌≤◌, Bool, true, false, List, length, refl, sym, ap}
use Rattle.std.proofs.Common.{◌∙◌, arith}
use Rattle.rcu_node.specs.CpuSet.{is_in, unheard}
use Rattle.rcu_state.specs.GpState.{Grace, after_current_report, with_awaited}
use Rattle.rcu_live.proofs.HeardBelow.{all_below, heard_below, not_both, one_below, same_below}

module _ {X : Type 0} where
  -- one processor more is reported
  pub reported_more : (g now next : Grace X) (set : List Bool) (n : ℕ)
      → n < length g.processors.awaited
      → is_in set n ≡ true
      → now ≡ with_awaited g (unheard g.processors.awaited (heard_below n (is_in set)))
      → next ≡ after_current_report now n
      → next ≡ with_awaited g (unheard g.processors.awaited (heard_below (n + 1) (is_in set)))
  reported_more g now next set n inside is old new =
      new ∙ ap (λ (y : Grace X). after_current_report y n) old
      ∙ ap (λ (l : List Bool). with_awaited g l)
      (sym (one_below g.processors.awaited n (is_in set) (is_in set) inside is (λ c low. refl)))

  -- none of those up to another one is in the set
  pub passed_by : (g now : Grace X) (set : List Bool) (n m : ℕ) → n ≤ m
      → ((c : ℕ) → n ≤ c → c < m → is_in set c ≡ false)
      → now ≡ with_awaited g (unheard g.processors.awaited (heard_below n (is_in set)))
      → now ≡ with_awaited g (unheard g.processors.awaited (heard_below m (is_in set)))
  passed_by g now set n m more out old =
      old ∙ ap (λ (l : List Bool). with_awaited g l)
      (sym (same_below g.processors.awaited n m (is_in set) more
      (λ c after less. not_both (is_in g.processors.awaited c) (is_in set c) (out c after less))))

  -- no processor from one on is in the set
  pub all_reported : (g now : Grace X) (set : List Bool) (n : ℕ)
      → ((c : ℕ) → n ≤ c → is_in set c ≡ false)
      → now ≡ with_awaited g (unheard g.processors.awaited (heard_below n (is_in set)))
      → now ≡ with_awaited g (unheard g.processors.awaited (is_in set))
  all_reported g now set n out old =
      let end : ℕ = n + length g.processors.awaited in
      passed_by g now set n end (omega arith) (λ c after less. out c after) old
      ∙ ap (λ (l : List Bool). with_awaited g l)
      (all_below g.processors.awaited end (is_in set) (omega arith))
