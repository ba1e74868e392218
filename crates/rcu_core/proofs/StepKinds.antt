-- Which events take a step of an awaited processor, and small ways to the end.
use Rattle.std.proofs.Common.{◌≡◌, ◌⊎◌, ℕ, true, inl, inr, [], ◌∷◌, refl}
use Rattle.rcu_core.specs.History.{History, awaits}
use Rattle.rcu_core.specs.Progress.{EndsBy, collects, helps, hinders, retires}
use Rattle.rcu_core.specs.Replies.{Size}
use Rattle.rcu_core.specs.declared.event.Event.{Event}
use Rattle.rcu_core.specs.declared.event.Event.TheVariants.{Begin, Deliver, End, Enter, Exit, Idle}
use Rattle.rcu_core.specs.declared.event.Event.TheVariants.{Note, Quiesce, Scan, Wake}
use Rattle.rcu_core.proofs.Ending.{leads_on}

pub helped_by : (e : Event) (h : History) → helps e h ≡ true
    → (c : ℕ) × ((awaits c h ≡ true) × ((e ≡ Exit c) ⊎ ((e ≡ Idle c) ⊎ (e ≡ Scan c))))
helped_by (Exit c) h i = (c, (i, inl refl))
helped_by (Idle c) h i = (c, (i, inr (inl refl)))
helped_by (Scan c) h i = (c, (i, inr (inr refl)))
helped_by e h i = absurd (cc)

pub hindered_by : (e : Event) (h : History) → hinders e h ≡ true
    → (c : ℕ) × ((awaits c h ≡ true) × ((e ≡ Enter c) ⊎ (e ≡ Wake c)))
hindered_by (Enter c) h i = (c, (i, inl refl))
hindered_by (Wake c) h i = (c, (i, inr refl))
hindered_by e h i = absurd (cc)

pub retired_by : (e : Event) → retires e ≡ true
    → (e ≡ End) ⊎ ((c : ℕ) × ((e ≡ Exit c) ⊎ ((e ≡ Idle c) ⊎ (e ≡ Scan c))))
retired_by End i = inl refl
retired_by (Exit c) i = inr (c, inl refl)
retired_by (Idle c) i = inr (c, inr (inl refl))
retired_by (Scan c) i = inr (c, inr (inr refl))
retired_by e i = absurd (cc)

pub collected_by : (e : Event) → collects e ≡ true
    → (e ≡ End) ⊎ ((n : ℕ) × ((e ≡ Deliver n) ⊎ (e ≡ Scan n)))
collected_by End i = inl refl
collected_by (Deliver n) i = inr (n, inl refl)
collected_by (Scan n) i = inr (n, inr refl)
collected_by e i = absurd (cc)

abbrev one_processor : ℕ → ℕ → Size
one_processor last most = record { cpus = 1; last = last; most = most }

pub three_retire : (last most : ℕ) → EndsBy retires (one_processor last most) (Begin ∷ []) 3
three_retire last most =
    let s = one_processor last most in
    let idle : History = Idle 0 ∷ Begin ∷ [] in
    let scanned : History = Scan 0 ∷ idle in record {
      events = Idle 0 ∷ Scan 0 ∷ End ∷ [];
      reached = End ∷ scanned;
      leads =
          leads_on s (Begin ∷ []) (Idle 0) (Scan 0 ∷ End ∷ []) (End ∷ scanned) (record {
            accepted = refl;
            stores = refl;
            stands = refl;
            no_fault = λ f i. cc;
          })
          (leads_on s idle (Scan 0) (End ∷ []) (End ∷ scanned) (record {
            accepted = refl;
            stores = refl;
            stands = refl;
            no_fault = λ f i. cc;
          })
          (leads_on s scanned End [] (End ∷ scanned) (record {
            accepted = refl;
            stores = refl;
            stands = refl;
            no_fault = λ f i. cc;
          }) refl));
      ended = record { idle = refl; one_more = refl; epoch = refl };
      each = refl;
      many = refl;
    }

pub two_collect : (last most : ℕ)
    → EndsBy collects (one_processor last most) (Quiesce 0 ∷ Note 0 ∷ Begin ∷ []) 2
two_collect last most =
    let s = one_processor last most in
    let h : History = Quiesce 0 ∷ Note 0 ∷ Begin ∷ [] in
    let told : History = Deliver 1 ∷ h in record {
      events = Deliver 1 ∷ End ∷ [];
      reached = End ∷ told;
      leads =
          leads_on s h (Deliver 1) (End ∷ []) (End ∷ told) (record {
            accepted = refl;
            stores = refl;
            stands = refl;
            no_fault = λ f i. cc;
          })
          (leads_on s told End [] (End ∷ told) (record {
            accepted = refl;
            stores = refl;
            stands = refl;
            no_fault = λ f i. cc;
          }) refl);
      ended = record { idle = refl; one_more = refl; epoch = refl };
      each = refl;
      many = refl;
    }
