-- An event of each processor, one after another.
use Rattle.std.proofs.Common.{◌≡◌, ℕ, zero, suc, List, [], ◌∷◌, ◌++◌, refl, ◌∙◌}
use Rattle.rcu_core.specs.History.{History}
use Rattle.rcu_core.specs.declared.event.Event.{Event}

-- the event of each of the first n processors
abbrev pub of_each : (ℕ → Event) → ℕ → History → History
of_each event zero h = h
of_each event (suc n) h = event n ∷ of_each event n h

-- as a list, the first one first
abbrev pub events_of_each : (ℕ → Event) → ℕ → List Event
events_of_each event zero = []
events_of_each event (suc n) = events_of_each event n ++ event n ∷ []

-- they keep what each of them keeps
pub kept_by_each : {A : Type 0} (see : History → A) (event : ℕ → Event)
    → ((c : ℕ) (h : History) → see (event c ∷ h) ≡ see h) → (n : ℕ) (h : History)
    → see (of_each event n h) ≡ see h
kept_by_each see event kept zero h = refl
kept_by_each see event kept (suc n) h =
    kept n (of_each event n h) ∙ kept_by_each see event kept n h
