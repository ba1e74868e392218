-- The events since a callback was queued, and since a barrier began.
use Rattle.std.proofs.Common.{◌≡◌, ◌≢◌, ℕ, ◌+◌, ◌<◌, ◌≤◌, Bool, true, [], ◌∷◌, ◌++◌, refl, sym, ap}
use Rattle.std.proofs.Common.{◌∙◌, arith, cond, eqb, ne_eqb, inl, inr}
use Rattle.std.proofs.lemmas.Bool.{cases_eq}
use Rattle.std.proofs.lemmas.Bool.Decides.{nat_tests}
use Rattle.rcu_core.specs.Callbacks.{queue_count, queued_before_barrier, since}
use Rattle.rcu_core.specs.History.{History}
use Rattle.rcu_core.specs.Links.{QueuedAt}
use Rattle.rcu_core.specs.declared.event.Event.{Event}
use Rattle.rcu_core.specs.declared.event.Event.TheVariants.{BarBegin, Queue}
use Rattle.rcu_core.proofs.Kept.{queue_counts}

same_place : (a b : ℕ) → a ≡ b → eqb a b ≡ true
same_place a b i = grind (arith, nat_tests)

-- the events since a callback was queued end with that event
pub queued_at : (j : ℕ) (h : History) → 0 < j → j ≤ queue_count h → QueuedAt j h
queued_at j [] z b = absurd (omega (arith, z, b))
queued_at j (Queue d y ∷ h) z b =
    let n = queue_counts d y h in
    let cut = λ (t : Bool) (xs : History). cond t [] (Queue d y ∷ since j h) ++ xs in
    elim (cases_eq (queue_count h + 1) j) [
      | inl i ↦ record {
        cpu = d;
        value = y;
        earlier = h;
        is = ap (λ t. cut t (Queue d y ∷ h)) (sym (same_place (queue_count h + 1) j i));
        place = i;
      }
      | inr i ↦
          let o = queued_at j h z (omega (arith, n, b, i)) in
          record {
            cpu = o.cpu;
            value = o.value;
            earlier = o.earlier;
            is =
                ap (λ (xs : History). Queue d y ∷ xs) o.is
                ∙ ap (λ t. cut t (Queue o.cpu o.value ∷ o.earlier))
                (sym (ne_eqb (queue_count h + 1) j i));
            place = o.place;
          }
    ]
queued_at j (e ∷ h) z b = let o = queued_at j h z b in record {
  cpu = o.cpu;
  value = o.value;
  earlier = o.earlier;
  is = ap (λ (xs : History). e ∷ xs) o.is;
  place = o.place;
}

-- no event but the begin of a barrier changes how many were queued before it
pub before_kept : (h : History) (e : Event) → e ≢ BarBegin
    → queued_before_barrier (e ∷ h) ≡ queued_before_barrier h
before_kept h BarBegin n = absurd (n refl)
before_kept h _ n = refl
