-- A cookie needs a number that exists.
use Rattle.std.proofs.Common.{◌≡◌, ℕ, ◌+◌, ◌*◌, ◌%◌, ◌<◌, ◌≤◌, ◌⊎◌, true, nat_le, [], ◌∷◌, None}
use Rattle.std.proofs.Common.{sym, ◌∙◌, arith, inl, inr}
use Rattle.std.proofs.Math.Nat.{mul-le-mul_right}
use Rattle.std.proofs.lemmas.Bool.{cases_lt}
use Rattle.std.proofs.lemmas.Bool.Decides.{nat_tests}
use Rattle.rcu_seq.specs.Numbers.{is_last, snapshot}
use Rattle.rcu_seq.specs.Tags.{last_epoch}
use Rattle.rcu_core.specs.History.{History, epoch, number}
use Rattle.rcu_core.specs.Progress.{CanFinishCookie}
use Rattle.rcu_core.specs.Replies.{Size, fault_in, AreAccepted}
use Rattle.rcu_core.specs.Runs.{IsLegalRun, Run, history}
use Rattle.rcu_core.specs.Situation.{situation}
use Rattle.rcu_core.specs.declared.event.Event.{Event}
use Rattle.rcu_core.specs.declared.event.Event.TheVariants.{Renumber}
use Rattle.rcu_core.proofs.Clocks.{base_is_by_fours, clock, in_epoch, renumber_counts}
use Rattle.rcu_core.proofs.Finishing.{done_by_ticks, leads_accepted}
use Rattle.rcu_core.proofs.Readers.{possible}

-- no epoch comes after the last one
epoch_step : (s : Size) (e : Event) (h : History) → fault_in s (situation h) e ≡ None
    → epoch h ≤ last_epoch → epoch (e ∷ h) ≤ last_epoch
epoch_step s Renumber h p l = let n = renumber_counts h in grind (arith, nat_tests)
epoch_step s e h p l = l

epoch_within : (s : Size) (h : History) → AreAccepted s h → epoch h ≤ last_epoch
epoch_within s [] p = omega arith
epoch_within s (e ∷ h) p = epoch_step s e h p.0 (epoch_within s h p.1)

reached_it : (a b : ℕ) → nat_le a b ≡ true → a ≤ b
reached_it a b i = grind (arith, nat_tests)

above : (base sooner last n m a b : ℕ) → base % 4 ≡ 0 → a ≡ base + n → b ≡ sooner + m
    → snapshot a ≤ b → sooner ≤ base → m ≤ last → snapshot n ≤ last
above base sooner last n m a b z i j up l w = omega (arith, z, i, j, up, l, w)

pub room_needed : (s : Size) (run : Run) → IsLegalRun s run → is_last s.last ≡ true
    → CanFinishCookie s (history run)
    → (snapshot (number (history run)) ≤ s.last) ⊎ (epoch (history run) < last_epoch)
room_needed s run l k o = elim (cases_lt (epoch (history run)) last_epoch) [
  | inl e ↦ inr e
  | inr e ↦
      let h = history run in
      let g = o.reached in
      let p = possible s run l in
      let q = leads_accepted s h g o.events p o.leads in
      let up = reached_it (snapshot (clock h)) (clock g) (sym (done_by_ticks s h g p q) ∙ o.done) in
      let most = epoch_within s g q in
      let sooner = mul-le-mul_right {m = epoch g} {n = epoch h} s.last (omega (arith, most, e)) in
      inl (above (epoch h * s.last) (epoch g * s.last) s.last (number h) (number g) (clock h)
      (clock g) (base_is_by_fours s h p) (in_epoch s h p).ticks (in_epoch s g q).ticks up sooner
      ((in_epoch s g q).within k))
]
