-- From each history some events lead to one in which no grace period runs and one can begin.
use Rattle.std.proofs.Common.{◌≡◌, ◌+◌, ◌<◌, ◌≤◌, true, false}
use Rattle.std.proofs.Common.{◌⊎◌, List, [], ◌∷◌, ◌++◌, refl}
use Rattle.std.proofs.Common.{ap, arith, inl, inr}
use Rattle.std.specs.List.{list_any}
use Rattle.std.proofs.lemmas.Bool.{cases_Bool, cases_eq}
use Rattle.rcu_seq.specs.Numbers.{is_last, snapshot}
use Rattle.rcu_seq.specs.Tags.{last_epoch}
use Rattle.rcu_core.specs.Callbacks.{ends_barrier}
use Rattle.rcu_core.specs.History.{History, epoch, number, running}
use Rattle.rcu_core.specs.Progress.{SurelyLeads}
use Rattle.rcu_core.specs.Progress.{retires}
use Rattle.rcu_core.specs.Replies.{Size, AreAccepted}
use Rattle.rcu_core.specs.declared.event.Event.{Event}
use Rattle.rcu_core.specs.declared.event.Event.TheVariants.{Renumber}
use Rattle.rcu_core.proofs.Clocks.{clock}
use Rattle.rcu_core.proofs.Ending.{can_end, leads_on}
use Rattle.rcu_core.proofs.Finishing.{ended_clock, leads_accepted, leads_both}
use Rattle.rcu_core.proofs.Finishing.{not_last, renumbers_now, room_after, room_now}
use Rattle.rcu_core.proofs.Retiring.{none_of, retired}
use Rattle.rcu_core.proofs.Retiring.{retires_no_test}

-- some events, none of which is refused, end the running grace period, and renumber if the number
-- is the last
pub record Idles (s : Size) (h : History) : Type 0 where
  pub events : List Event
  pub reached : History
  pub leads : SurelyLeads s h events reached
  pub later : History
  pub is : reached ≡ later ++ h
  pub idle : running reached ≡ false
  pub below : number reached ≡ s.last → ⊥
  pub clock : clock reached ≤ clock h + 3
  pub no_test : list_any ends_barrier later ≡ false

ends_first : (s : Size) (h : History) → AreAccepted s h → is_last s.last ≡ true
    → (snapshot (number h) ≤ s.last) ⊎ (epoch h < last_epoch)
    → (g later : History) (events : List Event)
    → SurelyLeads s h events g
    → g ≡ later ++ h
    → list_any ends_barrier later ≡ false
    → running g ≡ false
    → clock g ≤ clock h + 3
    → (number g ≡ s.last → epoch g < last_epoch)
    → Idles s h
ends_first s h p l room g later events t is v r up next = elim (cases_eq (number g) s.last) [
  | inr n ↦ record {
    events = events;
    reached = g;
    leads = t;
    later = later;
    is = is;
    idle = r;
    below = n;
    clock = up;
    no_test = v;
  }
  | inl n ↦
      let u = renumbers_now s g r n l (next n) in record {
        events = events ++ Renumber ∷ [];
        reached = Renumber ∷ g;
        leads = leads_both s h g (Renumber ∷ g) events (Renumber ∷ []) t
            (leads_on s g Renumber [] (Renumber ∷ g) u refl);
        later = Renumber ∷ later;
        is = ap (λ (x : History). Renumber ∷ x) is;
        idle = r;
        below = not_last s g r l;
        clock = up;
        no_test = v;
      }
]

pub idles : (s : Size) (h : History) → AreAccepted s h → is_last s.last ≡ true
    → (snapshot (number h) ≤ s.last) ⊎ (epoch h < last_epoch) → Idles s h
idles s h p l room = elim (cases_Bool (running h)) [
  | inr r ↦
      ends_first s h p l room h [] [] refl refl refl r (omega arith) (room_now s h r room)
  | inl r ↦
      let o = can_end s h p r in
      let be = retired s o.events h o.reached o.each o.leads in
      let q = leads_accepted s h o.reached o.events p o.leads in
      let c = ended_clock s h o.reached p q r o.ended in
      ends_first s h p l room o.reached be.later o.events o.leads be.is
      (none_of retires ends_barrier be.later retires_no_test be.each) o.ended.idle
      (omega (arith, c)) (room_after s h o.reached r o.ended room)
]
