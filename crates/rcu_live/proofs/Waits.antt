-- Callbacks of the first epoch.
use Rattle.std.proofs.Common.{◌≡◌, ℕ, List, refl, sym, ◌∙◌, arith}
use Rattle.std.specs.Prelude.{All, IfSome, None, Option, Some}
use Rattle.std.proofs.lemmas.List.Elements.{All-weaker}
use Rattle.rcu_seq.specs.Seq.{Periods, number_of, tag_of}
use Rattle.rcu_seq.specs.declared.tag.Tag.{Tag}
use Rattle.rcu_cblist.specs.declared.items.Queued.{Queued}
use Rattle.rcu_state.specs.GpState as grace
use Rattle.rcu_live.specs.Engine.{HasWaited}

-- in the first epoch a callback that waited long enough is of that epoch
waited_in_first : (seq : Periods) (n : ℕ) (at : Tag) → seq.epoch ≡ 0 → n ≡ number_of seq
    → grace.HasWaited (tag_of seq) at → HasWaited n at
waited_in_first seq n at first is h =
    let epoch = h.0 in
    let zero : at.epoch ≡ 0 = omega (arith, first, epoch) in
    let least = h.1 (zero ∙ sym first) in (zero, omega (arith, least, is))

-- in the first epoch each callback that is handed out is of that epoch
pub waited_first : {X : Type 0} (seq : Periods) (n : ℕ) (calls : List (Queued X))
    → seq.epoch ≡ 0 → n ≡ number_of seq → All (λ call. grace.HasWaited (tag_of seq) call.at) calls
    → All (λ call. HasWaited n call.at) calls
waited_first seq n calls first is waited =
    All-weaker (λ call. grace.HasWaited (tag_of seq) call.at) (λ call. HasWaited n call.at)
    (λ call h. waited_in_first seq n call.at first is h) calls waited

-- so is one that is handed out alone
pub popped_first : {X : Type 0} (seq : Periods) (popped : Option (Queued X)) → seq.epoch ≡ 0
    → IfSome popped (λ call. grace.HasWaited (tag_of seq) call.at)
    → IfSome popped (λ call. HasWaited (number_of seq) call.at)
popped_first seq None first waited = tt
popped_first seq (Some call) first waited =
    waited_in_first seq (number_of seq) call.at first refl waited
