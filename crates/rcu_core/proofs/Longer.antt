-- Runs made longer by legal replies.
use Rattle.std.proofs.Common.{◌≡◌, ◌≢◌, ◌∙◌, ℕ, List, [], ◌∷◌, Some, length, slice_get, refl, sym}
use Rattle.std.proofs.Common.{subst, ap, zero, suc}
use Rattle.rcu_seq.specs.declared.fault.Fault.{Fault}
use Rattle.rcu_core.specs.Progress.{SurelyLeads}
use Rattle.rcu_core.specs.declared.reply.Reply.TheVariants as reply
use Rattle.rcu_core.specs.Core.{Represents, State, size_at}
use Rattle.rcu_core.specs.History.{History}
use Rattle.rcu_core.specs.Links.{onto}
use Rattle.rcu_core.specs.Replies.{Size, with_event}
use Rattle.rcu_core.specs.Runs.{IsLegalRun, Leads, Run, RunsLegally, history}
use Rattle.rcu_core.specs.declared.event.Event.{Event}
use Rattle.rcu_core.specs.declared.reply.Reply.{Reply}

-- a legal run stays one
pub longer_is_legal : (s : Size) (run : Run) (events : List Event) (replies : List Reply)
    (g : History)
    → IsLegalRun s run
    → Leads s (history run) events replies g
    → IsLegalRun s (onto events replies run)
longer_is_legal s run [] [] g l t = l
longer_is_legal s run (e ∷ events) (r ∷ replies) g l t =
    longer_is_legal s ((e, r) ∷ run) events replies g (t.0, l) t.1
longer_is_legal s run [] (r ∷ replies) g l t = l
longer_is_legal s run (e ∷ events) [] g l t = l

-- and has the history that the replies lead to
pub longer_history : (s : Size) (run : Run) (events : List Event) (replies : List Reply)
    (g : History)
    → Leads s (history run) events replies g
    → history (onto events replies run) ≡ g
longer_history s run [] [] g t = sym t
longer_history s run (e ∷ events) (r ∷ replies) g t =
    longer_history s ((e, r) ∷ run) events replies g t.1
longer_history s run [] (r ∷ replies) g t = absurd t
longer_history s run (e ∷ events) [] g t = absurd t

-- each event has its reply
pub one_each : (s : Size) (h g : History) (events : List Event) (replies : List Reply)
    → Leads s h events replies g → length replies ≡ length events
one_each s h g [] [] t = refl
one_each s h g (e ∷ events) (r ∷ replies) t =
    ap (λ n. suc n) (one_each s (with_event h e r) g events replies t.1)
one_each s h g [] (r ∷ replies) t = absurd t
one_each s h g (e ∷ events) [] t = absurd t

-- the events that a core ran, from the history of a run
leads_from : (v w : State ℕ) (h : History) (run : Run) (events : List Event) (replies : List Reply)
    → (ran : RunsLegally v h events replies w) → history run ≡ h
    → Leads (size_at v) (history run) events replies ran.reached
leads_from v w h run events replies ran is =
    subst (λ k. Leads (size_at v) k events replies ran.reached) (sym is) ran.leads

pub ran_legally : (v w : State ℕ) (h : History) (run : Run) (events : List Event)
    (replies : List Reply)
    → RunsLegally v h events replies w
    → IsLegalRun (size_at v) run
    → history run ≡ h
    → IsLegalRun (size_at v) (onto events replies run)
ran_legally v w h run events replies ran l is =
    longer_is_legal (size_at v) run events replies ran.reached l
    (leads_from v w h run events replies ran is)

pub stands_there : (v w : State ℕ) (h : History) (run : Run) (events : List Event)
    (replies : List Reply)
    → RunsLegally v h events replies w
    → history run ≡ h
    → Represents w (history (onto events replies run))
stands_there v w h run events replies ran is =
    let leads = leads_from v w h run events replies ran is in
    subst (λ k. Represents w k)
    (sym (longer_history (size_at v) run events replies ran.reached leads)) ran.has

pub ran_one_each : (v w : State ℕ) (h : History) (events : List Event) (replies : List Reply) →
    RunsLegally v h events replies w → length replies ≡ length events
ran_one_each v w h events replies ran = one_each (size_at v) h ran.reached events replies ran.leads

-- the events that a new core ran
pub first_ran_legally : (v w : State ℕ) (events : List Event) (replies : List Reply) →
    RunsLegally v [] events replies w → IsLegalRun (size_at v) (onto events replies [])
first_ran_legally v w events replies ran = ran_legally v w [] [] events replies ran record {} refl

-- events that surely lead on lead a core there, and it refuses none
same_end : (s : Size) (h g k : History) (events : List Event) (replies : List Reply)
    → Leads s h events replies g → SurelyLeads s h events k → g ≡ k
same_end s h g k [] [] t u = t ∙ sym u
same_end s h g k (e ∷ events) (r ∷ replies) t u =
    same_end s (with_event h e r) g k events replies t.1 (u r t.0).1
same_end s h g k [] (r ∷ replies) t u = absurd t
same_end s h g k (e ∷ events) [] t u = absurd t

none_refused : (s : Size) (h g k : History) (events : List Event) (replies : List Reply) (at : ℕ)
    (fault : Fault)
    → Leads s h events replies g
    → SurelyLeads s h events k
    → slice_get replies at ≢ Some (reply.Fault fault)
none_refused s h g k [] [] at fault t u i = absurd (cc)
none_refused s h g k (e ∷ events) (r ∷ replies) zero fault t u i =
    (u r t.0).0 fault (value_of i)
  where
    value_of : {x y : Reply} → Some x ≡ Some y → x ≡ y
    value_of i = cc
none_refused s h g k (e ∷ events) (r ∷ replies) (suc at) fault t u i =
    none_refused s (with_event h e r) g k events replies at fault t.1 (u r t.0).1 i
none_refused s h g k [] (r ∷ replies) at fault t u i = absurd t
none_refused s h g k (e ∷ events) [] at fault t u i = absurd t

pub led_there : (v w : State ℕ) (h g : History) (events : List Event) (replies : List Reply)
    → RunsLegally v h events replies w → SurelyLeads (size_at v) h events g → Represents w g
led_there v w h g events replies ran u =
    subst (λ k. Represents w k) (same_end (size_at v) h ran.reached g events replies ran.leads u)
    ran.has

pub led_unrefused : (v w : State ℕ) (h g : History) (events : List Event) (replies : List Reply)
    (at : ℕ) (fault : Fault)
    → RunsLegally v h events replies w
    → SurelyLeads (size_at v) h events g
    → slice_get replies at ≢ Some (reply.Fault fault)
led_unrefused v w h g events replies at fault ran u =
    none_refused (size_at v) h ran.reached g events replies at fault ran.leads u
