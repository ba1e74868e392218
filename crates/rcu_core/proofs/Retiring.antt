-- Events that retire processors one by one: the history that they lead to extends the one that they
-- began with, and no event of another kind is among them.
use Rattle.std.proofs.Common.{◌≡◌, ◌≢◌, ℕ, Bool, true, false}
use Rattle.std.proofs.Common.{List, [], ◌∷◌, ◌++◌, Option, Some, None, refl, sym}
use Rattle.std.proofs.Common.{ap, ◌∙◌, subst, append_assoc, inl}
use Rattle.std.specs.List.{list_all, list_any}
use Rattle.std.proofs.lemmas.Bool.{and_parts, or_parts}
use Rattle.rcu_seq.specs.declared.fault.Fault.{Fault}
use Rattle.rcu_core.specs.Callbacks.{ends_barrier}
use Rattle.rcu_core.specs.History.{History, departs, renumbers}
use Rattle.rcu_core.specs.Progress.{SurelyLeads}
use Rattle.rcu_core.specs.Progress.{retires}
use Rattle.rcu_core.specs.Replies.{Size, accepted_reply, answer, fault_in, or_fault}
use Rattle.rcu_core.specs.Replies.{with_event}
use Rattle.rcu_core.specs.Situation.{situation}
use Rattle.rcu_core.specs.declared.event.Event.{Event}
use Rattle.rcu_core.specs.declared.event.Event.TheVariants.{Exit, End, Idle, Renumber}
use Rattle.rcu_core.specs.declared.event.Event.TheVariants.{BarTest, Scan}
use Rattle.rcu_core.specs.declared.reply.Reply.{Reply}
use Rattle.rcu_core.specs.declared.reply.Reply.TheVariants as reply

-- the history that these events lead to extends the one that they began with
pub record Behind (test : Event → Bool) (h g : History) : Type 0 where
  pub later : History
  pub is : g ≡ later ++ h
  pub each : list_all test later ≡ true

answered : (o : Option Fault) (x : Reply) → ((f : Fault) → or_fault o x ≢ reply.Fault f)
    → or_fault o x ≡ x
answered None x n = refl
answered (Some f) x n = absurd (n f refl)

first_is : (s : Size) (h g : History) (e : Event) (events : List Event)
    → ((x : Reply) → x ≡ accepted_reply s (situation h) e → with_event h e x ≡ e ∷ h)
    → SurelyLeads s h (e ∷ events) g → SurelyLeads s (e ∷ h) events g
first_is s h g e events stands t =
    let at = t (answer s (situation h) e) (inl refl) in
    subst (λ x. SurelyLeads s x events g)
    (stands (answer s (situation h) e)
    (answered (fault_in s (situation h) e) (accepted_reply s (situation h) e) at.0))
    at.1

pub retired_one : (s : Size) (h g : History) (e : Event) (events : List Event) → retires e ≡ true
    → SurelyLeads s h (e ∷ events) g → SurelyLeads s (e ∷ h) events g
retired_one s h g (Exit c) events i t =
    first_is s h g (Exit c) events (λ x e. ap (λ r. with_event h (Exit c) r) e) t
retired_one s h g (Idle c) events i t =
    first_is s h g (Idle c) events (λ x e. ap (λ r. with_event h (Idle c) r) e) t
retired_one s h g (Scan c) events i t =
    first_is s h g (Scan c) events (λ x e. ap (λ r. with_event h (Scan c) r) e) t
retired_one s h g End events i t =
    first_is s h g End events (λ x e. ap (λ r. with_event h End r) e) t
retired_one s h g e events i t = absurd (cc)

all_push : (test : Event → Bool) (xs : History) (e : Event) → list_all test xs ≡ true
    → test e ≡ true → list_all test (xs ++ e ∷ []) ≡ true
all_push test [] e a i = rw i refl
all_push test (x ∷ xs) e a i =
    let o = and_parts (test x) (list_all test xs) a in
    rw (o.0, all_push test xs e o.1 i) refl

pub retired : (s : Size) (events : List Event) (h g : History) → list_all retires events ≡ true
    → SurelyLeads s h events g → Behind retires h g
retired s [] h g a t = record { later = []; is = t; each = refl }
retired s (e ∷ events) h g a t =
    let o = and_parts (retires e) (list_all retires events) a in
    let rest = retired s events (e ∷ h) g o.1 (retired_one s h g e events o.0 t) in
    record {
      later = rest.later ++ e ∷ [];
      is = rest.is ∙ sym (append_assoc rest.later (e ∷ []) h);
      each = all_push retires rest.later e rest.each o.0;
    }

-- no event of them is of another kind
pub none_of : (kind test : Event → Bool) (xs : History)
    → ((e : Event) → kind e ≡ true → test e ≡ false)
    → list_all kind xs ≡ true
    → list_any test xs ≡ false
none_of kind test [] f a = refl
none_of kind test (x ∷ xs) f a =
    let o = and_parts (kind x) (list_all kind xs) a in
    rw (f x o.0, none_of kind test xs f o.1) refl

pub retires_no_renumbering : (e : Event) → retires e ≡ true → renumbers e ≡ false
retires_no_renumbering Renumber i = absurd (cc)
retires_no_renumbering e i = refl

pub retires_no_departure : (c : ℕ) (e : Event) → retires e ≡ true → departs c e ≡ false
retires_no_departure c (Exit d) i = refl
retires_no_departure c (Idle d) i = refl
retires_no_departure c (Scan d) i = refl
retires_no_departure c End i = refl
retires_no_departure c e i = absurd (cc)

pub retires_no_test : (e : Event) → retires e ≡ true → ends_barrier e ≡ false
retires_no_test BarTest i = absurd (cc)
retires_no_test e i = refl

pub none_in_both : (test : Event → Bool) (xs ys : History) → list_any test xs ≡ false
    → list_any test ys ≡ false → list_any test (xs ++ ys) ≡ false
none_in_both test [] ys i j = j
none_in_both test (x ∷ xs) ys i j =
    let o = or_parts (test x) (list_any test xs) i in
    rw (o.0, none_in_both test xs ys o.1 j) refl
