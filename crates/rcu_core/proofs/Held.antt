-- An open section loaded the version that it holds while that was current.
use Rattle.std.proofs.Common.{◌≡◌, ◌≢◌, ℕ, true, false, [], ◌∷◌, ◌++◌, Option, Some, ◌⊎◌, inl, inr}
use Rattle.std.proofs.Common.{⊎_elim, refl, sym, ap, ◌∙◌, subst, arith}
use Rattle.std.specs.Prelude.{◌==◌, ◌&&◌, nat_lt}
use Rattle.std.proofs.lemmas.Bool.{or_cases, or_parts, and_parts, true≢false, false_from_ne_true}
use Rattle.std.proofs.lemmas.Bool.Decides.{nat_tests, Decides-eqb}
use Rattle.rcu_seq.specs.declared.cookie.Cookie.{Cookie}
use Rattle.rcu_core.specs.History.{History, depth, opening, section}
use Rattle.rcu_core.specs.Replies.{Size, history_event, with_event}
use Rattle.rcu_core.specs.Runs.{Run, IsLegalRun, history, takes}
use Rattle.rcu_core.specs.declared.event.Event.{Event}
use Rattle.rcu_core.specs.declared.reply.Reply.{Reply}
use Rattle.rcu_core.specs.declared.reply.Reply.TheVariants as reply
use Rattle.rcu_core.specs.Stories.{Story, Replied, Publish, Load, run_of, current, publishes}
use Rattle.rcu_core.specs.Stories.{is_open, holds_version}

pub run_of_both : (s t : Story) → run_of (s ++ t) ≡ run_of s ++ run_of t
run_of_both [] t = refl
run_of_both (Replied e r ∷ s) t = ap (λ (l : Run). (e, r) ∷ l) (run_of_both s t)
run_of_both (Publish v ∷ s) t = run_of_both s t
run_of_both (Load c ∷ s) t = run_of_both s t

pub not_current : (v : ℕ) (s t : Story) → publishes v s ≡ false → current t ≢ v
    → current (s ++ t) ≢ v
not_current v [] t p n = n
not_current v (Replied e r ∷ s) t p n = not_current v s t p n
not_current v (Publish w ∷ s) t p n =
    λ (e : w ≡ v).
    true≢false (sym ((Decides-eqb w v).1 e) ∙ (or_parts (w == v) (publishes v s) p).0)
not_current v (Load c ∷ s) t p n = not_current v s t p n

with_event_is : (h : History) (e : Event) (r : Reply)
    → (with_event h e r ≡ h) ⊎ (with_event h e r ≡ history_event e r ∷ h)
with_event_is h e (reply.Fault f) = inl refl
with_event_is h e (reply.BarWaits n) = inl refl
with_event_is h e r = inr refl

opening_kept : (cpu : ℕ) (e : Event) (h : History) → nat_lt 0 (depth cpu h) ≡ true
    → opening cpu (e ∷ h) ≡ opening cpu h
opening_kept cpu e h o = grind (arith, nat_tests)

section_is : (cpu : ℕ) (h : History) → nat_lt 0 (depth cpu h) ≡ true
    → section cpu h ≡ Some (opening cpu h)
section_is cpu h o = rw o refl

section_kept : (cpu : ℕ) (e : Event) (r : Reply) (h : History) → nat_lt 0 (depth cpu h) ≡ true
    → nat_lt 0 (depth cpu (with_event h e r)) ≡ true
    → section cpu (with_event h e r) ≡ section cpu h
section_kept cpu e r h o p = ⊎_elim
    (λ (same : with_event h e r ≡ h). ap (λ (g : History). section cpu g) same)
    (λ (more : with_event h e r ≡ history_event e r ∷ h).
    section_is cpu (with_event h e r) p
    ∙ ap Some (ap (λ (g : History). opening cpu g) more ∙ opening_kept cpu (history_event e r) h o)
    ∙ sym (section_is cpu h o))
    (with_event_is h e r)

-- a processor that holds a version has an open section
pub open_of_held : (cpu v : ℕ) (s : Story) → holds_version cpu v s ≡ true → is_open cpu s ≡ true
open_of_held cpu v [] h = absurd (cc)
open_of_held cpu v (Replied e r ∷ s) h = (and_parts _ _ h).0
open_of_held cpu v (Publish w ∷ s) h = open_of_held cpu v s h
open_of_held cpu v (Load c ∷ s) h =
    ⊎_elim
    (λ (now : ((c == cpu) && (is_open cpu s && (current s == v))) ≡ true).
    (and_parts _ _ (and_parts _ _ now).1).0)
    (λ (old : holds_version cpu v s ≡ true). open_of_held cpu v s old) (or_cases _ _ h)

pub record Back (cpu v : ℕ) (now : Option History) (t : Story) : Type 0 where
  pub held : holds_version cpu v t ≡ true
  pub same : now ≡ section cpu (history (run_of t))

-- if a version was not current since, a section that holds it now held it then
pub held_back : (cpu v : ℕ) (s t : Story)
    → publishes v s ≡ false → current t ≢ v → holds_version cpu v (s ++ t) ≡ true
    → Back cpu v (section cpu (history (run_of (s ++ t)))) t
held_back cpu v [] t p n h = record { held = h; same = refl }
held_back cpu v (Replied e r ∷ s) t p n h =
    let parts = and_parts (is_open cpu (Replied e r ∷ s ++ t)) (holds_version cpu v (s ++ t)) h in
    let b = held_back cpu v s t p n parts.1 in
    record {
      held = b.held;
      same =
          section_kept cpu e r (history (run_of (s ++ t))) (open_of_held cpu v (s ++ t) parts.1)
          parts.0
          ∙ b.same;
    }
held_back cpu v (Publish w ∷ s) t p n h =
    held_back cpu v s t ((or_parts (w == v) (publishes v s) p).1) n h
held_back cpu v (Load c ∷ s) t p n h =
    ⊎_elim
    (λ (now : ((c == cpu) && (is_open cpu (s ++ t) && (current (s ++ t) == v))) ≡ true).
    absurd (not_current v s t p n
    ((Decides-eqb (current (s ++ t)) v).0 (and_parts _ _ (and_parts _ _ now).1).1)))
    (λ (old : holds_version cpu v (s ++ t) ≡ true). held_back cpu v s t p n old) (or_cases _ _ h)

abbrev pub Finish : Type 0
Finish =
    (size : Size) (later earlier : Run) (taking : Event) (cookie : Cookie) (cpu : ℕ)
    (opened : History)
    → takes taking ≡ true
    → IsLegalRun size
    ((Event.Poll cookie.number cookie.epoch, Reply.Polled true) ∷ later
    ++ (taking, Reply.Cookie cookie) ∷ earlier)
    → section cpu (history earlier) ≡ Some opened
    → section cpu (history (later ++ (taking, Reply.Cookie cookie) ∷ earlier)) ≢ Some opened

pub not_held : Finish
    → (size : Size) (later middle before : Story) (old new cpu : ℕ) (cookie : Cookie)
    (taking : Event)
    → takes taking ≡ true
    → old ≢ new
    → publishes old later ≡ false
    → publishes old middle ≡ false
    → IsLegalRun size
    (run_of (Replied (Event.Poll cookie.number cookie.epoch) (Reply.Polled true) ∷ later
    ++ Replied taking (Reply.Cookie cookie) ∷ (middle ++ Publish new ∷ before)))
    → holds_version cpu old
    (Replied (Event.Poll cookie.number cookie.epoch) (Reply.Polled true) ∷ later
    ++ Replied taking (Reply.Cookie cookie) ∷ (middle ++ Publish new ∷ before))
    ≡ false
not_held finish size later middle before old new cpu cookie taking t apart unlater unmiddle legal =
    let m : Story = middle ++ Publish new ∷ before in
    let taken : Story = Replied taking (Reply.Cookie cookie) ∷ m in
    let s : Story = later ++ taken in
    let gone : current m ≢ old =
    not_current old middle (Publish new ∷ before) unmiddle (λ e. apart (sym e)) in
    false_from_ne_true _
    (λ
    (h : (is_open cpu (Replied (Event.Poll cookie.number cookie.epoch) (Reply.Polled true) ∷ s)
    && holds_version cpu old s)
    ≡ true).
    let b = held_back cpu old later taken unlater gone (and_parts _ _ h).1 in
    let both = and_parts (is_open cpu taken) (holds_version cpu old m) b.held in
    let was = open_of_held cpu old m both.1 in
    let same : section cpu (history (run_of s)) ≡ section cpu (history (run_of m)) =
    b.same ∙ section_kept cpu taking (Reply.Cookie cookie) (history (run_of m)) was both.0 in
    let first : section cpu (history (run_of m)) ≡ Some (opening cpu (history (run_of m))) =
    section_is cpu (history (run_of m)) was in
    let split : run_of s ≡ run_of later ++ run_of taken = run_of_both later taken in
    finish size (run_of later) (run_of m) taking cookie cpu (opening cpu (history (run_of m))) t
    (subst
    (λ (l : Run). IsLegalRun size ((Event.Poll cookie.number cookie.epoch, Reply.Polled true) ∷ l))
    split legal)
    first (ap (λ (l : Run). section cpu (history l)) (sym split) ∙ same ∙ first))
