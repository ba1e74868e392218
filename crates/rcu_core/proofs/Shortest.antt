-- No fewer events that retire processors end a grace period than are left.
use Rattle.std.proofs.Common.{◌≡◌, ◌≢◌, ℕ, ◌+◌, ◌<◌, ◌≤◌, Bool, true, false, inl, inr, List, []}
use Rattle.std.proofs.Common.{◌∷◌, ◌⊎◌, Option, Some, None, length, refl, sym, ap, ◌∙◌, arith, cond}
use Rattle.std.specs.List.{list_all}
use Rattle.std.proofs.lemmas.Bool.{and_parts, cases_Bool}
use Rattle.std.proofs.lemmas.Bool.Decides.{nat_tests}
use Rattle.rcu_seq.specs.declared.fault.Fault.{Fault}
use Rattle.rcu_core.specs.History.{History, awaits, depth, is_idle, running}
use Rattle.rcu_core.specs.Progress.{EndsBy, SurelyLeads, retires, steps_left, steps_of}
use Rattle.rcu_core.specs.Replies.{Size, accepted_reply, answer, fault_in, how_many, or_fault}
use Rattle.rcu_core.specs.Replies.{AreAccepted}
use Rattle.rcu_core.specs.Runs.{IsLegalRun, Run, history}
use Rattle.rcu_core.specs.Situation.{situation}
use Rattle.rcu_core.specs.declared.event.Event.{Event}
use Rattle.rcu_core.specs.declared.event.Event.TheVariants.{End, Exit, Idle, Scan}
use Rattle.rcu_core.specs.declared.reply.Reply.{Reply}
use Rattle.rcu_core.specs.declared.reply.Reply.TheVariants as reply
use Rattle.rcu_core.proofs.Covered.{sum_zero}
use Rattle.rcu_core.proofs.Ending.{each_zero, exit_elsewhere, idle_elsewhere, none_left}
use Rattle.rcu_core.proofs.Ending.{scan_elsewhere}
use Rattle.rcu_core.proofs.Lost.{sums_are}
use Rattle.rcu_core.proofs.Once.{sum_below}
use Rattle.rcu_core.proofs.Readers.{possible}
use Rattle.rcu_core.proofs.Retiring.{retired_one}
use Rattle.rcu_core.proofs.StepCounts.{exit_counts_one, idle_counts_one, scan_counts_one, way_is}

unrefused : (o : Option Fault) (x : Reply) → ((f : Fault) → or_fault o x ≢ reply.Fault f)
    → o ≡ None
unrefused None x n = refl
unrefused (Some f) x n = absurd (n f refl)

-- the end is accepted only if one step is left
pub one_left : (s : Size) (h : History) → fault_in s (situation h) End ≡ None → steps_left s h ≡ 1
one_left s h p =
    let none : how_many s (λ c. awaits c h) ≡ 0 = grind (arith, nat_tests) in
    let count = sums_are s.cpus (λ c. cond {A = ℕ} (awaits c h) 1 0)
    (λ c. cond (awaits c h) 1 0) (λ c. refl) in
    let each = each_zero s.cpus (λ c. cond {A = ℕ} (awaits c h) 1 0) (sym count ∙ none) in
    let parts : sum_below s.cpus (steps_of h) ≡ 0 =
    sum_zero s.cpus (steps_of h)
    (λ c l.
    ap (λ b. cond b (depth c h + cond (is_idle c h) 1 2) 0) (none_left (awaits c h) (each c l)))
    in
    let sum = sums_are s.cpus (steps_of h) (steps_of h) (λ c. refl) in
    omega (arith, sum, parts)

-- an event of one processor takes at most one step
at_most_one : (s : Size) (h : History) (c : ℕ) (e : Event) → c < s.cpus
    → ((d : ℕ) → d ≢ c → steps_of (e ∷ h) d ≡ steps_of h d)
    → (awaits c h ≡ true → steps_left s (e ∷ h) + 1 ≡ steps_left s h)
    → steps_left s h ≤ steps_left s (e ∷ h) + 1
at_most_one s h c e l others one = elim (cases_Bool (awaits c h)) [
  | inl a ↦ let q = one a in omega (arith, q)
  | inr a ↦
      let w = way_is s h (e ∷ h) c l others in
      let z : steps_of h c ≡ 0 =
      ap (λ b. cond b (depth c h + cond (is_idle c h) 1 2) 0) a in
      omega (arith, w, z)
]

retired_step : (s : Size) (e : Event) (h : History) → AreAccepted s (e ∷ h) → retires e ≡ true
    → (e ≢ End)
    → (steps_left s h ≤ steps_left s (e ∷ h) + 1) × (running (e ∷ h) ≡ running h)
retired_step s (Exit c) h p i n =
    let q = p.0 in
    let l : c < s.cpus = grind (arith, nat_tests) in
    (at_most_one s h c (Exit c) l (exit_elsewhere h c) (exit_counts_one s h c p), refl)
retired_step s (Idle c) h p i n =
    let q = p.0 in
    let l : c < s.cpus = grind (arith, nat_tests) in
    (at_most_one s h c (Idle c) l (idle_elsewhere h c) (idle_counts_one s h c p), refl)
retired_step s (Scan c) h p i n =
    let q = p.0 in
    let l : c < s.cpus = grind (arith, nat_tests) in
    (at_most_one s h c (Scan c) l (scan_elsewhere h c) (scan_counts_one s h c p), refl)
retired_step s End h p i n = absurd (n refl)
retired_step s e h p i n = absurd (cc)

is_end : (e : Event) → (e ≡ End) ⊎ (e ≢ End)
is_end End = inl refl
is_end e = inr (λ i. absurd (cc))

no_fewer : (s : Size) (events : List Event) (h g : History) → AreAccepted s h → running h ≡ true
    → running g ≡ false
    → list_all retires events ≡ true
    → SurelyLeads s h events g
    → steps_left s h ≤ length events
no_fewer s [] h g p r i a t = let same = ap (λ (x : History). running x) t in absurd (cc)
no_fewer s (e ∷ events) h g p r i a t =
    let o = and_parts (retires e) (list_all retires events) a in
    let first = t (answer s (situation h) e) (inl refl) in
    let taken = unrefused (fault_in s (situation h) e) (accepted_reply s (situation h) e) first.0 in
    elim (is_end e) [
      | inl k ↦
          let one = one_left s h (ap (λ x. fault_in s (situation h) x) (sym k) ∙ taken) in
          omega (arith, one)
      | inr k ↦
          let step = retired_step s e h (taken, p) o.0 k in
          let less = step.0 in
          let rest = no_fewer s events (e ∷ h) g (taken, p) (step.1 ∙ r) i o.1
          (retired_one s h g e events o.0 t) in
          omega (arith, less, rest)
    ]

pub shortest : (s : Size) (run : Run) (n : ℕ) → IsLegalRun s run → running (history run) ≡ true
    → EndsBy retires s (history run) n → steps_left s (history run) ≤ n
shortest s run n l r o =
    let least = no_fewer s o.events (history run) o.reached (possible s run l) r o.ended.idle o.each
    o.leads in
    let many = o.many in
    omega (arith, least, many)
