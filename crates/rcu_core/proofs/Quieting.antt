-- A processor becomes quiet and stays so, and the number of remaining steps does not grow.
use Rattle.std.proofs.Common.{◌≡◌, ◌≢◌, ℕ, zero, suc, ◌+◌, ◌-◌, ◌≤◌, Bool, true, false, not, ◌&&◌}
use Rattle.std.proofs.Common.{◌||◌, inl, inr, List, [], ◌∷◌, ◌++◌, Option, Some, None, length, refl}
use Rattle.std.proofs.Common.{sym, ap, ◌∙◌, subst, arith, cond, eqb, ne_eqb, slice_get}
use Rattle.std.specs.List.{range_with_len, list_any}
use Rattle.std.proofs.lemmas.Bool.{and_from, cases_Bool, eqb-true, or_parts}
use Rattle.std.proofs.lemmas.Bool.Decides.{nat_tests}
use Rattle.rcu_seq.specs.Histories.{latest}
use Rattle.rcu_seq.specs.Tags.{same_tag}
use Rattle.rcu_seq.specs.declared.tag.Tag.{Tag}
use Rattle.rcu_seq.proofs.TagLemmas.{same_tag-Decides}
use Rattle.rcu_report.specs.declared.batch.Report.{Report}
use Rattle.rcu_core.specs.History.{History, awaits, begins, depth, is_heard, is_idle, is_of, noted}
use Rattle.rcu_core.specs.History.{online, report_at, reports_made, running, tag_now}
use Rattle.rcu_core.specs.Progress.{HasReported, IsQuiet, steps_left, steps_of, SurelyLeads, helps}
use Rattle.rcu_core.specs.Progress.{hinders, how_often}
use Rattle.rcu_core.specs.Replies.{Size, fault_in, AreAccepted}
use Rattle.rcu_core.specs.Situation.{situation}
use Rattle.rcu_core.specs.declared.event.Event.{Event}
use Rattle.rcu_core.specs.declared.event.Event.TheVariants.{Enter, Exit, Note, Quiesce, Online}
use Rattle.rcu_core.specs.declared.event.Event.TheVariants.{Offline, Begin, End, Renumber, Idle}
use Rattle.rcu_core.specs.declared.event.Event.TheVariants.{Wake, Scan}
use Rattle.rcu_core.proofs.Ending.{after_arrival, after_departure, awaited_is_online, each_zero}
use Rattle.rcu_core.proofs.Ending.{ends_now, leads_on, no_part}
use Rattle.rcu_core.proofs.StepCounts.{enter_counts_one, exit_counts_one, idle_counts_one}
use Rattle.rcu_core.proofs.StepCounts.{scan_counts_one, wake_counts_one}
use Rattle.rcu_core.proofs.Lost.{sums_are}
use Rattle.rcu_core.proofs.Once.{sum_below}
use Rattle.rcu_core.proofs.Kept.{Turns, end_counts, enter_counts, exit_counts, turns}
use Rattle.rcu_core.proofs.Shrinking.{shrinks_step, sums_le}
use Rattle.rcu_core.proofs.Writes.{eqb_self}

pub quiet_by_idling : (h : History) (c : ℕ) → IsQuiet c (Idle c ∷ h)
quiet_by_idling h c = inl (ap (λ b. cond b true (is_idle c h)) (eqb_self c))

pub noted_by_noting : (h : History) (c : ℕ) → noted c (Note c ∷ h) ≡ tag_now h
noted_by_noting h c = ap (λ b. cond b (tag_now h) (noted c h)) (eqb_self c)

-- the report that a quiescent state makes is at the end
at_the_end : (xs : List Report) (r : Report) → slice_get (xs ++ r ∷ []) (length xs) ≡ Some r
at_the_end [] r = refl
at_the_end (x ∷ xs) r = at_the_end xs r

pub placed_there : (xs : List Report) (r : Report)
    → report_at (length xs + 1) (xs ++ r ∷ []) ≡ Some r
placed_there xs r =
    let i : eqb (length xs + 1) 0 ≡ false = above (length xs) in
    ap (λ b. cond b None (slice_get (xs ++ r ∷ []) (length xs + 1 - 1))) i
    ∙ ap (λ k. slice_get (xs ++ r ∷ []) k) (one_back (length xs)) ∙ at_the_end xs r
  where
    above : (n : ℕ) → eqb (n + 1) 0 ≡ false
    above n = grind (arith, nat_tests)

    one_back : (n : ℕ) → n + 1 - 1 ≡ n
    one_back n = omega arith

same_tag_self : (t u : Tag) → t ≡ u → same_tag t u ≡ true
same_tag_self t u e = (same_tag-Decides t u).1 e

pub quiet_by_reporting : (h : History) (c : ℕ) → noted c h ≡ tag_now h
    → HasReported c (Quiesce c ∷ h)
quiet_by_reporting h c e =
    let r : Report = record { cpu = c; tag = noted c h } in (
      length (reports_made h) + 1,
      ap (λ o. is_of c (tag_now h) o) (placed_there (reports_made h) r)
          ∙ and_from (eqb c c) (same_tag (noted c h) (tag_now h)) (eqb_self c)
          (same_tag_self (noted c h) (tag_now h) e),
    )

-- a report that was made stays where it is
stays_at : (xs : List Report) (r x : Report) (k : ℕ) → slice_get xs k ≡ Some x
    → slice_get (xs ++ r ∷ []) k ≡ Some x
stays_at [] r x k e = absurd (cc)
stays_at (y ∷ xs) r x zero e = e
stays_at (y ∷ xs) r x (suc k) e = stays_at xs r x k e

is_of_stays : (c : ℕ) (t : Tag) (o p : Option Report) → ((x : Report) → o ≡ Some x → p ≡ Some x)
    → is_of c t o ≡ true → is_of c t p ≡ true
is_of_stays c t None p f i = absurd (cc)
is_of_stays c t (Some x) p f i = rw (f x refl) i

reported_stays : (c k : ℕ) (t : Tag) (xs : List Report) (r : Report)
    → is_of c t (report_at k xs) ≡ true → is_of c t (report_at k (xs ++ r ∷ [])) ≡ true
reported_stays c k t xs r i =
    is_of_stays c t (report_at k xs) (report_at k (xs ++ r ∷ [])) (place (eqb k 0)) i
  where
    place : (b : Bool) (x : Report) → cond b None (slice_get xs (k - 1)) ≡ Some x
        → cond b None (slice_get (xs ++ r ∷ []) (k - 1)) ≡ Some x
    place true x e = absurd (cc)
    place false x e = stays_at xs r x (k - 1) e

reported_step : (s : Size) (c : ℕ) (e : Event) (h : History) → fault_in s (situation h) e ≡ None
    → Turns h → e ≢ Begin → awaits c (e ∷ h) ≡ true → HasReported c h → HasReported c (e ∷ h)
reported_step s c Begin h p t n i o = absurd (n refl)
reported_step s c End h p t n i o =
    let u = end_counts h in let b = t.begins_le in absurd (grind (arith, nat_tests))
reported_step s c Renumber h p t n i o = absurd (grind (arith, nat_tests))
reported_step s c (Quiesce d) h p t n i o = (
  o.0,
  reported_stays c o.0 (tag_now h) (reports_made h) (record { cpu = d; tag = noted d h }) o.1,
)
reported_step s c e h p t n i o = (o.0, o.1)

pub quiet_kept : (s : Size) (h : History) (e : Event) (c : ℕ) → AreAccepted s (e ∷ h) → e ≢ Begin
    → awaits c (e ∷ h) ≡ true → HasReported c h → HasReported c (e ∷ h)
quiet_kept s h e c p n i o = reported_step s c e h p.0 (turns s h p.1) n i o

-- the part of a processor is no longer
no_longer : (a b i j : Bool) (m n : ℕ) → (a ≡ true → b ≡ true) → (a ≡ true → m ≤ n)
    → (a ≡ true → j ≡ true → i ≡ true) → cond a (m + cond i 1 2) 0 ≤ cond b (n + cond j 1 2) 0
no_longer false b i j m n f g k = omega arith
no_longer true false i j m n f g k = absurd (let x = f refl in cc)
no_longer true true true true m n f g k = let l = g refl in omega (arith, l)
no_longer true true true false m n f g k = let l = g refl in omega (arith, l)
no_longer true true false true m n f g k = absurd (let x = k refl refl in cc)
no_longer true true false false m n f g k = let l = g refl in omega (arith, l)

-- an idle processor is not the one that arrives
arrives_elsewhere : (s : Size) (c d : ℕ) (h : History)
    → fault_in s (situation h) (Online d) ≡ None → online c h ≡ true → is_idle c h ≡ true
    → cond (eqb d c) false (is_idle c h) ≡ true
arrives_elsewhere s c d h p o i = elim (cases_Bool (eqb d c)) [
  | inl e ↦
      let q : online d h ≡ false = grind (arith, nat_tests) in
      let same = ap (λ k. online k h) (eqb-true d c e) in absurd (cc)
  | inr e ↦ rw e i
]

exits_less : (c d : ℕ) (h : History) → depth c (Exit d ∷ h) ≤ depth c h
exits_less c d h = let n = exit_counts c d h in omega (arith, n)

enters_elsewhere : (c d : ℕ) (h : History) → (d ≡ c → ⊥) → depth c (Enter d ∷ h) ≤ depth c h
enters_elsewhere c d h n =
    let i = enter_counts c d h in
    let none : cond {A = ℕ} (eqb d c) 1 0 ≡ 0 = ap (λ b. cond {A = ℕ} b 1 0) (ne_eqb d c n) in
    omega (arith, i, none)

part_step : (s : Size) (c : ℕ) (e : Event) (h : History) → fault_in s (situation h) e ≡ None
    → Turns h
    → (awaits c h ≡ true → online c h ≡ true)
    → e ≢ Begin
    → ((d : ℕ) → awaits d h ≡ true → e ≢ Enter d)
    → ((d : ℕ) → awaits d h ≡ true → e ≢ Wake d)
    → steps_of (e ∷ h) c ≤ steps_of h c
part_step s c Begin h p t o n m w = absurd (n refl)
part_step s c (Enter d) h p t o n m w =
    no_longer (awaits c h) (awaits c h) (is_idle c h) (is_idle c h) (depth c (Enter d ∷ h))
    (depth c h) (λ i. i)
    (λ i. enters_elsewhere c d h (λ e. m d (subst (λ k. awaits k h ≡ true) (sym e) i) refl))
    (λ i j. j)
part_step s c (Wake d) h p t o n m w =
    no_longer (awaits c h) (awaits c h) (is_idle c (Wake d ∷ h)) (is_idle c h) (depth c h)
    (depth c h)
    (λ i. i) (λ i. omega arith)
    (λ i j.
    rw (ne_eqb d c (λ e. w d (subst (λ k. awaits k h ≡ true) (sym e) i) refl)) j)
part_step s c (Exit d) h p t o n m w =
    no_longer (awaits c h) (awaits c h) (is_idle c h) (is_idle c h) (depth c (Exit d ∷ h))
    (depth c h) (λ i. i) (λ i. exits_less c d h) (λ i j. j)
part_step s c (Idle d) h p t o n m w =
    no_longer (awaits c h) (awaits c h) (is_idle c (Idle d ∷ h)) (is_idle c h) (depth c h)
    (depth c h) (λ i. i) (λ i. omega arith) (λ i j. after_arrival (eqb d c) (is_idle c h) j)
part_step s c (Online d) h p t o n m w =
    no_longer (awaits c h) (awaits c h) (is_idle c (Online d ∷ h)) (is_idle c h) (depth c h)
    (depth c h) (λ i. i) (λ i. omega arith) (λ i j. arrives_elsewhere s c d h p (o i) j)
part_step s c (Offline d) h p t o n m w =
    no_longer (awaits c (Offline d ∷ h)) (awaits c h) (is_idle c (Offline d ∷ h)) (is_idle c h)
    (depth c h) (depth c h) (shrinks_step s c (Offline d) h p t n) (λ i. omega arith)
    (λ i j. after_departure (running h) (online c (latest begins h)) (eqb d c)
    (is_heard c (tag_now h) h) (is_idle c h) i j)
part_step s c End h p t o n m w =
    no_longer (awaits c (End ∷ h)) (awaits c h) (is_idle c h) (is_idle c h) (depth c h) (depth c h)
    (shrinks_step s c End h p t n) (λ i. omega arith) (λ i j. j)
part_step s c Renumber h p t o n m w =
    no_longer (awaits c (Renumber ∷ h)) (awaits c h) (is_idle c h) (is_idle c h) (depth c h)
    (depth c h) (shrinks_step s c Renumber h p t n) (λ i. omega arith) (λ i j. j)
part_step s c e h p t o n m w =
    no_longer (awaits c (e ∷ h)) (awaits c h) (is_idle c h) (is_idle c h) (depth c h) (depth c h)
    (shrinks_step s c e h p t n) (λ i. omega arith) (λ i j. j)

pub no_longer_way : (s : Size) (h : History) (e : Event) → AreAccepted s (e ∷ h) → e ≢ Begin
    → ((c : ℕ) → awaits c h ≡ true → e ≢ Enter c) → ((c : ℕ) → awaits c h ≡ true → e ≢ Wake c)
    → steps_left s (e ∷ h) ≤ steps_left s h
no_longer_way s h e p n m w =
    let l = sums_le (steps_of (e ∷ h)) (steps_of h) (range_with_len 0 s.cpus)
    (λ c. part_step s c e h p.0 (turns s h p.1) (awaited_is_online s c h p.1) n m w) in
    omega (arith, l)

-- one event: the remaining steps, and the steps that it took
stays_way : (s : Size) (h : History) (e : Event) → AreAccepted s (e ∷ h) → e ≢ Begin
    → ((c : ℕ) → awaits c h ≡ true → e ≢ Enter c)
    → ((c : ℕ) → awaits c h ≡ true → e ≢ Wake c)
    → steps_left s (e ∷ h) + 0 ≤ steps_left s h + 0
stays_way s h e p n m w = let l = no_longer_way s h e p n m w in omega (arith, l)

helped : (s : Size) (h : History) (c : ℕ) (e : Event) → AreAccepted s (e ∷ h)
    → (b : Bool)
    → awaits c h ≡ b
    → (awaits c h ≡ true → steps_left s (e ∷ h) + 1 ≡ steps_left s h)
    → steps_left s (e ∷ h) ≤ steps_left s h
    → steps_left s (e ∷ h) + cond b 1 0 ≤ steps_left s h + 0
helped s h c e p true i one le = let q = one i in omega (arith, q)
helped s h c e p false i one le = omega (arith, le)

hindered : (s : Size) (h : History) (c : ℕ) (e : Event) → AreAccepted s (e ∷ h)
    → (b : Bool)
    → awaits c h ≡ b
    → (awaits c h ≡ true → steps_left s (e ∷ h) ≡ steps_left s h + 1)
    → (awaits c h ≡ false → steps_left s (e ∷ h) ≤ steps_left s h)
    → steps_left s (e ∷ h) + 0 ≤ steps_left s h + cond b 1 0
hindered s h c e p true i one le = let q = one i in omega (arith, q)
hindered s h c e p false i one le = let q = le i in omega (arith, q)

elsewhere : (c d : ℕ) (h : History) → awaits c h ≡ false → awaits d h ≡ true → c ≡ d → ⊥
elsewhere c d h i j e = let same = ap (λ k. awaits k h) e in absurd (cc)

entered_in : Event → ℕ
entered_in (Enter c) = c
entered_in (Wake c) = c
entered_in e = 0

counts : (s : Size) (h : History) (e : Event) → AreAccepted s (e ∷ h) → begins e ≡ false
    → steps_left s (e ∷ h) + cond (helps e h) 1 0 ≤ steps_left s h + cond (hinders e h) 1 0
unfolding entered_in
counts s h Begin p n = absurd (cc)
counts s h (Exit c) p n =
    helped s h c (Exit c) p (awaits c h) refl (exit_counts_one s h c p)
    (no_longer_way s h (Exit c) p (λ e. absurd (cc)) (λ d i e. absurd (cc))
    (λ d i e. absurd (cc)))
counts s h (Idle c) p n =
    helped s h c (Idle c) p (awaits c h) refl (idle_counts_one s h c p)
    (no_longer_way s h (Idle c) p (λ e. absurd (cc)) (λ d i e. absurd (cc))
    (λ d i e. absurd (cc)))
counts s h (Scan c) p n =
    helped s h c (Scan c) p (awaits c h) refl (scan_counts_one s h c p)
    (no_longer_way s h (Scan c) p (λ e. absurd (cc)) (λ d i e. absurd (cc))
    (λ d i e. absurd (cc)))
counts s h (Enter c) p n =
    hindered s h c (Enter c) p (awaits c h) refl (enter_counts_one s h c p)
    (λ a. no_longer_way s h (Enter c) p (λ e. absurd (cc))
    (λ d i e. elsewhere c d h a i (ap entered_in e)) (λ d i e. absurd (cc)))
counts s h (Wake c) p n =
    hindered s h c (Wake c) p (awaits c h) refl (wake_counts_one s h c p)
    (λ a. no_longer_way s h (Wake c) p (λ e. absurd (cc)) (λ d i e. absurd (cc))
    (λ d i e. elsewhere c d h a i (ap entered_in e)))
counts s h e p n =
    stays_way s h e p (λ i. absurd (cc)) (λ d i k. absurd (cc)) (λ d i k. absurd (cc))

pub useful_steps_count : (s : Size) (later h : History) → AreAccepted s (later ++ h)
    → list_any begins later ≡ false
    → steps_left s (later ++ h) + how_often helps later h
    ≤ steps_left s h + how_often hinders later h
useful_steps_count s [] h p n = omega arith
useful_steps_count s (e ∷ later) h p n =
    let o = or_parts (begins e) (list_any begins later) n in
    let i = useful_steps_count s later h p.1 o.1 in
    let k = counts s (later ++ h) e p o.0 in
    omega (arith, i, k)

-- so after as many of them the end is accepted
pub useful_steps_end : (s : Size) (later h : History) → AreAccepted s (later ++ h)
    → list_any begins later ≡ false
    → running (later ++ h) ≡ true
    → steps_left s h + how_often hinders later h ≤ how_often helps later h + 1
    → SurelyLeads s (later ++ h) (End ∷ []) (End ∷ later ++ h)
useful_steps_end s later h p n r enough =
    let g = later ++ h in
    let i = useful_steps_count s later h p n in
    let sum = sums_are s.cpus (steps_of g) (steps_of g) (λ c. refl) in
    let none : sum_below s.cpus (steps_of g) ≡ 0 = omega (arith, i, enough, sum) in
    leads_on s g End [] (End ∷ g)
    (ends_now s g r
    (λ c l. no_part (awaits c g) (is_idle c g) (depth c g)
    (each_zero s.cpus (steps_of g) none c l)))
    refl
