-- The way out of a running grace period, event by event.
use Rattle.std.proofs.Common.{◌≡◌, ◌≢◌, ◌∙◌, ℕ, zero, suc, ◌+◌, ◌<◌, ◌≤◌, Bool, true, false, cond}
use Rattle.std.proofs.Common.{List, [], ◌∷◌, Option, None, Some, ◌⊎◌, inl, inr, length, refl, sym}
use Rattle.std.proofs.Common.{ap, subst, arith}
use Rattle.std.specs.Prelude.{nat_lt, sum_by}
use Rattle.std.specs.List.{find, list_all, range_with_len}
use Rattle.std.proofs.Math.Nat.{eq-or-lt_of_le}
use Rattle.std.proofs.lemmas.Bool.{cases_Bool, cases_eq}
use Rattle.std.proofs.lemmas.Bool.Decides.{nat_tests}
use Rattle.std.proofs.lemmas.List.Sums.{sum_by_push}
use Rattle.std.proofs.lemmas.Option.{same_Some}
use Rattle.rcu_seq.specs.declared.tag.Tag.{Tag}
use Rattle.rcu_node.specs.CpuSet.{is_in}
use Rattle.rcu_node.specs.Merging.{Standing, standing}
use Rattle.rcu_hotplug.specs.Hotplug.{Processors, cpus_of, standing_of}
use Rattle.rcu_core.specs.Core.{Represents, State, says, size_at}
use Rattle.rcu_core.specs.History.{History, awaits, depth, ends_in_epoch, epoch, is_idle, running}
use Rattle.rcu_core.specs.Progress.{HasEnded, SurelyLeads, retires, steps_left}
use Rattle.rcu_core.specs.Replies.{AreAccepted, Size}
use Rattle.rcu_core.specs.Situation.{Situation, situation}
use Rattle.rcu_core.specs.WayOut.{IsStepOut, IsWayOut, first_awaited, next_retiring_event}
use Rattle.rcu_core.specs.WayOut.{retiring_event_for, retiring_event_of, retiring_steps_of}
use Rattle.rcu_core.specs.WayOut.{steps_out}
use Rattle.rcu_core.specs.declared.event.Event.{Event}
use Rattle.rcu_core.specs.declared.event.Event.TheVariants.{End, Exit, Idle, Scan}
use Rattle.rcu_node.proofs.RangeLemmas.{range_last}
use Rattle.rcu_core.proofs.Ending.{Surely, awaited_is_online, ends_now, exited, has_ended, idled}
use Rattle.rcu_core.proofs.Ending.{leads_on, scanned}
use Rattle.rcu_core.proofs.Shortest.{one_left}
use Rattle.rcu_core.proofs.Situations.{same}
use Rattle.rcu_core.proofs.StepCounts.{exit_counts_one, idle_counts_one, scan_counts_one}

-- the first number of a range that passes a test
pub find_none : (p : ℕ → Bool) (a n : ℕ) → ((c : ℕ) → a ≤ c → c < a + n → p c ≡ false)
    → find p (range_with_len a n) ≡ None
find_none p a zero none = refl
find_none p a (suc n) none =
    rw (none a (omega arith) (omega arith))
    (find_none p (a + 1) n (λ c l m. none c (omega (arith, l)) (omega (arith, m))))

pub find_first : (p : ℕ → Bool) (a n c : ℕ) → a ≤ c → c < a + n → p c ≡ true
    → ((d : ℕ) → a ≤ d → d < c → p d ≡ false) → find p (range_with_len a n) ≡ Some c
find_first p a zero c l m here none = absurd (omega (arith, l, m))
find_first p a (suc n) c l m here none = elim (eq-or-lt_of_le {n = a} {m = c} l) [
  | inl at ↦ rw (at, here) refl
  | inr before ↦
      rw (none a (omega arith) before)
      (find_first p (a + 1) n c (omega (arith, before)) (omega (arith, m)) here
      (λ d k. none d (omega (arith, k))))
]

found_at : (b : Bool) (a c : ℕ) (o : Option ℕ) → cond b (Some a) o ≡ Some c
    → ((b ≡ true) × (a ≡ c)) ⊎ ((b ≡ false) × (o ≡ Some c))
found_at true a c o e = inl (refl, same_Some _ _ e)
found_at false a c o e = inr (refl, e)

pub found : (p : ℕ → Bool) (a n c : ℕ) → find p (range_with_len a n) ≡ Some c
    → (c < a + n) × (p c ≡ true)
found p a zero c e = absurd (cc)
found p a (suc n) c e = elim (found_at (p a) a c (find p (range_with_len (a + 1) n)) e) [
  | inl i ↦ let at = i.1 in (omega (arith, at), subst (λ k. p k ≡ true) at i.0)
  | inr i ↦ let rest = found p (a + 1) n c i.1 in let l = rest.0 in (omega (arith, l), rest.1)
]

pub none_before : (p : ℕ → Bool) (a n c : ℕ) → find p (range_with_len a n) ≡ Some c → (d : ℕ)
    → a ≤ d → d < c → p d ≡ false
none_before p a zero c e d l m = absurd (cc)
none_before p a (suc n) c e d l m =
    elim (found_at (p a) a c (find p (range_with_len (a + 1) n)) e) [
      | inl i ↦ let at = i.1 in absurd (omega (arith, at, l, m))
      | inr i ↦ elim (eq-or-lt_of_le {n = a} {m = d} l) [
        | inl at ↦ subst (λ k. p k ≡ false) at i.0
        | inr before ↦ none_before p (a + 1) n c i.1 d (omega (arith, before)) m
      ]
    ]

not_found_at : (b : Bool) (a : ℕ) (o : Option ℕ) → cond b (Some a) o ≡ None
    → (b ≡ false) × (o ≡ None)
not_found_at true a o e = absurd (cc)
not_found_at false a o e = (refl, e)

pub not_found : (p : ℕ → Bool) (a n : ℕ) → find p (range_with_len a n) ≡ None → (c : ℕ) → a ≤ c
    → c < a + n → p c ≡ false
not_found p a zero e c l m = absurd (omega (arith, l, m))
not_found p a (suc n) e c l m =
    let i = not_found_at (p a) a (find p (range_with_len (a + 1) n)) e in
    elim (eq-or-lt_of_le {n = a} {m = c} l) [
      | inl at ↦ subst (λ k. p k ≡ false) at i.0
      | inr before ↦ not_found p (a + 1) n i.1 c (omega (arith, before)) (omega (arith, m))
    ]

one_further : (g : ℕ → ℕ) (n : ℕ)
    → sum_by g (range_with_len 0 (n + 1)) ≡ sum_by g (range_with_len 0 n) + g n
one_further g n =
    let next : n + 1 ≡ suc n = omega arith in
    ap (λ k. sum_by g (range_with_len 0 k)) next
    ∙ ap (λ (xs : List ℕ). sum_by g xs) (range_last 0 n n (omega arith))
    ∙ sum_by_push g (range_with_len 0 n) n

-- each number below one more fails a test if each below and that one do
pub fails_below : (p : ℕ → Bool) (n : ℕ) → ((c : ℕ) → c < n → p c ≡ false) → p n ≡ false
    → (c : ℕ) → c < n + 1 → p c ≡ false
fails_below p n below here c l = elim (eq-or-lt_of_le {n = c} {m = n} (omega (arith, l))) [
  | inl at ↦ subst (λ k. p k ≡ false) (sym at) here
  | inr before ↦ below c before
]

-- the first awaited processor of a state, by its set
pub first_is : (p : Processors) (tag : Tag) (start_set set : List Bool) (o : Option ℕ)
    → standing tag start_set set ≡ standing_of p
    → o ≡ find (is_in set) (range_with_len 0 (length set))
    → o ≡ find (is_in p.awaited) (range_with_len 0 (length p.awaited))
first_is p tag start_set set o stands e =
    e
    ∙ ap (λ (s : Standing). find (is_in s.awaited) (range_with_len 0 (length s.awaited))) stands

pub awaited_is : (v u : State ℕ) (tag : Tag) (start_set set : List Bool) (c : ℕ) (b : Bool)
    → v ≡ u → standing tag start_set set ≡ standing_of v.grace.processors → b ≡ is_in set c
    → is_in u.grace.processors.awaited c ≡ b
awaited_is v u tag start_set set c b is stands e =
    sym
    (e
    ∙ ap (λ (s : Standing). is_in s.awaited c) stands
    ∙ ap (λ (w : State ℕ). is_in w.grace.processors.awaited c) is)

pub first_below : (v u : State ℕ) (o : Option ℕ) (c : ℕ) → v ≡ u
    → o ≡ first_awaited (size_at v) (says v) → o ≡ Some c → c < cpus_of u.grace.processors
first_below v u o c is first some =
    let at = found (is_in v.grace.processors.awaited) 0 (cpus_of v.grace.processors) c
    (sym first ∙ some) in
    let l = at.0 in
    let n = ap (λ (w : State ℕ). cpus_of w.grace.processors) is in
    omega (arith, l, n)

-- the next event of a state, which is the one of each history that it is in
pub next_found : (v u : State ℕ) (o : Option ℕ) (e : Event) → v ≡ u
    → o ≡ first_awaited (size_at v) (says v)
    → e ≡ retiring_event_for (says u) o
    → v.grace.seq.running ≡ true
    → Some e ≡ next_retiring_event (size_at u) (says u)
next_found v u o e is first found r =
    let there = first ∙ ap (λ (w : State ℕ). first_awaited (size_at w) (says w)) is in
    let runs = ap (λ (w : State ℕ). w.grace.seq.running) (sym is) ∙ r in
    let next = retiring_event_for (says u) (first_awaited (size_at u) (says u)) in
    ap (λ (x : Event). Some x) (found ∙ ap (λ k. retiring_event_for (says u) k) there)
    ∙ sym (ap (λ b. cond b (Some next) None) runs)

pub next_of_history : (v : State ℕ) (h : History) (o : Option Event) → Represents v h
    → o ≡ next_retiring_event (size_at v) (says v)
    → o ≡ next_retiring_event (size_at v) (situation h)
next_of_history v h o x e = e ∙ ap (λ u. next_retiring_event (size_at v) u) (same v h x)

pub steps_of_history : (v u : State ℕ) (h : History) (left : ℕ) → v ≡ u → Represents u h
    → v.grace.seq.running ≡ true
    → left
    ≡ 1
    + sum_by (λ c. cond ((says u).cpus.awaits c) (retiring_steps_of (says u) c) 0)
    (range_with_len 0 (cpus_of v.grace.processors))
    → left ≡ steps_out (size_at u) h
steps_of_history v u h left is x r e =
    let runs = sym x.periods.running ∙ ap (λ (w : State ℕ). w.grace.seq.running) (sym is) ∙ r in
    let counted =
    ap (λ (w : Situation).
    sum_by (λ c. cond (w.cpus.awaits c) (retiring_steps_of w c) 0)
    (range_with_len 0 (size_at u).cpus)) (same u h x) in
    let all =
    ap (λ (w : State ℕ).
    sum_by (λ c. cond ((says u).cpus.awaits c) (retiring_steps_of (says u) c) 0)
    (range_with_len 0 (cpus_of w.grace.processors))) is in
    let total : left ≡ steps_left (size_at u) h = omega (arith, e, counted, all) in
    total ∙ sym (ap (λ b. cond b (steps_left (size_at u) h) 0) runs)

-- the steps of an awaited processor, one processor further
pub counted_more : (p : ℕ → Bool) (f : ℕ → ℕ) (n old new : ℕ) → p n ≡ true
    → old ≡ 1 + sum_by (λ c. cond (p c) (f c) 0) (range_with_len 0 n) → new ≡ old + f n
    → new ≡ 1 + sum_by (λ c. cond (p c) (f c) 0) (range_with_len 0 (n + 1))
counted_more p f n old new here e grown =
    let g : ℕ → ℕ = λ c. cond (p c) (f c) 0 in
    let more = one_further g n in
    let at : g n ≡ f n = ap (λ b. cond b (f n) 0) here in
    omega (arith, more, at, e, grown)

pub counted_same : (p : ℕ → Bool) (f : ℕ → ℕ) (n old new : ℕ) → p n ≡ false
    → old ≡ 1 + sum_by (λ c. cond (p c) (f c) 0) (range_with_len 0 n) → new ≡ old
    → new ≡ 1 + sum_by (λ c. cond (p c) (f c) 0) (range_with_len 0 (n + 1))
counted_same p f n old new here e kept =
    let g : ℕ → ℕ = λ c. cond (p c) (f c) 0 in
    let more = one_further g n in
    let at : g n ≡ 0 = ap (λ b. cond b (f n) 0) here in
    omega (arith, more, at, e, kept)

-- an event that no cause speaks against, and that is a step of the way out
pub record Taken (s : Size) (h : History) (e : Event) : Type 0 where
  pub surely : Surely s h e
  pub step : IsStepOut s h e

fewer_while_running : (a b : Bool) (m n : ℕ) → a ≡ b → b ≡ true → m + 1 ≡ n
    → cond a m 0 + 1 ≡ cond b n 0
fewer_while_running a b m n i j e = rw (i, j) e

goes_on : (s : Size) (h : History) (e : Event) → Surely s h e → retires e ≡ true → e ≢ End
    → running (e ∷ h) ≡ running h
    → running h ≡ true
    → steps_left s (e ∷ h) + 1 ≡ steps_left s h
    → Taken s h e
goes_on s h e u k n as_before r less = record {
  surely = u;
  step = record {
    retires = k;
    leads = leads_on s h e [] (e ∷ h) u refl;
    fewer = fewer_while_running (running (e ∷ h)) (running h) (steps_left s (e ∷ h))
        (steps_left s h) as_before r less;
    ended = λ i. absurd (n i);
  };
}

last_one : (b c : Bool) (m n : ℕ) → b ≡ false → c ≡ true → n ≡ 1 → cond b m 0 + 1 ≡ cond c n 0
last_one b c m n i j e = rw (i, j, e) refl

ends : (s : Size) (h : History) → AreAccepted s h → running h ≡ true
    → ((c : ℕ) → c < s.cpus → awaits c h ≡ false) → Taken s h End
ends s h p r a =
    let u = ends_now s h r a in
    let over = has_ended s h p r in
    record {
      surely = u;
      step = record {
        retires = refl;
        leads = leads_on s h End [] (End ∷ h) u refl;
        fewer = last_one (running (End ∷ h)) (running h) (steps_left s (End ∷ h)) (steps_left s h)
            over.idle r (one_left s h u.accepted);
        ended = λ i. over;
      };
    }

-- the step of an awaited processor
exits : (s : Size) (h : History) (c : ℕ) → AreAccepted s h → running h ≡ true
    → awaits c h ≡ true → c < s.cpus → 0 < depth c h → Taken s h (Exit c)
exits s h c p r a l d =
    let u = exited s h c l d in
    goes_on s h (Exit c) u refl (λ i. absurd (cc)) refl r (exit_counts_one s h c (u.accepted, p) a)

scans : (s : Size) (h : History) (c : ℕ) → AreAccepted s h → running h ≡ true
    → awaits c h ≡ true → c < s.cpus → is_idle c h ≡ true → Taken s h (Scan c)
scans s h c p r a l i =
    let u = scanned s h c (awaited_is_online s c h p a) l i in
    goes_on s h (Scan c) u refl (λ i. absurd (cc)) refl r (scan_counts_one s h c (u.accepted, p) a)

goes_idle : (s : Size) (h : History) (c : ℕ) → AreAccepted s h → running h ≡ true
    → awaits c h ≡ true → c < s.cpus → depth c h ≡ 0 → is_idle c h ≡ false → Taken s h (Idle c)
goes_idle s h c p r a l d i =
    let u = idled s h c (awaited_is_online s c h p a) l d i in
    goes_on s h (Idle c) u refl (λ i. absurd (cc)) refl r (idle_counts_one s h c (u.accepted, p) a)

deep : (n : ℕ) → 0 < n → nat_lt 0 n ≡ true
deep n l = grind (arith, nat_tests, l)

shallow : (n : ℕ) → n ≡ 0 → nat_lt 0 n ≡ false
shallow n e = ap (λ k. nat_lt 0 k) e

pub of_cases : (P : Event → Type 0) (h : History) (c : ℕ) → (0 < depth c h → P (Exit c))
    → (depth c h ≡ 0 → is_idle c h ≡ true → P (Scan c))
    → (depth c h ≡ 0 → is_idle c h ≡ false → P (Idle c))
    → P (retiring_event_of (situation h) c)
of_cases P h c exit scan idle = elim (cases_eq (depth c h) 0) [
  | inr d ↦
      let some : 0 < depth c h = omega (arith, d) in
      subst P (sym (inside (nat_lt 0 (depth c h)) (is_idle c h) (deep (depth c h) some)))
      (exit some)
  | inl d ↦ elim (cases_Bool (is_idle c h)) [
    | inl i ↦
        subst P
        (sym (at_rest (nat_lt 0 (depth c h)) (is_idle c h) true (shallow (depth c h) d) i))
        (scan d i)
    | inr i ↦
        subst P
        (sym (at_rest (nat_lt 0 (depth c h)) (is_idle c h) false (shallow (depth c h) d) i))
        (idle d i)
  ]
]
  where
    inside : (b i : Bool) → b ≡ true → cond b (Exit c) (cond i (Scan c) (Idle c)) ≡ Exit c
    inside true i e = refl
    inside false i e = absurd (cc)

    at_rest : (b i j : Bool) → b ≡ false → i ≡ j
        → cond b (Exit c) (cond i (Scan c) (Idle c)) ≡ cond j (Scan c) (Idle c)
    at_rest b i j e k = rw (e, k) refl

pub of_one : (s : Size) (h : History) (c : ℕ) → AreAccepted s h → running h ≡ true
    → awaits c h ≡ true → c < s.cpus → Taken s h (retiring_event_of (situation h) c)
of_one s h c p r a l =
    of_cases (λ e. Taken s h e) h c (λ d. exits s h c p r a l d) (λ d i. scans s h c p r a l i)
    (λ d i. goes_idle s h c p r a l d i)

of_first : (s : Size) (h : History) (o : Option ℕ) → AreAccepted s h → running h ≡ true
    → first_awaited s (situation h) ≡ o → Taken s h (retiring_event_for (situation h) o)
of_first s h None p r e =
    ends s h p r (λ c l. not_found (λ c. awaits c h) 0 s.cpus e c (omega arith) (omega (arith, l)))
of_first s h (Some c) p r e =
    let o = found (λ c. awaits c h) 0 s.cpus c e in
    let l = o.0 in
    of_one s h c p r o.1 (omega (arith, l))

next_is : (b : Bool) (x e : Event) → cond b (Some x) None ≡ Some e → (b ≡ true) × (x ≡ e)
next_is true x e i = (refl, some_event i)
  where
    some_event : {x y : Event} → Some x ≡ Some y → x ≡ y
    some_event i = cc
next_is false x e i = absurd (cc)

step_taken : (s : Size) (h : History) (e : Event) → AreAccepted s h
    → next_retiring_event s (situation h) ≡ Some e → Taken s h e
step_taken s h e p i =
    let first = retiring_event_for (situation h) (first_awaited s (situation h)) in
    let o = next_is (running h) first e i in
    subst (λ x. Taken s h x) o.1 (of_first s h (first_awaited s (situation h)) p o.0 refl)

pub step_out : (s : Size) (h : History) (e : Event) → AreAccepted s h
    → next_retiring_event s (situation h) ≡ Some e → IsStepOut s h e
step_out s h e p i = (step_taken s h e p i).step

-- there is no next event exactly if no grace period runs
none_next : (b : Bool) (x : Event) → cond b (Some x) None ≡ None → b ≡ false
none_next true x i = absurd (cc)
none_next false x i = refl

pub none_runs : (s : Size) (h : History) → next_retiring_event s (situation h) ≡ None
    → running h ≡ false
none_runs s h i =
    none_next (running h) (retiring_event_for (situation h) (first_awaited s (situation h))) i

pub none_is_next : (s : Size) (h : History) → running h ≡ false
    → next_retiring_event s (situation h) ≡ None
none_is_next s h r =
    let first = retiring_event_for (situation h) (first_awaited s (situation h)) in
    ap (λ b. cond b (Some first) None) r

pub some_is_next : (s : Size) (h : History) → running h ≡ true
    → (e : Event) × (next_retiring_event s (situation h) ≡ Some e)
some_is_next s h r =
    let first = retiring_event_for (situation h) (first_awaited s (situation h)) in
    (first, ap (λ b. cond b (Some first) None) r)

-- the whole way: as many events as are left, none of which is refused
pub way_counts : (s : Size) (events : List Event) (h g : History) → AreAccepted s h
    → IsWayOut s h events g → length events ≡ steps_out s h
way_counts s [] h g p w = sym (ap (λ b. cond b (steps_left s h) 0) (none_runs s h w.1))
way_counts s (e ∷ events) h g p w =
    let at = step_taken s h e p w.0 in
    let rest = way_counts s events (e ∷ h) g (at.surely.accepted, p) w.1 in
    let one = at.step.fewer in
    omega (arith, rest, one)

pub way_leads : (s : Size) (events : List Event) (h g : History) → AreAccepted s h
    → IsWayOut s h events g → SurelyLeads s h events g
way_leads s [] h g p w = w.0
way_leads s (e ∷ events) h g p w =
    let at = step_taken s h e p w.0 in
    leads_on s h e events g at.surely (way_leads s events (e ∷ h) g (at.surely.accepted, p) w.1)

pub way_retires : (s : Size) (events : List Event) (h g : History) → AreAccepted s h
    → IsWayOut s h events g → list_all retires events ≡ true
way_retires s [] h g p w = refl
way_retires s (e ∷ events) h g p w =
    let at = step_taken s h e p w.0 in
    rw (at.step.retires, way_retires s events (e ∷ h) g (at.surely.accepted, p) w.1) refl

-- but for the end, its events leave the grace period running
record KeepsRunning (h : History) (e : Event) : Type 0 where
  pub runs : running (e ∷ h) ≡ running h
  pub ends : ends_in_epoch (e ∷ h) ≡ ends_in_epoch h
  pub epoch : epoch (e ∷ h) ≡ epoch h

ends_or_keeps : (h : History) (e : Event) → retires e ≡ true → (e ≡ End) ⊎ KeepsRunning h e
ends_or_keeps h (Exit c) i = inr (record { runs = refl; ends = refl; epoch = refl })
ends_or_keeps h (Idle c) i = inr (record { runs = refl; ends = refl; epoch = refl })
ends_or_keeps h (Scan c) i = inr (record { runs = refl; ends = refl; epoch = refl })
ends_or_keeps h End i = inl refl
ends_or_keeps h e i = absurd (cc)

nothing_after : (s : Size) (h g : History) (events : List Event) → running h ≡ false
    → IsWayOut s h events g → g ≡ h
nothing_after s h g [] r w = w.0
nothing_after s h g (e ∷ events) r w =
    let none = sym (none_is_next s h r) ∙ w.0 in absurd (cc)

pub way_ends : (s : Size) (events : List Event) (h g : History) → AreAccepted s h
    → running h ≡ true → IsWayOut s h events g → HasEnded h g
way_ends s [] h g p r w = let none = none_runs s h w.1 in absurd (cc)
way_ends s (e ∷ events) h g p r w =
    let at = step_taken s h e p w.0 in
    elim (ends_or_keeps h e at.step.retires) [
      | inl i ↦
          let over = at.step.ended i in
          subst (λ (x : History). HasEnded h x)
          (sym (nothing_after s (e ∷ h) g events over.idle w.1)) over
      | inr k ↦
          let rest = way_ends s events (e ∷ h) g (at.surely.accepted, p) (k.runs ∙ r) w.1 in
          record {
            idle = rest.idle;
            one_more = rest.one_more ∙ ap (λ n. n + 1) k.ends;
            epoch = rest.epoch ∙ k.epoch;
          }
    ]

-- and there is one from each history
some_left : (b : Bool) (m n : ℕ) → cond b m 0 ≡ suc n → b ≡ true
some_left true m n e = refl
some_left false m n e = absurd (cc)

none_left : (b : Bool) (m : ℕ) → cond b (m + 1) 0 ≡ 0 → b ≡ false
none_left true m e = absurd (omega (arith, e))
none_left false m e = refl

way_of : (s : Size) (n : ℕ) (h : History) → AreAccepted s h → steps_out s h ≡ n
    → (events : List Event) × ((reached : History) × IsWayOut s h events reached)
way_of s zero h p e =
    ([], (h, (refl, none_is_next s h (none_left (running h) _ e))))
way_of s (suc n) h p e =
    let r = some_left (running h) (steps_left s h) n e in
    let next = some_is_next s h r in
    let at = step_taken s h next.0 p next.1 in
    let one = at.step.fewer in
    let rest = way_of s n (next.0 ∷ h) (at.surely.accepted, p) (omega (arith, one, e)) in
    (next.0 ∷ rest.0, (rest.1.0, (next.1, rest.1.1)))

pub some_way : (s : Size) (h : History) → AreAccepted s h
    → (events : List Event) × ((reached : History) × IsWayOut s h events reached)
some_way s h p = way_of s (steps_out s h) h p refl
