-- From each history in which a grace period runs, some events lead to its end.
use Rattle.std.proofs.Common.{◌≡◌, ◌≢◌, ℕ, zero, suc, ◌+◌, ◌<◌, Bool, true, false, not, ◌&&◌, ◌||◌}
use Rattle.std.proofs.Common.{inl, inr, List, [], ◌∷◌, Option, Some, None, refl, sym, ap, ◌∙◌}
use Rattle.std.proofs.Common.{subst, arith, cond, eqb, ne_eqb}
use Rattle.std.specs.Prelude.{is_none, sum_by}
use Rattle.std.specs.List.{list_all, range_with_len}
use Rattle.std.proofs.Math.Nat.{eq-or-lt_of_le}
use Rattle.std.proofs.lemmas.Bool.{and_from, and_parts, cases_Bool, cases_eq, cases_lt, eqb-true}
use Rattle.std.proofs.lemmas.Bool.Decides.{nat_tests}
use Rattle.rcu_seq.specs.Histories.{latest}
use Rattle.rcu_seq.specs.Tags.{same_tag}
use Rattle.rcu_seq.specs.declared.fault.Fault.{Fault}
use Rattle.rcu_seq.specs.declared.fault.Fault.TheVariants as fault
use Rattle.rcu_seq.specs.declared.tag.Tag.{Tag}
use Rattle.rcu_report.specs.declared.batch.Report.{Report}
use Rattle.rcu_core.specs.History.{History, awaits, begins, depth, ends_in_epoch, epoch, is_heard}
use Rattle.rcu_core.specs.History.{is_idle, is_of, online, report_at, reports_made, running}
use Rattle.rcu_core.specs.History.{tag_now}
use Rattle.rcu_core.specs.Links.{ToldSince, starts, tag}
use Rattle.rcu_core.specs.Progress.{HasEnded, IsQuiet, SurelyLeads, collects, steps_left, EndsBy}
use Rattle.rcu_core.specs.Progress.{retires, steps_of}
use Rattle.rcu_core.specs.Replies.{Size, fault_in, how_many, stores, AreAccepted, IsLegalReply}
use Rattle.rcu_core.specs.Replies.{accepted_reply, or_fault, with_event}
use Rattle.rcu_core.specs.Runs.{IsLegalRun, Run, history}
use Rattle.rcu_core.specs.Situation.{situation}
use Rattle.rcu_core.specs.declared.event.Event.{Event}
use Rattle.rcu_core.specs.declared.event.Event.TheVariants.{Exit, Begin, End, Online}
use Rattle.rcu_core.specs.declared.event.Event.TheVariants.{Offline, Scan, Deliver, Idle}
use Rattle.rcu_core.specs.declared.reply.Reply.{Reply}
use Rattle.rcu_core.specs.declared.reply.Reply.TheVariants as reply
use Rattle.rcu_core.proofs.Covered.{sum_zero}
use Rattle.rcu_core.proofs.Heard.{awaited_are, told_is_heard}
use Rattle.rcu_core.proofs.Kept.{Turns, end_counts, exit_counts, turns}
use Rattle.rcu_core.proofs.Lost.{sums_are}
use Rattle.rcu_core.proofs.Once.{sum_below, sums}
use Rattle.rcu_core.proofs.Readers.{possible}
use Rattle.rcu_core.proofs.Sections.{one_less}
use Rattle.rcu_core.proofs.Shrinking.{shrinks_step, still_awaited}
use Rattle.rcu_core.proofs.Writes.{eqb_self}

-- a processor that is still awaited after a departure is another one, and as it was
pub after_departure : (r o b heard on : Bool) → (r && (o && not (b || heard))) ≡ true → on ≡ true
    → cond b false on ≡ true
after_departure true true true heard on i j = absurd (cc)
after_departure true true false heard on i j = j
after_departure true false b heard on i j = absurd (cc)
after_departure false o b heard on i j = absurd (cc)

pub after_arrival : (b on : Bool) → on ≡ true → cond b true on ≡ true
after_arrival true on j = refl
after_arrival false on j = j

online_step : (s : Size) (c : ℕ) (e : Event) (h : History) → fault_in s (situation h) e ≡ None
    → Turns h → (awaits c h ≡ true → online c h ≡ true) → awaits c (e ∷ h) ≡ true
    → online c (e ∷ h) ≡ true
online_step s c Begin h p t g i =
    (and_parts (online c h) _ (and_parts (running (Begin ∷ h)) _ i).1).0
online_step s c (Online d) h p t g i =
    after_arrival (eqb d c) (online c h)
    (g (shrinks_step s c (Online d) h p t (λ n. absurd (cc)) i))
online_step s c (Offline d) h p t g i =
    after_departure (running h) (online c (latest begins h)) (eqb d c) (is_heard c (tag_now h) h)
    (online c h) i (g (shrinks_step s c (Offline d) h p t (λ n. absurd (cc)) i))
online_step s c e h p t g i = g (shrinks_step s c e h p t (λ n. absurd (cc)) i)

pub awaited_is_online : (s : Size) (c : ℕ) (h : History) → AreAccepted s h → awaits c h ≡ true
    → online c h ≡ true
awaited_is_online s c [] p i = absurd (cc)
awaited_is_online s c (e ∷ h) p i =
    online_step s c e h p.0 (turns s h p.1) (awaited_is_online s c h p.1) i

-- an event of which no cause holds, that stores nothing and that the history records as itself
pub record Surely (s : Size) (h : History) (e : Event) : Type 0 where
  pub accepted : fault_in s (situation h) e ≡ None
  pub stores : stores s (situation h) e ≡ false
  pub stands : with_event h e (accepted_reply s (situation h) e) ≡ e ∷ h
  pub no_fault : (f : Fault) → accepted_reply s (situation h) e ≢ reply.Fault f

pub reply_is : (s : Size) (h : History) (e : Event) (r : Reply) → Surely s h e
    → IsLegalReply s (situation h) e r → r ≡ accepted_reply s (situation h) e
reply_is s h e r u (inl i) = i ∙ ap (λ o. or_fault o (accepted_reply s (situation h) e)) u.accepted
reply_is s h e r u (inr i) = let j = u.stores in let k = i.0 in absurd (cc)

pub leads_on : (s : Size) (h : History) (e : Event) (events : List Event) (g : History)
    → Surely s h e → SurelyLeads s (e ∷ h) events g → SurelyLeads s h (e ∷ events) g
leads_on s h e events g u t = λ r l.
    let i = reply_is s h e r u l in (
      λ f j. u.no_fault f (sym i ∙ j),
      subst (λ x. SurelyLeads s x events g) (sym (ap (λ r. with_event h e r) i ∙ u.stands)) t,
    )

-- each of the numbers is 0 if their sum is; and one is not if the sum is not
pub each_zero : (n : ℕ) (f : ℕ → ℕ) → sum_below n f ≡ 0 → (c : ℕ) → c < n → f c ≡ 0
each_zero zero f e c l = absurd (omega (arith, l))
each_zero (suc n) f e c l = elim (eq-or-lt_of_le {n = c} {m = n} (omega (arith, l))) [
  | inl i ↦ ap f i ∙ omega (arith, e)
  | inr i ↦ each_zero n f (omega (arith, e)) c i
]

pub some_left : (n m : ℕ) (f : ℕ → ℕ) → sum_below n f ≡ suc m → (c : ℕ) × ((c < n) × (0 < f c))
some_left zero m f e = absurd (omega (arith, e))
some_left (suc n) m f e = elim (cases_lt 0 (f n)) [
  | inl l ↦ (n, (omega arith, l))
  | inr l ↦ let o = some_left n m f (omega (arith, e, l)) in
      (o.0, (let k = o.1.0 in omega (arith, k), o.1.1))
]

-- if no processor is awaited, the end is accepted
nobody : (s : Size) (h : History) → ((c : ℕ) → c < s.cpus → awaits c h ≡ false)
    → how_many s (λ c. awaits c h) ≡ 0
nobody s h a =
    sums_are s.cpus (λ c. cond (awaits c h) 1 0) (λ c. cond (awaits c h) 1 0) (λ c. refl)
    ∙ sum_zero s.cpus (λ c. cond (awaits c h) 1 0) (λ c l. ap (λ b. cond b 1 0) (a c l))

pub may_end : (s : Size) (h : History) → running h ≡ true
    → ((c : ℕ) → c < s.cpus → awaits c h ≡ false) → fault_in s (situation h) End ≡ None
may_end s h r a = let n = nobody s h a in grind (arith, nat_tests)

pub ends_now : (s : Size) (h : History) → running h ≡ true
    → ((c : ℕ) → c < s.cpus → awaits c h ≡ false) → Surely s h End
ends_now s h r a = record {
  accepted = may_end s h r a;
  stores = refl;
  stands = refl;
  no_fault = λ f i. cc;
}

pub has_ended : (s : Size) (h : History) → AreAccepted s h → running h ≡ true
    → HasEnded h (End ∷ h)
has_ended s h p r = let t = turns s h p in let b = t.begins_le in let n = end_counts h in record {
  idle = grind (arith, nat_tests);
  one_more = refl;
  epoch = refl;
}

-- a step towards the end: an event after which one processor has one step less, and each other one
-- the same
record Step (s : Size) (left : History → ℕ → ℕ) (kind : Event → Bool) (h : History) (c : ℕ)
    : Type 0 where
  pub event : Event
  pub surely : Surely s h event
  pub is_kind : kind event ≡ true
  pub less : left (event ∷ h) c + 1 ≡ left h c
  pub others : (d : ℕ) → d ≢ c → left (event ∷ h) d ≡ left h d
  pub runs : running (event ∷ h) ≡ running h
  pub ends : ends_in_epoch (event ∷ h) ≡ ends_in_epoch h
  pub epoch : epoch (event ∷ h) ≡ epoch h

-- a step, and then this number of events
step_on : (s : Size) (left : History → ℕ → ℕ) (kind : Event → Bool) (h : History) (c n : ℕ)
    → (step : Step s left kind h c) → EndsBy kind s (step.event ∷ h) n → EndsBy kind s h (suc n)
step_on s left kind h c n step rest = record {
  events = step.event ∷ rest.events;
  reached = rest.reached;
  leads = leads_on s h step.event rest.events rest.reached step.surely rest.leads;
  many = ap (λ k. suc k) rest.many;
  each = and_from (kind step.event) (list_all kind rest.events) step.is_kind rest.each;
  ended = record {
    idle = rest.ended.idle;
    one_more = rest.ended.one_more ∙ ap (λ n. n + 1) step.ends;
    epoch = rest.ended.epoch ∙ step.epoch;
  };
}

end_on : (s : Size) (kind : Event → Bool) (h : History) → kind End ≡ true → AreAccepted s h
    → running h ≡ true → ((c : ℕ) → c < s.cpus → awaits c h ≡ false) → EndsBy kind s h 1
end_on s kind h k p r a = record {
  events = End ∷ [];
  reached = End ∷ h;
  leads = leads_on s h End [] (End ∷ h) (ends_now s h r a) refl;
  many = refl;
  each = and_from (kind End) true k refl;
  ended = has_ended s h p r;
}

fewer_left : (a b x y n : ℕ) → a + x ≡ b + y → y + 1 ≡ x → b ≡ suc n → a ≡ n
fewer_left a b x y n e l m = omega (arith, e, l, m)

descend : (s : Size) (left : History → ℕ → ℕ) (kind : Event → Bool) (P : History → Type 0)
    → kind End ≡ true
    → ((h : History) (c : ℕ) → left h c ≡ 0 → awaits c h ≡ false)
    → ((h : History) (c : ℕ) → AreAccepted s h → running h ≡ true → P h → c < s.cpus → 0 < left h c
    → (step : Step s left kind h c) × P (step.event ∷ h))
    → (n : ℕ) (h : History)
    → AreAccepted s h
    → running h ≡ true
    → P h
    → sum_below s.cpus (left h) ≡ n
    → EndsBy kind s h (suc n)
descend s left kind P k z next zero h p r q e =
    end_on s kind h k p r (λ c l. z h c (each_zero s.cpus (left h) e c l))
descend s left kind P k z next (suc n) h p r q e =
    let o = some_left s.cpus n (left h) e in
    let at = next h o.0 p r q o.1.0 o.1.1 in
    let g : History = at.0.event ∷ h in
    step_on s left kind h o.0 (suc n) at.0
    (descend s left kind P k z next n g (at.0.surely.accepted, p) (at.0.runs ∙ r) at.1
    (fewer_left (sum_below s.cpus (left g)) (sum_below s.cpus (left h)) (left h o.0) (left g o.0) n
    (sums s.cpus (left h) (left g) o.0 o.1.0 at.0.others) at.0.less e))

-- the part of a processor
is_awaited : (b : Bool) (n : ℕ) → 0 < cond b n 0 → b ≡ true
is_awaited true n l = refl
is_awaited false n l = absurd (omega (arith, l))

pub no_part : (b i : Bool) (n : ℕ) → cond b (n + cond i 1 2) 0 ≡ 0 → b ≡ false
no_part true true n e = absurd (omega (arith, e))
no_part true false n e = absurd (omega (arith, e))
no_part false i n e = refl

exit_fewer : (b i : Bool) (m n : ℕ) → b ≡ true → n ≡ m + 1
    → cond b (m + cond i 1 2) 0 + 1 ≡ cond b (n + cond i 1 2) 0
exit_fewer true i m n j e = omega (arith, e)
exit_fewer false i m n j e = absurd (cc)

pub exit_less : (h : History) (c : ℕ) → awaits c h ≡ true → 0 < depth c h
    → steps_of (Exit c ∷ h) c + 1 ≡ steps_of h c
exit_less h c a d =
    exit_fewer (awaits c h) (is_idle c h) (depth c (Exit c ∷ h)) (depth c h) a (one_less c h d)

pub exit_elsewhere : (h : History) (c d : ℕ) → d ≢ c → steps_of (Exit c ∷ h) d ≡ steps_of h d
exit_elsewhere h c d n =
    let counts = exit_counts d c h in
    let none : cond {A = ℕ} (eqb c d) 1 0 ≡ 0 =
    ap (λ b. cond b 1 0) (ne_eqb c d (λ i. n (sym i))) in
    let same : depth d (Exit c ∷ h) ≡ depth d h = omega (arith, counts, none) in
    ap (λ k. cond (awaits d h) (k + cond (is_idle d h) 1 2) 0) same

pub exited : (s : Size) (h : History) (c : ℕ) → c < s.cpus → 0 < depth c h → Surely s h (Exit c)
exited s h c l d = record {
  accepted = grind (arith, nat_tests);
  stores = refl;
  stands = refl;
  no_fault = λ f i. cc;
}

by_exit : (s : Size) (h : History) (c : ℕ) → awaits c h ≡ true → c < s.cpus → 0 < depth c h
    → Step s steps_of retires h c
by_exit s h c a l d = record {
  event = Exit c;
  surely = exited s h c l d;
  is_kind = refl;
  less = exit_less h c a d;
  others = exit_elsewhere h c;
  runs = refl;
  ends = refl;
  epoch = refl;
}

pub idle_fewer : (b i j : Bool) (n : ℕ) → b ≡ true → i ≡ false → j ≡ true
    → cond b (n + cond j 1 2) 0 + 1 ≡ cond b (n + cond i 1 2) 0
idle_fewer b i j n x y z = rw (x, y, z) (omega arith)

pub idle_less : (h : History) (c : ℕ) → awaits c h ≡ true → is_idle c h ≡ false
    → steps_of (Idle c ∷ h) c + 1 ≡ steps_of h c
idle_less h c a i =
    idle_fewer (awaits c h) (is_idle c h) (is_idle c (Idle c ∷ h)) (depth c h) a i
    (ap (λ b. cond b true (is_idle c h)) (eqb_self c))

pub idle_elsewhere : (h : History) (c d : ℕ) → d ≢ c → steps_of (Idle c ∷ h) d ≡ steps_of h d
idle_elsewhere h c d n =
    ap (λ b. cond (awaits d h) (depth d h + cond (cond b true (is_idle d h)) 1 2) 0)
    (ne_eqb c d (λ i. n (sym i)))

pub idled : (s : Size) (h : History) (c : ℕ) → online c h ≡ true → c < s.cpus → depth c h ≡ 0
    → is_idle c h ≡ false → Surely s h (Idle c)
idled s h c o l d i = record {
  accepted = grind (arith, nat_tests);
  stores = refl;
  stands = refl;
  no_fault = λ f i. cc;
}

by_idle : (s : Size) (h : History) (c : ℕ) → awaits c h ≡ true → online c h ≡ true → c < s.cpus
    → depth c h ≡ 0 → is_idle c h ≡ false → Step s steps_of retires h c
by_idle s h c a o l d i = record {
  event = Idle c;
  surely = idled s h c o l d i;
  is_kind = refl;
  less = idle_less h c a i;
  others = idle_elsewhere h c;
  runs = refl;
  ends = refl;
  epoch = refl;
}

pub heard_by : (r o b heard : Bool) → b ≡ true → (r && (o && not (b || heard))) ≡ false
heard_by true true true heard i = refl
heard_by true false true heard i = refl
heard_by false o true heard i = refl
heard_by r o false heard i = absurd (cc)

pub unheard_by : (r o b heard : Bool) → b ≡ false
    → (r && (o && not (b || heard))) ≡ (r && (o && not heard))
unheard_by r o b heard i = rw i refl

scan_fewer : (b a i : Bool) (n : ℕ) → b ≡ false → a ≡ true → n ≡ 0 → i ≡ true
    → cond b (n + cond i 1 2) 0 + 1 ≡ cond a (n + cond i 1 2) 0
scan_fewer b a i n x y z w = rw (x, y, z, w) refl

pub scanned : (s : Size) (h : History) (c : ℕ) → online c h ≡ true → c < s.cpus → is_idle c h ≡ true
    → Surely s h (Scan c)
scanned s h c o l i = record {
  accepted = grind (arith, nat_tests);
  stores = refl;
  stands = refl;
  no_fault = λ f i. cc;
}

pub scan_hears : (h : History) (c : ℕ) → awaits c (Scan c ∷ h) ≡ false
scan_hears h c =
    heard_by (running h) (online c (latest begins h)) (eqb c c) (is_heard c (tag_now h) h)
    (eqb_self c)

pub scan_hears_no_other : (h : History) (c d : ℕ) → d ≢ c → awaits d (Scan c ∷ h) ≡ awaits d h
scan_hears_no_other h c d n =
    unheard_by (running h) (online d (latest begins h)) (eqb c d) (is_heard d (tag_now h) h)
    (ne_eqb c d (λ i. n (sym i)))

pub scan_less : (h : History) (c : ℕ) → awaits c h ≡ true → depth c h ≡ 0 → is_idle c h ≡ true
    → steps_of (Scan c ∷ h) c + 1 ≡ steps_of h c
scan_less h c a d i =
    scan_fewer (awaits c (Scan c ∷ h)) (awaits c h) (is_idle c h) (depth c h) (scan_hears h c) a d i

pub scan_elsewhere : (h : History) (c d : ℕ) → d ≢ c → steps_of (Scan c ∷ h) d ≡ steps_of h d
scan_elsewhere h c d n =
    ap (λ b. cond b (depth d h + cond (is_idle d h) 1 2) 0) (scan_hears_no_other h c d n)

by_scan : (s : Size) (h : History) (c : ℕ) → awaits c h ≡ true → online c h ≡ true → c < s.cpus
    → depth c h ≡ 0 → is_idle c h ≡ true → Step s steps_of retires h c
by_scan s h c a o l d i = record {
  event = Scan c;
  surely = scanned s h c o l i;
  is_kind = refl;
  less = scan_less h c a d i;
  others = scan_elsewhere h c;
  runs = refl;
  ends = refl;
  epoch = refl;
}

next_of : (s : Size) (h : History) (c : ℕ) → AreAccepted s h → c < s.cpus → 0 < steps_of h c
    → Step s steps_of retires h c
next_of s h c p l m =
    let a = is_awaited (awaits c h) _ m in
    let o = awaited_is_online s c h p a in
    elim (cases_eq (depth c h) 0) [
      | inr d ↦ by_exit s h c a l (omega (arith, d))
      | inl d ↦ elim (cases_Bool (is_idle c h)) [
        | inl i ↦ by_scan s h c a o l d i
        | inr i ↦ by_idle s h c a o l d i
      ]
    ]

pub can_end : (s : Size) (h : History) → AreAccepted s h → running h ≡ true
    → EndsBy retires s h (suc (sum_below s.cpus (steps_of h)))
can_end s h p r =
    descend s steps_of retires (λ _. Unit {0}) refl
    (λ h c e. no_part (awaits c h) (is_idle c h) (depth c h) e)
    (λ h c p r q l m. (next_of s h c p l m, tt)) (sum_below s.cpus (steps_of h)) h p r tt refl

-- as many, counted otherwise
as_many : (kind : Event → Bool) (s : Size) (h : History) (n m : ℕ) → n ≡ m → EndsBy kind s h n
    → EndsBy kind s h m
as_many kind s h n m e o = subst (λ k. EndsBy kind s h k) e o

left_are : (n : ℕ) (f : ℕ → ℕ) → suc (sum_below n f) ≡ sum_by f (range_with_len 0 n) + 1
left_are n f = let i = sums_are n f f (λ c. refl) in omega (arith, i)

pub run_can_end : (s : Size) (run : Run) → IsLegalRun s run → running (history run) ≡ true
    → EndsBy retires s (history run) (steps_left s (history run))
run_can_end s run l r =
    let h = history run in
    as_many retires s h (suc (sum_below s.cpus (steps_of h))) (steps_left s h)
    (left_are s.cpus (steps_of h)) (can_end s h (possible s run l) r)

-- the remaining steps of a processor whose report is collected
abbrev left_of : History → ℕ → ℕ
left_of h c = cond (awaits c h) 1 0

pub none_left : (b : Bool) → cond {A = ℕ} b 1 0 ≡ 0 → b ≡ false
none_left true e = absurd (omega (arith, e))
none_left false e = refl

one_fewer : (b a : Bool) → b ≡ false → a ≡ true → cond {A = ℕ} b 1 0 + 1 ≡ cond a 1 0
one_fewer b a i j = rw (i, j) refl

collect_scan : (s : Size) (h : History) (c : ℕ) → awaits c h ≡ true → online c h ≡ true
    → c < s.cpus → is_idle c h ≡ true → Step s left_of collects h c
collect_scan s h c a o l i = record {
  event = Scan c;
  surely = scanned s h c o l i;
  is_kind = refl;
  less = one_fewer (awaits c (Scan c ∷ h)) (awaits c h) (scan_hears h c) a;
  others = λ d n. ap (λ b. cond b 1 0) (scan_hears_no_other h c d n);
  runs = refl;
  ends = refl;
  epoch = refl;
}

is_some : (c : ℕ) (t : Tag) (o : Option Report) → is_of c t o ≡ true → is_none o ≡ false
is_some c t None i = absurd (cc)
is_some c t (Some r) i = refl

pub of_one : (c d : ℕ) (t : Tag) (o : Option Report) → is_of c t o ≡ true → d ≢ c
    → is_of d t o ≡ false
of_one c d t None i n = absurd (cc)
of_one c d t (Some r) i n =
    let e = eqb-true r.cpu c (and_parts (eqb r.cpu c) (same_tag r.tag t) i).0 in
    ap (λ b. b && same_tag r.tag t) (ne_eqb r.cpu d (λ j. n (sym j ∙ e)))

collect_report : (s : Size) (h : History) (c place : ℕ) → awaits c h ≡ true
    → is_of c (tag_now h) (report_at place (reports_made h)) ≡ true → Step s left_of collects h c
collect_report s h c place a i = record {
  event = Deliver place;
  surely = record {
    accepted =
        ap (λ b. cond b (Some fault.NoReport) None)
        (is_some c (tag_now h) (report_at place (reports_made h)) i);
    stores = refl;
    stands = refl;
    no_fault = λ f i. cc;
  };
  is_kind = refl;
  less = one_fewer (awaits c (Deliver place ∷ h)) (awaits c h)
      (heard_by (running h) (online c (latest begins h))
      (is_of c (tag_now h) (report_at place (reports_made h))) (is_heard c (tag_now h) h) i)
      a;
  others = λ d n.
      ap (λ b. cond b 1 0)
      (unheard_by (running h) (online d (latest begins h))
      (is_of d (tag_now h) (report_at place (reports_made h))) (is_heard d (tag_now h) h)
      (of_one c d (tag_now h) (report_at place (reports_made h)) i n));
  runs = refl;
  ends = refl;
  epoch = refl;
}

-- each awaited processor is quiet
pub AreQuiet : Size → History → Type 0
AreQuiet s h = (c : ℕ) → c < s.cpus → awaits c h ≡ true → IsQuiet c h

quiet_next : (s : Size) (h : History) (c : ℕ) → AreAccepted s h → AreQuiet s h → c < s.cpus
    → 0 < left_of h c → (step : Step s left_of collects h c) × AreQuiet s (step.event ∷ h)
unfolding AreQuiet collect_scan collect_report
quiet_next s h c p q l m =
    let a = is_awaited (awaits c h) 1 m in
    elim (q c l a) [
      | inl i ↦ (
        collect_scan s h c a (awaited_is_online s c h p a) l i,
        λ d k b.
            q d k (still_awaited (running h) (online d (latest begins h)) (eqb c d)
            (is_heard d (tag_now h) h) b),
      )
      | inr o ↦ (
        collect_report s h c o.0 a o.1,
        λ d k b.
            q d k (still_awaited (running h) (online d (latest begins h))
            (is_of d (tag_now h) (report_at o.0 (reports_made h))) (is_heard d (tag_now h) h) b),
      )
    ]

pub quiet_can_end : (s : Size) (run : Run) → IsLegalRun s run → running (history run) ≡ true
    → ((c : ℕ) → c < s.cpus → awaits c (history run) ≡ true → IsQuiet c (history run))
    → EndsBy collects s (history run) (how_many s (λ c. awaits c (history run)) + 1)
unfolding AreQuiet
quiet_can_end s run l r q =
    let h = history run in
    as_many collects s h (suc (sum_below s.cpus (left_of h))) (how_many s (λ c. awaits c h) + 1)
    (left_are s.cpus (left_of h))
    (descend s left_of collects (AreQuiet s) refl (λ h c e. none_left (awaits c h) e)
    (λ h c p r q l m. quiet_next s h c p q l m) (sum_below s.cpus (left_of h)) h (possible s run l)
    r q refl)

-- if each processor of the start set was heard, the end is accepted
unawaited : (s : Size) (c : ℕ) (h : History) → AreAccepted s h → c < s.cpus
    → (starts c h ≡ true → ToldSince c (tag h) h) → awaits c h ≡ false
unawaited s c h p l t =
    awaited_are s c h p l
    ∙ none (starts c h) (is_heard c (tag h) h) (λ i. told_is_heard c (tag h) h (t i))
  where
    none : (a b : Bool) → (a ≡ true → b ≡ true) → (a && not b) ≡ false
    none true b g = rw (g refl) refl
    none false b g = refl

pub heard_can_end : (s : Size) (run : Run) → IsLegalRun s run → running (history run) ≡ true
    → ((c : ℕ) → c < s.cpus → starts c (history run) ≡ true
    → ToldSince c (tag (history run)) (history run))
    → SurelyLeads s (history run) (End ∷ []) (End ∷ history run)
heard_can_end s run l r t =
    let h = history run in
    leads_on s h End [] (End ∷ h)
    (ends_now s h r (λ c k. unawaited s c h (possible s run l) k (t c k))) refl
