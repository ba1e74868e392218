-- The way out goes by the processors, one after another.
use Rattle.std.proofs.Common.{◌≡◌, ◌≢◌, ◌∙◌, ℕ, zero, suc, ◌+◌, ◌<◌, ◌≤◌, Bool, true, false, cond}
use Rattle.std.proofs.Common.{List, [], ◌∷◌, ◌++◌, Option, None, Some, inl, inr, refl, sym, ap, ap₂}
use Rattle.std.proofs.Common.{arith, eqb, ne_eqb, replicate, subst}
use Rattle.std.specs.List.{flat_map, range_with_len}
use Rattle.std.proofs.Math.Nat.{eq-or-lt_of_le}
use Rattle.rcu_core.specs.History.{History, awaits, depth, is_idle, running}
use Rattle.rcu_core.specs.Replies.{AreAccepted, Size}
use Rattle.rcu_core.specs.Situation.{situation}
use Rattle.rcu_core.specs.WayOut.{IsWayOut, first_awaited, next_retiring_event, retiring_event_for}
use Rattle.rcu_core.specs.WayOut.{retiring_event_of, retiring_events_of, steps_out, way_out}
use Rattle.rcu_core.specs.declared.event.Event.{Event}
use Rattle.rcu_core.specs.declared.event.Event.TheVariants.{End, Exit, Idle, Scan}
use Rattle.rcu_core.proofs.Ending.{has_ended, scan_hears, scan_hears_no_other}
use Rattle.rcu_core.proofs.Kept.{exit_counts}
use Rattle.rcu_core.proofs.Sections.{one_less}
use Rattle.rcu_core.proofs.WayOut.{none_before, none_is_next, found, not_found, of_cases, of_one}
use Rattle.rcu_core.proofs.Writes.{eqb_self}

-- lists of one number after another: one of them loses its first item, and those before are empty
same_after : (f g : ℕ → List Event) (c a n : ℕ) → c < a → ((d : ℕ) → d ≢ c → g d ≡ f d)
    → flat_map f (range_with_len a n) ≡ flat_map g (range_with_len a n)
same_after f g c a zero l other = refl
same_after f g c a (suc n) l other =
    ap₂ (λ (x y : List Event). x ++ y) (sym (other a (λ i. omega (arith, i, l))))
    (same_after f g c (a + 1) n (omega (arith, l)) other)

first_taken : (f g : ℕ → List Event) (e : Event) (c a n : ℕ) → a ≤ c → c < a + n
    → f c ≡ e ∷ g c
    → ((d : ℕ) → d ≢ c → g d ≡ f d)
    → ((d : ℕ) → a ≤ d → d < c → f d ≡ [])
    → flat_map f (range_with_len a n) ≡ e ∷ flat_map g (range_with_len a n)
first_taken f g e c a zero l m here other none = absurd (omega (arith, l, m))
first_taken f g e c a (suc n) l m here other none =
    elim (eq-or-lt_of_le {n = a} {m = c} l) [
      | inl at ↦
          ap₂ (λ (x y : List Event). x ++ y) (subst (λ k. f k ≡ e ∷ g k) (sym at) here)
          (same_after f g c (a + 1) n (omega (arith, at)) other)
      | inr before ↦
          let empty = none a (omega arith) before in
          let too = other a (λ i. omega (arith, i, before)) ∙ empty in
          ap (λ (x : List Event). x ++ flat_map f (range_with_len (a + 1) n)) empty
          ∙ first_taken f g e c (a + 1) n (omega (arith, before)) (omega (arith, m)) here other
          (λ d k. none d (omega (arith, k)))
          ∙ sym
          (ap (λ (x : List Event). e ∷ (x ++ flat_map g (range_with_len (a + 1) n))) too)
    ]

all_empty : (f : ℕ → List Event) (a n : ℕ) → ((d : ℕ) → a ≤ d → d < a + n → f d ≡ [])
    → flat_map f (range_with_len a n) ≡ []
all_empty f a zero none = refl
all_empty f a (suc n) none =
    ap (λ (x : List Event). x ++ flat_map f (range_with_len (a + 1) n))
    (none a (omega arith) (omega arith))
    ∙ all_empty f (a + 1) n (λ d l m. none d (omega (arith, l)) (omega (arith, m)))

-- an event is the first one of a processor's, and changes no other's
record Leads (h : History) (c : ℕ) (e : Event) : Type 0 where
  pub here : retiring_events_of (situation h) c
      ≡ e ∷ retiring_events_of (situation (e ∷ h)) c
  pub other : (d : ℕ) → d ≢ c
      → retiring_events_of (situation (e ∷ h)) d ≡ retiring_events_of (situation h) d
  pub runs : running (e ∷ h) ≡ running h

abbrev part : Bool → Bool → ℕ → ℕ → List Event
part a i n c = cond a (replicate n (Exit c) ++ (cond i [] (Idle c ∷ []) ++ Scan c ∷ [])) []

exit_first : (a i : Bool) (n m c : ℕ) → a ≡ true → n ≡ suc m
    → part a i n c ≡ Exit c ∷ part a i m c
exit_first a i n m c j e = rw (j, e) refl

by_exit : (h : History) (c : ℕ) → awaits c h ≡ true → 0 < depth c h → Leads h c (Exit c)
by_exit h c a l = record {
  here =
      let one = one_less c h l in
      exit_first (awaits c h) (is_idle c h) (depth c h) (depth c (Exit c ∷ h)) c a
      (omega (arith, one));
  other = λ d n. ap (λ k. part (awaits d h) (is_idle d h) k d) (same d n);
  runs = refl;
}
  where
    same : (d : ℕ) → d ≢ c → depth d (Exit c ∷ h) ≡ depth d h
    same d n =
        let counts = exit_counts d c h in
        let none : cond {A = ℕ} (eqb c d) 1 0 ≡ 0 =
        ap (λ b. cond {A = ℕ} b 1 0) (ne_eqb c d (λ i. n (sym i))) in
        omega (arith, counts, none)

idle_first : (a i j : Bool) (n c : ℕ) → a ≡ true → i ≡ false → j ≡ true → n ≡ 0
    → part a i n c ≡ Idle c ∷ part a j n c
idle_first a i j n c x y z e = rw (x, y, z, e) refl

by_idle : (h : History) (c : ℕ) → awaits c h ≡ true → depth c h ≡ 0 → is_idle c h ≡ false
    → Leads h c (Idle c)
by_idle h c a d i = record {
  here = idle_first (awaits c h) (is_idle c h) (is_idle c (Idle c ∷ h)) (depth c h) c a i
      (ap (λ b. cond b true (is_idle c h)) (eqb_self c)) d;
  other = λ d n.
      ap (λ b. part (awaits d h) (cond b true (is_idle d h)) (depth d h) d)
      (ne_eqb c d (λ i. n (sym i)));
  runs = refl;
}

scan_first : (a b i : Bool) (n c : ℕ) → a ≡ true → b ≡ false → i ≡ true → n ≡ 0
    → part a i n c ≡ Scan c ∷ part b i n c
scan_first a b i n c x y z e = rw (x, y, z, e) refl

by_scan : (h : History) (c : ℕ) → awaits c h ≡ true → depth c h ≡ 0 → is_idle c h ≡ true
    → Leads h c (Scan c)
by_scan h c a d i = record {
  here = scan_first (awaits c h) (awaits c (Scan c ∷ h)) (is_idle c h) (depth c h) c a
      (scan_hears h c) i d;
  other = λ d n. ap (λ b. part b (is_idle d h) (depth d h) d) (scan_hears_no_other h c d n);
  runs = refl;
}

leads : (h : History) (c : ℕ) → awaits c h ≡ true
    → Leads h c (retiring_event_of (situation h) c)
leads h c a =
    of_cases (λ e. Leads h c e) h c (λ d. by_exit h c a d) (λ d i. by_scan h c a d i)
    (λ d i. by_idle h c a d i)

-- the events of a processor that is not awaited are none
none_of : (h : History) (c : ℕ) → awaits c h ≡ false → retiring_events_of (situation h) c ≡ []
none_of h c a = ap (λ b. part b (is_idle c h) (depth c h) c) a

-- the whole way, from its first event on
way_on : (s : Size) (h : History) (c : ℕ) → awaits c h ≡ true
    → first_awaited s (situation h) ≡ Some c
    → way_out s (situation h)
    ≡ retiring_event_of (situation h) c
    ∷ way_out s (situation (retiring_event_of (situation h) c ∷ h))
way_on s h c a first =
    let e = retiring_event_of (situation h) c in
    let at = leads h c a in
    let l = (found (λ d. awaits d h) 0 s.cpus c first).0 in
    ap (λ (x : List Event). x ++ End ∷ [])
    (first_taken (retiring_events_of (situation h)) (retiring_events_of (situation (e ∷ h))) e c 0
    s.cpus (omega arith) l at.here at.other
    (λ d k m. none_of h d (none_before (λ d. awaits d h) 0 s.cpus c first d k m)))

way_at_end : (s : Size) (h : History) → first_awaited s (situation h) ≡ None
    → way_out s (situation h) ≡ End ∷ []
way_at_end s h first =
    ap (λ (x : List Event). x ++ End ∷ [])
    (all_empty (retiring_events_of (situation h)) 0 s.cpus
    (λ d k m. none_of h d (not_found (λ d. awaits d h) 0 s.cpus first d k m)))

-- the next event is the first one
next_is : (s : Size) (h : History) (o : Option ℕ) → running h ≡ true
    → first_awaited s (situation h) ≡ o
    → next_retiring_event s (situation h) ≡ Some (retiring_event_for (situation h) o)
next_is s h o r first =
    let event = retiring_event_for (situation h) (first_awaited s (situation h)) in
    ap (λ b. cond b (Some event) None) r
    ∙ ap (λ k. Some (retiring_event_for (situation h) k)) first

some_left : (b : Bool) (m : ℕ) → b ≡ true → cond b (m + 1) 0 ≡ 0 → ⊥
some_left true m i e = omega (arith, e)
some_left false m i e = cc

from_first : (s : Size) (n : ℕ) (h : History)
    → ((g : History) → AreAccepted s g → running g ≡ true → steps_out s g ≡ n
    → (reached : History) × IsWayOut s g (way_out s (situation g)) reached)
    → AreAccepted s h
    → running h ≡ true
    → steps_out s h ≡ suc n
    → (o : Option ℕ)
    → first_awaited s (situation h) ≡ o
    → (reached : History) × IsWayOut s h (way_out s (situation h)) reached
from_first s n h go p r e None first =
    let over = has_ended s h p r in (
      End ∷ h,
      subst (λ events. IsWayOut s h events (End ∷ h)) (sym (way_at_end s h first))
          (next_is s h None r first, (refl, none_is_next s (End ∷ h) over.idle)),
    )
from_first s n h go p r e (Some c) first =
    let at = found (λ d. awaits d h) 0 s.cpus c first in
    let l = at.0 in
    let event = retiring_event_of (situation h) c in
    let taken = of_one s h c p r at.1 (omega (arith, l)) in
    let one = taken.step.fewer in
    let rest = go (event ∷ h) (taken.surely.accepted, p) ((leads h c at.1).runs ∙ r)
    (omega (arith, one, e)) in (
      rest.0,
      subst (λ events. IsWayOut s h events rest.0) (sym (way_on s h c at.1 first))
          (next_is s h (Some c) r first, rest.1),
    )

go : (s : Size) (n : ℕ) (h : History) → AreAccepted s h → running h ≡ true → steps_out s h ≡ n
    → (reached : History) × IsWayOut s h (way_out s (situation h)) reached
go s zero h p r e = absurd (some_left (running h) _ r e)
go s (suc n) h p r e =
    from_first s n h (λ g. go s n g) p r e (first_awaited s (situation h)) refl

pub listed_way : (s : Size) (h : History) → AreAccepted s h → running h ≡ true
    → (reached : History) × IsWayOut s h (way_out s (situation h)) reached
listed_way s h p r = go s (steps_out s h) h p r refl
