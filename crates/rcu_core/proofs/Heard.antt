-- The processors that the latest grace period awaits, whether it runs or has ended, and how a
-- processor is heard.
use Rattle.std.proofs.Common.{◌≡◌, ℕ, ◌<◌, Bool, true, false, not, ◌&&◌, ◌||◌, [], ◌∷◌, ◌++◌, None}
use Rattle.std.proofs.Common.{refl, sym, ap, ◌∙◌, subst, arith}
use Rattle.std.specs.List.{list_any}
use Rattle.std.proofs.lemmas.Bool.{and_parts, or_parts, or_right}
use Rattle.std.proofs.lemmas.Bool.Decides.{nat_tests}
use Rattle.rcu_seq.specs.Histories.{latest}
use Rattle.rcu_seq.specs.declared.tag.Tag.{Tag}
use Rattle.rcu_core.specs.History.{History, awaits, begins, hears, is_heard, online, running}
use Rattle.rcu_core.specs.History.{tag_now}
use Rattle.rcu_core.specs.Links.{ToldSince, starts, tag}
use Rattle.rcu_core.specs.Replies.{Size, fault_in, AreAccepted}
use Rattle.rcu_core.specs.Situation.{situation}
use Rattle.rcu_core.specs.declared.event.Event.{Event}
use Rattle.rcu_core.specs.declared.event.Event.TheVariants.{Begin, End, Renumber}
use Rattle.rcu_core.proofs.Kept.{Turns, begin_counts, end_counts, none_awaited, turns}

-- while a grace period runs its tag is the number, and one began
record Runs (h : History) : Type 0 where
  pub at_tag : tag_now h ≡ tag h
  pub began : list_any begins h ≡ true

runs_step : (s : Size) (e : Event) (h : History)
    → fault_in s (situation h) e ≡ None
    → Turns h
    → (running h ≡ true → Runs h)
    → running (e ∷ h) ≡ true
    → Runs (e ∷ h)
runs_step s Begin h p t k r = record { at_tag = refl; began = refl }
runs_step s End h p t k r =
    let n = end_counts h in let b = t.begins_le in absurd (grind (arith, nat_tests))
runs_step s Renumber h p t k r = absurd (grind (arith, nat_tests))
runs_step s _ h p t k r = record { at_tag = (k r).at_tag; began = (k r).began }

runs_at_tag : (s : Size) (h : History) → AreAccepted s h → running h ≡ true → Runs h
runs_at_tag s [] p r = absurd (cc)
runs_at_tag s (e ∷ h) p r = runs_step s e h p.0 (turns s h p.1) (runs_at_tag s h p.1) r

-- a processor of the start set that is not awaited while its grace period runs was heard
heard_there : (r o b : Bool) → r ≡ true → o ≡ true → (r && (o && not b)) ≡ false → b ≡ true
heard_there true true true r o e = refl
heard_there true true false r o e = absurd (cc)
heard_there true false b r o e = absurd (cc)
heard_there false o b r e f = absurd (cc)

-- a grace period ends if each processor of the start set was heard
end_heard : (s : Size) (c : ℕ) (h : History) → fault_in s (situation h) End ≡ None → c < s.cpus
    → (running h ≡ true → Runs h) → starts c h ≡ true → is_heard c (tag h) h ≡ true
end_heard s c h p l k i =
    let r : running h ≡ true = grind (arith, nat_tests) in
    let at = (k r).at_tag in
    let n = none_awaited s h p c l in
    let there = (and_parts (list_any begins h) (online c (latest begins h)) i).1 in
    subst (λ t. is_heard c t h ≡ true) at
    (heard_there (running h) (online c (latest begins h)) (is_heard c (tag_now h) h) r there n)

ended_step : (s : Size) (c : ℕ) (e : Event) (h : History)
    → fault_in s (situation h) e ≡ None
    → c < s.cpus
    → Turns h
    → (running h ≡ true → Runs h)
    → (running h ≡ false → starts c h ≡ true → is_heard c (tag h) h ≡ true)
    → running (e ∷ h) ≡ false
    → starts c (e ∷ h) ≡ true
    → is_heard c (tag (e ∷ h)) (e ∷ h) ≡ true
ended_step s c Begin h p l t k g r i =
    let n = begin_counts h in let b = t.ends_le in absurd (grind (arith, nat_tests))
ended_step s c End h p l t k g r i = end_heard s c h p l k i
ended_step s c e h p l t k g r i = or_right (hears c (tag h) e h) (is_heard c (tag h) h) (g r i)

-- once it ended, each processor of the start set was heard
ended_heard : (s : Size) (c : ℕ) (h : History)
    → AreAccepted s h → c < s.cpus → running h ≡ false → starts c h ≡ true
    → is_heard c (tag h) h ≡ true
ended_heard s c [] p l r i = absurd (cc)
ended_heard s c (e ∷ h) p l r i =
    ended_step s c e h p.0 l (turns s h p.1) (runs_at_tag s h p.1) (ended_heard s c h p.1 l) r i

while_running : (r a o x y : Bool) → r ≡ true → a ≡ true → x ≡ y
    → (r && (o && not x)) ≡ ((a && o) && not y)
while_running true true o x y r a i = ap (λ b. o && not b) i
while_running true false o x y r a i = absurd (cc)
while_running false a o x y r b i = absurd (cc)

once_ended : (r z b y : Bool) → r ≡ false → (b ≡ true → y ≡ true) → (r && z) ≡ (b && not y)
once_ended false z true true r g = refl
once_ended false z true false r g = absurd (let i = g refl in cc)
once_ended false z false y r g = refl
once_ended true z b y r g = absurd (cc)

awaited_by : (s : Size) (c : ℕ) (h : History) (r : Bool)
    → AreAccepted s h → c < s.cpus → running h ≡ r
    → awaits c h ≡ (starts c h && not (is_heard c (tag h) h))
awaited_by s c h true p l r =
    let k = runs_at_tag s h p r in
    while_running (running h) (list_any begins h) (online c (latest begins h))
    (is_heard c (tag_now h) h) (is_heard c (tag h) h) r k.began (ap (λ t. is_heard c t h) k.at_tag)
awaited_by s c h false p l r =
    once_ended (running h) (online c (latest begins h) && not (is_heard c (tag_now h) h))
    (starts c h) (is_heard c (tag h) h) r (ended_heard s c h p l r)

-- the awaited processors, whether a grace period runs or has ended: those of the start set that
-- were not heard
pub awaited_are : (s : Size) (c : ℕ) (h : History) → AreAccepted s h → c < s.cpus
    → awaits c h ≡ (starts c h && not (is_heard c (tag h) h))
awaited_are s c h p l = awaited_by s c h (running h) p l refl

unheard_alike : (a b x y : Bool) → a ≡ b → (a ≡ true → x ≡ y) → (a && not x) ≡ (b && not y)
unheard_alike true true x y i g = ap (λ z. not z) (g refl)
unheard_alike true false x y i g = absurd (cc)
unheard_alike false true x y i g = absurd (cc)
unheard_alike false false x y i g = refl

pub alike_awaited : (s u : Size) (h g : History) → AreAccepted s h → AreAccepted u g → tag h ≡ tag g
    → ((c : ℕ) → starts c h ≡ starts c g)
    → ((c : ℕ) → starts c h ≡ true → is_heard c (tag h) h ≡ is_heard c (tag g) g) →
    (c : ℕ) → c < s.cpus → c < u.cpus → awaits c h ≡ awaits c g
alike_awaited s u h g p q t b f c l m =
    awaited_are s c h p l
    ∙ unheard_alike (starts c h) (starts c g) (is_heard c (tag h) h) (is_heard c (tag g) g) (b c)
    (f c)
    ∙ sym (awaited_are u c g q m)

told_after : (c : ℕ) (t : Tag) (e : Event) (h : History) (b d : Bool)
    → begins e ≡ b
    → hears c t e h ≡ d
    → (not b && (d || is_heard c t h)) ≡ true
    → (is_heard c t h ≡ true → ToldSince c t h)
    → ToldSince c t (e ∷ h)
told_after c t e h true d i j k g = absurd (cc)
told_after c t e h false true i j k g = record {
  later = [];
  event = e;
  earlier = h;
  is = refl;
  no_begin_later = refl;
  is_no_begin = i;
  tells = j;
}
told_after c t e h false false i j k g = let o = g k in record {
  later = e ∷ o.later;
  event = o.event;
  earlier = o.earlier;
  is = ap (λ (x : History). e ∷ x) o.is;
  no_begin_later = rw i o.no_begin_later;
  is_no_begin = o.is_no_begin;
  tells = o.tells;
}

-- a processor that is heard has such an event since the latest begin
pub heard_is_told : (c : ℕ) (t : Tag) (h : History) → is_heard c t h ≡ true → ToldSince c t h
heard_is_told c t [] i = absurd (cc)
heard_is_told c t (e ∷ h) i =
    told_after c t e h (begins e) (hears c t e h) refl refl i (heard_is_told c t h)

told_here : (a b c : Bool) → a ≡ false → b ≡ true → (not a && (b || c)) ≡ true
told_here true b c i j = absurd (cc)
told_here false true c i j = refl
told_here false false c i j = absurd (cc)

told_later : (a b c : Bool) → a ≡ false → c ≡ true → (not a && (b || c)) ≡ true
told_later true b c i j = absurd (cc)
told_later false true c i j = refl
told_later false false c i j = j

told_in : (c : ℕ) (t : Tag) (later : History) (e : Event) (earlier : History)
    → list_any begins later ≡ false → begins e ≡ false → hears c t e earlier ≡ true
    → is_heard c t (later ++ e ∷ earlier) ≡ true
told_in c t [] e earlier n i j =
    told_here (begins e) (hears c t e earlier) (is_heard c t earlier) i j
told_in c t (x ∷ later) e earlier n i j =
    let q = or_parts (begins x) (list_any begins later) n in
    told_later (begins x) (hears c t x (later ++ e ∷ earlier)) (is_heard c t (later ++ e ∷ earlier))
    q.0 (told_in c t later e earlier q.1 i j)

-- and one that has such an event is heard
pub told_is_heard : (c : ℕ) (t : Tag) (h : History) → ToldSince c t h → is_heard c t h ≡ true
told_is_heard c t h o =
    subst (λ x. is_heard c t x ≡ true) (sym o.is)
    (told_in c t o.later o.event o.earlier o.no_begin_later o.is_no_begin o.tells)
