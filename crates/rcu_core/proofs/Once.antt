-- No callback is handed out twice: with those still in the lists, each is there at most once.
use Rattle.std.proofs.Common.{◌≡◌, ℕ, zero, suc, ◌+◌, ◌<◌, ◌≤◌, Bool, List, [], ◌∷◌, ◌++◌, None}
use Rattle.std.proofs.Common.{refl, sym, ap, ◌∙◌, arith, cond, eqb, eq-eqb, ne_eqb, ◌⊎◌, inl, inr}
use Rattle.std.proofs.lemmas.Bool.{cases_eq}
use Rattle.std.proofs.lemmas.Bool.Decides.{nat_tests}
use Rattle.rcu_cblist.specs.SegList.{Item, Of, Unmarked, after_migrate, after_renumber, after_take}
use Rattle.rcu_cblist.specs.SegList.{as_it_leaves, mark_renumbered}
use Rattle.rcu_barrier.specs.Tending.{mark_after_tend, after_tend}
use Rattle.rcu_barrier.proofs.Places.{lies, lies-append, lies-cut, lies-leaving, lies-moved}
use Rattle.rcu_barrier.proofs.Places.{lies-remarked}
use Rattle.rcu_core.specs.Callbacks.{is_owed, list, queue_count, times_handed_out}
use Rattle.rcu_core.specs.History.{History, number, tag_now}
use Rattle.rcu_core.specs.Replies.{Size, fault_in, AreAccepted}
use Rattle.rcu_core.specs.Situation.{situation}
use Rattle.rcu_core.specs.Runs.{IsLegalRun, history, Run as Trace}
use Rattle.rcu_core.specs.declared.event.Event.{Event}
use Rattle.rcu_core.specs.declared.event.Event.TheVariants.{Offline, Queue, Tend, Run, Visit}
use Rattle.rcu_core.specs.declared.event.Event.TheVariants.{Renumber}
use Rattle.rcu_core.proofs.Kept.{queue_counts}
use Rattle.rcu_core.proofs.Readers.{possible}

-- the sum over the processors below a bound
abbrev pub sum_below : ℕ → (ℕ → ℕ) → ℕ
sum_below zero f = 0
sum_below (suc n) f = sum_below n f + f n

-- one value changes, and the sum with it
change : (n : ℕ) (f g : ℕ → ℕ) (d : ℕ)
    → ((c : ℕ) → (c ≡ d → ⊥) → g c ≡ f c)
    → ((d < n) × (sum_below n g + f d ≡ sum_below n f + g d))
    ⊎ ((n ≤ d) × (sum_below n g ≡ sum_below n f))
change zero f g d h = inr (omega arith, refl)
change (suc n) f g d h = elim (cases_eq n d) [
  | inl e ↦ elim (change n f g d h) [
    | inl a ↦ absurd (omega arith)
    | inr a ↦
        inl (omega arith, let i : f n ≡ f d = ap f e in let j : g n ≡ g d = ap g e in omega arith)
  ]
  | inr e ↦
      let i = h n e in
      elim (change n f g d h) [
        | inl a ↦ inl (omega arith, omega arith)
        | inr a ↦ inr (omega arith, omega arith)
      ]
]

pub sums : (n : ℕ) (f g : ℕ → ℕ) (d : ℕ) → d < n → ((c : ℕ) → (c ≡ d → ⊥) → g c ≡ f c)
    → sum_below n g + f d ≡ sum_below n f + g d
sums n f g d l h = elim (change n f g d h) [ inl a ↦ a.1 | inr a ↦ absurd (omega arith) ]

zero_sum : (n : ℕ) → sum_below n (λ c. 0) ≡ 0
zero_sum zero = refl
zero_sum (suc n) = let i = zero_sum n in omega arith

-- how often the callback of this place is in the lists of the processors below a bound
abbrev pub lies_below : ℕ → ℕ → History → ℕ
lies_below n j h = sum_below n (λ c. lies j (list c h))

-- how often it was handed out or is in a list
total : ℕ → ℕ → History → ℕ
total n j h = times_handed_out j h + lies_below n j h

record Once (s : Size) (j : ℕ) (h : History) : Type 0 where
  pub once : total s.cpus j h ≤ 1
  pub there : 0 < j → j ≤ queue_count h → total s.cpus j h ≡ 1
  pub later : queue_count h < j → total s.cpus j h ≡ 0

cond_same : {X : Type 0} (d : ℕ) (x y : X) → cond (eqb d d) x y ≡ x
cond_same d x y = rw (eq-eqb d d refl) refl

cond_other : {X : Type 0} (c d : ℕ) (x y : X) → (c ≡ d → ⊥) → cond (eqb d c) x y ≡ y
cond_other c d x y n = rw (ne_eqb d c (λ e. n (sym e))) refl

-- the list of one processor changes
one : (s : Size) (j d : ℕ) (h : History) (e : Event) (xs : List (Item ℕ))
    → d < s.cpus → list d (e ∷ h) ≡ xs → ((c : ℕ) → (c ≡ d → ⊥) → list c (e ∷ h) ≡ list c h)
    → lies_below s.cpus j (e ∷ h) + lies j (list d h) ≡ lies_below s.cpus j h + lies j xs
one s j d h e xs l i o =
    sums s.cpus (λ c. lies j (list c h)) (λ c. lies j (list c (e ∷ h))) d l
    (λ c n. ap (λ (ys : List (Item ℕ)). lies j ys) (o c n))
    ∙ ap (λ (ys : List (Item ℕ)). lies_below s.cpus j h + lies j ys) i

queue_step : (s : Size) (j d y : ℕ) (h : History)
    → fault_in s (situation h) (Queue d y) ≡ None → Once s j h → Once s j (Queue d y ∷ h)
unfolding total
queue_step s j d y h p o =
    let new : Item ℕ =
    Of (record { ord = queue_count h + 1; at = tag_now h; value = y }) Unmarked in
    let l : d < s.cpus = grind (arith, nat_tests) in
    let k = one s j d h (Queue d y) (list d h ++ new ∷ []) l
    (cond_same d (list d h ++ new ∷ []) (list d h))
    (λ c n. cond_other c d (list c h ++ new ∷ []) (list c h) n) in
    let a = lies-append j (list d h) (new ∷ []) in
    let n = queue_counts d y h in
    let f = o.later in
    let q = o.there in
    record {
      once = let t = o.once in grind (arith, nat_tests);
      there = λ z b. grind (arith, nat_tests);
      later = λ q. grind (arith, nat_tests);
    }

run_step : (s : Size) (j d m : ℕ) (h : History) → fault_in s (situation h) (Run d m) ≡ None
    → total s.cpus j (Run d m ∷ h) ≡ total s.cpus j h
unfolding total
run_step s j d m h p =
    let l : d < s.cpus = grind (arith, nat_tests) in
    let k = one s j d h (Run d m) (after_take (list d h) m) l
    (cond_same d (after_take (list d h) m) (list d h))
    (λ c n. cond_other c d (after_take (list c h) m) (list c h) n) in
    let a = lies-cut j m (list d h) in
    omega (arith, k, a)

tend_step : (s : Size) (j d : ℕ) (h : History) → fault_in s (situation h) (Tend d) ≡ None
    → total s.cpus j (Tend d ∷ h) ≡ total s.cpus j h
unfolding total
tend_step s j d h p =
    let l : d < s.cpus = grind (arith, nat_tests) in
    let k = one s j d h (Tend d) (after_tend (list d h) (number h)) l
    (cond_same d (after_tend (list d h) (number h)) (list d h))
    (λ c n. cond_other c d (after_tend (list c h) (number h)) (list c h) n) in
    let a = lies-remarked j (mark_after_tend (number h)) (list d h) in
    omega (arith, k, a)

visit_step : (s : Size) (j d : ℕ) (h : History) → fault_in s (situation h) (Visit d) ≡ None
    → total s.cpus j (Visit d ∷ h) ≡ total s.cpus j h
unfolding total
visit_step s j d h p =
    let l : d < s.cpus = grind (arith, nat_tests) in
    let owed = is_owed d h in
    let k = one s j d h (Visit d) (as_it_leaves (list d h) owed) l
    (cond_same d (as_it_leaves (list d h) owed) (list d h))
    (λ c n. cond_other c d (as_it_leaves (list c h) owed) (list c h) n) in
    let a = lies-leaving j owed (list d h) in
    omega (arith, k, a)

-- the lists after a departure, but for that of processor 0
away : ℕ → History → ℕ → List (Item ℕ)
away d h c = cond (eqb d c) [] (list c h)

-- a processor other than 0 takes no list in
elsewhere : (j c d : ℕ) (xs ys : List (Item ℕ)) → (c ≡ 0 → ⊥)
    → lies j (cond (eqb d c) [] (cond (eqb c 0) xs ys)) ≡ lies j (cond (eqb d c) [] ys)
elsewhere j c d xs ys n =
    ap (λ (t : Bool). lies j (cond (eqb d c) [] (cond t xs ys))) (ne_eqb c 0 n)

offline_step : (s : Size) (j d : ℕ) (h : History) → fault_in s (situation h) (Offline d) ≡ None
    → total s.cpus j (Offline d ∷ h) ≡ total s.cpus j h
unfolding total away
offline_step s j d h p =
    let l : d < s.cpus = grind (arith, nat_tests) in
    let z : (d ≡ 0) → ⊥ = λ e. grind (arith, nat_tests) in
    let y : (0 ≡ d) → ⊥ = λ e. z (sym e) in
    let xs : List (Item ℕ) = as_it_leaves (list d h) (is_owed d h) in
    let lists = λ (c : ℕ). after_migrate (list c h) xs in
    let same = λ (xs : List (Item ℕ)). lies j xs in
    let k = sums s.cpus (λ c. lies j (list c h)) (λ c. lies j (away d h c)) d l
    (λ c n. ap same (cond_other c d [] (list c h) n)) in
    let m = sums s.cpus (λ c. lies j (away d h c)) (λ c. lies j (list c (Offline d ∷ h))) 0
    (omega (arith, l)) (λ c n. elsewhere j c d (lists c) (list c h) n) in
    let a : lies j (away d h d) ≡ 0 = ap same (cond_same d [] (list d h)) in
    let b : lies j (away d h 0) ≡ lies j (list 0 h) = ap same (cond_other 0 d [] (list 0 h) y) in
    let e : lies j (list 0 (Offline d ∷ h)) ≡ lies j (lists 0) =
    ap same (cond_other 0 d [] (lists 0) y) in
    let q = lies-moved j xs (list 0 h) in
    let r = lies-leaving j (is_owed d h) (list d h) in
    omega (arith, k, m, a, b, e, q, r)

-- the lists of all processors change, and each holds as many
sum_same : (n : ℕ) (f g : ℕ → ℕ) → ((c : ℕ) → f c ≡ g c) → sum_below n f ≡ sum_below n g
sum_same zero f g h = refl
sum_same (suc n) f g h = let i = sum_same n f g h in let j = h n in omega (arith, i, j)

renumber_step : (s : Size) (j : ℕ) (h : History) → total s.cpus j (Renumber ∷ h) ≡ total s.cpus j h
unfolding total
renumber_step s j h =
    let k = sum_same s.cpus (λ c. lies j (after_renumber (list c h))) (λ c. lies j (list c h))
    (λ c. lies-remarked j mark_renumbered (list c h)) in
    omega (arith, k)

same_once : (s : Size) (j : ℕ) (h : History) (e : Event) → total s.cpus j (e ∷ h) ≡ total s.cpus j h
    → queue_count (e ∷ h) ≡ queue_count h → Once s j h → Once s j (e ∷ h)
same_once s j h e i q o = record {
  once = rw i o.once;
  there = λ z b. i ∙ o.there z (rw q at b);
  later = λ l. i
      ∙ o.later (rw q at l);
}

once_step : (s : Size) (j : ℕ) (e : Event) (h : History)
    → fault_in s (situation h) e ≡ None → Once s j h → Once s j (e ∷ h)
unfolding total
once_step s j (Queue d y) h p o = queue_step s j d y h p o
once_step s j (Run d m) h p o = same_once s j h (Run d m) (run_step s j d m h p) refl o
once_step s j (Tend d) h p o = same_once s j h (Tend d) (tend_step s j d h p) refl o
once_step s j (Visit d) h p o = same_once s j h (Visit d) (visit_step s j d h p) refl o
once_step s j (Offline d) h p o = same_once s j h (Offline d) (offline_step s j d h p) refl o
once_step s j Renumber h p o = same_once s j h Renumber (renumber_step s j h) refl o
once_step s j e h p o = same_once s j h e refl refl o

once_each : (s : Size) (j : ℕ) (h : History) → AreAccepted s h → Once s j h
unfolding total
once_each s j [] p =
    let i = zero_sum s.cpus in
    record {
      once = omega (arith, i);
      there = λ z b. absurd (omega arith);
      later = λ l. omega (arith, i);
    }
once_each s j (e ∷ h) p = once_step s j e h p.0 (once_each s j h p.1)

pub at_most_once : (s : Size) (j : ℕ) (h : History) → AreAccepted s h → times_handed_out j h ≤ 1
unfolding total
at_most_once s j h p = let o = (once_each s j h p).once in omega (arith, o)

pub no_second_run : (s : Size) (run : Trace) (j : ℕ) → IsLegalRun s run
    → times_handed_out j (history run) ≤ 1
no_second_run s run j l = at_most_once s j (history run) (possible s run l)

-- one that was queued and is in no list was handed out
pub then_once : (s : Size) (j : ℕ) (h : History) → AreAccepted s h → 0 < j → j ≤ queue_count h
    → lies_below s.cpus j h ≡ 0 → times_handed_out j h ≡ 1
unfolding total
then_once s j h p z b e = let o = (once_each s j h p).there z b in omega (arith, o, e)

-- one that was queued was handed out or is in a list, once
pub queued_once : (s : Size) (j : ℕ) (h : History) → AreAccepted s h → 0 < j → j ≤ queue_count h
    → times_handed_out j h + lies_below s.cpus j h ≡ 1
unfolding total
queued_once s j h p z b = (once_each s j h p).there z b
