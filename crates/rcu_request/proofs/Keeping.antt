-- The rule if the view of one end changes: what the others keep.
use Rattle.std.proofs.Common.{◌≡◌, ◌≢◌, ℕ, zero, suc, ◌<◌, ◌≤◌, List, [], ◌∷◌, ◌++◌, length}
use Rattle.std.proofs.Common.{get_or, set, true, false, Bool, refl, sym, ap, ◌∙◌, subst}
use Rattle.std.proofs.Common.{⊎_elim, arith}
use mathlib.Core.Logic.{dite}
use mathlib.Core.Option.{some, some-injective, some-ne-none}
use native.Mathlib.Decide.{ℕ_discrete}
use lib.ListN.{get_elem?}
use Rattle.atomic_table.proofs.Lists.{at_longer, at_set, at_snoc, set_else, set_here}
use Rattle.rcu_request.specs.Rule.{Fits, IsKept, IsRaised, IsTold, Moment}
use Rattle.rcu_request.specs.Requests.{cpu_index, thread_at_first}
use Rattle.rcu_request.specs.declared.knowledge.Knowledge.{Knowledge}

pub inside : {A : Type 0} (l : List A) (i : ℕ) (a : A) → get_elem? l i ≡ some a → i < length l
inside [] i a e = absurd (some-ne-none a (sym e))
inside (x ∷ xs) zero a e = omega arith
inside (x ∷ xs) (suc i) a e = let h = inside xs i a e in omega (arith, h)

pub true_or_false : (b : Bool) → b ≡ true → b ≡ false → ⊥
true_or_false b here there = cc

-- the end that raised the greatest request, if that stays, and the value to which the changed end
-- raised it
pub made_still : (s : Moment) → IsKept s → (id : ℕ) (v w : Knowledge) (words : List ℕ)
    → get_elem? s.views id ≡ some v → w.raised ≡ v.raised → get_or words 0 0 ≡ get_or s.words 0 0
    → IsRaised record { words = words; homes = s.homes; views = set s.views id w }
made_still s k id v w words at same number =
    let m : IsRaised s = k.made in
    dite (ℕ_discrete m.by id)
    (λ (e : m.by ≡ id).
    let is : m.knows ≡ v =
    some-injective _ _ (sym m.here ∙ ap (λ (i : ℕ). get_elem? s.views i) e ∙ at) in
    record {
      by = id;
      knows = w;
      here = set_here s.views id w (inside s.views id v at);
      is = same ∙ ap (λ (x : Knowledge). x.raised) (sym is) ∙ m.is ∙ sym number;
    })
    (λ (ne : m.by ≢ id). record {
      by = m.by;
      knows = m.knows;
      here = set_else s.views id m.by w ne ∙ m.here;
      is = m.is ∙ sym number;
    })

-- one view changes, and words do: the rule is kept if the others fit, and the changed one does
pub changed : (s : Moment) (k : IsKept s) (id : ℕ) (v w : Knowledge) (words : List ℕ)
    → get_elem? s.views id ≡ some v
    → cpu_index < length words
    → 1 ≤ get_or words 0 0
    → w.drives ≡ v.drives
    → ((j : ℕ) (u : Knowledge) → j ≢ id → get_elem? s.views j ≡ some u → Fits (get_or words 0 0)
    (get_or words 16 0) (get_or words 32 0) u)
    → Fits (get_or words 0 0) (get_or words 16 0) (get_or words 32 0) w
    → ((j : ℕ) (u : Knowledge) → j ≢ id → get_elem? s.views j ≡ some u → IsTold w u)
    → ((j : ℕ) (u : Knowledge) → j ≢ id → get_elem? s.views j ≡ some u → IsTold u w)
    → IsRaised record { words = words; homes = s.homes; views = set s.views id w }
    → IsKept record { words = words; homes = s.homes; views = set s.views id w }
changed s k id v w words at room least role others mine tells is_told made =
    let old : (j : ℕ) (u : Knowledge) → get_elem? (set s.views id w) j ≡ some u
    → (x : Knowledge) × (get_elem? s.views j ≡ some x) × (x.drives ≡ u.drives) =
    λ j u here.
    ⊎_elim
    (λ (t : (j ≡ id) × (w ≡ u)). (
      v,
      ap (λ (i : ℕ). get_elem? s.views i) t.0 ∙ at,
      sym role ∙ ap (λ (x : Knowledge). x.drives) t.1,
    ))
    (λ (t : (j ≢ id) × (get_elem? s.views j ≡ some u)). (u, t.1, refl))
    (at_set s.views id j w u here) in
    record {
      room = room;
      fits = λ j u here.
          ⊎_elim
          (λ (t : (j ≡ id) × (w ≡ u)).
          subst
          (λ (y : Knowledge). Fits (get_or words 0 0) (get_or words 16 0) (get_or words 32 0) y)
          t.1 mine)
          (λ (t : (j ≢ id) × (get_elem? s.views j ≡ some u)). others j u t.0 t.1)
          (at_set s.views id j w u here);
      lone = λ i j a b here there da db.
          let x = old i a here in
          let y = old j b there in k.lone i j x.0 y.0 x.1 y.1 (x.2 ∙ da) (y.2 ∙ db);
      told = λ i j a b here there.
          ⊎_elim
          (λ (t : (i ≡ id) × (w ≡ a)).
          ⊎_elim (λ (r : (j ≡ id) × (w ≡ b)). both_told a b (sym t.1 ∙ r.1))
          (λ (r : (j ≢ id) × (get_elem? s.views j ≡ some b)).
          subst (λ (y : Knowledge). IsTold y b) t.1 (tells j b r.0 r.1))
          (at_set s.views id j w b there))
          (λ (t : (i ≢ id) × (get_elem? s.views i ≡ some a)).
          ⊎_elim
          (λ (r : (j ≡ id) × (w ≡ b)).
          subst (λ (y : Knowledge). IsTold a y) r.1 (is_told i a t.0 t.1))
          (λ (r : (j ≢ id) × (get_elem? s.views j ≡ some b)). k.told i j a b t.1 r.1)
          (at_set s.views id j w b there))
          (at_set s.views id i w a here);
      least = least;
      made = made;
    }
  where
    both_told : (a b : Knowledge) → a ≡ b → IsTold a b
    both_told a b e drives asleep looked not_drives tlooked less =
        absurd
        (true_or_false b.drives (sym (ap (λ (x : Knowledge). x.drives) e) ∙ drives) not_drives)

-- a thread's view comes in
pub dealt : (s : Moment) → IsKept s
    → IsKept record { words = s.words; homes = s.homes; views = s.views ++ thread_at_first ∷ [] }
dealt s k = added
  where
    t : Knowledge
    t = thread_at_first

    new : List Knowledge
    new = s.views ++ t ∷ []

    one : 1 ≤ get_or s.words 0 0
    one = k.least

    fresh : Fits (get_or s.words 0 0) (get_or s.words 16 0) (get_or s.words 32 0) t
    fresh = record {
      raised = one;
      found = one;
      driver = λ r. absurd (cc);
      says = λ r. absurd (cc);
      names = λ r. absurd (cc);
    }

    told_to : (u : Knowledge) → IsTold u t
    told_to u drives asleep looked not_drives tlooked less = absurd (cc)

    told_by : (u : Knowledge) → IsTold t u
    told_by u drives asleep looked not_drives tlooked less = absurd (cc)

    added : IsKept record { words = s.words; homes = s.homes; views = new }
    added = record {
      room = k.room;
      fits = λ j u here. ⊎_elim (λ (e : get_elem? s.views j ≡ some u). k.fits j u e)
          (λ (e : t ≡ u).
          subst
          (λ (y : Knowledge). Fits (get_or s.words 0 0) (get_or s.words 16 0) (get_or s.words 32 0)
          y) e fresh)
          (at_snoc s.views t u j here);
      lone = λ i j a b here there da db.
          ⊎_elim
          (λ (e : get_elem? s.views i ≡ some a).
          ⊎_elim (λ (f : get_elem? s.views j ≡ some b). k.lone i j a b e f da db)
          (λ (f : t ≡ b).
          absurd (true_or_false b.drives db (sym (ap (λ (x : Knowledge). x.drives) f))))
          (at_snoc s.views t b j there))
          (λ (e : t ≡ a).
          absurd (true_or_false a.drives da (sym (ap (λ (x : Knowledge). x.drives) e))))
          (at_snoc s.views t a i here);
      told = λ i j a b here there. ⊎_elim
          (λ (e : get_elem? s.views i ≡ some a). ⊎_elim
          (λ (f : get_elem? s.views j ≡ some b). k.told i j a b e f)
          (λ (f : t ≡ b). subst (λ (y : Knowledge). IsTold a y) f (told_to a))
          (at_snoc s.views t b j there))
          (λ (e : t ≡ a). subst (λ (y : Knowledge). IsTold y b) e (told_by b))
          (at_snoc s.views t a i here);
      least = k.least;
      made = record {
        by = k.made.by;
        knows = k.made.knows;
        here = at_longer s.views (t ∷ []) k.made.by k.made.knows k.made.here;
        is = k.made.is;
      };
    }

-- the end that raised the greatest request, if the sleeping driver did not find it
pub woken : (s : Moment) (id : ℕ) (driver : Knowledge)
    → IsKept s
    → get_elem? s.views id ≡ some driver
    → driver.drives ≡ true
    → driver.asleep ≡ true
    → driver.has_looked ≡ true
    → driver.found < get_or s.words 0 0
    → (at : ℕ)
    × (thread : Knowledge)
    × (get_elem? s.views at ≡ some thread)
    × (thread.drives ≡ false)
    × (thread.raised ≡ get_or s.words 0 0)
    × (thread.has_looked ≡ true → thread.asleep ≡ true)
woken s id driver k at drives asleep looked under =
    let m : IsRaised s = k.made in
    let is : m.knows.raised ≡ get_or s.words 0 0 = m.is in
    let other : m.knows.drives ≡ false = not_driver m.knows.drives refl in (
      m.by,
      m.knows,
      m.here,
      other,
      is,
      λ has_looked. k.told id m.by driver m.knows at m.here drives asleep looked other has_looked
          (omega (arith, is, under)),
    )
  where
    not_driver : (b : Bool) → k.made.knows.drives ≡ b → b ≡ false
    not_driver false e = refl
    not_driver true e =
        let m : IsRaised s = k.made in
        let same : m.by ≡ id = k.lone m.by id m.knows driver m.here at e drives in
        let it : m.knows ≡ driver =
        some-injective _ _ (sym m.here ∙ ap (λ (i : ℕ). get_elem? s.views i) same ∙ at) in
        let is : m.knows.raised ≡ get_or s.words 0 0 = m.is in
        let own : m.knows.raised ≡ driver.raised = ap (λ (x : Knowledge). x.raised) it in
        let f = k.fits id driver at in
        let low = f.driver drives in
        absurd (omega (arith, is, own, low, under))
