-- The steps on the online masks keep the rule.
use Rattle.std.proofs.Common.{◌≡◌, ◌≢◌, ℕ, zero, suc, ◌+◌, ◌-◌, ◌*◌, ◌/◌, ◌%◌, ◌^◌, ◌<◌}
use Rattle.std.proofs.Common.{◌≤◌}
use Rattle.std.proofs.Common.{◌==◌, ◌&&◌, List}
use Rattle.std.proofs.Common.{true, false, get_or, set, length, refl, sym, ap}
use Rattle.std.proofs.Common.{◌∙◌, subst, arith, ⊎_elim, inl, inr, length-set}
use Rattle.std.proofs.Math.Nat.{min-eq_left, min-eq_right, min-le_left, min-le_right}
use Rattle.std.proofs.lemmas.Bool.{and_parts, cases_Bool, cases_eq, cases_lt, or_cases, true≢false}
use Rattle.std.proofs.lemmas.Bool.Decides.{Decides-eqb}
use Rattle.std.proofs.lemmas.List.{drop-set-lt, get_or-set_other, get_or-set_same, set-get_or}
use mathlib.Core.Option.{some}
use lib.ListN.{get_elem?}
use Rattle.atomic_table.specs.Table.{State, Me, keeps, Allows}
use Rattle.rcu_live.specs.Client.{Views}
use Rattle.rcu_live.specs.Numbers.{reports_quiescence}
use Rattle.rcu_live.specs.Rule.{Fits, IsKept, IsSound, is_cleared}
use Rattle.rcu_live.specs.View.{absent_from, after_announcement, after_online_mask_load}
use Rattle.rcu_live.specs.View.{found_offline, offline_loads}
use Rattle.rcu_live.specs.Words.{base_of, own_word_index, mask_index}
use Rattle.rcu_live.specs.declared.view.Role.TheVariants.{Cpu, Engine}
use Rattle.rcu_live.specs.declared.view.View.{View}
use Rattle.rcu_live.proofs.Frames.{changed, unseen}
use Rattle.rcu_live.proofs.Numbers.{own_words_apart, mask_apart, mask_inside, mask_number}
use Rattle.rcu_live.proofs.Numbers.{same_mask}
use Rattle.std.specs.Prelude.{bit_and, bit_or, min}
use Rattle.std.specs.Int.{bit_at, bit_not, trailing_zeros, w64}
use Rattle.std.proofs.lemmas.Nat.{shr-shr}
use Rattle.std.proofs.lemmas.Nat.Bits.{bit_at-trailing_zeros, bit_at-zero}
use Rattle.rcu_node.specs.Words.{has_bit}
use Rattle.rcu_node.proofs.Bits.{has_bit_clear_other}
use Rattle.rcu_node.proofs.Bits.{has_bit_set_other}
use Rattle.rcu_node.proofs.Bits.{has_bit_set_same}
use Rattle.rcu_live.proofs.OwnWordLoads.{online_some}

-- a processor whose own word is not 0 is not cleared by loads that found others at 0
not_cleared_more : (t cpu from more : ℕ) (earlier : List (ℕ × ℕ))
    → ((c : ℕ) → from ≤ c → c < from + more → c ≢ cpu)
    → is_cleared t cpu (offline_loads from more earlier) ≡ true → is_cleared t cpu earlier ≡ true
not_cleared_more t cpu from zero earlier others cleared = cleared
not_cleared_more t cpu from (suc more) earlier others cleared = ⊎_elim
    (λ (now : ((own_word_index (from + more) == own_word_index cpu) && reports_quiescence t 0)
    ≡ true).
    let parts = and_parts (own_word_index (from + more) == own_word_index cpu)
    (reports_quiescence t 0) now in
    let same : own_word_index (from + more) ≡ own_word_index cpu =
    (Decides-eqb (own_word_index (from + more)) (own_word_index cpu)).0 parts.0 in
    absurd (own_words_apart (from + more) cpu (others (from + more) (omega arith) (omega arith))
    same))
    (λ (was : is_cleared t cpu (offline_loads from more earlier) ≡ true).
    not_cleared_more t cpu from more earlier (λ c low high. others c low (omega arith)) was)
    (or_cases _ _ cleared)

-- a set bit stays so if another one is set
stays_set : (word k i : ℕ) → k < 64 → has_bit word i ≡ true
    → has_bit (bit_or word (1 * 2 ^ k % 2 ^ 64)) i ≡ true
stays_set word k i low here = elim (cases_eq i k) [
  | inl same ↦ subst (λ (j : ℕ). has_bit (bit_or word (1 * 2 ^ k % 2 ^ 64)) j ≡ true) (sym same)
      (has_bit_set_same word k low)
  | inr apart ↦ has_bit_set_other word k i low apart ∙ here
]

stays_unset : (word k i : ℕ) → k < 64 → has_bit (bit_or word (1 * 2 ^ k % 2 ^ 64)) i ≡ false
    → has_bit word i ≡ false
stays_unset word k i low gone = elim (cases_Bool (has_bit word i)) [
  | inl here ↦ absurd (true≢false (sym (stays_set word k i low here) ∙ gone))
  | inr none ↦ none
]

-- a word that is read from a bit on
has_bit_shift : (word first bit : ℕ) → has_bit (word / 2 ^ first) bit ≡ has_bit word (first + bit)
unfolding has_bit
has_bit_shift word first bit = ap (λ n. n % 2 == 1) (shr-shr word first bit)

-- none of the lowest bits that `trailing_zeros` counts is set
no_bit_below : (word bit : ℕ) → word < 2 ^ 64 → bit < trailing_zeros w64 word
    → has_bit word bit ≡ false
unfolding has_bit
no_bit_below word bit fits low = elim (cases_eq word 0) [
  | inl empty ↦
      ap (λ (n : ℕ). bit_at n bit == 1) empty ∙ ap (λ (n : ℕ). n == 1) (bit_at-zero bit)
  | inr full ↦
      ap (λ (n : ℕ). n == 1) ((bit_at-trailing_zeros w64 word (omega (arith, full)) fits).2 bit low)
]

shift_fits : (word first : ℕ) → word < 2 ^ 64 → word / 2 ^ first < 2 ^ 64
shift_fits word first fits = grind (arith, fits)

-- the counted processors exist
pub absent_inside : (mask cpu cpus : ℕ) → cpu < cpus → cpu + absent_from mask cpu cpus ≤ cpus
absent_inside mask cpu cpus low =
    let rest = min-le_right (trailing_zeros w64 (mask / 2 ^ (cpu % 64)))
    (min (64 - cpu % 64) (cpus - cpu)) in
    let few = min-le_right (64 - cpu % 64) (cpus - cpu) in omega (arith, rest, few, low)

-- a counted processor shares the online mask
pub share_mask : (mask cpu cpus d : ℕ) → cpu ≤ d → d < cpu + absent_from mask cpu cpus
    → mask_index d ≡ mask_index cpu
share_mask mask cpu cpus d far less =
    let rest = min-le_right (trailing_zeros w64 (mask / 2 ^ (cpu % 64)))
    (min (64 - cpu % 64) (cpus - cpu)) in
    let room = min-le_left (64 - cpu % 64) (cpus - cpu) in omega (arith, far, less, rest, room)

-- a processor without a bit in an online mask, in a row of such processors
pub record IsAbsent (mask cpu d : ℕ) : Type 0 where
  pub together : mask_index d ≡ mask_index cpu
  pub none : has_bit mask (d % 64) ≡ false

pub absent : (mask cpu cpus d : ℕ) → mask < 2 ^ 64 → cpu ≤ d → d < cpu + absent_from mask cpu cpus
    → IsAbsent mask cpu d
absent mask cpu cpus d fits far less =
    let ahead : ℕ = mask / 2 ^ (cpu % 64) in
    let zeros = min-le_left (trailing_zeros w64 ahead) (min (64 - cpu % 64) (cpus - cpu)) in
    let rest = min-le_right (trailing_zeros w64 ahead) (min (64 - cpu % 64) (cpus - cpu)) in
    let room = min-le_left (64 - cpu % 64) (cpus - cpu) in
    let bit : d % 64 ≡ cpu % 64 + (d - cpu) = omega (arith, far, less, rest, room) in
    record {
      together = share_mask mask cpu cpus d far less;
      none = ap (has_bit mask) bit
          ∙ sym (has_bit_shift mask (cpu % 64) (d - cpu))
          ∙ no_bit_below ahead (d - cpu) (shift_fits mask (cpu % 64) fits)
          (omega (arith, far, less, zeros));
    }

none_set : trailing_zeros w64 0 ≡ 64
unfolding lib.Count.count_trailing_zeros
none_set = refl

-- below 64 `trailing_zeros` is the place of a bit
bit_behind : (word : ℕ) → word < 2 ^ 64 → trailing_zeros w64 word < 64
    → has_bit word (trailing_zeros w64 word) ≡ true
unfolding has_bit
bit_behind word fits low = elim (cases_eq word 0) [
  | inl empty ↦
      absurd (let z : trailing_zeros w64 word ≡ 64 = ap (trailing_zeros w64) empty ∙ none_set in
      omega (arith, z, low))
  | inr full ↦
      ap (λ (n : ℕ). n == 1) (bit_at-trailing_zeros w64 word (omega (arith, full)) fits).1
]

-- the least of three is the first one if it is below the others
least_first : (a b c : ℕ) → min a (min b c) < b → min a (min b c) < c → min a (min b c) ≡ a
least_first a b c below under = elim (cases_lt a (min b c)) [
  | inl less ↦ min-eq_left (omega (arith, less))
  | inr more ↦
      let same : min a (min b c) ≡ min b c = min-eq_right (omega (arith, more)) in
      elim (cases_lt b c) [
        | inl low ↦
            absurd (let e : min b c ≡ b = min-eq_left (omega (arith, low)) in
            omega (arith, same, e, below))
        | inr high ↦
            absurd (let e : min b c ≡ c = min-eq_right (omega (arith, high)) in
            omega (arith, same, e, under))
      ]
]

-- the next processor has its bit
pub next_has_bit : (mask cpu cpus : ℕ) → mask < 2 ^ 64
    → cpu + absent_from mask cpu cpus < cpus
    → cpu % 64 + absent_from mask cpu cpus < 64
    → has_bit mask (cpu % 64 + absent_from mask cpu cpus) ≡ true
next_has_bit mask cpu cpus fits inside room =
    let ahead : ℕ = mask / 2 ^ (cpu % 64) in
    let zeros : ℕ = trailing_zeros w64 ahead in
    let is : absent_from mask cpu cpus ≡ zeros =
    least_first zeros (64 - cpu % 64) (cpus - cpu) (omega (arith, room)) (omega (arith, inside)) in
    ap (λ (n : ℕ). has_bit mask (cpu % 64 + n)) is
    ∙ sym (has_bit_shift mask (cpu % 64) zeros)
    ∙ bit_behind ahead (shift_fits mask (cpu % 64) fits) (omega (arith, is, room))

bit_small : (c : ℕ) → c % 64 < 64
bit_small c = omega arith

module _ {C : Type 0} (holds : List ℕ → Views C → Type 0) where
  -- the online mask of a processor changes, by a step of its seat: the rule is kept if the mask has
  -- the bits of processors that are about to arrive, and misses only those of processors whose own
  -- word is 0
  mask_changed : (cpus id new : ℕ) (s : State (Unit {0}) (View C)) (k : IsKept holds cpus s)
      (v w : View C)
      → get_elem? s.views id ≡ some v
      → v.role ≡ Cpu
      → w ≡ record v { announced = w.announced }
      → (w.announced ≡ true → has_bit new (v.cpu % 64) ≡ true)
      → ((c : ℕ) → c < cpus → mask_index c ≡ mask_index v.cpu → c ≢ v.cpu
      → has_bit (get_or s.words (mask_index v.cpu) 0) (c % 64) ≡ true
      → has_bit new (c % 64) ≡ true)
      → ((c : ℕ) → c < cpus → mask_index c ≡ mask_index v.cpu → has_bit new (c % 64) ≡ false
      → get_or s.words (own_word_index c) 0 ≡ 0)
      → IsKept holds cpus record {
        words = set s.words (mask_index v.cpu) new;
        homes = s.homes;
        views = set s.views id w;
      }
  mask_changed cpus id new s k v w at cpu is mine_on others_on gone =
      let f : Fits cpus s.words k.owner k.engine k.own_word_loads id v = k.fits id v at in
      let here : ℕ = mask_index v.cpu in
      let words : List ℕ = set s.words here new in
      let room : base_of cpus ≤ length s.words = k.room in
      let inside : here < base_of cpus = mask_inside v.cpu cpus (f.inside cpu) in
      let now : get_or words here 0 ≡ new =
      get_or-set_same s.words here new 0 (omega (arith, room, inside)) in
      let number : get_or words 0 0 ≡ get_or s.words 0 0 =
      get_or-set_other s.words here 0 new 0 (λ e. mask_number v.cpu (sym e)) in
      let same : (c : ℕ) → get_or words (own_word_index c) 0 ≡ get_or s.words (own_word_index c) 0 =
      λ c. get_or-set_other s.words here (own_word_index c) new 0 (mask_apart c v.cpu) in
      let other : (i : ℕ) → i ≢ here → get_or words i 0 ≡ get_or s.words i 0 =
      λ i apart. get_or-set_other s.words here i new 0 apart in
      let others : (j : ℕ) (u : View C)
      → j ≢ id → Fits cpus s.words k.owner k.engine k.own_word_loads j u
      → Fits cpus words k.owner k.engine k.own_word_loads j u =
      λ j u apart h. record {
        seen = rw number h.seen;
        base = h.base;
        inside = h.inside;
        own = h.own;
        sound = λ r. subst (λ (y : ℕ × ℕ). IsSound y.0 y.1 k.own_word_loads u)
            (λ i. (sym number i, sym (same u.cpu) i)) (h.sound r);
        announced = λ r e. elim (cases_eq (mask_index u.cpu) here) [
          | inl together ↦
              subst (λ (i : ℕ). has_bit (get_or words i 0) (u.cpu % 64) ≡ true) (sym together)
              (subst (λ (x : ℕ). has_bit x (u.cpu % 64) ≡ true) (sym now)
              (others_on u.cpu (h.inside r) together
              (λ c. apart (sym (h.own r) ∙ ap k.owner c ∙ f.own cpu))
              (subst (λ (i : ℕ). has_bit (get_or s.words i 0) (u.cpu % 64) ≡ true) together
              (h.announced r e))))
          | inr away ↦ subst (λ (x : ℕ). has_bit x (u.cpu % 64) ≡ true)
              (sym (other (mask_index u.cpu) away)) (h.announced r e)
        ];
        lone = h.lone;
        number = λ r. h.number r ∙ sym number;
        found = h.found;
        undealt = λ r d low high. let t = h.undealt r d low high in (t.0, same d ∙ t.1);
      } in
      let x : View C = record v { announced = w.announced } in
      let mine : Fits cpus words k.owner k.engine k.own_word_loads id x = record {
        seen = rw number f.seen;
        base = f.base;
        inside = f.inside;
        own = f.own;
        sound = λ r. let t = subst (λ (y : ℕ × ℕ). IsSound y.0 y.1 k.own_word_loads v)
            (λ i. (sym number i, sym (same v.cpu) i)) (f.sound r) in record {
              own_word = t.own_word;
              bounded = t.bounded;
              boot = t.boot;
              online = t.online;
              from_own_word = t.from_own_word;
              to_seen = t.to_seen;
              current = t.current;
              cleared = t.cleared;
            };
        announced = λ r e. subst (λ (y : ℕ). has_bit y (v.cpu % 64) ≡ true) (sym now) (mine_on e);
        lone = f.lone;
        number = λ r. f.number r ∙ sym number;
        found = f.found;
        undealt = λ r d low high. let t = f.undealt r d low high in (t.0, same d ∙ t.1);
      } in
      subst (λ (y : View C). IsKept holds cpus record
      { words = words; homes = s.homes; views = set s.views id y }) (sym is)
      (changed holds cpus s k id x words k.own_word_loads
      (rw (length-set s.words here new) room) (rw number k.number)
      (rw (same 0) k.boot)
      (λ c low none. same c
      ∙ elim (cases_eq (mask_index c) here) [
        | inl together ↦ gone c low together
            (subst (λ (y : ℕ). has_bit y (c % 64) ≡ false) now
            (subst (λ (i : ℕ). has_bit (get_or words i 0) (c % 64) ≡ false) together none))
        | inr away ↦ k.absent c low
            (subst (λ (y : ℕ). has_bit y (c % 64) ≡ false) (other (mask_index c) away) none)
      ])
      others mine
      (unseen holds cpus s k id v x words at refl
      (drop-set-lt (base_of cpus) s.words here new inside)))

  -- a processor's bit is set
  pub sets_online_bit : (cpus slots id c at bit : ℕ) (me : Me (Unit {0}) (View C))
      → me.0.role ≡ Cpu
      → me.0.cpu ≡ c
      → at ≡ mask_index c
      → bit ≡ 1 * 2 ^ (c % 64) % 2 ^ 64
      → Allows (IsKept holds cpus) slots id me at (λ n. bit_or n bit)
      (λ _ m. (m.0 ≡ after_announcement me.0) × (m.1 ≡ me.1))
  sets_online_bit cpus slots id c at bit me cpu own there is =
      subst (λ (y : ℕ × ℕ). Allows (IsKept holds cpus) slots id me y.0 (λ n. bit_or n y.1)
      (λ _ m. (m.0 ≡ after_announcement me.0) × (m.1 ≡ me.1)))
      (λ i. (
        (ap mask_index own ∙ sym there) i,
        (ap (λ (d : ℕ). 1 * 2 ^ (d % 64) % 2 ^ 64) own ∙ sym is) i,
      ))
      (λ s k _ here _.
      let v : View C = me.0 in
      let j : ℕ = v.cpu % 64 in
      let old : ℕ = get_or s.words (mask_index v.cpu) 0 in (
        after_announcement v,
        keeps,
        tt,
        mask_changed cpus id (bit_or old (1 * 2 ^ j % 2 ^ 64)) s k v (after_announcement v) here cpu
            refl
            (λ _. has_bit_set_same old j (bit_small v.cpu))
            (λ d low together apart on. stays_set old j (d % 64) (bit_small v.cpu) on)
            (λ d low together off. k.absent d low
            (subst (λ (i : ℕ). has_bit (get_or s.words i 0) (d % 64) ≡ false) (sym together)
            (stays_unset old j (d % 64) (bit_small v.cpu) off))),
        (refl, refl),
      ))

  -- the bit of a processor whose own word is 0 is cleared
  pub clears_online_bit : (cpus slots id c at mask : ℕ) (me : Me (Unit {0}) (View C))
      → me.0.role ≡ Cpu
      → me.0.cpu ≡ c
      → me.0.own_word ≡ 0
      → me.0.announced ≡ false
      → at ≡ mask_index c
      → mask ≡ bit_not w64 (1 * 2 ^ (c % 64) % 2 ^ 64)
      → Allows (IsKept holds cpus) slots id me at (λ n. bit_and n mask)
      (λ _ m. (m.0 ≡ me.0) × (m.1 ≡ me.1))
  clears_online_bit cpus slots id c at mask me cpu own offline settled there is =
      subst (λ (y : ℕ × ℕ). Allows (IsKept holds cpus) slots id me y.0 (λ n. bit_and n y.1)
      (λ _ m. (m.0 ≡ me.0) × (m.1 ≡ me.1)))
      (λ i. (
        (ap mask_index own ∙ sym there) i,
        (ap (λ (d : ℕ). bit_not w64 (1 * 2 ^ (d % 64) % 2 ^ 64)) own ∙ sym is) i,
      ))
      (λ s k _ here _.
      let v : View C = me.0 in
      let j : ℕ = v.cpu % 64 in
      let old : ℕ = get_or s.words (mask_index v.cpu) 0 in
      let f : Fits cpus s.words k.owner k.engine k.own_word_loads id v = k.fits id v here in (
        v,
        keeps,
        tt,
        mask_changed cpus id (bit_and old (bit_not w64 (1 * 2 ^ j % 2 ^ 64))) s k v v here cpu refl
            (λ e. absurd (true≢false (sym e ∙ settled)))
            (λ d low together apart on.
            has_bit_clear_other old j (d % 64) (bit_small v.cpu) (bit_small d)
            (λ e. apart (same_mask d v.cpu together e))
            ∙ on)
            (λ d low together off. elim (cases_eq d v.cpu) [
              | inl mine ↦ subst (λ (i : ℕ). get_or s.words (own_word_index i) 0 ≡ 0) (sym mine)
                  ((f.sound cpu).own_word ∙ offline)
              | inr apart ↦ k.absent d low
                  (subst (λ (i : ℕ). has_bit (get_or s.words i 0) (d % 64) ≡ false) (sym together)
                  (sym (has_bit_clear_other old j (d % 64) (bit_small v.cpu) (bit_small d)
                  (λ e. apart (same_mask d v.cpu together e)))
                  ∙ off))
            ]),
        (refl, refl),
      ))

  -- one load of an online mask, with what it finds, keeps the rule
  finds_offline : (cpus id : ℕ) (s : State (Unit {0}) (View C)) (k : IsKept holds cpus s)
      (v : View C) (from more : ℕ)
      → get_elem? s.views id ≡ some v
      → v.role ≡ Engine
      → from + more ≤ cpus
      → ((c : ℕ) → from ≤ c → c < from + more → get_or s.words (own_word_index c) 0 ≡ 0)
      → IsKept holds cpus record {
        words = s.words;
        homes = s.homes;
        views = set s.views id (found_offline v from more);
      }
  finds_offline cpus id s k v from more at engine inside far =
      let f : Fits cpus s.words k.owner k.engine k.own_word_loads id v = k.fits id v at in
      let w : View C = found_offline v from more in
      let n : ℕ = get_or s.words 0 0 in
      let now : List (ℕ × ℕ) = offline_loads from more k.own_word_loads in
      let mine : Fits cpus s.words k.owner k.engine now id w = record {
        seen = f.seen;
        base = f.base;
        inside = λ r. absurd (cc);
        own = λ r. absurd (cc);
        sound = λ r. absurd (cc);
        announced = λ r. absurd (cc);
        lone = f.lone;
        number = f.number;
        found = λ r. ap (offline_loads from more) (f.found r);
        undealt = f.undealt;
      } in
      let others : (j : ℕ) (u : View C)
      → j ≢ id → Fits cpus s.words k.owner k.engine k.own_word_loads j u
      → Fits cpus s.words k.owner k.engine now j u =
      λ j u apart h. record {
        seen = h.seen;
        base = h.base;
        inside = h.inside;
        own = h.own;
        sound = λ r.
            let t = h.sound r in
            record {
              own_word = t.own_word;
              bounded = t.bounded;
              boot = t.boot;
              online = t.online;
              from_own_word = t.from_own_word;
              to_seen = t.to_seen;
              current = t.current;
              cleared = λ p o runs told.
                  let some : 0 < u.own_word = online_some u.own_word (t.online p o) in
                  t.cleared p o runs
                  (not_cleared_more n u.cpu from more k.own_word_loads
                  (λ c low high same.
                  let none : get_or s.words (own_word_index c) 0 ≡ 0 =
                  far c low high in
                  let own : get_or s.words (own_word_index c) 0 ≡ u.own_word =
                  subst (λ (d : ℕ). get_or s.words (own_word_index d) 0 ≡ u.own_word) (sym same)
                  t.own_word in
                  absurd (omega (arith, none, own, some)))
                  told);
            };
        announced = h.announced;
        lone = h.lone;
        number = h.number;
        found = λ r. absurd (apart (sym (h.lone r) ∙ f.lone engine));
        undealt = h.undealt;
      } in
      changed holds cpus s k id w s.words now k.room k.number k.boot k.absent others mine
      (unseen holds cpus s k id v w s.words at refl refl)

  -- online-mask load
  pub loads_online_mask : (key cpus slots id c at : ℕ) (me : Me (Unit {0}) (View C))
      → me.0.role ≡ Engine
      → key ≡ cpus
      → me.0.cpu ≡ cpus
      → c < cpus
      → length me.0.own_word_loads ≡ c
      → at ≡ mask_index c
      → Allows (IsKept holds key) slots id me at (λ n. n)
      (λ n m. (m.0 ≡ after_online_mask_load me.0 n) × (m.1 ≡ me.1))
  loads_online_mask key cpus slots id c at me engine is dealt low next there s k _ here fits =
      let v : View C = me.0 in
      let mask : ℕ = get_or s.words at 0 in
      let from : ℕ = length v.own_word_loads in
      let more : ℕ = absent_from mask from v.cpu in
      let w : View C = after_online_mask_load v mask in
      let few = absent_inside mask from v.cpu (omega (arith, next, low, dealt)) in
      let kept : IsKept holds key record
      { words = s.words; homes = s.homes; views = set s.views id w } =
      finds_offline key id s k v from more here engine (omega (arith, few, dealt, is))
      (λ d far less.
      let told = absent mask from v.cpu d fits far less in
      k.absent d (omega (arith, less, few, dealt, is))
      (subst (λ (i : ℕ). has_bit (get_or s.words i 0) (d % 64) ≡ false)
      (there ∙ ap mask_index (sym next) ∙ sym told.together) told.none)) in (
        w,
        keeps,
        tt,
        subst (λ (words : List ℕ).
            IsKept holds key record { words = words; homes = s.homes; views = set s.views id w })
            (sym (set-get_or s.words at 0)) kept,
        (refl, refl),
      )
