-- The words that loads found, and the processors that they clear.
use Rattle.std.proofs.Common.{◌≡◌, ◌≢◌, ℕ, zero, suc, ◌+◌, ◌<◌, ◌≤◌, ◌==◌, ◌&&◌, Bool}
use Rattle.std.proofs.Common.{true, false}
use Rattle.std.proofs.Common.{if◌then◌else◌, List, ◌∷◌, length, slice_set, refl, sym, ap, ◌∙◌}
use Rattle.std.proofs.Common.{subst, arith, inl, inr}
use Rattle.std.proofs.lemmas.Bool.{cases_eq, cases_lt, or_left, or_right}
use Rattle.std.proofs.lemmas.Bool.Decides.{nat_tests}
use Rattle.std.proofs.lemmas.List.{get_or-set_other, get_or-set_same}
use Rattle.rcu_seq.specs.Numbers.{Number}
use Rattle.rcu_node.specs.CpuSet.{is_in}
use Rattle.rcu_live.specs.Engine.{after_own_word_loads, loads_in_turn, loaded_word}
use Rattle.rcu_live.specs.Numbers.{reports_quiescence}
use Rattle.rcu_live.specs.Rule.{is_cleared}
use Rattle.rcu_live.specs.View.{absent_from, after_online_mask_load, after_own_word_load}
use Rattle.rcu_live.specs.View.{found_offline, offline_loads}
use Rattle.rcu_live.specs.Words.{own_word_index}
use Rattle.rcu_live.specs.declared.view.View.{View}
use Rattle.rcu_live.proofs.Numbers.{own_words_apart}

same_place : (at : ℕ) → (at == at) ≡ true
same_place at = grind (arith, nat_tests)

other_place : (cpu c : ℕ) → c ≢ cpu → (own_word_index cpu == own_word_index c) ≡ false
other_place cpu c apart =
    let differ : own_word_index cpu ≢ own_word_index c =
    own_words_apart cpu c (λ e. apart (sym e)) in
    grind (arith, nat_tests, differ)

-- the latest load at a processor's place gives its word, and leaves those of the others
pub found_here : (own_word_loads : List (ℕ × ℕ)) (cpu word : ℕ)
    → loaded_word ((own_word_index cpu, word) ∷ own_word_loads) cpu ≡ word
found_here own_word_loads cpu word =
    ap (λ (b : Bool). if b then word else loaded_word own_word_loads cpu)
    (same_place (own_word_index cpu))

pub found_there : (own_word_loads : List (ℕ × ℕ)) (cpu word c : ℕ) → c ≢ cpu
    → loaded_word ((own_word_index cpu, word) ∷ own_word_loads) c ≡ loaded_word own_word_loads c
found_there own_word_loads cpu word c apart =
    ap (λ (b : Bool). if b then word else loaded_word own_word_loads c) (other_place cpu c apart)

-- loads in turn that found the same words are the same
in_turn_same : (word other : ℕ → ℕ) (n : ℕ) → ((c : ℕ) → c < n → word c ≡ other c)
    → loads_in_turn word n ≡ loads_in_turn other n
in_turn_same word other zero h = refl
in_turn_same word other (suc n) h =
    let here : word n ≡ other n = h n (omega arith) in
    let before : loads_in_turn word n ≡ loads_in_turn other n =
    in_turn_same word other n (λ c low. h c (omega arith)) in
    λ i. (own_word_index n, here i) ∷ before i

in_turn_more : (word : ℕ → ℕ) (n : ℕ)
    → loads_in_turn word (n + 1) ≡ (own_word_index n, word n) ∷ loads_in_turn word n
in_turn_more word n = ap (loads_in_turn word) (let next : n + 1 ≡ suc n = omega arith in next)

-- a processor that is reported by a word that was found in turn is cleared
pub cleared_in_turn : (t : Number) (word : ℕ → ℕ) (n c : ℕ)
    → c < n → reports_quiescence t (word c) ≡ true → is_cleared t c (loads_in_turn word n) ≡ true
cleared_in_turn t word zero c low told = absurd (omega arith)
cleared_in_turn t word (suc n) c low told = elim (cases_eq c n) [
  | inl same ↦ or_left ((own_word_index n == own_word_index c) && reports_quiescence t (word n))
      (is_cleared t c (loads_in_turn word n))
      (subst
      (λ (k : ℕ). ((own_word_index n == own_word_index k) && reports_quiescence t (word n)) ≡ true)
      (sym same)
      (ap (λ (b : Bool). b && reports_quiescence t (word n)) (same_place (own_word_index n))
      ∙ subst (λ (k : ℕ). reports_quiescence t (word k) ≡ true) same told))
  | inr apart ↦ or_right ((own_word_index n == own_word_index c) && reports_quiescence t (word n))
      (is_cleared t c (loads_in_turn word n))
      (cleared_in_turn t word n c (omega (arith, apart)) told)
]

module _ {C : Type 0} where
  -- a load more, in turn
  pub one_more : (first v w : View C) (n word : ℕ)
      → v ≡ after_own_word_loads first (loaded_word v.own_word_loads) n
      → w ≡ after_own_word_load v (own_word_index n) word
      → w ≡ after_own_word_loads first (loaded_word w.own_word_loads) (n + 1)
  one_more first v w n word old new =
      let own_word_loads : w.own_word_loads ≡ (own_word_index n, word) ∷ v.own_word_loads =
      ap (λ (u : View C). u.own_word_loads) new in
      let here : loaded_word w.own_word_loads n ≡ word =
      ap (λ (l : List (ℕ × ℕ)). loaded_word l n) own_word_loads
      ∙ found_here v.own_word_loads n word in
      let before : loads_in_turn (loaded_word v.own_word_loads) n
      ≡ loads_in_turn (loaded_word w.own_word_loads) n =
      in_turn_same (loaded_word v.own_word_loads) (loaded_word w.own_word_loads) n
      (λ c low. sym (ap (λ (l : List (ℕ × ℕ)). loaded_word l c) own_word_loads
      ∙ found_there v.own_word_loads n word c (λ e. absurd (omega (arith, e))))) in
      let loads : first.loads + n + 1 ≡ first.loads + (n + 1) = omega arith in
      new
      ∙ ap (λ (u : View C). after_own_word_load u (own_word_index n) word) old
      ∙ (λ i. record first {
        loads = loads i;
        own_word_loads = (own_word_index n, sym here i) ∷ before i;
      })
      ∙ ap
      (λ (l : List (ℕ × ℕ)). record first { loads = first.loads + (n + 1); own_word_loads = l })
      (sym (in_turn_more (loaded_word w.own_word_loads) n))

-- a set of flags that follow the words found, with one word more
pub flags_more : (test : ℕ → Bool) (flags : List Bool) (own_word_loads : List (ℕ × ℕ)) (n word : ℕ)
    (flag : Bool)
    → n < length flags
    → flag ≡ test word
    → ((c : ℕ) → c < n → is_in flags c ≡ test (loaded_word own_word_loads c))
    → (c : ℕ) → c < n + 1
    → is_in (slice_set flags n flag) c
    ≡ test (loaded_word ((own_word_index n, word) ∷ own_word_loads) c)
flags_more test flags own_word_loads n word flag inside is old c low = elim (cases_eq c n) [
  | inl same ↦ rw same
      (get_or-set_same flags n flag false inside
      ∙ is
      ∙ sym (ap test (found_here own_word_loads n word)))
  | inr apart ↦ get_or-set_other flags n c flag false apart ∙ old c (omega (arith, apart))
      ∙ sym (ap test (found_there own_word_loads n word c apart))
]

module _ {C : Type 0} where
  -- the same for the view after the load
  pub found_of : (test : ℕ → Bool) (flags : List Bool) (v w : View C) (n word : ℕ)
      → w ≡ after_own_word_load v (own_word_index n) word
      → ((c : ℕ) → c < n + 1 → is_in flags c
      ≡ test (loaded_word ((own_word_index n, word) ∷ v.own_word_loads) c))
      → (c : ℕ) → c < n + 1
      → is_in flags c ≡ test (loaded_word w.own_word_loads c)
  found_of test flags v w n word new h c low =
      h c low ∙ sym (ap (λ (u : View C). test (loaded_word u.own_word_loads c)) new)

length-in_turn : (word : ℕ → ℕ) (n : ℕ) → length (loads_in_turn word n) ≡ n
length-in_turn word zero = refl
length-in_turn word (suc n) = ap suc (length-in_turn word n)

-- loads that found others at 0 leave the word that was found for a processor
offline_before : (from more c : ℕ) (earlier : List (ℕ × ℕ)) → c < from
    → loaded_word (offline_loads from more earlier) c ≡ loaded_word earlier c
offline_before from zero c earlier low = refl
offline_before from (suc more) c earlier low =
    found_there (offline_loads from more earlier) (from + more) 0 c
    (λ e. absurd (omega (arith, e, low)))
    ∙ offline_before from more c earlier low

-- and give the words of those that they found
offline_here : (from more c : ℕ) (earlier : List (ℕ × ℕ)) → from ≤ c → c < from + more
    → loaded_word (offline_loads from more earlier) c ≡ 0
offline_here from zero c earlier far low = absurd (omega (arith, far, low))
offline_here from (suc more) c earlier far low = elim (cases_eq c (from + more)) [
  | inl same ↦ subst (λ (d : ℕ). loaded_word (offline_loads from (suc more) earlier) d ≡ 0)
      (sym same) (found_here (offline_loads from more earlier) (from + more) 0)
  | inr apart ↦ found_there (offline_loads from more earlier) (from + more) 0 c apart
      ∙ offline_here from more c earlier far (omega (arith, low, apart))
]

offline_in_turn : (word : ℕ → ℕ) (from more : ℕ)
    → ((c : ℕ) → from ≤ c → c < from + more → word c ≡ 0)
    → offline_loads from more (loads_in_turn word from) ≡ loads_in_turn word (from + more)
offline_in_turn word from zero none =
    ap (loads_in_turn word) (let e : from ≡ from + 0 = omega arith in e)
offline_in_turn word from (suc more) none =
    let before : offline_loads from more (loads_in_turn word from)
    ≡ loads_in_turn word (from + more) =
    offline_in_turn word from more (λ c far low. none c far (omega (arith, low))) in
    let last : word (from + more) ≡ 0 = none (from + more) (omega arith) (omega arith) in
    let next : suc (from + more) ≡ from + suc more = omega arith in
    (λ i. (own_word_index (from + more), sym last i) ∷ before i)
    ∙ ap (loads_in_turn word) next

module _ {C : Type 0} where
  -- how many loads were made in turn
  pub many_in_turn : (first v : View C) (n : ℕ)
      → v ≡ after_own_word_loads first (loaded_word v.own_word_loads) n
      → length v.own_word_loads ≡ n
  many_in_turn first v n is =
      ap (λ (u : View C). length u.own_word_loads) is
      ∙ length-in_turn (loaded_word v.own_word_loads) n

  -- a load that found this number of further ones at 0
  pub all_found : (first v w : View C) (n more : ℕ)
      → v ≡ after_own_word_loads first (loaded_word v.own_word_loads) n
      → w ≡ found_offline v n more
      → w ≡ after_own_word_loads first (loaded_word w.own_word_loads) (n + more)
  all_found first v w n more old new =
      let found : w.own_word_loads ≡ offline_loads n more v.own_word_loads =
      ap (λ (u : View C). u.own_word_loads) new in
      let word : ℕ → ℕ = loaded_word w.own_word_loads in
      let here : (c : ℕ) → n ≤ c → c < n + more → word c ≡ 0 =
      λ c far less.
      ap (λ (l : List (ℕ × ℕ)). loaded_word l c) found
      ∙ offline_here n more c v.own_word_loads far less in
      let before : loads_in_turn (loaded_word v.own_word_loads) n ≡ loads_in_turn word n =
      in_turn_same (loaded_word v.own_word_loads) word n
      (λ c less. sym (ap (λ (l : List (ℕ × ℕ)). loaded_word l c) found
      ∙ offline_before n more c v.own_word_loads less)) in
      let list : offline_loads n more (loads_in_turn word n) ≡ loads_in_turn word (n + more) =
      offline_in_turn word n more here in
      let loads : first.loads + n + more ≡ first.loads + (n + more) = omega arith in
      new
      ∙ ap (λ (u : View C). found_offline u n more) old
      ∙ (λ i. record first {
        loads = loads i;
        own_word_loads = offline_loads n more (before i);
      })
      ∙ ap
      (λ (l : List (ℕ × ℕ)). record first { loads = first.loads + (n + more); own_word_loads = l })
      list

  -- a load of an online mask found those offline that have no bit in it, from the next one on
  pub mask_loaded : (first v w : View C) (n mask cpus : ℕ)
      → v ≡ after_own_word_loads first (loaded_word v.own_word_loads) n
      → first.cpu ≡ cpus
      → w ≡ after_online_mask_load v mask
      → w ≡ found_offline v n (absent_from mask n cpus)
  mask_loaded first v w n mask cpus is dealt told =
      let next = many_in_turn first v n is in
      let here : v.cpu ≡ cpus = ap (λ (u : View C). u.cpu) is ∙ dealt in
      told ∙ (λ i. found_offline v (next i) (absent_from mask (next i) (here i)))

  -- if it found none, the view stays
  pub none_found : (v : View C) (n more : ℕ) → more ≡ 0 → found_offline v n more ≡ v
  none_found v n more none =
      let loads : v.loads + 0 ≡ v.loads = omega arith in
      ap (found_offline v n) none ∙ (λ i. record v { loads = loads i })

  -- a set of flags that follow the words found, and are unset of those that were found offline,
  -- follows the words of these too
  pub flags_all : (test : ℕ → Bool) (flags : List Bool) (v w : View C) (n more : ℕ)
      → test 0 ≡ false
      → w ≡ found_offline v n more
      → ((c : ℕ) → c < n → is_in flags c ≡ test (loaded_word v.own_word_loads c))
      → ((c : ℕ) → n ≤ c → c < n + more → is_in flags c ≡ false)
      → (c : ℕ) → c < n + more → is_in flags c ≡ test (loaded_word w.own_word_loads c)
  flags_all test flags v w n more none new below above c inside =
      let found : loaded_word w.own_word_loads c
      ≡ loaded_word (offline_loads n more v.own_word_loads) c =
      ap (λ (u : View C). loaded_word u.own_word_loads c) new in
      elim (cases_lt c n) [
        | inl less ↦ below c less
            ∙ sym (ap test (found ∙ offline_before n more c v.own_word_loads less))
        | inr far ↦ above c far inside
            ∙ sym (ap test (found ∙ offline_here n more c v.own_word_loads far inside) ∙ none)
      ]
