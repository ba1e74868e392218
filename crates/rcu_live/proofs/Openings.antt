-- The rule at the opening: one seat, the engine's, which has all parts.
use Rattle.std.proofs.Common.{◌≡◌, ℕ, zero, suc, ◌+◌, ◌<◌, ◌≤◌, List, [], ◌∷◌, ◌++◌, None, length}
use Rattle.std.proofs.Common.{get_or, set, drop, replicate, true, refl, sym, ap, ◌∙◌, subst, arith}
use Rattle.std.proofs.Common.{length-append, length-set}
use Rattle.std.proofs.lemmas.List.{get_or-replicate, get_or-set_other, get_or-set_same}
use Rattle.std.proofs.lemmas.List.{length-replicate}
use mathlib.Core.Option.{some, some-injective, some-ne-none}
use lib.ListN.{get_elem?}
use Rattle.atomic_table.specs.Table.{opening}
use Rattle.std.proofs.Common.{◌%◌, false}
use Rattle.std.proofs.lemmas.Bool.{true≢false}
use Rattle.rcu_node.specs.Words.{has_bit}
use Rattle.rcu_live.specs.Client.{Views}
use Rattle.rcu_live.specs.Numbers.{is_number_word}
use Rattle.rcu_live.specs.Rule.{Fits, IsKept}
use Rattle.rcu_live.specs.View.{engine_seat}
use Rattle.rcu_live.specs.Words.{base_of, first_own_word, first_words, own_word_index}
use Rattle.rcu_live.specs.Words.{mask_index}
use Rattle.rcu_live.specs.declared.view.View.{View}

-- the rest behind a list of this length
drop_front : {A : Type 0} (n : ℕ) (xs ys : List A) → length xs ≡ n → drop n (xs ++ ys) ≡ ys
drop_front zero [] ys e = refl
drop_front zero (x ∷ xs) ys e = absurd (omega arith)
drop_front (suc n) [] ys e = absurd (omega arith)
drop_front (suc n) (x ∷ xs) ys e = drop_front n xs ys (omega arith)

at_front : (xs ys : List ℕ) (i : ℕ) → i < length xs → get_or (xs ++ ys) i 0 ≡ get_or xs i 0
at_front [] ys i h = absurd (omega arith)
at_front (x ∷ xs) ys zero h = refl
at_front (x ∷ xs) ys (suc i) h = at_front xs ys i (omega arith)

pub length-first_words : (cpus : ℕ) → length (first_words cpus) ≡ base_of cpus
length-first_words cpus =
    length-set (set (replicate (base_of cpus) 0) 16 1) 8 1
    ∙ length-set (replicate (base_of cpus) 0) 16 1
    ∙ length-replicate (base_of cpus) 0

-- the table has room for the engine's words
pub room_at_first : (cpus : ℕ) (behind words : List ℕ) → words ≡ first_words cpus ++ behind
    → base_of cpus ≤ length words
room_at_first cpus behind words is =
    let long = length-first_words cpus in
    let both = ap length is ∙ length-append (first_words cpus) behind in omega arith

number_at_first : (cpus : ℕ) → get_or (first_words cpus) 0 0 ≡ 0
number_at_first cpus =
    get_or-set_other (set (replicate (base_of cpus) 0) 16 1) 8 0 1 0 (λ e. absurd (omega arith))
    ∙ get_or-set_other (replicate (base_of cpus) 0) 16 0 1 0 (λ e. absurd (omega arith))
    ∙ get_or-replicate (base_of cpus) 0 0 0 (omega arith)

pub asked_at_first : (cpus : ℕ) (behind : List ℕ) → get_or (first_words cpus ++ behind) 1 0 ≡ 0
asked_at_first cpus behind =
    let long = length-first_words cpus in
    at_front (first_words cpus) behind 1 (omega (arith, long))
    ∙ get_or-set_other (set (replicate (base_of cpus) 0) 16 1) 8 1 1 0 (λ e. absurd (omega arith))
    ∙ get_or-set_other (replicate (base_of cpus) 0) 16 1 1 0 (λ e. absurd (omega arith))
    ∙ get_or-replicate (base_of cpus) 1 0 0 (omega arith)

mask_at_first : (cpus : ℕ) → get_or (first_words cpus) 8 0 ≡ 1
mask_at_first cpus =
    let none : List ℕ = replicate (base_of cpus) 0 in
    let z : ℕ = 0 in
    let one : ℕ = 1 in
    let more = length-set none 16 one in
    let long = length-replicate (base_of cpus) z in
    get_or-set_same (set none 16 1) 8 1 0 (omega (arith, more, long))

word_at_first : (cpus c : ℕ) → c < cpus
    → get_or (first_words cpus) (own_word_index c) 0 ≡ first_own_word c
word_at_first cpus zero low =
    get_or-set_other (set (replicate (base_of cpus) 0) 16 1) 8 16 1 0 (λ e. absurd (omega arith))
    ∙ get_or-set_same (replicate (base_of cpus) 0) 16 1 0
    (let z : ℕ = 0 in let l = length-replicate (base_of cpus) z in omega arith)
word_at_first cpus (suc c) low =
    get_or-set_other (set (replicate (base_of cpus) 0) 16 1) 8 (own_word_index (suc c)) 1 0
    (λ e. absurd (omega arith))
    ∙ get_or-set_other (replicate (base_of cpus) 0) 16 (own_word_index (suc c)) 1 0
    (λ e. absurd (omega arith))
    ∙ get_or-replicate (base_of cpus) (own_word_index (suc c)) 0 0 (omega arith)

one_here : has_bit 1 0 ≡ true
unfolding has_bit
one_here = refl

-- a processor without a bit in its online mask is offline at the start
first_absent : (words : List ℕ) (c : ℕ) → get_or words 8 0 ≡ 1
    → has_bit (get_or words (mask_index c) 0) (c % 64) ≡ false → first_own_word c ≡ 0
first_absent words zero one none =
    absurd (true≢false (sym one_here ∙ ap (λ (x : ℕ). has_bit x 0) (sym one) ∙ none))
first_absent words (suc c) one none = refl

zero_is_number : (n : ℕ) → n ≡ 0 → is_number_word n ≡ true
zero_is_number n e = rw e refl

module _ {C : Type 0} (holds : List ℕ → Views C → Type 0) where
  -- the rule at the start, with the client's words behind
  pub starts : (cpus : ℕ) (behind : List ℕ) (slots : List (Unit {0})) (c : C) → 0 < cpus
      → holds behind ((None, None, c) ∷ [])
      → IsKept holds cpus (opening (first_words cpus ++ behind) slots (engine_seat cpus 0 c))
  starts cpus behind slots c any client =
      let words : List ℕ = first_words cpus ++ behind in
      let long : length (first_words cpus) ≡ base_of cpus = length-first_words cpus in
      let both : length words ≡ length (first_words cpus) + length behind =
      length-append (first_words cpus) behind in
      let number : get_or words 0 0 ≡ 0 =
      at_front (first_words cpus) behind 0 (omega arith) ∙ number_at_first cpus in
      let word : (d : ℕ) → d < cpus → get_or words (own_word_index d) 0 ≡ first_own_word d =
      λ d low.
      at_front (first_words cpus) behind (own_word_index d) (omega arith)
      ∙ word_at_first cpus d low in
      let mask : get_or words 8 0 ≡ 1 =
      at_front (first_words cpus) behind 8 (omega (arith, long)) ∙ mask_at_first cpus in
      let first : Fits cpus words (λ _. 0) 0 [] 0 (engine_seat cpus 0 c) = record {
        seen = omega arith;
        base = refl;
        inside = λ r. absurd (cc);
        own = λ r. absurd (cc);
        sound = λ r. absurd (cc);
        announced = λ r. absurd (cc);
        lone = λ r. refl;
        number = λ r. sym number;
        found = λ r. refl;
        undealt = λ r d low high. (refl, word d high);
      } in record {
        room = omega arith;
        number = zero_is_number _ number;
        boot = let one : get_or words (own_word_index 0) 0 ≡ 1 = word 0 any in omega arith;
        absent = λ d low none. word d low ∙ first_absent words d mask none;
        owner = λ _. 0;
        engine = 0;
        own_word_loads = [];
        fits = λ id v at. alone words id v at first;
        client =
            subst (λ (l : List ℕ). holds l ((None, None, c) ∷ []))
            (sym (drop_front (base_of cpus) (first_words cpus) behind long)) client;
      }
    where
      alone : (words : List ℕ) (id : ℕ) (v : View C)
          → get_elem? (engine_seat cpus 0 c ∷ []) id ≡ some v
          → Fits cpus words (λ _. 0) 0 [] 0 (engine_seat cpus 0 c)
          → Fits cpus words (λ _. 0) 0 [] id v
      alone words zero v at f = subst (Fits cpus words (λ _. 0) 0 [] 0) (some-injective _ _ at) f
      alone words (suc id) v at f = absurd (some-ne-none v (sym at))
