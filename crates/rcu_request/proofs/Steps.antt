-- Each step keeps the rule.
use Rattle.std.proofs.Common.{◌≡◌, ℕ, zero, suc, ◌<◌, ◌≤◌, ◌==◌, Bool, List, [], ◌∷◌, length}
use Rattle.std.proofs.Common.{get_or, set, true, false, max, nat_lt, refl, sym, ap, ◌∙◌, subst}
use Rattle.std.proofs.Common.{arith, length-set, if◌then◌else◌, eq-eqb}
use Rattle.std.proofs.lemmas.Bool.{ltb-false, ltb-true}
use Rattle.std.proofs.lemmas.List.{get_or-set_other, get_or-set_same, set-get_or}
use mathlib.Core.Option.{some, some-injective, some-ne-none}
use lib.ListN.{get_elem?}
use Rattle.atomic_table.specs.Table.{Allows, Enters, Me, keeps, opening}
use Rattle.atomic_table.proofs.Lists.{set_here}
use Rattle.rcu_request.specs.Rule.{Fits, IsKept, IsTold, Moment}
use Rattle.rcu_request.specs.Requests.{Found, Raised, after_finding, after_look_at_driver}
use Rattle.rcu_request.specs.Requests.{after_raise, after_saying, asleep_word, cpu_index}
use Rattle.rcu_request.specs.Requests.{driver_at_first, first_words, knowing_cpu, thread_at_first}
use Rattle.rcu_request.specs.declared.knowledge.Knowledge.{Knowledge}
use Rattle.rcu_request.proofs.Keeping.{changed, dealt, inside, made_still, true_or_false}

-- a thread's seat comes in
pub arrives : (slots : ℕ) → Enters IsKept slots 0 (λ n w. w ≡ thread_at_first)
arrives slots s k _ _ = (thread_at_first, dealt s k, refl)

-- an end fits where the greatest request grows
fits_up : (greatest more word same cpu alike : ℕ) (u : Knowledge) → greatest ≤ more → same ≡ word
    → alike ≡ cpu → Fits greatest word cpu u → Fits more same alike u
fits_up greatest more word same cpu alike u up is stays f =
    let r = f.raised in
    let g = f.found in
    record {
      raised = omega (arith, r, up);
      found = omega (arith, g, up);
      driver = f.driver;
      says = λ d. is ∙ f.says d;
      names = λ d. stays ∙ f.names d;
    }

-- a thread that raises the greatest request, or finds it to be as great
abbrev raised_by : Bool → Knowledge → ℕ → ℕ → Knowledge
raised_by b v cookie n =
    if b
    then record v { raised = cookie; found = n; has_looked = false }
    else record v { found = n }

raise_kept : (s : Moment)
    → IsKept s
    → (id cookie : ℕ) (v : Knowledge)
    → get_elem? s.views id ≡ some v
    → v.drives ≡ false
    → (b : Bool) → nat_lt (get_or s.words 0 0) cookie ≡ b
    → IsKept record {
      words = set s.words 0 (max (get_or s.words 0 0) cookie);
      homes = s.homes;
      views = set s.views id (raised_by b v cookie (get_or s.words 0 0));
    }
raise_kept s k id cookie v at thread true e =
    let n : ℕ = get_or s.words 0 0 in
    let more : ℕ = max n cookie in
    let words : List ℕ = set s.words 0 more in
    let long : length words ≡ length s.words = length-set s.words 0 more in
    let room : 32 < length s.words = k.room in
    let low : 0 < length s.words = omega (arith, room) in
    let now : get_or words 0 0 ≡ more = get_or-set_same s.words 0 more 0 low in
    let less : n < cookie = ltb-true n cookie e in
    let is : more ≡ cookie = omega (arith, less) in
    let same : get_or words 16 0 ≡ get_or s.words 16 0 =
    get_or-set_other s.words 0 16 more 0 (λ x. absurd (omega (arith, x))) in
    let alike : get_or words 32 0 ≡ get_or s.words 32 0 =
    get_or-set_other s.words 0 32 more 0 (λ x. absurd (omega (arith, x))) in
    let up : n ≤ get_or words 0 0 = omega (arith, now, is, less) in
    let f = k.fits id v at in
    let first = f.raised in
    let least = k.least in
    let w : Knowledge = raised_by true v cookie n in
    changed s k id v w words at (omega (arith, long, room)) (omega (arith, least, up)) refl
    (λ j u apart here. fits_up n (get_or words 0 0) (get_or s.words 16 0) (get_or words 16 0)
    (get_or s.words 32 0) (get_or words 32 0) u up same alike (k.fits j u here))
    (record {
      raised = omega (arith, now, is);
      found = up;
      driver = λ d. absurd (true_or_false v.drives d thread);
      says = λ d. absurd (true_or_false v.drives d thread);
      names = λ d. absurd (true_or_false v.drives d thread);
    })
    (λ j u apart here drives asleep looked not_drives tlooked under.
    absurd (true_or_false v.drives drives thread))
    (λ j u apart here drives asleep looked not_drives tlooked under. absurd (cc))
    (record {
      by = id;
      knows = w;
      here = set_here s.views id w (inside s.views id v at);
      is = sym is ∙ sym now;
    })
raise_kept s k id cookie v at thread false e =
    let n : ℕ = get_or s.words 0 0 in
    let more : ℕ = max n cookie in
    let words : List ℕ = set s.words 0 more in
    let long : length words ≡ length s.words = length-set s.words 0 more in
    let room : 32 < length s.words = k.room in
    let low : 0 < length s.words = omega (arith, room) in
    let now : get_or words 0 0 ≡ more = get_or-set_same s.words 0 more 0 low in
    let less : cookie ≤ n = ltb-false n cookie e in
    let is : more ≡ n = omega (arith, less) in
    let same : get_or words 16 0 ≡ get_or s.words 16 0 =
    get_or-set_other s.words 0 16 more 0 (λ x. absurd (omega (arith, x))) in
    let alike : get_or words 32 0 ≡ get_or s.words 32 0 =
    get_or-set_other s.words 0 32 more 0 (λ x. absurd (omega (arith, x))) in
    let up : n ≤ get_or words 0 0 = omega (arith, now, is) in
    let f = k.fits id v at in
    let first = f.raised in
    let least = k.least in
    let w : Knowledge = raised_by false v cookie n in
    changed s k id v w words at (omega (arith, long, room)) (omega (arith, least, up)) refl
    (λ j u apart here. fits_up n (get_or words 0 0) (get_or s.words 16 0) (get_or words 16 0)
    (get_or s.words 32 0) (get_or words 32 0) u up same alike (k.fits j u here))
    (record {
      raised = omega (arith, first, up);
      found = up;
      driver = λ d. absurd (true_or_false v.drives d thread);
      says = λ d. absurd (true_or_false v.drives d thread);
      names = λ d. absurd (true_or_false v.drives d thread);
    })
    (λ j u apart here drives asleep looked not_drives tlooked under.
    absurd (true_or_false v.drives drives thread))
    (λ j u apart here. k.told j id u v here at) (made_still s k id v w words at refl (now ∙ is))

pub raises : (slots id cookie : ℕ) (me : Me (Unit {0}) Knowledge)
    → me.0.drives ≡ false
    → Allows IsKept slots id me 0 (λ n. max n cookie)
    (λ n m. Raised cookie me.0 n m.0 × (m.1 ≡ me.1))
raises slots id cookie me thread s k _ at _ =
    let n : ℕ = get_or s.words 0 0 in
    let f = k.fits id me.0 at in (
      after_raise me.0 cookie n,
      keeps,
      tt,
      raise_kept s k id cookie me.0 at thread (nat_lt n cookie) refl,
      (record { state = refl; found = f.found; raised = f.raised }, refl),
    )

-- a load: no word changes
unchanged : (s : Moment) (k : IsKept s) (id at_word : ℕ) (v w : Knowledge)
    → get_elem? s.views id ≡ some v
    → w.drives ≡ v.drives
    → Fits (get_or s.words 0 0) (get_or s.words 16 0) (get_or s.words 32 0) w
    → ((j : ℕ) (u : Knowledge) → get_elem? s.views j ≡ some u → IsTold w u)
    → ((j : ℕ) (u : Knowledge) → get_elem? s.views j ≡ some u → IsTold u w)
    → w.raised ≡ v.raised
    → IsKept record {
      words = set s.words at_word (get_or s.words at_word 0);
      homes = s.homes;
      views = set s.views id w;
    }
unchanged s k id at_word v w at role mine tells is_told same =
    subst
    (λ (words : List ℕ). IsKept record { words = words; homes = s.homes; views = set s.views id w })
    (sym (set-get_or s.words at_word 0))
    (changed s k id v w s.words at k.room k.least role (λ j u apart here. k.fits j u here) mine
    (λ j u apart here. tells j u here) (λ j u apart here. is_told j u here)
    (made_still s k id v w s.words at same refl))

pub looks_at_driver : (slots id : ℕ) (me : Me (Unit {0}) Knowledge)
    → me.0.drives ≡ false
    → Allows IsKept slots id me 16 (λ n. n)
    (λ n m. (m.0 ≡ after_look_at_driver me.0 n) × (m.1 ≡ me.1))
looks_at_driver slots id me thread s k _ at _ =
    let v : Knowledge = me.0 in
    let word : ℕ = get_or s.words 16 0 in
    let w : Knowledge = after_look_at_driver v word in
    let f = k.fits id v at in (
      w,
      keeps,
      tt,
      unchanged s k id 16 v w at refl
          (record {
            raised = f.raised;
            found = f.found;
            driver = f.driver;
            says = λ d. absurd (true_or_false v.drives d thread);
            names = λ d. absurd (true_or_false v.drives d thread);
          })
          (λ j u here drives asleep looked not_drives tlooked under.
          absurd (true_or_false v.drives drives thread))
          (λ j u here drives asleep looked not_drives tlooked under.
          let g = k.fits j u here in
          eq-eqb word 1 (g.says drives ∙ ap asleep_word asleep))
          refl,
      (refl, refl),
    )

word_says : (word : ℕ) → word < 2 → word ≡ asleep_word (word == 1)
word_says zero low = refl
word_says (suc zero) low = refl
word_says (suc (suc n)) low = absurd (omega (arith, low))

pub says : (slots id word : ℕ) (me : Me (Unit {0}) Knowledge)
    → me.0.drives ≡ true
    → word < 2
    → Allows IsKept slots id me 16 (λ _. word)
    (λ _ m. (m.0 ≡ after_saying me.0 word) × (m.1 ≡ me.1))
says slots id word me driver low s k _ at _ =
    let v : Knowledge = me.0 in
    let w : Knowledge = after_saying v word in
    let words : List ℕ = set s.words 16 word in
    let room : 32 < length s.words = k.room in
    let long : length words ≡ length s.words = length-set s.words 16 word in
    let now : get_or words 16 0 ≡ word =
    get_or-set_same s.words 16 word 0 (omega (arith, room)) in
    let alike : get_or words 32 0 ≡ get_or s.words 32 0 =
    get_or-set_other s.words 16 32 word 0 (λ x. absurd (omega (arith, x))) in
    let same : get_or words 0 0 ≡ get_or s.words 0 0 =
    get_or-set_other s.words 16 0 word 0 (λ x. absurd (omega (arith, x))) in
    let f = k.fits id v at in
    let raised = f.raised in
    let found = f.found in
    let least = k.least in (
      w,
      keeps,
      tt,
      changed s k id v w words at (omega (arith, long, room)) (omega (arith, same, least)) refl
          (λ j u apart here.
          let g = k.fits j u here in
          let r = g.raised in
          let m = g.found in
          record {
            raised = omega (arith, same, r);
            found = omega (arith, same, m);
            driver = g.driver;
            says = λ d. absurd (apart (k.lone j id u v here at d driver));
            names = λ d. absurd (apart (k.lone j id u v here at d driver));
          })
          (record {
            raised = omega (arith, same, raised);
            found = omega (arith, same, found);
            driver = f.driver;
            says = λ d. now ∙ word_says word low;
            names = λ d. alike ∙ f.names d;
          })
          (λ j u apart here drives asleep looked not_drives tlooked under. absurd (cc))
          (λ j u apart here drives asleep looked not_drives tlooked under.
          absurd (true_or_false v.drives driver not_drives))
          (made_still s k id v w words at refl same),
      (refl, refl),
    )

pub finds : (slots id : ℕ) (me : Me (Unit {0}) Knowledge) → me.0.drives ≡ true
    → Allows IsKept slots id me 0 (λ n. n) (λ n m. Found me.0 n m.0 × (m.1 ≡ me.1))
finds slots id me driver s k _ at _ =
    let v : Knowledge = me.0 in
    let n : ℕ = get_or s.words 0 0 in
    let w : Knowledge = after_finding v n in
    let f = k.fits id v at in
    let top : n ≤ n = omega arith in (
      w,
      keeps,
      tt,
      unchanged s k id 0 v w at refl
          (record {
            raised = f.raised;
            found = top;
            driver = λ d. f.raised;
            says = f.says;
            names = f.names;
          })
          (λ j u here drives asleep looked not_drives tlooked under.
          let r = (k.fits j u here).raised in absurd (omega (arith, r, under)))
          (λ j u here drives asleep looked not_drives tlooked under.
          absurd (true_or_false v.drives driver not_drives))
          refl,
      (record { state = refl; found = f.found; raised = f.raised }, refl),
    )

pub names_cpu : (slots id word : ℕ) (me : Me (Unit {0}) Knowledge)
    → me.0.drives ≡ true
    → Allows IsKept slots id me 32 (λ _. word)
    (λ _ m. (32 ≡ cpu_index) × (m.0 ≡ knowing_cpu me.0 word) × (m.1 ≡ me.1))
names_cpu slots id word me driver s k _ at _ =
    let v : Knowledge = me.0 in
    let w : Knowledge = knowing_cpu v word in
    let words : List ℕ = set s.words 32 word in
    let room : 32 < length s.words = k.room in
    let long : length words ≡ length s.words = length-set s.words 32 word in
    let now : get_or words 32 0 ≡ word = get_or-set_same s.words 32 word 0 room in
    let same : get_or words 0 0 ≡ get_or s.words 0 0 =
    get_or-set_other s.words 32 0 word 0 (λ x. absurd (omega (arith, x))) in
    let alike : get_or words 16 0 ≡ get_or s.words 16 0 =
    get_or-set_other s.words 32 16 word 0 (λ x. absurd (omega (arith, x))) in
    let f = k.fits id v at in
    let raised = f.raised in
    let found = f.found in
    let least = k.least in (
      w,
      keeps,
      tt,
      changed s k id v w words at (omega (arith, long, room)) (omega (arith, same, least)) refl
          (λ j u apart here.
          let g = k.fits j u here in
          let r = g.raised in
          let m = g.found in
          record {
            raised = omega (arith, same, r);
            found = omega (arith, same, m);
            driver = g.driver;
            says = λ d. alike ∙ g.says d;
            names = λ d. absurd (apart (k.lone j id u v here at d driver));
          })
          (record {
            raised = omega (arith, same, raised);
            found = omega (arith, same, found);
            driver = f.driver;
            says = λ d. alike ∙ f.says d;
            names = λ d. now;
          })
          (λ j u apart here. k.told id j v u at here)
          (λ j u apart here. k.told j id u v here at)
          (made_still s k id v w words at refl same),
      (refl, refl, refl),
    )

pub looks_at_cpu : (slots id : ℕ) (me : Me (Unit {0}) Knowledge)
    → me.0.drives ≡ false
    → Allows IsKept slots id me 32 (λ n. n)
    (λ n m. (32 ≡ cpu_index) × (m.0 ≡ knowing_cpu me.0 n) × (m.1 ≡ me.1))
looks_at_cpu slots id me thread s k _ at _ =
    let v : Knowledge = me.0 in
    let w : Knowledge = knowing_cpu v (get_or s.words 32 0) in
    let f = k.fits id v at in (
      w,
      keeps,
      tt,
      unchanged s k id 32 v w at refl
          (record {
            raised = f.raised;
            found = f.found;
            driver = f.driver;
            says = f.says;
            names = λ d. absurd (true_or_false v.drives d thread);
          })
          (λ j u here. k.told id j v u at here)
          (λ j u here. k.told j id u v here at)
          refl,
      (refl, refl, refl),
    )

-- the rule at first
pub first_is_kept : IsKept (opening first_words [] driver_at_first)
first_is_kept =
    let d : Knowledge = driver_at_first in
    let mine : Fits 1 0 0 d = record {
      raised = omega arith;
      found = omega arith;
      driver = λ r. omega arith;
      says = λ r. refl;
      names = λ r. refl;
    } in record {
      room = omega arith;
      fits = λ id v at. alone id v at (λ u. Fits 1 0 0 u) mine;
      lone = λ i j v w here there dv dw. first i v here ∙ sym (first j w there);
      told = λ i j v w here there drives asleep. absurd
          (true_or_false v.asleep asleep (alone i v here (λ u. u.asleep ≡ false) refl));
      least = omega arith;
      made = record { by = 0; knows = d; here = refl; is = refl };
    }
  where
    alone : (id : ℕ) (v : Knowledge) → get_elem? (driver_at_first ∷ []) id ≡ some v
        → (F : Knowledge → Type 0) → F driver_at_first → F v
    alone zero v at F mine = subst F (some-injective _ _ at) mine
    alone (suc id) v at F mine = absurd (some-ne-none v (sym at))

    first : (id : ℕ) (v : Knowledge) → get_elem? (driver_at_first ∷ []) id ≡ some v → id ≡ 0
    first zero v at = refl
    first (suc id) v at = absurd (some-ne-none v (sym at))

pub starts : (words : List ℕ) (slots : List (Unit {0})) → words ≡ first_words → slots ≡ []
    → IsKept (opening words slots driver_at_first)
starts words slots these none =
    subst (λ (x : List ℕ × List (Unit {0})). IsKept (opening x.0 x.1 driver_at_first))
    (λ i. (sym these i, sym none i)) first_is_kept
