-- The engine after collections from the first processors, one after another.
use Rattle.std.proofs.Common.{◌≡◌, ℕ, zero, suc, ◌+◌, ◌-◌, ◌<◌, ◌≤◌, ◌&&◌, ◌++◌, Bool, true, false}
use Rattle.std.proofs.Common.{not, nat_lt, if◌then◌else◌, List, ◌∷◌, length, refl, sym, ap, ◌∙◌}
use Rattle.std.proofs.Common.{subst, arith, inl, inr}
use Rattle.std.proofs.lemmas.Bool.{cases_Bool}
use Rattle.std.proofs.lemmas.Bool.Decides.{nat_tests}
use Rattle.rcu_seq.specs.Numbers.{Number}
use Rattle.rcu_seq.specs.Seq.{number_of}
use Rattle.rcu_node.specs.CpuSet.{is_in, unheard}
use Rattle.rcu_node.proofs.CpuSetLemmas.{is_in-unheard, length-unheard}
use Rattle.rcu_state.specs.GpState.{after_current_report, with_awaited}
use Rattle.rcu_live.specs.Drive.{after_collections, loads_of}
use Rattle.rcu_live.specs.Engine.{Locked, after_collect, latest_word, latest_words, loaded_word}
use Rattle.rcu_live.specs.Numbers.{reports_quiescence}
use Rattle.rcu_live.specs.View.{after_own_word_load}
use Rattle.rcu_live.specs.Words.{own_word_index}
use Rattle.rcu_live.proofs.HeardBelow.{all_below, heard_below, none_below, none_more, not_both}
use Rattle.rcu_live.proofs.HeardBelow.{one_below}
use Rattle.rcu_live.proofs.LoadedWords.{found_here, found_there}

-- these words report the processor in the grace period
abbrev pub reported_by : Number → (ℕ → ℕ) → ℕ → Bool
reported_by t word cpu = reports_quiescence t (word cpu)

-- loads that found the same words are the same
loads_same : (looks_at : ℕ → Bool) (word other : ℕ → ℕ) (n : ℕ)
    → ((c : ℕ) → c < n → word c ≡ other c) → loads_of looks_at word n ≡ loads_of looks_at other n
loads_same looks_at word other zero h = refl
loads_same looks_at word other (suc n) h =
    let here : word n ≡ other n = h n (omega arith) in
    let before : loads_of looks_at word n ≡ loads_of looks_at other n =
    loads_same looks_at word other n (λ c low. h c (omega arith)) in
    λ i. if looks_at n then (own_word_index n, here i) ∷ before i else before i

-- one processor more is looked at, or is not
one_more_load : (looks_at : ℕ → Bool) (word : ℕ → ℕ) (n : ℕ) → looks_at n ≡ true
    → loads_of looks_at word (n + 1) ≡ (own_word_index n, word n) ∷ loads_of looks_at word n
one_more_load looks_at word n is =
    ap (loads_of looks_at word) (let next : n + 1 ≡ suc n = omega arith in next)
    ∙ ap (λ (b : Bool).
    if b then (own_word_index n, word n) ∷ loads_of looks_at word n else loads_of looks_at word n)
    is

no_more_load : (looks_at : ℕ → Bool) (word : ℕ → ℕ) (n : ℕ) → looks_at n ≡ false
    → loads_of looks_at word (n + 1) ≡ loads_of looks_at word n
no_more_load looks_at word n is =
    ap (loads_of looks_at word) (let next : n + 1 ≡ suc n = omega arith in next)
    ∙ ap (λ (b : Bool).
    if b then (own_word_index n, word n) ∷ loads_of looks_at word n else loads_of looks_at word n)
    is

module _ {C X : Type 0} where
  -- after collections from those below n that are awaited
  abbrev pub collected_below : Locked C X → ℕ → (ℕ → ℕ) → Locked C X
  collected_below e n word =
      let loads = loads_of (is_in e.grace.processors.awaited) word n in
      record e {
        view = record e.view {
          loads = e.view.loads + length loads;
          own_word_loads = loads ++ e.view.own_word_loads;
        };
        grace = with_awaited e.grace
            (unheard e.grace.processors.awaited
            (heard_below n (reported_by (number_of e.grace.seq) word)));
      }

  -- after no collection
  pub none_collected : (e : Locked C X) (word : ℕ → ℕ) → e ≡ collected_below e 0 word
  none_collected e word =
      let loads : e.view.loads ≡ e.view.loads + 0 = omega arith in
      let flags =
      sym (none_below e.grace.processors.awaited (reported_by (number_of e.grace.seq) word)) in
      λ i. record e {
        view = record e.view { loads = loads i };
        grace = with_awaited e.grace (flags i);
      }

  -- those that are not passed yet are awaited if they were
  pub awaited_still : (e now : Locked C X) (n c : ℕ) (word : ℕ → ℕ)
      → n ≤ c → now ≡ collected_below e n word
      → is_in now.grace.processors.awaited c ≡ is_in e.grace.processors.awaited c
  awaited_still e now n c word later is =
      let set : List Bool = e.grace.processors.awaited in
      let t : Number = number_of e.grace.seq in
      ap (λ (y : Locked C X). is_in y.grace.processors.awaited c) is
      ∙ is_in-unheard set (heard_below n (reported_by t word)) c
      ∙ still (is_in set c) (reports_quiescence t (word c)) c n later
    where
      still : (here there : Bool) (c n : ℕ) → n ≤ c → (here && not (nat_lt c n && there)) ≡ here
      still here there c n later = grind (arith, nat_tests, later)

  -- there are as many processors as there were
  pub cpus_still : (e now : Locked C X) (n : ℕ) (word : ℕ → ℕ) → now ≡ collected_below e n word
      → length now.grace.processors.awaited ≡ length e.grace.processors.awaited
  cpus_still e now n word is =
      ap (λ (y : Locked C X). length y.grace.processors.awaited) is
      ∙ length-unheard e.grace.processors.awaited
      (heard_below n (reported_by (number_of e.grace.seq) word))

  -- from one more
  pub one_collected : (e now next : Locked C X) (n : ℕ) → e.grace.seq.running ≡ true
      → n < length e.grace.processors.awaited → is_in e.grace.processors.awaited n ≡ true
      → now ≡ collected_below e n (latest_words now) → next ≡ after_collect now n (latest_word next)
      → next ≡ collected_below e (n + 1) (latest_words next)
  one_collected e now next n runs inside is old new =
      let set : List Bool = e.grace.processors.awaited in
      let t : Number = number_of e.grace.seq in
      let w : ℕ = latest_word next in
      let base : Locked C X = collected_below e n (latest_words now) in
      let looked : Locked C X = record base {
        view = after_own_word_load base.view (own_word_index n) w;
        grace = if reports_quiescence t w then after_current_report base.grace n else base.grace;
      } in
      let stepped : next ≡ looked =
      new
      ∙ ap (λ (y : Locked C X). after_collect y n w) old
      ∙ ap (λ (b : Bool). if b then looked else base) runs in
      let here : latest_words next n ≡ w =
      ap (λ (y : Locked C X). loaded_word y.view.own_word_loads n) stepped
      ∙ found_here base.view.own_word_loads n w in
      let there : (c : ℕ) → c < n → latest_words next c ≡ latest_words now c =
      λ c low. ap (λ (y : Locked C X). loaded_word y.view.own_word_loads c) stepped
      ∙ found_there base.view.own_word_loads n w c (λ same. absurd (omega (arith, low, same)))
      ∙ sym (ap (λ (y : Locked C X). loaded_word y.view.own_word_loads c) old) in
      let tells : (c : ℕ) → c < n
      → reported_by t (latest_words next) c ≡ reported_by t (latest_words now) c =
      λ c low. ap (reports_quiescence t) (there c low) in
      let before : loads_of (is_in set) (latest_words next) n
      ≡ loads_of (is_in set) (latest_words now) n =
      loads_same (is_in set) (latest_words next) (latest_words now) n there in
      let loads : loads_of (is_in set) (latest_words next) (n + 1)
      ≡ (own_word_index n, w) ∷ loads_of (is_in set) (latest_words now) n =
      one_more_load (is_in set) (latest_words next) n is
      ∙ (λ i. (own_word_index n, here i) ∷ before i) in
      let count : e.view.loads + length (loads_of (is_in set) (latest_words now) n) + 1
      ≡ e.view.loads + length (loads_of (is_in set) (latest_words next) (n + 1)) =
      let long = ap (λ (l : List (ℕ × ℕ)). length l) loads in omega (arith, long) in
      let grace : (if reports_quiescence t w then after_current_report base.grace n else base.grace)
      ≡ with_awaited e.grace
      (unheard set (heard_below (n + 1) (reported_by t (latest_words next)))) =
      elim (cases_Bool (reports_quiescence t w)) [
        | inl told ↦
            ap (λ (b : Bool). if b then after_current_report base.grace n else base.grace) told
            ∙ ap (with_awaited e.grace)
            (sym (one_below set n (reported_by t (latest_words now))
            (reported_by t (latest_words next)) inside (ap (reports_quiescence t) here ∙ told)
            tells))
        | inr out ↦
            ap (λ (b : Bool). if b then after_current_report base.grace n else base.grace) out
            ∙ ap (with_awaited e.grace)
            (sym (none_more set n (reported_by t (latest_words now))
            (reported_by t (latest_words next))
            (not_both (is_in set n) (reports_quiescence t (latest_words next n))
            (ap (reports_quiescence t) here ∙ out))
            tells))
      ] in
      stepped
      ∙ (λ i. record e {
        view = record e.view {
          loads = count i;
          own_word_loads = sym loads i ++ e.view.own_word_loads;
        };
        grace = grace i;
      })

  -- one more is not awaited
  pub one_passed_by : (e now : Locked C X) (n : ℕ)
      → is_in e.grace.processors.awaited n ≡ false → now ≡ collected_below e n (latest_words now)
      → now ≡ collected_below e (n + 1) (latest_words now)
  one_passed_by e now n out old =
      let set : List Bool = e.grace.processors.awaited in
      let t : Number = number_of e.grace.seq in
      let loads = no_more_load (is_in set) (latest_words now) n out in
      let flags = sym (none_more set n (reported_by t (latest_words now))
      (reported_by t (latest_words now))
      (ap (λ (b : Bool). b && reports_quiescence t (latest_words now n)) out) (λ c low. refl)) in
      old
      ∙ (λ i. record e {
        view = record e.view {
          loads = e.view.loads + length (sym loads i);
          own_word_loads = sym loads i ++ e.view.own_word_loads;
        };
        grace = with_awaited e.grace (flags i);
      })

  -- none of some more is awaited
  some_passed_by : (e now : Locked C X) (n k : ℕ)
      → ((c : ℕ) → n ≤ c → c < n + k → is_in e.grace.processors.awaited c ≡ false)
      → now ≡ collected_below e n (latest_words now)
      → now ≡ collected_below e (n + k) (latest_words now)
  some_passed_by e now n zero out old =
      let same : n ≡ n + 0 = omega arith in
      subst (λ (m : ℕ). now ≡ collected_below e m (latest_words now)) same old
  some_passed_by e now n (suc k) out old =
      let before =
      some_passed_by e now n k (λ c after less. out c after (omega (arith, less))) old in
      let next : n + k + 1 ≡ n + suc k = omega arith in
      subst (λ (m : ℕ). now ≡ collected_below e m (latest_words now)) next
      (one_passed_by e now (n + k) (out (n + k) (omega arith) (omega arith)) before)

  -- up to another one
  pub passed_by : (e now : Locked C X) (n m : ℕ) → n ≤ m
      → ((c : ℕ) → n ≤ c → c < m → is_in e.grace.processors.awaited c ≡ false)
      → now ≡ collected_below e n (latest_words now) → now ≡ collected_below e m (latest_words now)
  passed_by e now n m more out old =
      let all : n + (m - n) ≡ m = omega (arith, more) in
      subst (λ (k : ℕ). now ≡ collected_below e k (latest_words now)) all
      (some_passed_by e now n (m - n) (λ c after less. out c after (omega (arith, less, all))) old)

  -- from all
  pub all_collected : (e now : Locked C X) (n : ℕ)
      → length e.grace.processors.awaited ≡ n
      → e.cpus ≡ n
      → now ≡ collected_below e n (latest_words now)
      → now ≡ after_collections e (latest_words now)
  all_collected e now n long count old =
      let set : List Bool = e.grace.processors.awaited in
      let t : Number = number_of e.grace.seq in
      let loads = ap (loads_of (is_in set) (latest_words now)) (sym count) in
      let flags = all_below set n (reported_by t (latest_words now)) (omega (arith, long)) in
      old
      ∙ (λ i. record e {
        view = record e.view {
          loads = e.view.loads + length (loads i);
          own_word_loads = loads i ++ e.view.own_word_loads;
        };
        grace = with_awaited e.grace (flags i);
      })
