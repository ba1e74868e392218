-- The state of grace periods after a begin, by the words that it found.
use Rattle.std.proofs.Common.{◌≡◌, ℕ, ◌==◌, ◌&&◌, Bool, true, false, not, nat_lt, List, length, sym}
use Rattle.std.proofs.Common.{ap, ◌∙◌, subst, arith}
use Rattle.std.proofs.lemmas.Bool.Decides.{nat_tests}
use Rattle.rcu_seq.specs.Numbers.{Number}
use Rattle.rcu_seq.specs.Seq.{Periods, tag_of}
use Rattle.rcu_node.specs.CpuSet.{is_in, listed, unheard}
use Rattle.rcu_node.proofs.CpuSetLemmas.{is_in-listed, length-listed, listed_same}
use Rattle.rcu_barrier.specs.Lists.{AllLists}
use Rattle.rcu_state.specs.GpState.{Grace, after_begin, with_awaited}
use Rattle.rcu_live.specs.Engine.{AwaitsTheOthers, begun_from, loads_in_turn, next_number}
use Rattle.rcu_live.specs.Numbers.{reports_quiescence}
use Rattle.rcu_live.proofs.LoadedWords.{cleared_in_turn}

-- a processor that is online and not already quiescent reports nothing
not_reported : (t : Number) (word : ℕ)
    → not (reports_quiescence t word) ≡ (not (word == 0) && not (nat_lt t word))
not_reported t word = grind (arith, nat_tests)

reported_else : (t : Number) (word : ℕ) → not (reports_quiescence t word) ≡ false
    → reports_quiescence t word ≡ true
reported_else t word e = grind (arith, nat_tests)

-- those that are quiescent already, taken out of those that are here
already_quiescent_out : (cpus : ℕ) (word : ℕ → ℕ) (t : Number) (here already_quiescent : List Bool)
    → here ≡ listed cpus (λ c. not (word c == 0))
    → already_quiescent ≡ listed cpus (λ c. nat_lt t (word c))
    → unheard here (is_in already_quiescent)
    ≡ listed cpus (λ c. not (reports_quiescence t (word c)))
already_quiescent_out cpus word t here already_quiescent is_here is_already_quiescent =
    let long : length here ≡ cpus =
    ap (λ (l : List Bool). length l) is_here ∙ length-listed cpus (λ c. not (word c == 0)) in
    sym (listed_same cpus (λ c. not (reports_quiescence t (word c)))
    (unheard here (is_in already_quiescent))
    (length-listed (length here) (λ c. is_in here c && not (is_in already_quiescent c)) ∙ long)
    (λ c low.
    let on : is_in here c ≡ not (word c == 0) =
    ap (λ (l : List Bool). is_in l c) is_here ∙ is_in-listed cpus (λ k. not (word k == 0)) c low in
    let after : is_in already_quiescent c ≡ nat_lt t (word c) =
    ap (λ (l : List Bool). is_in l c) is_already_quiescent
    ∙ is_in-listed cpus (λ k. nat_lt t (word k)) c low in
    not_reported t (word c)
    ∙ (λ i. sym on i && not (sym after i))
    ∙ sym (is_in-listed (length here) (λ k. is_in here k && not (is_in already_quiescent k)) c
    (omega (arith, low, long)))))

module _ {X : Type 0} where
  -- the state after a begin, in parts
  abbrev parts : Periods → Number → AllLists X → List Bool → List Bool → Grace X
  parts seq needed lists online awaited = record {
    seq = record seq { running = true };
    needed = needed;
    processors = record {
      tag = tag_of (record seq { running = true });
      start_set = online;
      awaited = awaited;
      online = online;
    };
    lists = lists;
  }

  -- a begin, after the online set is set, and before those that are quiescent already are reported
  pub begun_is : (g with_online_set begun heard : Grace X) (cpus : ℕ) (word : ℕ → ℕ)
      (already_quiescent : List Bool) (t : Number)
      → with_online_set.seq ≡ g.seq
      → with_online_set.needed ≡ g.needed
      → with_online_set.lists ≡ g.lists
      → with_online_set.processors.online ≡ listed cpus (λ c. not (word c == 0))
      → already_quiescent ≡ listed cpus (λ c. nat_lt t (word c))
      → t ≡ next_number g
      → begun ≡ after_begin with_online_set
      → heard ≡ with_awaited begun (unheard begun.processors.awaited (is_in already_quiescent))
      → heard ≡ begun_from cpus word g
  begun_is g with_online_set begun heard cpus word already_quiescent t seq needed lists online
      is_already_quiescent is started out =
      let here : List Bool = listed cpus (λ c. not (word c == 0)) in
      let awaited : unheard with_online_set.processors.online (is_in already_quiescent)
      ≡ listed cpus (λ c. not (reports_quiescence (next_number g) (word c))) =
      already_quiescent_out cpus word t with_online_set.processors.online already_quiescent online
      is_already_quiescent
      ∙ ap (λ (n : ℕ). listed cpus (λ c. not (reports_quiescence n (word c)))) is in
      out
      ∙ ap
      (λ (y : Grace X). with_awaited y (unheard y.processors.awaited (is_in already_quiescent)))
      started
      ∙ (λ i. parts (seq i) (needed i) (lists i) (online i) (awaited i))

  -- the engine awaits those that no word reported
  pub begun_awaits : (g heard : Grace X) (cpus : ℕ) (word : ℕ → ℕ) (own_word_loads : List (ℕ × ℕ))
      → heard ≡ begun_from cpus word g → own_word_loads ≡ loads_in_turn word cpus
      → AwaitsTheOthers cpus own_word_loads heard
  begun_awaits g heard cpus word own_word_loads is in_turn =
      subst (λ (y : Grace X × List (ℕ × ℕ)). AwaitsTheOthers cpus y.1 y.0)
      (λ i. (sym is i, sym in_turn i))
      (λ runs c low none. cleared_in_turn (next_number g) word cpus c low
      (reported_else (next_number g) (word c)
      (sym (is_in-listed cpus (λ k. not (reports_quiescence (next_number g) (word k))) c low)
      ∙ none)))
