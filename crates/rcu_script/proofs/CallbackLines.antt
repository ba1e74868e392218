-- If a line of a script ran callbacks, or found the barrier done, the script's run is one that the
-- laws of callbacks need.
use Rattle.std.proofs.Common.{◌≡◌, ◌==◌, ◌∙◌, ℕ, Bool, true, false, List, [], ◌∷◌, ◌++◌, refl, sym}
use Rattle.std.proofs.Common.{ap, inl, inr, codes, append-nil, arith, get_or, if◌then◌else◌, subst}
use Rattle.std.proofs.Common.{true≢false}
use Rattle.std.specs.Prelude.{map, nat_le, not}
use Rattle.rcu_seq.specs.Fault.{first_fault}
use Rattle.rcu_seq.specs.declared.fault.Fault.TheVariants as fault
use Rattle.rcu_core.specs.Callbacks.{barrier_runs, handed_out}
use Rattle.rcu_core.specs.History.{History}
use Rattle.rcu_core.specs.Replies.{IsLegalReply, Size, or_fault, waits_for}
use Rattle.rcu_core.specs.Runs.{IsLegalRun, Run, history}
use Rattle.rcu_core.specs.Situation.{situation}
use Rattle.rcu_core.specs.declared.event.Event.{Event}
use Rattle.rcu_core.specs.declared.event.Event.TheVariants as event
use Rattle.rcu_core.specs.declared.reply.Reply.{Reply}
use Rattle.rcu_core.specs.declared.reply.Reply.TheVariants as reply
use Rattle.rcu_text.specs.declared.line_shape.Line.TheVariants.{Ask}
use Rattle.rcu_script.specs.ScriptAnswers.{Answers}
use Rattle.rcu_script.specs.ScriptLines.{asked_by}
use Rattle.rcu_script.specs.ScriptTexts.{text_of}
use Rattle.rcu_script.proofs.PolledLemmas.{asked_line}
use Rattle.rcu_script.proofs.ScriptRunLemmas.{lines_from_first}

-- texts that are equal have equal bytes
pub byte_at : (place : ℕ) {a b : List ℕ} → a ≡ b → get_or a place 0 ≡ get_or b place 0
byte_at place e = ap (λ (l : List ℕ). get_or l place 0) e

-- `f` is not `r`
no_f : {P : Type 0} → ◌≡◌ {A = ℕ} 102 114 → P
no_f e = absurd (omega (arith, e))

-- the reply is legal after a run that leads to this history
pub legal_after : (size : Size) (run : Run) (h : History) (e : Event) (r q : Reply)
    → history run ≡ h → r ≡ q → IsLegalReply size (situation h) e r
    → IsLegalReply size (situation (history run)) e q
legal_after size run h e r q reached is legal =
    subst (λ (p : Reply). IsLegalReply size (situation (history run)) e p) is
    (subst (λ (g : History). IsLegalReply size (situation g) e r) (sym reached) legal)

-- ---- a line that ran callbacks

-- the reply with the values that a run hands out
abbrev pub ran : ℕ → ℕ → History → Reply
ran cpu most h = reply.Ran (map (λ call. call.value) (handed_out cpu most h))

run_told : (size : Size) (h : History) (cpu most : ℕ) (r : Reply) (x more : List ℕ)
    → IsLegalReply size (situation h) (event.Run cpu most) r → text_of r ++ x ≡ codes "ran" ++ more
    → r ≡ ran cpu most h
run_told size h cpu most r x more (inl is) text =
    is ∙ go (nat_le size.cpus cpu) (byte_at 0 (ap (λ (q : Reply). text_of q ++ x) (sym is) ∙ text))
  where
    said : Bool → Reply
    said t = or_fault (first_fault ((t, fault.BadCpu) ∷ [])) (ran cpu most h)

    go : (t : Bool) → get_or (text_of (said t) ++ x) 0 0 ≡ 114 → said t ≡ ran cpu most h
    go true e = no_f e
    go false e = refl
run_told size h cpu most r x more (inr want) text =
    no_f (byte_at 0 (ap (λ (q : Reply). text_of q ++ x) (sym want.2) ∙ text))

-- a legal run, and the callbacks that it hands out next, which the text lists
pub record RanAfter (size : Size) (cpu most : ℕ) (at_run : History) (text : List ℕ) : Type 0 where
  pub run : Run
  pub legal : IsLegalRun size ((event.Run cpu most, ran cpu most at_run) ∷ run)
  pub reached : history run ≡ at_run
  pub tells : text ≡ text_of (ran cpu most at_run)

pub ran_after : (size : Size) (before : List (List ℕ)) (running told text more : List ℕ)
    (cpu most : ℕ) (at_run end : History)
    → Answers size [] before told at_run
    → asked_by running ≡ Ask (event.Run cpu most)
    → Answers size at_run (running ∷ []) text end
    → text ≡ codes "ran" ++ more
    → RanAfter size cpu most at_run text
ran_after size before running told text more cpu most at_run end first asks second begins =
    let start = lines_from_first size before told at_run first in
    let a = asked_line size at_run running (event.Run cpu most) second.0 second.1 asks second.3 in
    let is = run_told size at_run cpu most a.0 second.2 more a.1
    (ap (λ (l : List ℕ). l ++ second.2) (sym a.2) ∙ sym second.4 ∙ begins) in
    record {
      run = start.run;
      legal = (
        legal_after size start.run at_run (event.Run cpu most) a.0 _ start.reached is a.1,
        start.legal,
      );
      reached = start.reached;
      tells =
          second.4
          ∙ ap (λ (l : List ℕ). second.0 ++ l) second.5.0
          ∙ append-nil second.0
          ∙ a.2
          ∙ ap text_of is;
    }

-- ---- a line that found the barrier done

barrier_told : (size : Size) (h : History) (r : Reply) (x : List ℕ)
    → IsLegalReply size (situation h) event.BarTest r → text_of r ++ x ≡ text_of reply.BarDone
    → r ≡ reply.BarDone
barrier_told size h r x (inl is) text =
    let n = waits_for size (situation h) in
    let told = ap (λ (q : Reply). text_of q ++ x) (sym is) ∙ text in
    is ∙ go (not (barrier_runs h)) (n == 0) n (byte_at 0 told) (byte_at 8 told)
  where
    said : Bool → Bool → ℕ → Reply
    said t b n = or_fault (first_fault ((t, fault.NoBarrier) ∷ []))
        (if b then reply.BarDone else reply.BarWaits n)

    -- `f` is not `b`, and `w` is not `d`
    go : (t b : Bool) (n : ℕ) → get_or (text_of (said t b n) ++ x) 0 0 ≡ 98
        → get_or (text_of (said t b n) ++ x) 8 0 ≡ 100 → said t b n ≡ reply.BarDone
    go true b n first later = let bad : 102 ≡ 98 = first in absurd (omega (arith, bad))
    go false true n first later = refl
    go false false n first later = let bad : 119 ≡ 100 = later in absurd (omega (arith, bad))
barrier_told size h r x (inr want) text = absurd (true≢false (sym want.0))

-- a legal run after which the barrier tests done
pub record DoneAfter (size : Size) (at_test : History) : Type 0 where
  pub run : Run
  pub legal : IsLegalRun size ((event.BarTest, reply.BarDone) ∷ run)
  pub reached : history run ≡ at_test

pub done_after : (size : Size) (before : List (List ℕ)) (testing told : List ℕ)
    (at_test end : History)
    → Answers size [] before told at_test
    → asked_by testing ≡ Ask event.BarTest
    → Answers size at_test (testing ∷ []) (text_of reply.BarDone) end
    → DoneAfter size at_test
done_after size before testing told at_test end first asks second =
    let start = lines_from_first size before told at_test first in
    let a = asked_line size at_test testing event.BarTest second.0 second.1 asks second.3 in
    let is = barrier_told size at_test a.0 second.2 a.1
    (ap (λ (l : List ℕ). l ++ second.2) (sym a.2) ∙ sym second.4) in
    record {
      run = start.run;
      legal = (
        legal_after size start.run at_test event.BarTest a.0 _ start.reached is a.1,
        start.legal,
      );
      reached = start.reached;
    }
