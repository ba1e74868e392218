-- After the answer that a report was the last one, no processor is awaited.
use Rattle.std.proofs.Common.{◌≡◌, ◌≢◌, ℕ, ◌<◌, Bool, true, false, not, ◌&&◌, []}
use Rattle.std.proofs.Common.{◌∷◌, Option, Some, None, slice_get, refl, sym, ap, ◌∙◌, subst, arith}
use Rattle.std.proofs.Common.{cond, eqb, inl, inr, ◌-◌}
use Rattle.std.proofs.lemmas.Bool.{and_from, and_parts, eqb-true}
use Rattle.std.proofs.lemmas.Bool.Decides.{nat_tests}
use Rattle.rcu_seq.specs.Histories.{latest}
use Rattle.rcu_seq.specs.Tags.{same_tag}
use Rattle.rcu_seq.specs.declared.fault.Fault.{Fault}
use Rattle.rcu_node.specs.declared.awaited.Answer.{Answer}
use Rattle.rcu_node.specs.declared.awaited.Answer.TheVariants.{Taken, Last, Repeat, Stale}
use Rattle.rcu_report.specs.declared.batch.Report.{Report}
use Rattle.rcu_core.specs.History.{History, awaits, begins, is_heard, is_of, noted, online}
use Rattle.rcu_core.specs.History.{report_at, reports_made, running, tag_now}
use Rattle.rcu_core.specs.Progress.{SurelyLeads}
use Rattle.rcu_core.specs.Replies.{Size, accepted_reply, answer_to_report, fault_in, how_many}
use Rattle.rcu_core.specs.Replies.{history_event, or_fault, own_report, AreAccepted, IsLegalReply}
use Rattle.rcu_core.specs.Runs.{IsLegalRun, Run, history}
use Rattle.rcu_core.specs.Situation.{situation}
use Rattle.rcu_core.specs.declared.event.Event.{Event}
use Rattle.rcu_core.specs.declared.event.Event.TheVariants.{BarTest, Deliver, End, Quiesce, Scan}
use Rattle.rcu_core.specs.declared.event.Event.TheVariants.{Turn}
use Rattle.rcu_core.specs.declared.reply.Reply.{Reply}
use Rattle.rcu_core.specs.declared.reply.Reply.TheVariants as reply
use Rattle.rcu_core.proofs.Ending.{each_zero, ends_now, heard_by, leads_on, none_left, of_one}
use Rattle.rcu_core.proofs.Ending.{scan_hears, scan_hears_no_other, unheard_by}
use Rattle.rcu_core.proofs.Facts.{get_push, some_of}
use Rattle.rcu_core.proofs.Lost.{sums_are}
use Rattle.rcu_core.proofs.Once.{sums}
use Rattle.rcu_core.proofs.Readers.{possible}
use Rattle.rcu_core.proofs.Writes.{eqb_self}

-- each report was made by an existing processor
made_in_range : (s : Size) (h : History) → AreAccepted s h → (k : ℕ) (r : Report)
    → slice_get (reports_made h) k ≡ Some r → r.cpu < s.cpus
made_in_range s [] p k r i = absurd (cc)
made_in_range s (Quiesce d ∷ h) p k r i =
    let new = get_push (reports_made h) (record { cpu = d; tag = noted d h }) r k i in
    elim new [
      | inl old ↦ made_in_range s h p.1 k r old
      | inr is ↦
          let q = p.0 in
          let l : d < s.cpus = grind (arith, nat_tests) in
          subst (λ (x : Report). x.cpu < s.cpus) is l
    ]
made_in_range s (e ∷ h) p k r i = made_in_range s h p.1 k r i

-- the report of this processor is the last one
record IsLast (s : Size) (h : History) (c : ℕ) : Type 0 where
  pub runs : running h ≡ true
  pub awaited : awaits c h ≡ true
  pub one : how_many s (λ c. awaits c h) ≡ 1

chosen : (a b c : Bool)
    → cond (not a) Stale (cond (not b) Repeat (cond c Last Taken)) ≡ Last
    → (a ≡ true) × ((b ≡ true) × (c ≡ true))
chosen true true true i = (refl, (refl, refl))
chosen true true false i = absurd (cc)
chosen true false c i = absurd (cc)
chosen false b c i = absurd (cc)

is_one : (n : ℕ) → eqb n 1 ≡ true → n ≡ 1
is_one n i = eqb-true n 1 i

last_report : (s : Size) (h : History) (r : Report)
    → answer_to_report s (situation h) (Some r) ≡ Last
    → (same_tag r.tag (tag_now h) ≡ true) × IsLast s h r.cpu
last_report s h r i =
    let o = chosen (running h && same_tag r.tag (tag_now h)) (awaits r.cpu h)
    (eqb (how_many s (λ c. awaits c h)) 1) i in
    let a = and_parts (running h) (same_tag r.tag (tag_now h)) o.0 in (
      a.1,
      record {
        runs = a.0;
        awaited = o.1.0;
        one = is_one (how_many s (λ c. awaits c h)) o.1.1;
      },
    )

-- after it no processor is awaited
nobody_after : (s : Size) (h : History) (c : ℕ) (e : Event) → c < s.cpus → IsLast s h c
    → awaits c (e ∷ h) ≡ false
    → ((d : ℕ) → d ≢ c → awaits d (e ∷ h) ≡ awaits d h)
    → (d : ℕ)
    → d < s.cpus
    → awaits d (e ∷ h) ≡ false
nobody_after s h c e l last out others d m =
    let f = λ (d : ℕ). cond {A = ℕ} (awaits d h) 1 0 in
    let g = λ (d : ℕ). cond {A = ℕ} (awaits d (e ∷ h)) 1 0 in
    let sum = sums s.cpus f g c l (λ d n. ap (λ b. cond {A = ℕ} b 1 0) (others d n)) in
    let all = sums_are s.cpus f f (λ d. refl) in
    let one = last.one in
    let was : f c ≡ 1 = ap (λ b. cond {A = ℕ} b 1 0) last.awaited in
    let is : g c ≡ 0 = ap (λ b. cond {A = ℕ} b 1 0) out in
    none_left (awaits d (e ∷ h))
    (each_zero s.cpus g (omega (arith, sum, all, one, was, is)) d m)

-- the state after such an answer
record NobodyLeft (s : Size) (h : History) : Type 0 where
  pub runs : running h ≡ true
  pub none : (d : ℕ) → d < s.cpus → awaits d h ≡ false

said_answer : (o : Option Fault) (x : Reply) → reply.Answer Last ≡ or_fault o x
    → (o ≡ None) × (reply.Answer Last ≡ x)
said_answer None x i = (refl, i)
said_answer (Some f) x i = absurd (cc)

abbrev answer_in : Reply → Answer
answer_in (reply.Answer a) = a
answer_in r = Stale

no_turn : (a b c : Bool) (x y z : ℕ × ℕ) → reply.Answer Last
    ≡ cond a (cond b (reply.Ended x.0) (reply.Waiting x.1))
    (cond c (reply.Begun y.0 y.1) reply.Nothing)
    → ⊥
no_turn true true c x y z i = cc
no_turn true false c x y z i = cc
no_turn false b true x y z i = cc
no_turn false b false x y z i = cc

no_test : (b : Bool) (n : ℕ) → reply.Answer Last ≡ cond b reply.BarDone (reply.BarWaits n) → ⊥
no_test true n i = cc
no_test false n i = cc

delivered : (s : Size) (h : History) (place : ℕ) (o : Option Report) → AreAccepted s h
    → report_at place (reports_made h) ≡ o
    → answer_to_report s (situation h) o ≡ Last
    → NobodyLeft s (Deliver place ∷ h)
delivered s h place None p is i = absurd (cc)
delivered s h place (Some r) p is i =
    let last = last_report s h r i in
    let of_it : is_of r.cpu (tag_now h) (report_at place (reports_made h)) ≡ true =
    ap (λ o. is_of r.cpu (tag_now h) o) is ∙ and_from (eqb r.cpu r.cpu) _ (eqb_self r.cpu) last.0 in
    let l = made_in_range s h p (place - 1) r
    (some_of (eqb place 0) (slice_get (reports_made h) (place - 1)) r is) in
    record {
      runs = last.1.runs;
      none = nobody_after s h r.cpu (Deliver place) l last.1
          (heard_by (running h) (online r.cpu (latest begins h))
          (is_of r.cpu (tag_now h) (report_at place (reports_made h)))
          (is_heard r.cpu (tag_now h) h) of_it)
          (λ d n.
          unheard_by (running h) (online d (latest begins h))
          (is_of d (tag_now h) (report_at place (reports_made h))) (is_heard d (tag_now h) h)
          (of_one r.cpu d (tag_now h) (report_at place (reports_made h)) of_it n));
    }

last_leaves : (s : Size) (h : History) (e : Event) → AreAccepted s h
    → IsLegalReply s (situation h) e (reply.Answer Last) → NobodyLeft s (e ∷ h)
last_leaves s h (Deliver place) p (inl i) =
    let o = said_answer (fault_in s (situation h) (Deliver place)) _ i in
    delivered s h place (report_at place (reports_made h)) p refl (sym (ap answer_in o.1))
last_leaves s h (Scan c) p (inl i) =
    let o = said_answer (fault_in s (situation h) (Scan c)) _ i in
    let q = o.0 in
    let l : c < s.cpus = grind (arith, nat_tests) in
    let last = last_report s h (own_report (situation h) c) (sym (ap answer_in o.1)) in
    record {
      runs = last.1.runs;
      none = nobody_after s h c (Scan c) l last.1 (scan_hears h c) (scan_hears_no_other h c);
    }
last_leaves s h Turn p (inl i) =
    let o = said_answer (fault_in s (situation h) Turn) _ i in
    absurd (no_turn _ _ _ (_, _) (_, _) (0, 0) o.1)
last_leaves s h BarTest p (inl i) =
    let o = said_answer (fault_in s (situation h) BarTest) _ i in absurd (no_test _ _ o.1)
last_leaves s h e p (inl i) =
    let o = said_answer (fault_in s (situation h) e) (accepted_reply s (situation h) e) i in
    let x = o.1 in absurd (cc)
last_leaves s h e p (inr i) = absurd (let x = i.2 in cc)

stands : (e : Event) → history_event e (reply.Answer Last) ≡ e
stands Turn = refl
stands e = refl

pub last_lets_end : (s : Size) (run : Run) (e : Event)
    → IsLegalRun s ((e, reply.Answer Last) ∷ run)
    → SurelyLeads s (history ((e, reply.Answer Last) ∷ run)) (End ∷ [])
    (End ∷ history ((e, reply.Answer Last) ∷ run))
last_lets_end s run e l =
    let h = history run in
    let left = last_leaves s h e (possible s run l.1) l.0 in
    subst (λ (x : Event). SurelyLeads s (x ∷ h) (End ∷ []) (End ∷ x ∷ h)) (sym (stands e))
    (leads_on s (e ∷ h) End [] (End ∷ e ∷ h) (ends_now s (e ∷ h) left.runs left.none) refl)
