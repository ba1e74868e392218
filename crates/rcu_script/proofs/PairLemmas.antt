-- Lines of a pair, one more answered.
use Rattle.std.proofs.Common.{◌≡◌, ℕ, ◌+◌, ◌-◌, ◌<◌, Bool, true, false, List, [], ◌∷◌, ◌++◌, length}
use Rattle.std.proofs.Common.{refl, sym, ap, ◌∙◌, subst, append_assoc, append-nil, arith, cond}
use Rattle.std.specs.Prelude.{filter, flat_map}
use Rattle.std.specs.List.{range_with_len}
use Rattle.std.proofs.lemmas.List.{length-set}
use Rattle.rcu_seq.specs.Numbers.{same_number}
use Rattle.rcu_node.specs.Merging.{same_set}
use Rattle.rcu_report.specs.Replica.{Replicated, cpus_of}
use Rattle.rcu_text.specs.Outputs.{Out, Sends, Stops}
use Rattle.rcu_text.specs.Texts.{space_and_number}
use Rattle.rcu_text.specs.Underway.{LineIsAnswered}
use Rattle.rcu_text.specs.declared.line_shape.Line.{Line}
use Rattle.rcu_text.specs.declared.line_shape.Line.TheVariants.{Ask}
use Rattle.rcu_text.proofs.CallerLemmas.{Sends-Stops, Sends-trans, Stops-before, line_alike}
use Rattle.rcu_script.specs.PairLines.{pair_ask_of, pair_asked_by}
use Rattle.rcu_script.specs.PairState.{Pair, after_event, event_refusal, event_reply}
use Rattle.rcu_script.specs.PairTexts.{answer_to_line, compared_text, outcome_text, pair_after}
use Rattle.rcu_script.specs.PairTexts.{pair_after_line, pair_replies, replica_after}
use Rattle.rcu_script.specs.declared.pair.event.Side.{Side}
use Rattle.rcu_script.specs.declared.pair.event.Side.TheVariants.{A, B}
use Rattle.rcu_script.specs.declared.pair.event.PairEvent.{PairEvent}
use Rattle.rcu_script.specs.declared.pair.event.PairEvent.TheVariants.{Begin, Report, Depart, End}
use Rattle.rcu_script.specs.declared.pair.event.PairEvent.TheVariants.{Awaits, Merge}
use Rattle.rcu_script.specs.declared.pair.event.PairAsk.{PairAsk}
use Rattle.rcu_script.specs.declared.pair.event.PairAsk.TheVariants.{Same, Of}
use Rattle.rcu_node.proofs.CpuSetLemmas.{length-listed}
use Rattle.rcu_script.proofs.PairSets.{texts_front, texts_no, texts_yes}

-- ---- the awaited processors as text

-- the texts of the processors below a number that pass a test
abbrev texts : (ℕ → Bool) → ℕ → List ℕ
texts p n = flat_map space_and_number (filter p (range_with_len 0 n))

-- one processor more, which is awaited
pub member_sent : (p : ℕ → Bool) (n : ℕ) (a b c : Out) → p n ≡ true → Sends a b (texts p n)
    → Sends b c (space_and_number n)
    → Sends a c (texts p (n + 1))
member_sent p n a b c passes s t =
    subst (Sends a c) (sym (texts_yes space_and_number p n passes)) (Sends-trans a b c _ _ s t)

-- one processor more, which is not
pub member_none : (p : ℕ → Bool) (n : ℕ) (a b : Out) → p n ≡ false → Sends a b (texts p n)
    → Sends a b (texts p (n + 1))
member_none p n a b fails s = subst (Sends a b) (sym (texts_no space_and_number p n fails)) s

-- the writer failed in one of them
pub member_stops : (p : ℕ → Bool) (n all : ℕ) (a b c : Out)
    → n < all → p n ≡ true → Sends a b (texts p n) → Stops b c (space_and_number n)
    → Stops a c (texts p all)
member_stops p n all a b c below passes s t =
    let front = texts_front space_and_number p (n + 1) (all - (n + 1)) in
    let whole : (n + 1) + (all - (n + 1)) ≡ all = omega arith in
    let stops : Stops a c (texts p (n + 1)) =
    subst (Stops a c) (sym (texts_yes space_and_number p n passes)) (Sends-Stops a b c _ _ s t) in
    subst (λ (k : ℕ). Stops a c (texts p k)) whole
    (subst (Stops a c) (sym front.1) (Stops-before a c (texts p (n + 1)) front.0 stops))

-- once all processors are passed
pub members_all : (p : ℕ → Bool) (n all : ℕ) (a b : Out) → n ≡ all → Sends a b (texts p n)
    → Sends a b (texts p all)
members_all p n all a b e s = subst (λ (k : ℕ). Sends a b (texts p k)) e s

-- ---- a replica keeps its number of processors

same_length : (b : Bool) (x y : List Bool) → length x ≡ length y → length (cond b x y) ≡ length y
same_length true x y e = e
same_length false x y e = refl

after_report_length : (running told : Bool) (r : Replicated) (cpu : ℕ)
    → length
    (cond running
    (record r {
      awaited = cond told (Rattle.std.specs.Prelude.slice_set r.awaited cpu false) r.awaited;
    })
    r).awaited
    ≡ length r.awaited
after_report_length true told r cpu = same_length told _ r.awaited (length-set r.awaited cpu false)
after_report_length false told r cpu = refl

pub cpus_kept : (mine its : Replicated) (event : PairEvent)
    → cpus_of (after_event mine its event) ≡ cpus_of mine
cpus_kept mine its (Begin cpus) = length-listed (cpus_of mine) _
cpus_kept mine its (Report cpu tag) =
    after_report_length mine.periods.running (same_number tag mine.tag) mine cpu
cpus_kept mine its (Depart cpu) = length-set mine.awaited cpu false
cpus_kept mine its End = refl
cpus_kept mine its Awaits = refl
cpus_kept mine its Merge = length-listed (cpus_of mine) _

-- ---- one line more

after_more : (p : Pair) (lines : List (List ℕ)) (line : List ℕ)
    → pair_after p (lines ++ line ∷ []) ≡ pair_after_line (pair_after p lines) (pair_asked_by line)
after_more p [] line = refl
after_more p (l ∷ ls) line = after_more (pair_after_line p (pair_asked_by l)) ls line

replies_more : (p : Pair) (lines : List (List ℕ)) (line : List ℕ)
    → pair_replies p (lines ++ line ∷ []) ≡ pair_replies p lines
    ++ answer_to_line (pair_after p lines) (pair_asked_by line)
replies_more p [] line = append-nil (answer_to_line p (pair_asked_by line))
replies_more p (l ∷ ls) line =
    ap (λ (t : List ℕ). answer_to_line p (pair_asked_by l) ++ t)
    (replies_more (pair_after_line p (pair_asked_by l)) ls line)
    ∙ sym (append_assoc (answer_to_line p (pair_asked_by l)) _ _)

-- since the state was this pair, the lines were answered by the text, and the state is that pair
-- now
abbrev pub Past : Pair → Pair → List (List ℕ) → List ℕ → Type 0
Past opened now lines text = (now ≡ pair_after opened lines) × (text ≡ pair_replies opened lines)

-- a line is answered behind the others
pub line_answered : (line : List ℕ) (asked : Line PairAsk) (old new : Pair) (went : List ℕ → Type 0)
    → asked ≡ pair_asked_by line
    → new ≡ pair_after_line old asked
    → went (answer_to_line old asked)
    → LineIsAnswered (λ (opened : Pair). Past opened old) (λ (opened : Pair). Past opened new) line
    went
line_answered line asked old new went is left out = record {
  reply = answer_to_line old asked;
  out = out;
  told = λ opened lines text whole told alike.
      let before = pair_after opened lines in
      let same : asked ≡ pair_asked_by whole = is ∙ line_alike pair_ask_of line whole alike in
      let now : answer_to_line old asked ≡ answer_to_line before (pair_asked_by whole) =
      ap (λ (p : Pair). answer_to_line p asked) told.0 ∙ ap (answer_to_line before) same in (
        left ∙ ap (λ (p : Pair). pair_after_line p asked) told.0 ∙ ap (pair_after_line before) same
            ∙ sym (after_more opened lines whole),
        ap (λ (t : List ℕ). t ++ answer_to_line old asked) told.1
            ∙ ap (λ (t : List ℕ). pair_replies opened lines ++ t) now
            ∙ sym (replies_more opened lines whole),
      );
}

-- both replicas were compared
pub same_answered : (line : List ℕ) (ask : PairAsk) (a b : Replicated) (first second : List Bool)
    (old : Pair) (are_same : Bool) (went : List ℕ → Type 0)
    → ask ≡ Same
    → Ask ask ≡ pair_asked_by line
    → record { a = a; b = b } ≡ old
    → first ≡ a.awaited
    → second ≡ b.awaited
    → are_same ≡ same_set first second
    → went (compared_text are_same)
    → LineIsAnswered (λ (opened : Pair). Past opened old) (λ (opened : Pair). Past opened old) line
    went
same_answered line ask a b first second old are_same went asked is view is_a is_b e out =
    line_answered line (Ask Same) old old went (ap (λ (k : PairAsk). Ask k) (sym asked) ∙ is) refl
    (subst (λ (p : Pair). went (answer_to_line p (Ask Same))) view
    (subst (λ (t : Bool). went (compared_text t))
    (e ∙ ap (λ (s : List Bool). same_set s second) is_a ∙ ap (same_set a.awaited) is_b) out))

-- `a` was asked
pub a_answered : (line : List ℕ) (ask : PairAsk) (side : Side) (event : PairEvent)
    (a b mine : Replicated) (old : Pair) (went : List ℕ → Type 0)
    → ask ≡ Of side event
    → side ≡ A
    → Ask ask ≡ pair_asked_by line
    → record { a = a; b = b } ≡ old
    → mine ≡ replica_after (event_refusal a b event) a (after_event a b event)
    → went
    (outcome_text (event_refusal a b event) (after_event a b event).awaited (event_reply a b event))
    → LineIsAnswered (λ (opened : Pair). Past opened old)
    (λ (opened : Pair). Past opened (record { a = mine; b = b })) line went
a_answered line ask side event a b mine old went asked named is view e out =
    line_answered line (Ask (Of A event)) old (record { a = mine; b = b }) went
    (ap (λ (s : Side). Ask (Of s event)) (sym named) ∙ ap (λ (k : PairAsk). Ask k) (sym asked) ∙ is)
    (subst (λ (p : Pair). record { a = mine; b = b } ≡ pair_after_line p (Ask (Of A event))) view
    (ap (λ (r : Replicated). record { a = r; b = b }) e))
    (subst (λ (p : Pair). went (answer_to_line p (Ask (Of A event)))) view out)

-- `b` was asked
pub b_answered : (line : List ℕ) (ask : PairAsk) (side : Side) (event : PairEvent)
    (a b mine : Replicated) (old : Pair) (went : List ℕ → Type 0)
    → ask ≡ Of side event
    → side ≡ B
    → Ask ask ≡ pair_asked_by line
    → record { a = a; b = b } ≡ old
    → mine ≡ replica_after (event_refusal b a event) b (after_event b a event)
    → went
    (outcome_text (event_refusal b a event) (after_event b a event).awaited (event_reply b a event))
    → LineIsAnswered (λ (opened : Pair). Past opened old)
    (λ (opened : Pair). Past opened (record { a = a; b = mine })) line went
b_answered line ask side event a b mine old went asked named is view e out =
    line_answered line (Ask (Of B event)) old (record { a = a; b = mine }) went
    (ap (λ (s : Side). Ask (Of s event)) (sym named) ∙ ap (λ (k : PairAsk). Ask k) (sym asked) ∙ is)
    (subst (λ (p : Pair). record { a = a; b = mine } ≡ pair_after_line p (Ask (Of B event))) view
    (ap (λ (r : Replicated). record { a = a; b = r }) e))
    (subst (λ (p : Pair). went (answer_to_line p (Ask (Of B event)))) view out)
