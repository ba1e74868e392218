-- How a grace period of the engine comes to its end.
use Rattle.std.proofs.Common.{◌≡◌, ℕ, ◌&&◌, Bool, true, false, not, if◌then◌else◌, List, slice_set}
use Rattle.std.proofs.Common.{refl, sym, ap, ◌∙◌, arith, ◌≤◌, ◌+◌, [], ◌∷◌}
use Rattle.std.specs.Prelude.{None, nat_lt}
use Rattle.rcu_seq.specs.Fault.{first_fault}
use Rattle.rcu_seq.specs.Numbers.{number_at, snapshot}
use Rattle.rcu_seq.specs.declared.fault.Fault.TheVariants as fault
use Rattle.rcu_seq.specs.Seq.{Periods, number_of}
use Rattle.rcu_live.proofs.Elapsed.{Moved, Stays, Begins, Ends, Passes, moved as call_moves}
use Rattle.rcu_live.specs.Runs.{IsRun, engine_after, Call, MayCall, after_call, Begin, End, Turn}
use Rattle.rcu_live.specs.Runs.{Drive, Collect, CollectAwaited, StartPoll, Join, Leave, Depart}
use Rattle.rcu_live.specs.Runs.{Look, Queue, Tend, Run, BarrierBegin, Visit, BarrierTest}
use Rattle.std.specs.Prelude.{◌==◌}
use Rattle.std.proofs.lemmas.Bool.{and_parts}
use Rattle.std.proofs.lemmas.Bool.Decides.{nat_tests}
use Rattle.rcu_node.specs.CpuSet.{is_in, size_of, unheard}
use Rattle.rcu_node.proofs.CpuSetLemmas.{is_in-remove, is_in-unheard, size_of-empty}
use Rattle.rcu_hotplug.specs.Hotplug.{Arrive as Arrives, Depart as Departs}
use Rattle.rcu_state.specs.GpState.{Grace, after_current_report, awaited_in, periods_of, with_call}
use Rattle.rcu_state.specs.GpState as grace
use Rattle.rcu_state.specs.declared.gp_state.Turned.{Turned}
use Rattle.rcu_state.specs.declared.gp_state.Turned.TheVariants as turned
use Rattle.rcu_live.specs.Drive.{after_collections, after_drive, drive_answer, moved_on}
use Rattle.rcu_live.specs.Engine.{Locked, after_begin, after_collect, after_end, after_turn}
use Rattle.rcu_live.specs.Engine.{next_number}
use Rattle.rcu_live.specs.View.{after_own_word_load}
use Rattle.rcu_live.specs.Words.{own_word_index}
use Rattle.rcu_state.specs.Periods.{wants_begin}
use Rattle.rcu_live.specs.Numbers.{reports_quiescence}

unheard_shrinks : (set : List Bool) (heard : ℕ → Bool) (c : ℕ) → is_in (unheard set heard) c ≡ true
    → is_in set c ≡ true
unheard_shrinks set heard c i =
    (and_parts (is_in set c) (not (heard c)) (sym (is_in-unheard set heard c) ∙ i)).0

removal_shrinks : (set : List Bool) (d c : ℕ) → is_in (slice_set set d false) c ≡ true
    → is_in set c ≡ true
removal_shrinks set d c i =
    (and_parts (is_in set c) (not (d == c)) (sym (is_in-remove set d c) ∙ i)).0

unheard_empty : (set : List Bool) (heard : ℕ → Bool)
    → ((c : ℕ) → is_in set c ≡ true → heard c ≡ true) → size_of (unheard set heard) ≡ 0
unheard_empty set heard h =
    size_of-empty (unheard set heard)
    (λ c l. is_in-unheard set heard c ∙ none (is_in set c) (heard c) (h c))
  where
    none : (a b : Bool) → (a ≡ true → b ≡ true) → (a && not b) ≡ false
    none true b f = rw (f refl) refl
    none false b f = refl

both_hold : (b : Bool) (n : ℕ) → b ≡ true → n ≡ 0 → (b && (n == 0)) ≡ true
both_hold b n i j = rw (i, j) refl

module _ {X : Type 0} where
  arrival_shrinks : (b : Bool) (g : Grace X) (d c : ℕ)
      → is_in (if b then g else with_call g (Arrives d)).processors.awaited c ≡ true
      → is_in g.processors.awaited c ≡ true
  arrival_shrinks true g d c i = i
  arrival_shrinks false g d c i = i

  departure_shrinks : (b : Bool) (g : Grace X) (d c : ℕ)
      → is_in (if b then with_call g (Departs d) else g).processors.awaited c ≡ true
      → is_in g.processors.awaited c ≡ true
  departure_shrinks true g d c i = removal_shrinks g.processors.awaited d c i
  departure_shrinks false g d c i = i

  report_shrinks : (b : Bool) (g : Grace X) (d c : ℕ)
      → is_in (if b then after_current_report g d else g).processors.awaited c ≡ true
      → is_in g.processors.awaited c ≡ true
  report_shrinks true g d c i = removal_shrinks g.processors.awaited d c i
  report_shrinks false g d c i = i

module _ {C X : Type 0} where
  -- if each awaited processor's word reports it, no processor is awaited after the collections
  pub nobody_left : (e : Locked C X) (word : ℕ → ℕ)
      → ((c : ℕ) → is_in e.grace.processors.awaited c ≡ true
      → reports_quiescence (number_of e.grace.seq) (word c) ≡ true)
      → awaited_in (after_collections e word).grace ≡ 0
  nobody_left e word h =
      unheard_empty e.grace.processors.awaited
      (λ c. reports_quiescence (number_of e.grace.seq) (word c)) h

  pub left_awaited : (e : Locked C X) (word : ℕ → ℕ) (c : ℕ)
      → is_in (after_collections e word).grace.processors.awaited c
      ≡ (is_in e.grace.processors.awaited c
      && not (reports_quiescence (number_of e.grace.seq) (word c)))
  left_awaited e word c =
      is_in-unheard e.grace.processors.awaited
      (λ c. reports_quiescence (number_of e.grace.seq) (word c)) c

  pub end_accepted : (e : Locked C X) (word : ℕ → ℕ) → e.grace.seq.running ≡ true
      → ((c : ℕ) → is_in e.grace.processors.awaited c ≡ true
      → reports_quiescence (number_of e.grace.seq) (word c) ≡ true)
      → grace.end_refusal (after_collections e word).grace ≡ None
  end_accepted e word r h =
      accepted e.grace.seq.running (awaited_in (after_collections e word).grace) r
      (nobody_left e word h)
    where
      accepted : (b : Bool) (n : ℕ) → b ≡ true → n ≡ 0
          → first_fault ((not b, fault.Idle) ∷ (nat_lt 0 n, fault.Waiting) ∷ []) ≡ None
      accepted b n i j = rw (i, j) refl

  -- a step of driving ends it
  pub moved : (e : Locked C X) (w : Bool) (word : ℕ → ℕ) → e.grace.seq.running ≡ true
      → moved_on e w word ≡ after_collections e word
  moved e w word r =
      ap
      (λ (b : Bool).
      if b then after_collections e word else (if w then after_begin e word else e)) r

  pub ended_then : (now : Locked C X) → now.grace.seq.running ≡ true → awaited_in now.grace ≡ 0
      → (if now.grace.seq.running && (awaited_in now.grace == 0) then after_end now else now)
      ≡ after_end now
  ended_then now r z =
      ap (λ (b : Bool). if b then after_end now else now)
      (both_hold now.grace.seq.running (awaited_in now.grace) r z)

  pub driven : (e : Locked C X) (w : Bool) (word : ℕ → ℕ) → e.grace.seq.running ≡ true
      → awaited_in (after_collections e word).grace ≡ 0
      → after_drive e w word ≡ after_end (after_collections e word)
  driven e w word r z =
      ap
      (λ (now : Locked C X).
      if now.grace.seq.running && (awaited_in now.grace == 0) then after_end now else now)
      (moved e w word r)
      ∙ ended_then (after_collections e word) r z

  pub drive_ends : (e : Locked C X) (w : Bool) (word : ℕ → ℕ) → e.grace.seq.running ≡ true
      → ((c : ℕ) → is_in e.grace.processors.awaited c ≡ true
      → reports_quiescence (number_of e.grace.seq) (word c) ≡ true)
      → (after_drive e w word).grace.seq.running ≡ false
  drive_ends e w word r h =
      ap (λ (y : Locked C X). y.grace.seq.running) (driven e w word r (nobody_left e word h))

  pub drive_counts : (e : Locked C X) (w : Bool) (word : ℕ → ℕ) → e.grace.seq.running ≡ true
      → ((c : ℕ) → is_in e.grace.processors.awaited c ≡ true
      → reports_quiescence (number_of e.grace.seq) (word c) ≡ true)
      → (after_drive e w word).grace.seq.ends ≡ e.grace.seq.ends + 1
  drive_counts e w word r h =
      ap (λ (y : Locked C X). y.grace.seq.ends) (driven e w word r (nobody_left e word h))

  said : (now : Locked C X) (b : Bool) (m : ℕ) → now.grace.seq.running ≡ true
      → awaited_in now.grace ≡ 0
      → (if not now.grace.seq.running
      then turned.Nothing
      else (if awaited_in now.grace == 0
      then turned.Ended (number_of (grace.after_end now.grace).seq)
      else (if b
      then turned.Waiting (awaited_in now.grace)
      else turned.Begun m (awaited_in now.grace))))
      ≡ turned.Ended (number_of (grace.after_end now.grace).seq)
  said now b m r z =
      choose now.grace.seq.running (awaited_in now.grace)
      (turned.Ended (number_of (grace.after_end now.grace).seq)) _ r z
    where
      choose : (r : Bool) (n : ℕ) (x y : Turned) → r ≡ true → n ≡ 0
          → (if not r then turned.Nothing else (if n == 0 then x else y)) ≡ x
      choose r n x y i j = rw (i, j) refl

  pub drive_says : (e : Locked C X) (w : Bool) (word : ℕ → ℕ) → e.grace.seq.running ≡ true
      → ((c : ℕ) → is_in e.grace.processors.awaited c ≡ true
      → reports_quiescence (number_of e.grace.seq) (word c) ≡ true)
      → drive_answer e w word ≡ turned.Ended (number_of (after_drive e w word).grace.seq)
  drive_says e w word r h =
      let now = after_collections e word in
      let z = nobody_left e word h in
      ap
      (λ (now : Locked C X).
      if not now.grace.seq.running
      then turned.Nothing
      else (if awaited_in now.grace == 0
      then turned.Ended (number_of (grace.after_end now.grace).seq)
      else (if e.grace.seq.running
      then turned.Waiting (awaited_in now.grace)
      else turned.Begun (next_number e.grace) (awaited_in now.grace))))
      (moved e w word r)
      ∙ said now e.grace.seq.running (next_number e.grace) r z
      ∙ ap (λ (y : Locked C X). turned.Ended (number_of y.grace.seq)) (sym (driven e w word r z))

  -- the awaited set after a choice
  if_shrinks : (b : Bool) (e f g : Locked C X) (c : ℕ)
      → (is_in f.grace.processors.awaited c ≡ true → is_in e.grace.processors.awaited c ≡ true)
      → (is_in g.grace.processors.awaited c ≡ true → is_in e.grace.processors.awaited c ≡ true)
      → is_in (if b then f else g).grace.processors.awaited c ≡ true
      → is_in e.grace.processors.awaited c ≡ true
  if_shrinks true e f g c k l = k
  if_shrinks false e f g c k l = l

  collections_shrink : (e : Locked C X) (word : ℕ → ℕ) (c : ℕ)
      → is_in (after_collections e word).grace.processors.awaited c ≡ true
      → is_in e.grace.processors.awaited c ≡ true
  collections_shrink e word c i =
      unheard_shrinks e.grace.processors.awaited
      (λ c. reports_quiescence (number_of e.grace.seq) (word c)) c i

  drive_shrinks : (e : Locked C X) (w : Bool) (word : ℕ → ℕ) (c : ℕ)
      → e.grace.seq.running ≡ true
      → is_in (after_drive e w word).grace.processors.awaited c ≡ true
      → is_in e.grace.processors.awaited c ≡ true
  drive_shrinks e w word c r i =
      let now = after_collections e word in
      let s : after_drive e w word
      ≡ (if now.grace.seq.running && (awaited_in now.grace == 0) then after_end now else now) =
      ap
      (λ (now : Locked C X).
      if now.grace.seq.running && (awaited_in now.grace == 0) then after_end now else now)
      (moved e w word r) in
      if_shrinks (now.grace.seq.running && (awaited_in now.grace == 0)) e (after_end now) now c
      (collections_shrink e word c) (collections_shrink e word c)
      (sym (ap (λ (y : Locked C X). is_in y.grace.processors.awaited c) s) ∙ i)

  turn_shrinks : (e : Locked C X) (word : ℕ → ℕ) (c : ℕ) → e.grace.seq.running ≡ true
      → is_in (after_turn e word).grace.processors.awaited c ≡ true
      → is_in e.grace.processors.awaited c ≡ true
  turn_shrinks e word c r i =
      let ended = if awaited_in e.grace == 0 then after_end e else e in
      let begun = if wants_begin (periods_of e.grace) then after_begin e word else e in
      let s : after_turn e word ≡ ended = ap (λ (b : Bool). if b then ended else begun) r in
      if_shrinks (awaited_in e.grace == 0) e (after_end e) e c (λ i. i) (λ i. i)
      (sym (ap (λ (y : Locked C X). is_in y.grace.processors.awaited c) s) ∙ i)

  collect_shrinks : (e : Locked C X) (d word c : ℕ) → e.grace.seq.running ≡ true
      → is_in (after_collect e d word).grace.processors.awaited c ≡ true
      → is_in e.grace.processors.awaited c ≡ true
  collect_shrinks e d word c r i =
      let told = reports_quiescence (number_of e.grace.seq) word in
      let heard = record e {
        view = after_own_word_load e.view (own_word_index d) word;
        grace = if told then after_current_report e.grace d else e.grace;
      } in
      let s : after_collect e d word ≡ heard = ap (λ (b : Bool). if b then heard else e) r in
      report_shrinks told e.grace d c
      (sym (ap (λ (y : Locked C X). is_in y.grace.processors.awaited c) s) ∙ i)

  pub call_shrinks : (e : Locked C X) (call : Call X) (c : ℕ) → MayCall e call
      → e.grace.seq.running ≡ true
      → is_in (after_call e call).grace.processors.awaited c ≡ true
      → is_in e.grace.processors.awaited c ≡ true
  call_shrinks e (Begin word) c m r i = absurd (cc)
  call_shrinks e End c m r i = i
  call_shrinks e (Turn word) c m r i = turn_shrinks e word c r i
  call_shrinks e (Drive w word) c m r i = drive_shrinks e w word c r i
  call_shrinks e (Collect d word) c m r i = collect_shrinks e d word c r i
  call_shrinks e (CollectAwaited word) c m r i = collections_shrink e word c i
  call_shrinks e StartPoll c m r i = i
  call_shrinks e (Join d) c m r i =
      arrival_shrinks (is_in e.grace.processors.online d) e.grace d c i
  call_shrinks e (Leave d word) c m r i =
      departure_shrinks (is_in e.grace.processors.online d) e.grace d c i
  call_shrinks e (Depart d word) c m r i =
      departure_shrinks (is_in e.grace.processors.online d) e.grace d c i
  call_shrinks e (Look d word) c m r i = i
  call_shrinks e (Queue d value) c m r i = i
  call_shrinks e (Tend d) c m r i = i
  call_shrinks e (Run d most) c m r i = i
  call_shrinks e BarrierBegin c m r i = i
  call_shrinks e (Visit d) c m r i = i
  call_shrinks e BarrierTest c m r i = i

-- after further calls no fewer grace periods have ended, and while as many have, the same one runs
ends_rise : (old new : Periods) → Moved old new → old.ends ≤ new.ends
ends_rise old new (Stays is) = let e = ap (λ (p : Periods). p.ends) is in omega (arith, e)
ends_rise old new (Begins idle is) = let e = ap (λ (p : Periods). p.ends) is in omega (arith, e)
ends_rise old new (Ends runs is) = let e = ap (λ (p : Periods). p.ends) is in omega (arith, e)
ends_rise old new (Passes idle is) = let e = ap (λ (p : Periods). p.ends) is in omega (arith, e)

runs_on : (old new : Periods) → Moved old new → old.running ≡ true → new.ends ≡ old.ends
    → new.running ≡ true
runs_on old new (Stays is) r same = ap (λ (p : Periods). p.running) is ∙ r
runs_on old new (Begins idle is) r same = ap (λ (p : Periods). p.running) is
runs_on old new (Ends runs is) r same =
    let e = ap (λ (p : Periods). p.ends) is in absurd (let x : ⊥ = omega (arith, e, same) in x)
runs_on old new (Passes idle is) r same =
    let e = ap (λ (p : Periods). p.ends) is in absurd (let x : ⊥ = omega (arith, e, same) in x)

module _ {C X : Type 0} where
  record Held (e x : Locked C X) (c : ℕ) : Type 0 where
    pub up : e.grace.seq.ends ≤ x.grace.seq.ends
    pub runs : x.grace.seq.ends ≡ e.grace.seq.ends → x.grace.seq.running ≡ true
    pub awaited : x.grace.seq.ends ≡ e.grace.seq.ends → is_in x.grace.processors.awaited c ≡ true
        → is_in e.grace.processors.awaited c ≡ true

  held : (e : Locked C X) (calls : List (Call X)) (c : ℕ) → IsRun e calls
      → e.grace.seq.running ≡ true → Held e (engine_after e calls) c
  held e [] c is r = record { up = omega arith; runs = λ s. r; awaited = λ s i. i }
  held e (call ∷ calls) c is r =
      let x = engine_after e calls in
      let f = held e calls c is.1 r in
      let m = call_moves x call is.0 in
      let up = ends_rise x.grace.seq (after_call x call).grace.seq m in
      let was = f.up in record {
        up = omega (arith, up, was);
        runs = λ s.
            let old : x.grace.seq.ends ≡ e.grace.seq.ends = omega (arith, up, was, s) in
            runs_on x.grace.seq (after_call x call).grace.seq m (f.runs old) (s ∙ sym old);
        awaited = λ s i.
            let old : x.grace.seq.ends ≡ e.grace.seq.ends = omega (arith, up, was, s) in
            f.awaited old (call_shrinks x call c is.0 (f.runs old) i);
      }

  pub run_shrinks : (e : Locked C X) (calls : List (Call X)) (c : ℕ) → IsRun e calls
      → e.grace.seq.running ≡ true
      → (engine_after e calls).grace.seq.ends ≡ e.grace.seq.ends
      → is_in (engine_after e calls).grace.processors.awaited c ≡ true
      → is_in e.grace.processors.awaited c ≡ true
  run_shrinks e calls c is r s i = (held e calls c is r).awaited s i

  -- two ends are enough
  pub two_ends_reach : (e x : Locked C X) → e.grace.seq.ends + 2 ≤ x.grace.seq.ends
      → snapshot (number_of e.grace.seq) ≤ number_of x.grace.seq
  two_ends_reach e x l =
      two e.grace.seq.ends x.grace.seq.ends e.grace.seq.running x.grace.seq.running l
    where
      two : (m n : ℕ) (a b : Bool) → m + 2 ≤ n → snapshot (number_at m a) ≤ number_at n b
      two m n a b l = grind (arith, nat_tests)
