-- Quiescent states and looks, one after another: for callers whose loops wait.
use Rattle.std.proofs.Common.{◌≡◌, ℕ, zero, suc, ◌+◌, ◌≤◌, Bool, true, false, if◌then◌else◌, refl}
use Rattle.std.proofs.Common.{sym, ap, ◌∙◌, subst, ◌⊎◌, Err, Ok, OnErr, OnOk, Result, arith, inl}
use Rattle.std.proofs.Common.{inr}
use Rattle.std.proofs.lemmas.Bool.{cases_Bool}
use Rattle.rcu_seq.specs.Numbers.{Number}
use Rattle.rcu_seq.specs.declared.fault.Fault.{Fault}
use Rattle.rcu_live.specs.Board.{Object}
use Rattle.rcu_live.specs.CpuSeat.{AcceptedAt, IsSeatOf, Seated}
use Rattle.rcu_live.specs.InPart.{seat_part}
use Rattle.rcu_live.specs.Numbers.{may_open}
use Rattle.rcu_live.specs.Several.{Lens}
use Rattle.rcu_live.specs.Waits.{AreRounds, HasLooked, HasRested, after_rests}
use Rattle.rcu_live.specs.Watcher.{Watching, after_watch}

module _ {C : Type 0} where
  -- the seat as it is: no quiescent state yet
  pub rested_none : (s : Seated C) → HasRested s s
  rested_none s = record {
    times = 0;
    table = refl;
    depth = refl;
    later = omega arith;
    state = refl;
  }

  -- the effect of a quiescent state if the processor may pass one, and if it may not
  abbrev rests : Seated C → ℕ → Number → Seated C
  rests s times n = record s {
    view = record s.view {
      seen = n;
      loads = s.view.loads + times;
      stores = s.view.stores + times;
      looks = s.view.looks + times;
      answered = true;
      own_word = n + 1;
    };
  }

  awake_rests : (s : Seated C) (times : ℕ) (n : Number) → may_open s.view.own_word ≡ true
      → after_rests s (suc times) n ≡ rests s (suc times) n
  awake_rests s times n awake = ap (λ (b : Bool). if b then rests s (suc times) n else s) awake

  asleep_rests : (s : Seated C) (times : ℕ) (n : Number) → may_open s.view.own_word ≡ false
      → after_rests s times n ≡ s
  asleep_rests s zero n asleep = refl
  asleep_rests s (suc times) n asleep =
      ap (λ (b : Bool). if b then rests s (suc times) n else s) asleep

  -- one quiescent state more of a processor that is awake
  one_rest_more : (s t u : Seated C) (times : ℕ)
      → may_open t.view.own_word ≡ true
      → t ≡ after_rests s times t.view.seen
      → u ≡ after_rests t 1 u.view.seen
      → u ≡ after_rests s (suc times) u.view.seen
  one_rest_more s t u zero awake old new =
      new ∙ ap (λ (y : Seated C). after_rests y 1 u.view.seen) old
  one_rest_more s t u (suc times) awake old new =
      let n : Number = u.view.seen in
      elim (cases_Bool (may_open s.view.own_word)) [
        | inl up ↦
            let before : t ≡ rests s (suc times) t.view.seen =
            old ∙ awake_rests s times t.view.seen up in
            let loads : s.view.loads + suc times + 1 ≡ s.view.loads + suc (suc times) =
            omega arith in
            let stores : s.view.stores + suc times + 1 ≡ s.view.stores + suc (suc times) =
            omega arith in
            let looks : s.view.looks + suc times + 1 ≡ s.view.looks + suc (suc times) =
            omega arith in
            new
            ∙ awake_rests t 0 n awake
            ∙ ap (λ (y : Seated C). rests y 1 n) before
            ∙ (λ i. record s {
              view = record s.view {
                seen = n;
                loads = loads i;
                stores = stores i;
                looks = looks i;
                answered = true;
                own_word = n + 1;
              };
            })
            ∙ sym (awake_rests s (suc times) n up)
        | inr down ↦
            let same : t ≡ s = old ∙ asleep_rests s (suc times) t.view.seen down in
            let both : may_open s.view.own_word ≡ true =
            ap (λ (y : Seated C). may_open y.view.own_word) (sym same) ∙ awake in
            absurd (cc)
      ]

  pub rested_more : (s t u : Seated C)
      → HasRested s t → t.view.seen ≤ u.view.seen → u ≡ after_rests t 1 u.view.seen → HasRested s u
  rested_more s t u r later new = elim (cases_Bool (may_open t.view.own_word)) [
    | inl awake ↦ record {
      times = suc r.times;
      table = ap (λ (y : Seated C). y.table) (new ∙ awake_rests t 0 u.view.seen awake) ∙ r.table;
      depth = ap (λ (y : Seated C). y.depth) (new ∙ awake_rests t 0 u.view.seen awake) ∙ r.depth;
      later = let before = r.later in omega (arith, before, later);
      state = one_rest_more s t u r.times awake r.state new;
    }
    | inr asleep ↦ subst (HasRested s) (sym (new ∙ asleep_rests t 1 u.view.seen asleep)) r
  ]

  -- quiescent states leave the knowledge about the client, and the start of its words
  rests_know : {A : Type 0} (f : ℕ → C → A) (s : Seated C) (times : ℕ) (n : Number)
      → f (after_rests s times n).view.base (after_rests s times n).view.client
      ≡ f s.view.base s.view.client
  rests_know f s zero n = refl
  rests_know f s (suc times) n = elim (cases_Bool (may_open s.view.own_word)) [
    | inl awake ↦ ap (λ (t : Seated C). f t.view.base t.view.client) (awake_rests s times n awake)
    | inr asleep ↦
        ap (λ (t : Seated C). f t.view.base t.view.client) (asleep_rests s (suc times) n asleep)
  ]

  -- so a seat that rested is, as a part sees it, of the engine that it was of
  pub rested_in_part : {B P : Type 0} (lens : Lens C B) (engine : Object P) (s t : Seated C)
      → HasRested s t → IsSeatOf engine (seat_part lens s) → IsSeatOf engine (seat_part lens t)
  rested_in_part lens engine s t r of_engine = (
    r.table ∙ of_engine.0,
    ap (λ (u : Seated C). lens.begins u.view.base u.view.client) r.state
        ∙ rests_know lens.begins s r.times t.view.seen ∙ of_engine.1,
  )

  -- a look more
  pub looked_none : (w : Watching C) → HasLooked w w
  looked_none w = record { table = refl; later = omega arith; more = omega arith; state = refl }

  pub looked_more : (w v u : Watching C)
      → HasLooked w v → v.view.seen ≤ u.view.seen → u ≡ after_watch v u.view.seen → HasLooked w u
  looked_more w v u r later new =
      let before = r.later in
      let more = r.more in
      let loads : u.view.loads ≡ v.view.loads + 1 = ap (λ (y : Watching C). y.view.loads) new in
      let state : u
      ≡ record w { view = record w.view { seen = u.view.seen; loads = v.view.loads + 1 } } =
      new ∙ ap (λ (y : Watching C). after_watch y u.view.seen) r.state in
      record {
        table = ap (λ (y : Watching C). y.table) new ∙ r.table;
        later = omega (arith, before, later);
        more = omega (arith, more, loads);
        state =
            state
            ∙ ap (λ (k : ℕ). record w { view = record w.view { seen = u.view.seen; loads = k } })
            (sym loads);
      }

  -- no round yet, one round more (a quiescent state and a look), and a look more
  pub rounds_none : {D : Type 0} (s : Seated C) (w : Watching D) → AreRounds 0 s s w w
  rounds_none s w outside awake = omega arith

  pub rounds_more : {D : Type 0} (more : ℕ) (s t u : Seated C) (w v x : Watching D)
      → AreRounds more s t w v
      → u ≡ after_rests t 1 u.view.seen → x.view.loads ≡ v.view.loads + 1 → AreRounds more s u w x
  rounds_more more s t u w v x before new looks outside awake =
      elim (cases_Bool (may_open t.view.own_word)) [
        | inl up ↦
            let rests : u.view.loads ≡ t.view.loads + 1 =
            ap (λ (y : Seated C). y.view.loads) (new ∙ awake_rests t 0 u.view.seen up) in
            let old = before outside up in omega (arith, rests, looks, old)
        | inr down ↦
            let same : u ≡ t = new ∙ asleep_rests t 1 u.view.seen down in
            let both : may_open t.view.own_word ≡ true =
            ap (λ (y : Seated C). may_open y.view.own_word) (sym same) ∙ awake in
            absurd (cc)
      ]

  pub rounds_then_look : {D : Type 0} (more next : ℕ) (s t : Seated C) (w v x : Watching D)
      → next ≡ more + 1 → AreRounds more s t w v → x.view.loads ≡ v.view.loads + 1
      → AreRounds next s t w x
  rounds_then_look more next s t w v x is before looks outside awake =
      let old = before outside awake in omega (arith, looks, old, is)

-- a round of waiting, whether it was refused or not
pub rested_round : {C T : Type 0} (r : Result T Fault) (s t u : Seated C)
    → HasRested s t
    → OnOk r (AcceptedAt (λ (v : Seated C) (n : Number). after_rests v 1 n) t u.view.seen u)
    → OnErr r (u ≡ t)
    → HasRested s u
rested_round (Ok _) s t u rested state same = rested_more s t u rested state.later state.state
rested_round (Err _) s t u rested state same = subst (HasRested s) (sym same) rested

-- and the looks beside it
pub rounds_round : {C D T : Type 0} (r : Result T Fault) (s t u : Seated C) (w v x : Watching D)
    → AreRounds 1 s t w v
    → OnOk r (AcceptedAt (λ (y : Seated C) (n : Number). after_rests y 1 n) t u.view.seen u)
    → OnErr r (u ≡ t)
    → x.view.loads ≡ v.view.loads + 1
    → OnOk r (AreRounds 1 s u w x) × OnErr r (AreRounds 2 s u w x)
rounds_round (Ok _) s t u w v x rounds state same looks = (
  rounds_more 1 s t u w v x rounds state.state looks,
  tt,
)
rounds_round (Err _) s t u w v x rounds state same looks =
    let next = rounds_then_look 1 2 s t w v x (omega arith) rounds looks in
    (tt, subst (λ (y : Seated _). AreRounds 2 s y w x) (sym same) next)

pub rounds_at_end : {C D T : Type 0} (r : Result T Fault) (s t : Seated C) (w v x : Watching D)
    → OnOk r (AreRounds 1 s t w v) → OnErr r (AreRounds 2 s t w v) → x.view.loads ≡ v.view.loads
    → AreRounds 1 s t w x ⊎ AreRounds 2 s t w x
rounds_at_end (Ok _) s t w v x rounds last same =
    inl (λ outside awake. let old = rounds outside awake in omega (arith, old, same))
rounds_at_end (Err _) s t w v x rounds last same =
    inr (λ outside awake. let old = last outside awake in omega (arith, old, same))
