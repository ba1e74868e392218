-- A begin, an end, a turn and a delivery on states follow those on histories.
use Rattle.std.proofs.Common.{◌≡◌, ℕ, ◌+◌, Bool, true, false, not, cond, ◌&&◌, ◌||◌, List, ◌∷◌}
use Rattle.std.proofs.Common.{length, Option, Some, None, refl, sym, ap, ap₂, subst, ◌∙◌, arith}
use Rattle.std.proofs.Common.{eqb, slice_set, inl, inr}
use Rattle.std.specs.Prelude.{◌==◌}
use Rattle.std.proofs.lemmas.Bool.Decides.{nat_tests}
use Rattle.std.proofs.lemmas.Bool.{cases_lt, and_right}
use Rattle.std.proofs.lemmas.List.{get_or_past}
use Rattle.rcu_seq.specs.Numbers.{number_at}
use Rattle.rcu_seq.specs.Tags.{same_tag}
use Rattle.rcu_seq.specs.declared.tag.Tag.{Tag}
use Rattle.rcu_node.specs.CpuSet.{is_in}
use Rattle.rcu_node.proofs.CpuSetLemmas.{is_in-remove}
use Rattle.rcu_report.specs.declared.batch.Report.{Report}
use Rattle.rcu_hotplug.specs.Hotplug.{cpus_of}
use Rattle.rcu_seq.specs.Seq.{tag_of}
use Rattle.rcu_state.specs.GpState.{Grace, after_begin, after_end, awaited_in, own_report}
use Rattle.rcu_state.specs.GpState.{periods_of}
use Rattle.rcu_core.specs.History.{History, begins, running, tag_now, online, reports_made}
use Rattle.rcu_core.specs.History.{report_at, is_of, is_heard, awaits}
use Rattle.rcu_seq.specs.Histories.{latest}
use Rattle.rcu_core.specs.Replies.{fault_in, accepted_reply, turn_reply, begin_reply as begun_said}
use Rattle.rcu_core.specs.Replies.{end_reply as ended_said, how_many, history_event, with_event}
use Rattle.rcu_core.specs.Situation.{Situation, situation}
use Rattle.rcu_state.specs.Periods.{wants_begin}
use Rattle.rcu_core.specs.Core.{State, IsSound, Represents, size_at, says, awaited_by, after_event}
use Rattle.rcu_core.specs.Core.{after_reply}
use Rattle.rcu_core.specs.declared.event.Event.TheVariants.{Begin, Deliver, End, Offline, Scan}
use Rattle.rcu_core.specs.declared.event.Event.TheVariants.{Turn}
use Rattle.rcu_core.specs.declared.reply.Reply.TheVariants as reply
use Rattle.rcu_core.proofs.Recorded.{turned_after}
use Rattle.rcu_core.proofs.Kept.{begin_counts, end_counts, turns, none_awaited}
use Rattle.rcu_core.proofs.Situations.{longer, same, tag_same}
use Rattle.rcu_core.proofs.Sound.{length-awaited_after}
use Rattle.rcu_core.proofs.Steps.{awaited_size}

and_yes : (b : Bool) → b ≡ (b && true)
and_yes true = refl
and_yes false = refl

-- the awaited set after a report
reported_awaited : (a b : Bool) (set : List Bool) (cpu c : ℕ)
    → is_in (cond a (cond b (slice_set set cpu false) set) set) c
    ≡ (is_in set c && not (a && (b && eqb cpu c)))
reported_awaited true true set cpu c = is_in-remove set cpu c
reported_awaited true false set cpu c = and_yes (is_in set c)
reported_awaited false b set cpu c = and_yes (is_in set c)

hears : (r o s e : Bool) → ((r && o) && not (r && (s && e))) ≡ ((r && o) && not (e && s))
hears false o s e = refl
hears true o true true = refl
hears true o true false = refl
hears true o false true = refl
hears true o false false = refl

-- the awaited set after a delivery
pub heard_of : (g : Grace ℕ) (h : History) (o : Option Report) → g.seq.running ≡ running h
    → tag_of g.seq ≡ tag_now h → ((c : ℕ) → is_in g.processors.awaited c ≡ awaits c h)
    → (c : ℕ) → is_in (awaited_by g o) c ≡ (awaits c h && not (is_of c (tag_now h) o))
heard_of g h None r m w c = w c ∙ and_yes (awaits c h)
heard_of g h (Some report) r m w c =
    reported_awaited g.seq.running (same_tag report.tag (tag_of g.seq)) g.processors.awaited
    report.cpu c
    ∙ ap₂ (λ (a s : Bool). a && not (g.seq.running && (s && eqb report.cpu c))) (w c)
    (ap (λ (n : Tag). same_tag report.tag n) m)
    ∙ ap
    (λ (b : Bool). awaits c h && not (b && (same_tag report.tag (tag_now h) && eqb report.cpu c))) r
    ∙ hears (running h) (online c (latest begins h) && not (is_heard c (tag_now h) h))
    (same_tag report.tag (tag_now h)) (eqb report.cpu c)

pub length-awaited_by : (g : Grace ℕ) (o : Option Report)
    → length (awaited_by g o) ≡ length g.processors.awaited
length-awaited_by g None = refl
length-awaited_by g (Some report) = length-awaited_after g report

unless_heard : (r o a b : Bool) → (r && (o && not (a || b))) ≡ ((r && (o && not b)) && not a)
unless_heard false o a b = refl
unless_heard true false a b = refl
unless_heard true true true b = sym (and_right (not b) false refl)
unless_heard true true false b = and_yes (not b)

-- the awaited processors after a delivery, and after a departure
pub awaits_delivered : (v : State ℕ) (h : History) (k : ℕ) → Represents v h →
    (c : ℕ) → is_in (awaited_by v.grace (report_at k v.made)) c ≡ awaits c (Deliver k ∷ h)
awaits_delivered v h k x c =
    heard_of v.grace h (report_at k v.made) x.periods.running (tag_same v h x) x.cpus.awaits c
    ∙ ap (λ rs. awaits c h && not (is_of c (tag_now h) (report_at k rs))) x.cpus.made
    ∙ sym (unless_heard (running h) (online c (latest begins h))
    (is_of c (tag_now h) (report_at k (reports_made h))) (is_heard c (tag_now h) h))

pub awaits_departed : (v : State ℕ) (h : History) (c : ℕ) → Represents v h →
    (k : ℕ) → is_in (slice_set v.grace.processors.awaited c false) k ≡ awaits k (Offline c ∷ h)
awaits_departed v h c x k =
    is_in-remove v.grace.processors.awaited c k
    ∙ ap (λ (b : Bool). b && not (eqb c k)) (x.cpus.awaits k)
    ∙ sym
    (unless_heard (running h) (online k (latest begins h)) (eqb c k) (is_heard k (tag_now h) h))

own_tag : (tag : Tag) → same_tag tag tag ≡ true
own_tag tag = grind (arith, nat_tests)

-- and after a scan
pub awaits_scanned : (v : State ℕ) (h : History) (c : ℕ) → Represents v h →
    (k : ℕ) → is_in (awaited_by v.grace (Some (own_report v.grace c))) k ≡ awaits k (Scan c ∷ h)
awaits_scanned v h c x k =
    let now : same_tag (tag_of v.grace.seq) (tag_now h) ≡ true =
    ap (λ (t : Tag). same_tag t (tag_now h)) (tag_same v h x) ∙ own_tag (tag_now h) in
    heard_of v.grace h (Some (own_report v.grace c)) x.periods.running (tag_same v h x)
    x.cpus.awaits k
    ∙ ap (λ (b : Bool). awaits k h && not (eqb c k && b)) now
    ∙ ap (λ (b : Bool). awaits k h && not b) (sym (and_yes (eqb c k)))
    ∙ sym
    (unless_heard (running h) (online k (latest begins h)) (eqb c k) (is_heard k (tag_now h) h))

none_there : (v : State ℕ) (h : History)
    → Represents v h → fault_in (size_at v) (situation h) End ≡ None → (c : ℕ)
    → is_in v.grace.processors.awaited c ≡ false
none_there v h x p c = elim (cases_lt c (cpus_of v.grace.processors)) [
  | inl l ↦ x.cpus.awaits c ∙ none_awaited (size_at v) h p c l
  | inr l ↦ get_or_past v.grace.processors.awaited c false l
]

-- a grace period begins
pub follows_begin : (v : State ℕ) (h : History) → IsSound v → Represents v h →
    fault_in (size_at v) (situation h) Begin ≡ None → Represents (after_event v Begin) (Begin ∷ h)
follows_begin v h s x p =
    let t = turns (size_at v) h x.accepted in
    let n = begin_counts h in
    record {
      accepted = longer v (after_event v Begin) h Begin x p s.flags refl refl;
      periods = record {
        epoch = x.periods.epoch;
        ends = x.periods.ends;
        running = grind (arith, nat_tests);
        needed = x.periods.needed;
      };
      cpus = record {
        online = x.cpus.online;
        awaits = λ c. let o = x.cpus.online c in grind (arith, nat_tests);
        each = x.cpus.each;
        made = x.cpus.made;
      };
      calls = x.calls;
    }

-- it ends
pub follows_end : (v : State ℕ) (h : History)
    → Represents v h → fault_in (size_at v) (situation h) End ≡ None
    → Represents (after_event v End) (End ∷ h)
follows_end v h x p = let t = turns (size_at v) h x.accepted in let n = end_counts h in record {
  accepted = (p, x.accepted);
  periods = record {
    epoch = x.periods.epoch;
    ends = let m = x.periods.ends in grind (arith, nat_tests);
    running = grind (arith, nat_tests);
    needed = x.periods.needed;
  };
  cpus = record {
    online = x.cpus.online;
    awaits = λ c. none_there v h x p c ∙ grind (arith, nat_tests);
    each = x.cpus.each;
    made = x.cpus.made;
  };
  calls = x.calls;
}

-- a turn that does neither
unturned : (v : State ℕ) (h : History)
    → Represents v h → fault_in (size_at v) (situation h) Turn ≡ None → Represents v (Turn ∷ h)
unturned v h x p = record {
  accepted = (p, x.accepted);
  periods = x.periods;
  cpus = x.cpus;
  calls = x.calls;
}

-- a turn is a begin, an end, or neither
turn_kept : (v : State ℕ) (h : History) (a b d : Bool) (n m : ℕ) → IsSound v → Represents v h
    → v.grace.seq.running ≡ a → (awaited_in v.grace == 0) ≡ b → wants_begin (periods_of v.grace) ≡ d
    → fault_in (size_at v) (says v) Turn ≡ None
    → Represents (record v {
      grace = cond a (cond b (after_end v.grace) v.grace)
          (cond d (after_begin v.grace) v.grace);
    })
    (history_event Turn (cond a (cond b (ended_said (says v)) (reply.Waiting n))
    (cond d (reply.Begun (number_at v.grace.seq.ends true) m) reply.Nothing)) ∷ h)
turn_kept v h true true d n m s x i j k p =
    follows_end v h x (subst (λ (u : Situation). fault_in (size_at v) u End ≡ None) (same v h x)
    (let size = awaited_size v in grind (arith, nat_tests)))
turn_kept v h true false d n m s x i j k p =
    unturned v h x (subst (λ (u : Situation). fault_in (size_at v) u Turn ≡ None) (same v h x) p)
turn_kept v h false b true n m s x i j k p =
    follows_begin v h s x
    (subst (λ (u : Situation). fault_in (size_at v) u Begin ≡ None) (same v h x)
    (grind (arith, nat_tests)))
turn_kept v h false b false n m s x i j k p =
    unturned v h x (subst (λ (u : Situation). fault_in (size_at v) u Turn ≡ None) (same v h x) p)

turned_so : (v : State ℕ) (h : History)
    → IsSound v
    → Represents v h
    → fault_in (size_at v) (situation h) Turn ≡ None
    → Represents (after_event v Turn)
    (history_event Turn (accepted_reply (size_at v) (situation h) Turn) ∷ h)
turned_so v h s x p =
    let q = subst (λ (u : Situation). fault_in (size_at v) u Turn ≡ None) (sym (same v h x)) p in
    let g = v.grace in
    subst (λ (u : Situation).
    Represents (after_event v Turn) (history_event Turn (turn_reply (size_at v) u) ∷ h))
    (same v h x)
    (subst (λ (n : ℕ). Represents (after_event v Turn)
    (history_event Turn (cond g.seq.running (cond (n == 0) (ended_said (says v)) (reply.Waiting n))
    (cond (wants_begin (periods_of g)) (begun_said (size_at v) (says v)) reply.Nothing)) ∷ h))
    (sym (awaited_size v))
    (turn_kept v h g.seq.running (awaited_in g == 0) (wants_begin (periods_of g)) (awaited_in g)
    (how_many (size_at v) (is_in g.processors.online)) s x refl refl refl q))

turned_left : (v : State ℕ) (a b d : Bool) (k l m n : ℕ)
    → after_reply v Turn
    (cond a (cond b (reply.Ended k) (reply.Waiting l)) (cond d (reply.Begun m n) reply.Nothing))
    ≡ after_event v Turn
turned_left v true true d k l m n = refl
turned_left v true false d k l m n = refl
turned_left v false b true k l m n = refl
turned_left v false b false k l m n = refl

-- a turn
pub follows_turn : (v : State ℕ) (h : History) → IsSound v → Represents v h
    → fault_in (size_at v) (situation h) Turn ≡ None
    → Represents (after_reply v Turn (turn_reply (size_at v) (situation h)))
    (with_event h Turn (turn_reply (size_at v) (situation h)))
follows_turn v h s x p =
    let u = situation h in
    let n = how_many (size_at v) u.cpus.awaits in
    let m = how_many (size_at v) u.cpus.online in
    rw (
      turned_left v u.periods.running (n == 0) (wants_begin u.periods)
          (number_at (u.periods.ends + 1) false) n (number_at u.periods.ends true) m,
      turned_after h u.periods.running (n == 0) (wants_begin u.periods)
          (number_at (u.periods.ends + 1) false) n (number_at u.periods.ends true) m
          (turn_reply (size_at v) u) refl,
    )
    (turned_so v h s x p)
