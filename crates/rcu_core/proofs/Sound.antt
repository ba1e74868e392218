-- Each event keeps the invariant.
use Rattle.std.proofs.Common.{◌≡◌, ℕ, zero, suc, ◌+◌, ◌<◌, Bool, true, false, cond, List, [], ◌∷◌}
use Rattle.std.proofs.Common.{◌++◌, length, map, get_or, slice_set, replicate, refl, sym, ap, subst}
use Rattle.std.proofs.Common.{◌∙◌, arith, ne_eqb, inl, inr}
use Rattle.std.specs.Prelude.{◌==◌, All}
use Rattle.std.specs.List.{range_with_len}
use Rattle.std.proofs.lemmas.Bool.{cases_eq, cases_lt}
use Rattle.std.proofs.lemmas.List.{get_or_read_under, get_or-set_same, get_or-set_other}
use Rattle.std.proofs.lemmas.List.{get_or_past, length-map, length-replicate, length-set}
use Rattle.rcu_cblist.specs.SegList.{after_renumber as list_renumbered}
use Rattle.std.proofs.lemmas.List.Elements.{All-append}
use Rattle.std.proofs.lemmas.List.FromFn.{get_or-map-range_with_len, length-map-range_with_len}
use Rattle.std.proofs.lemmas.List.FromFn.{map-range_with_len_more}
use Rattle.rcu_seq.specs.Tags.{same_tag}
use Rattle.rcu_node.specs.CpuSet.{is_in}
use Rattle.rcu_node.proofs.CpuSetLemmas.{length-remove_where}
use Rattle.rcu_report.specs.declared.batch.Report.{Report}
use Rattle.rcu_hotplug.specs.Hotplug.{cpus_of}
use Rattle.rcu_cpu.specs.CpuData.{Processor, at_first as made_processor, report_of}
use Rattle.rcu_cblist.specs.SegList.{Item}
use Rattle.rcu_seq.specs.Seq.{tag_of}
use Rattle.rcu_state.specs.GpState.{Grace, after_begin, after_end, after_renumber, after_report}
use Rattle.rcu_state.specs.GpState.{after_turn, at_first, awaited_after, awaited_in, periods_of}
use Rattle.rcu_state.specs.Periods.{wants_begin}
use Rattle.rcu_core.specs.Core.{State, IsSound, processor, size_at}

-- if the online processors, their number, the lists and everything known of them stay, the
-- invariant is kept
pub stays_sound : (v : State ℕ) (g : Grace ℕ) → g.processors.online ≡ v.grace.processors.online
    → cpus_of g.processors ≡ cpus_of v.grace.processors
    → g.lists ≡ v.grace.lists → IsSound v → IsSound (record v { grace = g })
stays_sound v g online sized lists s = record {
  flags = rw (online, sized) s.flags;
  sized = rw sized s.sized;
  placed = s.placed;
  present = λ cpu. rw online (s.present cpu);
  listed = rw (lists, sized) s.listed;
  visits = rw (lists, sized) s.visits;
  made = rw sized s.made;
}

-- a report leaves as many flags
pub length-awaited_after : (g : Grace ℕ) (report : Report)
    → length (awaited_after g report) ≡ length g.processors.awaited
length-awaited_after g report = go g.seq.running
  where
    go : (b : Bool)
        → length
        (cond b
        (cond (same_tag report.tag (tag_of g.seq)) (slice_set g.processors.awaited report.cpu false)
        g.processors.awaited)
        g.processors.awaited)
        ≡ length g.processors.awaited
    go true =
        length-remove_where (same_tag report.tag (tag_of g.seq)) g.processors.awaited report.cpu
    go false = refl

-- after a report
pub sound_reported : (v : State ℕ) (g : Grace ℕ) (report : Report)
    → g ≡ after_report v.grace report → IsSound v → IsSound (record v { grace = g })
sound_reported v g report e s =
    stays_sound v g (rw e refl) (rw e (length-awaited_after v.grace report)) (rw e refl) s

-- after a begin
pub sound_begun : (v : State ℕ) (g : Grace ℕ) → g ≡ after_begin v.grace → IsSound v
    → IsSound (record v { grace = g })
sound_begun v g e s = stays_sound v g (rw e refl) (rw e s.flags) (rw e refl) s

-- after a turn
pub sound_turned : (v : State ℕ) (g : Grace ℕ) → g ≡ after_turn v.grace → IsSound v
    → IsSound (record v { grace = g })
sound_turned v g e s =
    subst (λ (x : Grace ℕ). IsSound (record v { grace = x })) (sym e)
    (go v.grace.seq.running (awaited_in v.grace == 0) (wants_begin (periods_of v.grace)))
  where
    go : (a b d : Bool)
        → IsSound (record v {
          grace = cond a (cond b (after_end v.grace) v.grace)
              (cond d (after_begin v.grace) v.grace);
        })
    go true true d = stays_sound v (after_end v.grace) refl refl refl s
    go true false d = s
    go false b true = sound_begun v (after_begin v.grace) refl s
    go false b false = s

-- after a renumbering
pub sound_renumbered : (v : State ℕ) (g : Grace ℕ) → g ≡ after_renumber v.grace → IsSound v
    → IsSound (record v { grace = g })
sound_renumbered v g e s =
    subst (λ (x : Grace ℕ). IsSound (record v { grace = x })) (sym e)
    (record {
      flags = s.flags;
      sized = s.sized;
      placed = s.placed;
      present = s.present;
      listed = length-map v.grace.lists.lists list_renumbered ∙ s.listed;
      visits = s.visits;
      made = s.made;
    })

all_one : {X : Type 0} (P : X → Type 0) (x : X) → P x → All P (x ∷ [])
all_one P x p zero d l = p
all_one P x p (suc k) d l = absurd (omega arith)

-- after a quiescent state
pub sound_made : (v : State ℕ) (cpu : ℕ) (reports : List Report) → cpu < cpus_of v.grace.processors
    → reports ≡ v.made ++ report_of (processor v.cpus cpu) ∷ []
    → IsSound v → IsSound (record v { made = reports })
sound_made v cpu reports l e s = record {
  flags = s.flags;
  sized = s.sized;
  placed = s.placed;
  present = s.present;
  listed = s.listed;
  visits = s.visits;
  made = rw e
      (All-append (λ (report : Report). report.cpu < cpus_of v.grace.processors) v.made
      (report_of (processor v.cpus cpu) ∷ []) s.made
      (all_one (λ (report : Report). report.cpu < cpus_of v.grace.processors)
      (report_of (processor v.cpus cpu)) (rw (s.placed cpu) l)));
}

-- the processors at the start
abbrev pub first_cpus : ℕ → List Processor
first_cpus n = map (λ cpu. made_processor cpu (cpu == 0)) (range_with_len 0 n)

-- one more
pub first_more : (n : ℕ) (old new : List Processor)
    → old ≡ first_cpus n → new ≡ old ++ made_processor n (n == 0) ∷ [] → new ≡ first_cpus (n + 1)
first_more n old new e f =
    f
    ∙ ap (λ (cpus : List Processor). cpus ++ made_processor n (n == 0) ∷ []) e
    ∙ sym (map-range_with_len_more (λ cpu. made_processor cpu (cpu == 0)) 0 n n (omega arith))

-- each of them
pub first_at : (n cpu : ℕ) → 0 < n → processor (first_cpus n) cpu ≡ made_processor cpu (cpu == 0)
first_at n cpu l = elim (cases_lt cpu n) [
  | inl m ↦ get_or-map-range_with_len (λ c. made_processor c (c == 0)) 0 n cpu cpu
      (made_processor cpu false) m (omega arith)
  | inr m ↦ get_or_past (first_cpus n) cpu (made_processor cpu false)
      (omega (arith, m, length-map-range_with_len (λ c. made_processor c (c == 0)) 0 n))
      ∙ ap (λ (b : Bool). made_processor cpu b) (sym (ne_eqb cpu 0 (λ e. omega (arith, e, l, m))))
]

get_same : {X : Type 0} (n : ℕ) (x : X) (k : ℕ) → get_or (replicate n x) k x ≡ x
get_same zero x k = refl
get_same (suc n) x zero = refl
get_same (suc n) x (suc k) = get_same n x k

-- each list is empty at the start
pub no_item : (n cpu : ℕ) → get_or {A = List (Item ℕ)} (replicate n []) cpu [] ≡ []
no_item n cpu = get_same n [] cpu

-- processor 0 alone is online at the start
pub boot_alone : (n cpu : ℕ) → 0 < n → is_in (slice_set (replicate n false) 0 true) cpu ≡ (cpu == 0)
boot_alone n cpu l = elim (cases_eq cpu 0) [
  | inl e ↦ rw e (get_or-set_same (replicate n false) 0 true false (rw length-replicate l))
  | inr e ↦
      get_or-set_other (replicate n false) 0 cpu true false e
      ∙ get_same n false cpu
      ∙ sym (ne_eqb cpu 0 e)
]

-- it holds at the start
pub sound_first : (n last most : ℕ) (v : State ℕ)
    → 0 < n → v.grace ≡ at_first n last most → v.cpus ≡ first_cpus n → v.made ≡ [] → IsSound v
sound_first n last most v l e f m =
    subst (λ (x : State ℕ). IsSound x)
    (λ i. record { grace = sym e i; cpus = sym f i; made = sym m i })
    (record {
      flags = length-set (replicate n false) 0 true;
      sized = length-map-range_with_len (λ c. made_processor c (c == 0)) 0 n
          ∙ sym (length-replicate {A = Bool} n false);
      placed = λ cpu. ap (λ (p : Processor). p.cpu) (first_at n cpu l);
      present =
          λ cpu. ap (λ (p : Processor). p.online) (first_at n cpu l) ∙ sym (boot_alone n cpu l);
      listed =
          length-replicate {A = List (Item ℕ)} n [] ∙ sym (length-replicate {A = Bool} n false);
      visits = length-replicate {A = Bool} n true ∙ sym (length-replicate {A = Bool} n false);
      made = λ k d m. absurd (omega arith);
    })

-- a read at an existing index gives the processor there
pub at_place : (v : State ℕ) (cpu : ℕ) (p : Processor)
    → IsSound v → cpu < cpus_of v.grace.processors → p ≡ get_or v.cpus cpu p
    → p ≡ processor v.cpus cpu
at_place v cpu p s l e =
    get_or_read_under v.cpus cpu (cpus_of v.grace.processors) p (made_processor cpu false) e l
    (sym s.sized)

-- the number of processors at the start
pub first_count : (n last most : ℕ) (g : Grace ℕ) → g ≡ at_first n last most
    → cpus_of g.processors ≡ n
first_count n last most g e =
    ap (λ (x : Grace ℕ). cpus_of x.processors) e ∙ length-replicate {A = Bool} n false

-- the size at the start
pub first_size : (n last most : ℕ) (v : State ℕ) → v.grace ≡ at_first n last most
    → size_at v ≡ record { cpus = n; last = last; most = most }
first_size n last most v e = λ i. record {
  cpus = first_count n last most v.grace e i;
  last = (e i).seq.last;
  most = (e i).lists.most;
}
