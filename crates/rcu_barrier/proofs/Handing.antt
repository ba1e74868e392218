-- For callers: after a tend, and a tend once the number was reached, each callback that lay in the
-- list is done.
use Rattle.std.proofs.Common.{◌≡◌, ◌≢◌, ℕ, ◌+◌, ◌<◌, ◌≤◌, Bool, true, false, List, []}
use Rattle.std.proofs.Common.{◌∷◌, ◌++◌, length, refl, sym, ap, ◌∙◌, subst, arith, cond, eqb}
use Rattle.std.proofs.Common.{ne_eqb, eq-eqb, set, get_or, append-nil, inl, inr}
use Rattle.std.specs.List.{list_any}
use Rattle.std.proofs.lemmas.Bool.{cases_eq, or_parts}
use Rattle.std.proofs.lemmas.Bool.Decides.{nat_tests}
use Rattle.std.proofs.lemmas.List.{get_or-set_same, get_or-set_other, length-map, length-set}
use Rattle.std.proofs.lemmas.List.{take_all}
use Rattle.rcu_cblist.specs.SegList.{after_renumber, IsAtMost, Item}
use Rattle.rcu_cblist.specs.SegList.{Of, Unmarked, after_entrain}
use Rattle.rcu_cblist.specs.SegList.{after_migrate, after_take, as_it_leaves, behind, callbacks}
use Rattle.rcu_cblist.specs.SegList.{front, remarked, take_answer}
use Rattle.std.proofs.lemmas.List.Elements.{All-weaker}
use Rattle.std.proofs.lemmas.List.Elements.{All-map}
use Rattle.std.proofs.lemmas.List.Sums.{get_or-le-sum_by, sum_by-set}
use Rattle.rcu_seq.specs.Numbers.{snapshot}
use Rattle.rcu_barrier.specs.Lists.{AllLists, barrier_left, is_visited, list_of, owes_visit}
use Rattle.rcu_barrier.specs.Lists.{with_list}
use Rattle.rcu_barrier.specs.Runs.{Call, IsNew, IsRun, MayCall, after_call, copies, lists_after}
use Rattle.rcu_barrier.specs.Runs.{times_handed_out, Queue, Tend, Run, Migrate, BarrierBegin, Visit}
use Rattle.rcu_barrier.specs.Runs.{BarrierTest, Renumber}
use Rattle.rcu_barrier.specs.Settled.{unsettles}
use Rattle.rcu_barrier.specs.Tending.{mark_after_tend, after_tend}
use Rattle.rcu_barrier.proofs.MarkedLists.{marked_from}
use Rattle.rcu_barrier.proofs.Maturing.{MarkedBy, Parted, Soon}
use Rattle.rcu_barrier.proofs.Maturing.{none_behind, parted_append, parted_from}
use Rattle.rcu_barrier.proofs.Maturing.{parted_leaving, parted_moved, parted_remarked}
use Rattle.rcu_barrier.proofs.Maturing.{soon_at_first, soon_tended}
use Rattle.rcu_barrier.proofs.Once.{Once, at_most_once, listed, once_each}
use Rattle.rcu_barrier.proofs.Places.{copies_are, lies, lies-append, lies-cut, lies-leaving}
use Rattle.rcu_barrier.proofs.Places.{lies-moved, lies-parts, lies-remarked}

module _ {X : Type 0} where
  -- a list once one of the lists is another
  set_at : (lists : List (List (Item X))) (d c : ℕ) (xs : List (Item X)) → d < length lists
      → get_or (set lists d xs) c [] ≡ cond (eqb d c) xs (get_or lists c [])
  set_at lists d c xs l = elim (cases_eq d c) [
    | inl e ↦
        ap (λ k. get_or (set lists d xs) k []) (sym e)
        ∙ get_or-set_same lists d xs [] l
        ∙ sym (ap (λ b. cond b xs (get_or lists c [])) (eq-eqb d c e))
    | inr n ↦
        get_or-set_other lists d c xs [] (λ e. n (sym e))
        ∙ sym (ap (λ b. cond b xs (get_or lists c [])) (ne_eqb d c n))
  ]

  -- two lists of which one holds a callback that is listed once
  apart : (j c d : ℕ) (lists : List (List (Item X))) → c < length lists → d < length lists → c ≢ d
      → lies j (get_or lists c []) + lies j (get_or lists d []) ≤ listed j lists
  apart j c d lists l m n =
      let out = sum_by-set (lies j) lists c [] [] l in
      let long = length-set lists c [] in
      let le = get_or-le-sum_by (lies j) (set lists c []) d [] (rw long m) in
      let same : lies j (get_or (set lists c []) d []) ≡ lies j (get_or lists d []) =
      ap (λ xs. lies j xs) (get_or-set_other lists c d [] [] (λ e. n (sym e))) in
      omega (arith, out, le, same)

  -- the callback of this place was handed out or lies in this list, the list in two parts
  record Stays (j n c times : ℕ) (xs : List (Item X)) : Type 0 where
    pub kept : 1 ≤ times + lies j xs
    pub parted : Parted j n xs

  same_list : (j n c times : ℕ) (xs ys : List (Item X)) → ys ≡ xs → Stays j n c times xs
      → Stays j n c times ys
  same_list j n c times xs ys is f = subst (λ zs. Stays j n c times zs) (sym is) f

  -- one list changes
  changed : (j n c d times : ℕ) (all : AllLists X) (f : List (Item X) → List (Item X))
      (zs : List (Item X))
      → zs ≡ cond (eqb d c) (f (list_of all d)) (list_of all c)
      → lies j (list_of all c) ≤ lies j (f (list_of all c))
      → (Parted j n (list_of all c) → Parted j n (f (list_of all c)))
      → Stays j n c times (list_of all c)
      → Stays j n c times zs
  changed j n c d times all f zs is more part o = elim (cases_eq d c) [
    | inl e ↦
        let here = is ∙ ap (λ b. cond b (f (list_of all d)) (list_of all c)) (eq-eqb d c e)
        ∙ ap (λ x. f (list_of all x)) e in
        let k = o.kept in
        same_list j n c times (f (list_of all c)) zs here record {
          kept = omega (arith, k, more);
          parted = part o.parted;
        }
    | inr e ↦
        same_list j n c times (list_of all c) zs
        (is ∙ ap (λ b. cond b (f (list_of all d)) (list_of all c)) (ne_eqb d c e)) o
  ]

  new_elsewhere : (j q : ℕ) (x : Item X) → j ≤ q → lies j (x ∷ []) ≡ cond (eqb (q + 1) j) 1 0
      → lies j (x ∷ []) ≡ 0
  new_elsewhere j q x l e = e ∙ differs q j l
    where
      differs : (q j : ℕ) → j ≤ q → cond {A = ℕ} (eqb (q + 1) j) 1 0 ≡ 0
      differs q j l = grind (arith, nat_tests)

  ran : (j n c d m times : ℕ) (all : AllLists X) → d < length all.lists
      → Stays j n c times (list_of all c)
      → Stays j n c (copies j (take_answer (list_of all d) m) + times)
      (list_of (after_call all (Run d m)) c)
  ran j n c d m times all l f =
      let is = set_at all.lists d c (after_take (list_of all d) m) l in
      let k = f.kept in
      elim (cases_eq d c) [
        | inl e ↦
            let same = ap (λ x. copies j (take_answer (list_of all x) m)) e in
            let here : list_of (after_call all (Run d m)) c ≡ after_take (list_of all c) m =
            is
            ∙ ap (λ b. cond b (after_take (list_of all d) m) (list_of all c)) (eq-eqb d c e)
            ∙ ap (λ x. after_take (list_of all x) m) e in
            let cut = lies-cut j m (list_of all c) in
            same_list j n c (copies j (take_answer (list_of all d) m) + times)
            (after_take (list_of all c) m) (list_of (after_call all (Run d m)) c) here record {
              kept = omega (arith, k, same, cut);
              parted = parted_from j n (length (take_answer (list_of all c) m)) (list_of all c)
                  f.parted;
            }
        | inr e ↦
            let there : list_of (after_call all (Run d m)) c ≡ list_of all c =
            is ∙ ap (λ b. cond b (after_take (list_of all d) m) (list_of all c)) (ne_eqb d c e) in
            same_list j n c (copies j (take_answer (list_of all d) m) + times) (list_of all c)
            (list_of (after_call all (Run d m)) c) there record {
              kept = omega (arith, k);
              parted = f.parted;
            }
      ]

  visited_list : (j n c d times : ℕ) (all : AllLists X) (seen : Bool) → d < length all.lists
      → Stays j n c times (list_of all c)
      → Stays j n c times (list_of (cond seen all (record (with_list all d
      (after_entrain (list_of all d))) { visited = set all.visited d true })) c)
  visited_list j n c d times all true l f = f
  visited_list j n c d times all false l f =
      let xs = as_it_leaves (list_of all d) true in
      let more = lies-leaving j true (list_of all d) in
      elim (cases_eq d c) [
        | inl e ↦
            let here = set_at all.lists d c xs l
            ∙ ap (λ b. cond b xs (list_of all c)) (eq-eqb d c e)
            ∙ ap (λ x. as_it_leaves (list_of all x) true) e in
            let k = f.kept in let m = lies-leaving j true (list_of all c) in
            same_list j n c times (as_it_leaves (list_of all c) true) _ here record {
              kept = omega (arith, k, m);
              parted = parted_leaving j n true (list_of all c) f.parted;
            }
        | inr e ↦
            same_list j n c times (list_of all c) _
            (set_at all.lists d c xs l ∙ ap (λ b. cond b xs (list_of all c)) (ne_eqb d c e)) f
      ]

  tested_list : (j n c times : ℕ) (all : AllLists X) (done : Bool)
      → Stays j n c times (list_of all c)
      → Stays j n c times (list_of (cond done (record all { running = false }) all) c)
  tested_list j n c times all true f = f
  tested_list j n c times all false f = f

  moved_list : (j n c d times : ℕ) (all : AllLists X) → 0 < d → d < length all.lists
      → c < length all.lists → eqb d c ≡ false
      → (c ≡ 0 → lies j (list_of all d) ≡ 0)
      → Stays j n c times (list_of all c)
      → Stays j n c times (list_of (after_call all (Migrate d)) c)
  moved_list j n c d times all z l m away none f =
      let xs = as_it_leaves (list_of all d) (owes_visit all d) in
      let new = after_migrate (list_of all 0) xs in
      let first = set all.lists 0 new in
      let long = length-set all.lists 0 new in
      let outer : list_of (after_call all (Migrate d)) c ≡ get_or first c [] =
      set_at first d c [] (omega (arith, long, l)) ∙ ap (λ b. cond b [] (get_or first c [])) away in
      let inner = set_at all.lists 0 c new (omega (arith, l)) in
      elim (cases_eq 0 c) [
        | inl e ↦
            let here = outer ∙ inner
            ∙ ap (λ b. cond b new (list_of all c)) (eq-eqb 0 c e)
            ∙ ap (λ x. after_migrate (list_of all x) xs) e in
            let k = f.kept in let moved = lies-moved j xs (list_of all c) in
            let zero = lies-leaving j (owes_visit all d) (list_of all d) ∙ none (sym e) in
            same_list j n c times (after_migrate (list_of all c) xs) _ here record {
              kept = omega (arith, k, moved);
              parted = parted_moved j n xs (list_of all c) zero f.parted;
            }
        | inr e ↦
            same_list j n c times (list_of all c) _
            (outer ∙ inner ∙ ap (λ b. cond b new (list_of all c)) (ne_eqb 0 c e)) f
      ]

  -- no call changes the number of lists
  visited_length : (all : AllLists X) (xs : List (List (Item X))) (flags : List Bool) (b : Bool)
      → length xs ≡ length all.lists
      → length (cond b all (record all { lists = xs; visited = flags })).lists ≡ length all.lists
  visited_length all xs flags true same = refl
  visited_length all xs flags false same = same

  tested_length : (all : AllLists X) (b : Bool)
      → length (cond b (record all { running = false }) all).lists ≡ length all.lists
  tested_length all true = refl
  tested_length all false = refl

  pub as_many : (all : AllLists X) (call : Call X)
      → length (after_call all call).lists ≡ length all.lists
  as_many all (Queue cpu at value) = length-set all.lists cpu _
  as_many all (Tend cpu number) = length-set all.lists cpu _
  as_many all (Run cpu most) = length-set all.lists cpu _
  as_many all (Migrate cpu) = length-set _ cpu [] ∙ length-set all.lists 0 _
  as_many all BarrierBegin = refl
  as_many all (Visit cpu) =
      visited_length all (set all.lists cpu (after_entrain (list_of all cpu)))
      (set all.visited cpu true) (is_visited all cpu) (length-set all.lists cpu _)
  as_many all BarrierTest = tested_length all (eqb (barrier_left all) 0)
  as_many all Renumber = length-map all.lists after_renumber

  -- a run of calls that does not unsettle the list
  stays_step : (j n c : ℕ) (first : AllLists X) (call : Call X) (calls : List (Call X))
      → Once j (times_handed_out j first calls) (lists_after first calls)
      → MayCall (lists_after first calls) call
      → 0 < j
      → j ≤ (lists_after first calls).queued
      → c < length (lists_after first calls).lists
      → unsettles c call ≡ false
      → Stays j n c (times_handed_out j first calls) (list_of (lists_after first calls) c)
      → Stays j n c (times_handed_out j first (call ∷ calls))
      (list_of (after_call (lists_after first calls) call) c)
  stays_step j n c first (Queue d at value) calls once may z b l u f =
      let all = lists_after first calls in
      let new : Item X = Of (record { ord = all.queued + 1; at = at; value = value }) Unmarked in
      let none = new_elsewhere j all.queued new b (omega arith) in
      let a = lies-append j (list_of all c) (new ∷ []) in
      changed j n c d (times_handed_out j first calls) all (λ xs. xs ++ new ∷ []) _
      (set_at all.lists d c (list_of all d ++ new ∷ []) may) (omega (arith, a))
      (λ o. parted_append j n (list_of all c) (new ∷ []) none o) f
  stays_step j n c first (Tend d v) calls once may z b l u f =
      let all = lists_after first calls in
      let a = lies-remarked j (mark_after_tend v) (list_of all c) in
      changed j n c d (times_handed_out j first calls) all (λ xs. after_tend xs v) _
      (set_at all.lists d c (after_tend (list_of all d) v) may) (omega (arith, a))
      (λ o. parted_remarked j n (mark_after_tend v) (list_of all c) (soon_tended n v) o) f
  stays_step j n c first (Run d m) calls once may z b l u f =
      ran j n c d m (times_handed_out j first calls) (lists_after first calls) may f
  stays_step j n c first (Migrate d) calls once may z b l u f =
      let all = lists_after first calls in
      let other : c ≢ d = λ e. absurd (unequal c d u e) in
      let t = once.there z b in
      let p = apart j c d all.lists l may.1 other in
      let k = f.kept in
      moved_list j n c d (times_handed_out j first calls) all may.0 may.1 l u
      (λ e. omega (arith, t, p, k)) f
    where
      unequal : (c d : ℕ) → eqb d c ≡ false → c ≡ d → ⊥
      unequal c d u e = grind (arith, nat_tests)
  stays_step j n c first BarrierBegin calls once may z b l u f = f
  stays_step j n c first (Visit d) calls once may z b l u f =
      let all = lists_after first calls in
      visited_list j n c d (times_handed_out j first calls) all (is_visited all d) may.0 f
  stays_step j n c first BarrierTest calls once may z b l u f =
      let all = lists_after first calls in
      tested_list j n c (times_handed_out j first calls) all (eqb (barrier_left all) 0) f
  stays_step j n c first Renumber calls once may z b l u f = absurd (cc)

  long_after : (first : AllLists X) (later earlier : List (Call X))
      → length (lists_after first (later ++ earlier)).lists
      ≡ length (lists_after first earlier).lists
  long_after first [] earlier = refl
  long_after first (call ∷ later) earlier =
      as_many (lists_after first (later ++ earlier)) call ∙ long_after first later earlier

  visited_queued : (all : AllLists X) (xs : List (List (Item X))) (flags : List Bool) (b : Bool)
      → (cond b all (record all { lists = xs; visited = flags })).queued ≡ all.queued
  visited_queued all xs flags true = refl
  visited_queued all xs flags false = refl

  tested_queued : (all : AllLists X) (b : Bool)
      → (cond b (record all { running = false }) all).queued ≡ all.queued
  tested_queued all true = refl
  tested_queued all false = refl

  pub queued_up : (all : AllLists X) (call : Call X) → all.queued ≤ (after_call all call).queued
  queued_up all (Queue cpu at value) = omega arith
  queued_up all (Tend cpu number) = omega arith
  queued_up all (Run cpu most) = omega arith
  queued_up all (Migrate cpu) = omega arith
  queued_up all BarrierBegin = omega arith
  queued_up all (Visit cpu) =
      let same = visited_queued all (set all.lists cpu (after_entrain (list_of all cpu)))
      (set all.visited cpu true) (is_visited all cpu) in
      omega (arith, same)
  queued_up all BarrierTest = let same = tested_queued all (eqb (barrier_left all) 0) in
      omega (arith, same)
  queued_up all Renumber = omega arith

  queued_later : (first : AllLists X) (later earlier : List (Call X))
      → (lists_after first earlier).queued ≤ (lists_after first (later ++ earlier)).queued
  queued_later first [] earlier = omega arith
  queued_later first (call ∷ later) earlier =
      let i = queued_later first later earlier in
      let k = queued_up (lists_after first (later ++ earlier)) call in
      omega (arith, i, k)

  stays : (j n c : ℕ) (first : AllLists X) (later earlier : List (Call X))
      → IsNew first
      → IsRun first (later ++ earlier)
      → 0 < j
      → j ≤ (lists_after first earlier).queued
      → c < length (lists_after first earlier).lists
      → list_any (unsettles c) later ≡ false
      → Stays j n c (times_handed_out j first earlier) (list_of (lists_after first earlier) c)
      → Stays j n c (times_handed_out j first (later ++ earlier))
      (list_of (lists_after first (later ++ earlier)) c)
  stays j n c first [] earlier new is z b l u f = f
  stays j n c first (call ∷ later) earlier new is z b l u f =
      let o = or_parts (unsettles c call) (list_any (unsettles c) later) u in
      let up = queued_later first later earlier in
      let long = long_after first later earlier in
      stays_step j n c first call (later ++ earlier) (once_each j first (later ++ earlier) new is.1)
      is.0 z (omega (arith, b, up)) (omega (arith, l, long)) o.0
      (stays j n c first later earlier new is.1 z b l o.1 f)

  tended_is : (all : AllLists X) (c v : ℕ) → c < length all.lists
      → list_of (after_call all (Tend c v)) c ≡ after_tend (list_of all c) v
  tended_is all c v l = get_or-set_same all.lists c (after_tend (list_of all c) v) [] l

  at_first : (j n c times : ℕ) (all : AllLists X) → c < length all.lists
      → IsAtMost (snapshot n) (list_of all c) → copies j (callbacks (list_of all c)) ≡ 1
      → Stays j (snapshot n) c times (list_of (after_call all (Tend c n)) c)
  at_first j n c times all l most one =
      let xs = list_of all c in
      let m = snapshot n in
      let a = copies_are j xs in
      let b = lies-remarked j (mark_after_tend n) xs in
      let change = remarked (mark_after_tend n) in
      same_list j m c times (after_tend xs n) (list_of (after_call all (Tend c n)) c)
      (tended_is all c n l) record {
        kept = omega (arith, a, b, one);
        parted = record {
          soon = after_tend xs n;
          rest = [];
          is = sym (append-nil (after_tend xs n));
          each = All-map (Soon m) change xs
              (All-weaker (MarkedBy m) (λ x. Soon m (change x)) (soon_at_first n) xs
              (marked_from m xs most));
          none = refl;
        };
      }

  -- both tends, and the calls between them
  none_waits : (first : AllLists X) (later earlier : List (Call X)) (c n m j : ℕ)
      → IsNew first
      → IsRun first (Tend c m ∷ later ++ Tend c n ∷ earlier)
      → IsAtMost (snapshot n) (list_of (lists_after first earlier) c)
      → snapshot n ≤ m
      → list_any (unsettles c) later ≡ false
      → 0 < j
      → j ≤ (lists_after first earlier).queued
      → copies j (callbacks (list_of (lists_after first earlier) c)) ≡ 1
      → (lies j (behind (list_of (lists_after first (Tend c m ∷ later ++ Tend c n ∷ earlier)) c))
      ≡ 0)
      × (1 ≤ times_handed_out j first (later ++ Tend c n ∷ earlier)
      + lies j (list_of (lists_after first (Tend c m ∷ later ++ Tend c n ∷ earlier)) c))
  none_waits first later earlier c n m j new is most up u z b one =
      let base : List (Call X) = Tend c n ∷ earlier in
      let ran = is_run first later base is.1 in
      let all = lists_after first earlier in
      let l : c < length all.lists = ran.0 in
      let now = lists_after first (later ++ base) in
      let long = as_many all (Tend c n) in
      let long_now = long_after first later base in
      let f = stays j (snapshot n) c first later base new is.1 z b (omega (arith, l, long)) u
      (at_first j n c (times_handed_out j first earlier) all l most one) in
      let here : list_of (after_call now (Tend c m)) c ≡ after_tend (list_of now c) m =
      tended_is now c m is.0 in
      let k = f.kept in
      let same = ap (λ xs. lies j xs) here in
      let many = lies-remarked j (mark_after_tend m) (list_of now c) in (
        ap (λ xs. lies j (behind xs)) here
            ∙ none_behind j (snapshot n) m (list_of now c) up f.parted,
        omega (arith, k, same, many),
      )
    where
      is_run : (first : AllLists X) (later earlier : List (Call X)) → IsRun first (later ++ earlier)
          → IsRun first earlier
      is_run first [] earlier is = is
      is_run first (call ∷ later) earlier is = is_run first later earlier is.1

  pub none_left_waiting : (first : AllLists X) (later earlier : List (Call X)) (c n m j : ℕ)
      → IsNew first
      → IsRun first (Tend c m ∷ later ++ Tend c n ∷ earlier)
      → IsAtMost (snapshot n) (list_of (lists_after first earlier) c)
      → snapshot n ≤ m
      → list_any (unsettles c) later ≡ false
      → 0 < j
      → j ≤ (lists_after first earlier).queued
      → copies j (callbacks (list_of (lists_after first earlier) c)) ≡ 1
      → copies j (callbacks (behind
      (list_of (lists_after first (Tend c m ∷ later ++ Tend c n ∷ earlier)) c)))
      ≡ 0
  none_left_waiting first later earlier c n m j new is most up u z b one =
      copies_are j (behind
      (list_of (lists_after first (Tend c m ∷ later ++ Tend c n ∷ earlier)) c))
      ∙ (none_waits first later earlier c n m j new is most up u z b one).0

  pub then_handed_out : (first : AllLists X) (later earlier : List (Call X)) (c n m most j : ℕ)
      → IsNew first
      → IsRun first (Run c most ∷ Tend c m ∷ later ++ Tend c n ∷ earlier)
      → IsAtMost (snapshot n) (list_of (lists_after first earlier) c)
      → snapshot n ≤ m
      → list_any (unsettles c) later ≡ false
      → 0 < j
      → j ≤ (lists_after first earlier).queued
      → copies j (callbacks (list_of (lists_after first earlier) c)) ≡ 1
      → length (callbacks (front
      (list_of (lists_after first (Tend c m ∷ later ++ Tend c n ∷ earlier)) c)))
      ≤ most
      → times_handed_out j first (Run c most ∷ Tend c m ∷ later ++ Tend c n ∷ earlier) ≡ 1
  then_handed_out first later earlier c n m most j new is marked up u z b one enough =
      let calls : List (Call X) = Tend c m ∷ later ++ Tend c n ∷ earlier in
      let xs = list_of (lists_after first calls) c in
      let f = none_waits first later earlier c n m j new is.1 marked up u z b one in
      let none = f.0 in
      let kept = f.1 in
      let parts = lies-parts j xs in
      let all = take_all most (callbacks (front xs)) enough in
      let taken = ap (λ calls. copies j calls) all in
      let are = copies_are j (front xs) in
      let once = at_most_once first (Run c most ∷ calls) j new is in
      omega (arith, none, kept, parts, taken, are, once)
