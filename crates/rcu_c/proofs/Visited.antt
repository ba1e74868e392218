-- Once a barrier has visited each processor, no call but a departure and another barrier's begin
-- puts its end off.
use Rattle.std.proofs.Common.{◌≡◌, ℕ, suc, ◌+◌, ◌<◌, Bool, true, false, not, List, []}
use Rattle.std.proofs.Common.{◌∷◌, ◌++◌, refl, sym, ap, ◌∙◌, subst, arith, cond, get_or, set}
use Rattle.std.proofs.Common.{length}
use Rattle.std.specs.Prelude.{◌==◌, if◌then◌else◌, All}
use Rattle.std.specs.List.{list_any}
use Rattle.std.proofs.lemmas.Bool.{or_parts}
use Rattle.std.proofs.lemmas.List.{length-map, length-replicate, length-set}
use Rattle.std.proofs.lemmas.List.Elements.{All-head}
use Rattle.std.proofs.lemmas.List.Sums.{sum_by-cons}
use Rattle.rcu_cblist.specs.SegList.{Item, after_entrain, after_migrate, after_renumber, after_take}
use Rattle.rcu_cblist.specs.SegList.{as_it_leaves, markers, remarked}
use Rattle.rcu_barrier.specs.Lists.{AllLists, barrier_left, is_visited, list_of, markers_in}
use Rattle.rcu_barrier.specs.Lists.{owes_visit, unvisited, with_list}
use Rattle.rcu_barrier.specs.Runs as lists
use Rattle.rcu_barrier.specs.Tending.{after_tend, mark_after_tend}
use Rattle.rcu_barrier.proofs.EachCallback.{at_set}
use Rattle.rcu_live.specs.Engine.{Locked}
use Rattle.rcu_live.specs.Runs.{BarrierBegin, Call, IsRun, Leave, engine_after}
use Rattle.rcu_live.proofs.ListRuns.{list_calls, runs_onto}
use Rattle.rcu_c.specs.Progress.{puts_off}
use Rattle.rcu_c.proofs.Ahead.{Ahead, ahead_queued, ahead_taken, ahead_tended, none_ahead}

module _ {X : Type 0} where
  -- a property that a tend keeps
  abbrev pub IsLasting : (Item X → Type 0) → Type 0
  IsLasting P = (v : ℕ) (x : Item X) → P x → P (remarked (mark_after_tend v) x)

  -- there are this many lists, each processor was visited, and only such items are ahead of each
  -- marker of a list
  pub record Visited (P : Item X → Type 0) (n : ℕ) (all : AllLists X) : Type 0 where
    pub sized : length all.lists ≡ n
    pub flags : length all.visited ≡ n
    pub seen : (c : ℕ) → c < n → is_visited all c ≡ true
    pub ahead : (c : ℕ) → c < n → Ahead P (list_of all c)

  -- there is a flag for each list
  abbrev pub HasFlags : AllLists X → Type 0
  HasFlags all = length all.visited ≡ length all.lists

  flags_step : (all : AllLists X) (call : lists.Call X) → HasFlags all
      → HasFlags (lists.after_call all call)
  flags_step all (lists.Queue d at value) f = f ∙ sym (length-set all.lists d _)
  flags_step all (lists.Tend d v) f = f ∙ sym (length-set all.lists d _)
  flags_step all (lists.Run d most) f = f ∙ sym (length-set all.lists d _)
  flags_step all (lists.Migrate d) f =
      let xs = as_it_leaves (list_of all d) (owes_visit all d) in
      let ys = set all.lists 0 (after_migrate (list_of all 0) xs) in
      flag_set all.visited d (owes_visit all d)
      ∙ f
      ∙ sym (length-set ys d [] ∙ length-set all.lists 0 (after_migrate (list_of all 0) xs))
    where
      flag_set : (flags : List Bool) (d : ℕ) (b : Bool)
          → length (if b then set flags d true else flags) ≡ length flags
      flag_set flags d true = length-set flags d true
      flag_set flags d false = refl
  flags_step all lists.BarrierBegin f = length-replicate (length all.lists) false
  flags_step all (lists.Visit d) f =
      either (is_visited all d) (set all.lists d (after_entrain (list_of all d)))
      (length-set all.lists d (after_entrain (list_of all d)))
    where
      either : (b : Bool) (ys : List (List (Item X))) → length ys ≡ length all.lists
          → HasFlags (if b then all else (record all {
            lists = ys;
            visited = set all.visited d true;
          }))
      either true ys same = f
      either false ys same = length-set all.visited d true ∙ f ∙ sym same
  flags_step all lists.BarrierTest f = either (barrier_left all == 0)
    where
      either : (b : Bool) → HasFlags (if b then (record all { running = false }) else all)
      either true = f
      either false = f
  flags_step all lists.Renumber f = f ∙ sym (length-map all.lists after_renumber)

  flags_new : (all : AllLists X) → lists.IsNew all → HasFlags all
  flags_new all new =
      ap (λ (x : AllLists X). length x.visited) new ∙ length-replicate (length all.lists) true

  pub flags_each : (all : AllLists X) (run : List (lists.Call X)) → lists.IsNew all
      → HasFlags (lists.lists_after all run)
  flags_each all [] new = flags_new all new
  flags_each all (call ∷ run) new =
      flags_step (lists.lists_after all run) call (flags_each all run new)

  -- one list changes
  relisted : (P : Item X → Type 0) (n d queued : ℕ) (all : AllLists X) (xs : List (Item X))
      → (Ahead P (list_of all d) → Ahead P xs) → Visited P n all
      → Visited P n (record (with_list all d xs) { queued = queued })
  relisted P n d queued all xs keeps f = record {
    sized = length-set all.lists d xs ∙ f.sized;
    flags = f.flags;
    seen = f.seen;
    ahead = λ c l. at_set (λ ys. Ahead P ys) all.lists d c xs [] (none_ahead P [] refl)
        (λ e. keeps (subst (λ k. Ahead P (list_of all k)) e (f.ahead c l)))
        (λ n. f.ahead c l);
  }

  tested : (P : Item X → Type 0) (n : ℕ) (all : AllLists X) (done : Bool) → Visited P n all
      → Visited P n (if done then (record all { running = false }) else all)
  tested P n all true f =
      record { sized = f.sized; flags = f.flags; seen = f.seen; ahead = f.ahead }
  tested P n all false f = f

  -- the call begins new visits, or moves a list
  abbrev resets : lists.Call X → Bool
  resets (lists.Migrate cpu) = true
  resets lists.BarrierBegin = true
  resets lists.Renumber = true
  resets (lists.Queue cpu at value) = false
  resets (lists.Tend cpu number) = false
  resets (lists.Run cpu most) = false
  resets (lists.Visit cpu) = false
  resets lists.BarrierTest = false

  step : (P : Item X → Type 0) → IsLasting P → (n : ℕ) (all : AllLists X) (call : lists.Call X)
      → lists.MayCall all call → resets call ≡ false → Visited P n all
      → Visited P n (lists.after_call all call)
  step P k n all (lists.Queue d at value) may u f =
      relisted P n d (all.queued + 1) all _
      (ahead_queued P (list_of all d) (record { ord = all.queued + 1; at = at; value = value })) f
  step P k n all (lists.Tend d v) may u f =
      relisted P n d all.queued all (after_tend (list_of all d) v)
      (ahead_tended P P v (list_of all d) (k v)) f
  step P k n all (lists.Run d most) may u f =
      relisted P n d all.queued all (after_take (list_of all d) most)
      (ahead_taken P most (list_of all d)) f
  step P k n all (lists.Migrate d) may u f = absurd (cc)
  step P k n all lists.BarrierBegin may u f = absurd (cc)
  step P k n all (lists.Visit d) may u f =
      let l : d < length all.lists = may.0 in
      subst
      (λ (b : Bool). Visited P n (if b then all
      else (record (with_list all d (after_entrain (list_of all d))) {
        visited = set all.visited d true;
      })))
      (sym (f.seen d (omega (arith, l, f.sized)))) f
  step P k n all lists.BarrierTest may u f = tested P n all (barrier_left all == 0) f
  step P k n all lists.Renumber may u f = absurd (cc)

  steps : (P : Item X → Type 0) → IsLasting P → (n : ℕ) (all : AllLists X)
      (run : List (lists.Call X)) → lists.IsRun all run → list_any resets run ≡ false
      → Visited P n all → Visited P n (lists.lists_after all run)
  steps P k n all [] is u f = f
  steps P k n all (call ∷ run) is u f =
      let o = or_parts (resets call) (list_any resets run) u in
      step P k n (lists.lists_after all run) call is.0 o.0 (steps P k n all run is.1 o.1 f)

  -- no item
  abbrev pub Nothing : Item X → Type 0
  Nothing x = ⊥

  no_marker : (xs first rest : List (Item X)) → xs ≡ first ++ rest → All Nothing first
      → markers rest ≡ 0 → markers xs ≡ 0
  no_marker xs [] rest is a z = ap (λ ys. markers ys) is ∙ z
  no_marker xs (x ∷ first) rest is a z = absurd (All-head Nothing x first a)

  none_in : (ys : List (List (Item X)))
      → ((c : ℕ) → c < length ys → markers (get_or ys c []) ≡ 0) → markers_in ys ≡ 0
  none_in [] h = refl
  none_in (xs ∷ ys) h =
      let a = h 0 (omega arith) in
      let b = none_in ys (λ c l. h (suc c) (omega (arith, l))) in
      let s = sum_by-cons (λ (zs : List (Item X)). markers zs) xs ys in
      omega (arith, a, b, s)

each_seen : (flags : List Bool) → ((c : ℕ) → c < length flags → get_or flags c false ≡ true)
    → unvisited flags ≡ 0
each_seen [] h = refl
each_seen (flag ∷ flags) h =
    let a = ap {B = ℕ} (λ (b : Bool). cond (not b) 1 0) (h 0 (omega arith)) in
    let b = each_seen flags (λ c l. h (suc c) (omega (arith, l))) in
    let s = sum_by-cons (λ flag. cond (not flag) 1 0) flag flags in
    omega (arith, a, b, s)

module _ {X : Type 0} where
  -- if nothing is ahead of a marker, there is none, and the barrier waits for nothing
  pub nothing_left : (n : ℕ) (all : AllLists X) → Visited Nothing n all → barrier_left all ≡ 0
  nothing_left n all f =
      let m = none_in all.lists (λ c l.
      let a = f.ahead c (omega (arith, l, f.sized)) in
      no_marker (list_of all c) a.first a.rest a.is a.each a.none) in
      let u = each_seen all.visited (λ c l. f.seen c (omega (arith, l, f.flags))) in
      omega (arith, m, u)

module _ {C X : Type 0} where
  undisturbed : (e : Locked C X) (calls : List (Call X)) → list_any puts_off calls ≡ false
      → list_any resets (list_calls e calls) ≡ false
  undisturbed e [] u = refl
  undisturbed e (Leave d word ∷ calls) u = absurd (cc)
  undisturbed e (BarrierBegin ∷ calls) u = absurd (cc)
  undisturbed e (call ∷ calls) u = undisturbed e calls u

  -- the lists of an engine of this number of processors
  pub record At (P : Item X → Type 0) (n : ℕ) (e : Locked C X) : Type 0 where
    pub cpus : e.cpus ≡ n
    pub all : Visited P n e.grace.lists

  -- further calls keep it so
  pub stays : (P : Item X → Type 0) → IsLasting P → (n : ℕ) (e : Locked C X) (calls : List (Call X))
      → IsRun e calls → list_any puts_off calls ≡ false → At P n e → At P n (engine_after e calls)
  stays P k n e calls is u a =
      let o = runs_onto e calls (a.all.sized ∙ sym a.cpus) is in
      let v = subst (λ all. Visited P n all) o.leaves
      (steps P k n e.grace.lists (list_calls e calls) o.is (undisturbed e calls u) a.all) in
      record { cpus = sym o.sized ∙ v.sized; all = v }

  -- another part of the lists is ahead
  pub ahead_by : (P Q : Item X → Type 0) (n : ℕ) (e : Locked C X) → At P n e
      → ((c : ℕ) → c < n → Ahead Q (list_of e.grace.lists c)) → At Q n e
  ahead_by P Q n e a h = record {
    cpus = a.cpus;
    all = record { sized = a.all.sized; flags = a.all.flags; seen = a.all.seen; ahead = h };
  }
