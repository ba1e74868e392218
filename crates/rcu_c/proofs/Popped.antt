-- Callbacks that are taken from a processor's list, one after another, into a buffer.
use Rattle.std.proofs.Common.{◌≡◌, ℕ, ◌+◌, ◌<◌, None, Some, List, [], ◌∷◌, ◌++◌, length, map}
use Rattle.std.proofs.Common.{take, sym, ap, ◌∙◌, arith}
use Rattle.std.specs.Prelude.{All, slice_get, slice_set}
use Rattle.std.proofs.lemmas.List.{length-drop, map-append, take_more_set}
use Rattle.std.proofs.lemmas.List.Elements.{All-push}
use Rattle.rcu_cblist.specs.SegList.{Item, after_take, callbacks}
use Rattle.rcu_cblist.specs.SegList.{front, take_answer}
use Rattle.rcu_cblist.specs.declared.items.Queued.{Queued}
use Rattle.rcu_cblist.proofs.Popping.{done_left, taken_both}
use Rattle.rcu_barrier.specs.Lists.{list_of, with_list}
use Rattle.rcu_barrier.proofs.Popping.{list_left, runs_both}
use Rattle.rcu_state.specs.GpState.{after_run}
use Rattle.rcu_live.specs.Engine.{HasWaited, Locked}
use Rattle.rcu_live.specs.EngineLists.{on_grace}
use Rattle.rcu_graph.specs.declared.known.Planned.{Planned}

-- the processor's list
abbrev pub listed : Locked Planned ℕ → ℕ → List (Item ℕ)
listed e cpu = list_of e.grace.lists cpu

-- the engine once it handed out at most this number
abbrev pub ran : Locked Planned ℕ → ℕ → ℕ → Locked Planned ℕ
ran e cpu n = on_grace (λ g. after_run g cpu n) e

-- the engine with another list of the processor
abbrev relisted : Locked Planned ℕ → ℕ → List (Item ℕ) → Locked Planned ℕ
relisted e cpu xs = on_grace (λ g. record g { lists = with_list g.lists cpu xs }) e

-- the first of one is all of it
only : (ys : List (Queued ℕ)) (call : Queued ℕ) → Some call ≡ slice_get (take 1 ys) 0
    → take 1 ys ≡ call ∷ []
only [] call is = absurd cc
only (y ∷ ys) call is = cc

-- if there are some, there is a first
some_first : (ys : List (Queued ℕ)) → 0 < length ys → None ≡ slice_get (take 1 ys) 0 → ⊥
some_first [] some is = absurd (omega arith)
some_first (y ∷ ys) some is = absurd cc

module _ (e now : Locked Planned ℕ) (cpu i : ℕ) (so_far : now ≡ ran e cpu i) where
  -- the rest of the list
  left : listed now cpu ≡ after_take (listed e cpu) i
  left = ap (λ l. listed l cpu) so_far ∙ list_left e.grace.lists cpu i

  -- one more
  pub ran_more : (next : Locked Planned ℕ) → next ≡ ran now cpu 1 → next ≡ ran e cpu (i + 1)
  ran_more next one =
      one
      ∙ (ap (λ l. ran l cpu 1) so_far
      ∙ ap (λ all. record e { grace = record e.grace { lists = all } })
      (sym (runs_both e.grace.lists cpu i 1)))

  -- the callback that comes next is behind those so far
  pub took_more : (call : Queued ℕ) → Some call ≡ slice_get (take_answer (listed now cpu) 1) 0 →
      take_answer (listed e cpu) (i + 1) ≡ take_answer (listed e cpu) i ++ call ∷ []
  took_more call is =
      taken_both i 1 (listed e cpu) ∙ ap (λ l. take_answer (listed e cpu) i ++ l)
      (only (callbacks (front (after_take (listed e cpu) i))) call
      (is ∙ ap (λ xs. slice_get (take_answer xs 1) 0) left))

  -- one comes while some that are done are left
  pub one_comes : i < length (callbacks (front (listed e cpu))) →
      None ≡ slice_get (take_answer (listed now cpu) 1) 0 → ⊥
  one_comes inside is =
      let rest = ap length (ap (λ xs. callbacks (front xs)) left ∙ done_left i (listed e cpu)) in
      let some : 0 < length (callbacks (front (listed now cpu))) =
      omega (arith, rest, length-drop i (callbacks (front (listed e cpu)))) in
      some_first (callbacks (front (listed now cpu))) some is

  -- its value is written behind theirs
  pub wrote_more : (call : Queued ℕ) (values : List ℕ)
      → Some call ≡ slice_get (take_answer (listed now cpu) 1) 0
      → i < length values
      → take i values ≡ map (λ call. call.value) (take_answer (listed e cpu) i)
      → take (i + 1) (slice_set values i call.value)
      ≡ map (λ call. call.value) (take_answer (listed e cpu) (i + 1))
  wrote_more call values is inside same =
      take_more_set values i call.value inside ∙ (ap (λ l. l ++ call.value ∷ []) same
      ∙ sym (ap (map (λ call. call.value)) (took_more call is)
      ∙ map-append (λ call. call.value) (take_answer (listed e cpu) i) (call ∷ [])))

  -- it waited as they did
  pub waited_more : (n : ℕ) (call : Queued ℕ)
      → Some call ≡ slice_get (take_answer (listed now cpu) 1) 0
      → HasWaited n call.at
      → All (λ call. HasWaited n call.at) (take_answer (listed e cpu) i)
      → All (λ call. HasWaited n call.at) (take_answer (listed e cpu) (i + 1))
  waited_more n call is waited so =
      rw (took_more call is)
      (All-push (λ call. HasWaited n call.at) (take_answer (listed e cpu) i) call so waited)
