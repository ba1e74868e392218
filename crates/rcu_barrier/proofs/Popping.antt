-- Runs of one processor, one after another.
use Rattle.std.proofs.Common.{◌≡◌, ℕ, ◌+◌, ◌<◌, ◌≤◌, ◌⊎◌, inl, inr, [], length, get_or, ap}
use Rattle.std.proofs.Common.{sym, ◌∙◌, arith}
use Rattle.std.proofs.lemmas.List.{get_or-set_same, get_or_past, set-set, set_past}
use Rattle.std.specs.Prelude.{List, Option, Some, None, option_map, slice_get}
use Rattle.rcu_cblist.specs.SegList.{Item, after_take, markers_passed, pop_answer, take_answer}
use Rattle.rcu_cblist.specs.declared.items.Queued.{Queued}
use Rattle.rcu_cblist.proofs.Popping.{left_both}
use Rattle.rcu_barrier.specs.Lists.{AllLists, list_of, lists_after_run, with_list}

-- how many markers a callback that was taken alone passed
pub popped_count : {X : Type 0} (xs : List (Item X)) (call : Queued X) (n : ℕ) →
    Some (call, n) ≡ pop_answer xs → n ≡ markers_passed xs 1
popped_count {X} xs call n is = at (slice_get (take_answer xs 1) 0) (ap (option_map second) is)
  where
    second : Queued X × ℕ → ℕ
    second popped = popped.1

    counted : Queued X → Queued X × ℕ
    counted call = (call, markers_passed xs 1)

    at : (first : Option (Queued X)) → Some n ≡ option_map second (option_map counted first) →
        n ≡ markers_passed xs 1
    at None is = absurd cc
    at (Some call) is = cc

module _ {X : Type 0} (all : AllLists X) (cpu a : ℕ) where
  -- the list after a run, which is empty if the processor does not exist
  pub list_left : list_of (lists_after_run all cpu a) cpu ≡ after_take (list_of all cpu) a
  list_left = by_order (order cpu (length all.lists))
    where
      order : (m n : ℕ) → (m < n) ⊎ (n ≤ m)
      order m n = grind arith

      by_order : (cpu < length all.lists) ⊎ (length all.lists ≤ cpu) →
          list_of (lists_after_run all cpu a) cpu ≡ after_take (list_of all cpu) a
      by_order (inl inside) =
          get_or-set_same all.lists cpu (after_take (list_of all cpu) a) [] inside
      by_order (inr past) =
          ap (λ l. get_or l cpu []) (set_past all.lists cpu (after_take (list_of all cpu) a) past)
          ∙ (get_or_past all.lists cpu [] past
          ∙ ap (λ xs. after_take xs a) (sym (get_or_past all.lists cpu [] past)))

  -- two runs leave what one run of both limits together leaves
  pub runs_both : (b : ℕ)
      → lists_after_run all cpu (a + b) ≡ lists_after_run (lists_after_run all cpu a) cpu b
  runs_both b =
      ap (with_list all cpu)
      (left_both a b (list_of all cpu) ∙ ap (λ xs. after_take xs b) (sym list_left))
      ∙ ap (λ l. record all { lists = l })
      (sym (set-set all.lists cpu (after_take (list_of all cpu) a)
      (after_take (list_of (lists_after_run all cpu a) cpu) b)))
