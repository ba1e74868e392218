-- After a step of a part, the part sees the seat as after its own step.
use Rattle.std.proofs.Common.{◌≡◌, ℕ, ap, ◌∙◌, subst, sym}
use Rattle.rcu_seq.specs.Numbers.{Number}
use Rattle.rcu_live.specs.CpuSeat.{Seated}
use Rattle.rcu_live.specs.CpuSeat as cpu_seat
use Rattle.rcu_live.specs.InPart.{seat_part, view_part, watcher_part}
use Rattle.rcu_live.specs.Several.{Lens, of_part}
use Rattle.rcu_live.specs.View.{after_load, with_client}
use Rattle.rcu_live.specs.Watcher.{KnowsBy, Watching, after_number_step, after_word_step}
use Rattle.rcu_live.specs.declared.view.View.{View}

module _ {D C : Type 0} (lens : Lens D C) (got : (d : D) (c : C) → lens.get (lens.set d c) ≡ c)
    (stays : (base : ℕ) (d : D) (c : C) → lens.begins base (lens.set d c) ≡ lens.begins base d)
  where
    -- with this start of the part's words, and this knowledge about the part
    abbrev with_part : View D → ℕ → C → View C
    with_part v base c = record (view_part lens v) { base = base; client = c }

    view_with : (v : View D) (c : C)
        → view_part lens (with_client v (lens.set v.client c)) ≡ with_client (view_part lens v) c
    view_with v c = λ i. with_part v (stays v.base v.client c i) (got v.client c i)

    pub seat_with : (s t : Seated D)
        → t ≡ cpu_seat.after_word_step s (lens.set s.view.client (lens.get t.view.client))
        → seat_part lens t ≡ cpu_seat.after_word_step (seat_part lens s) (lens.get t.view.client)
    seat_with s t same =
        ap (seat_part lens) same
        ∙ ap (λ (v : View C). record (seat_part lens s) { view = v })
        (view_with s.view (lens.get t.view.client))

    pub watcher_with : (w x : Watching D)
        → x ≡ after_word_step w (lens.set w.view.client (lens.get x.view.client))
        → watcher_part lens x ≡ after_word_step (watcher_part lens w) (lens.get x.view.client)
    watcher_with w x same =
        ap (watcher_part lens) same
        ∙ ap (λ (v : View C). record (watcher_part lens w) { view = v })
        (view_with w.view (lens.get x.view.client))

    pub watcher_looks : (w x : Watching D) (n : Number)
        → x ≡ after_number_step w n (lens.set w.view.client (lens.get x.view.client))
        → watcher_part lens x ≡ after_number_step (watcher_part lens w) n (lens.get x.view.client)
    watcher_looks w x n same =
        ap (watcher_part lens) same
        ∙ ap (λ (v : View C). record (watcher_part lens w) { view = v })
        (view_with (after_load w.view n) (lens.get x.view.client))

    -- a relation of a step on the whole is one on the part
    pub seat_knows : (tells : C → C → Type 0) (s t : Seated D)
        → cpu_seat.KnowsBy (of_part lens tells) s t
        → cpu_seat.KnowsBy tells (seat_part lens s) (seat_part lens t)
    seat_knows tells s t k = record {
      state = seat_with s t (k.state ∙ ap (cpu_seat.after_word_step s) k.told.0);
      told = k.told.1;
    }

    pub watcher_knows : (tells : C → C → Type 0) (w x : Watching D)
        → KnowsBy (of_part lens tells) w x
        → KnowsBy tells (watcher_part lens w) (watcher_part lens x)
    watcher_knows tells w x k = record {
      state = watcher_with w x (k.state ∙ ap (after_word_step w) k.told.0);
      told = k.told.1;
    }

-- a step of a part behind another is one of it
pub seat_again : {D C : Type 0} (lens : Lens D C)
    (again : (d : D) (c e : C) → lens.set (lens.set d c) e ≡ lens.set d e)
    (start old new : Seated D)
    → old ≡ cpu_seat.after_word_step start (lens.set start.view.client (lens.get old.view.client))
    → new ≡ cpu_seat.after_word_step old (lens.set old.view.client (lens.get new.view.client))
    → new ≡ cpu_seat.after_word_step start (lens.set start.view.client (lens.get new.view.client))
seat_again {D} lens again start old new was hop =
    hop
    ∙ ap (λ (s : Seated D).
    cpu_seat.after_word_step s (lens.set s.view.client (lens.get new.view.client))) was
    ∙ ap (cpu_seat.after_word_step start)
    (again start.view.client (lens.get old.view.client) (lens.get new.view.client))

-- and a seat that is as one behind such a step
pub seat_same : {D C : Type 0} (lens : Lens D C) (start old new : Seated D) → new ≡ old
    → old ≡ cpu_seat.after_word_step start (lens.set start.view.client (lens.get old.view.client))
    → new ≡ cpu_seat.after_word_step start (lens.set start.view.client (lens.get new.view.client))
seat_same {D} lens start old new same was = subst (λ (s : Seated D).
    s ≡ cpu_seat.after_word_step start (lens.set start.view.client (lens.get s.view.client)))
    (sym same) was
