-- `is_open` reads the pointer: it is null if the handle is closed, and a block's if it is open.
use mathlib.Core.Path.{◌≡◌, refl, sym, subst, ap}
use Prim.Native.Nat.{ℕ}
use lib.Dec.{lit<}
use mathlib.Core.Bool.{Bool, true, false}
use mathlib.Core.List.{List, [], ◌∷◌, ◌++◌}
use seplogic.Ra.Ura.{Ura}
use base.Fraction.{full_share}
use mir.Syntax.{named}
use mir.Val.{Val, vptr, vnull, vbool, vstruct, vcons, vnil, of_list}
use base.Logic.{SProp, ent, emp, via, fst∗, id⊢, guard_i}
use base.Fml.{Lft, GName, Share, Fml, ftrue, flft, fobs, fbor}
use prog.Memory.{Memory}
use prog.Routine.{Routine}
use prog.Wp.{Calls, Loops, WpFn, Tables}
use types.Logic.{Logic, sem}
use sound.WpLaws.{WpFn-mono}
use contract.Monad.{Fun, fact, fact_i, fact_use}
use contract.Running.{tables, tables_of}
use types.Kit.{‵, ⋆, ◌⊛◌, given, ◌$◌, ◌∵◌, !, qed, by, move, keep, use0, use1, drop, split, join}
use types.Kit.{learn, rewrite, fsplit, fsplit3, fjoin, fjoin3, fpick, fpack, feq_l, feq_i, raw}
use types.SemTy.{Body}
use types.Part.{whole, sub, look_in}
use types.Run.{stop, fld, load, lit, un, bin, of_opd, returns, enter}
use types.ByLocal.{alloc_all, pass_all, free_all, look_at, get, through, sets}
use denote.RattleType.{RattleType, Valss, owns}
use denote.Memory.{mem, cell_at}
use denote.RawPtr.{Ptr, RawPtr, block_ptr, null_ptr, ptr_val, Testable, tests_null}
use denote.Ref.{MutRef, mut_at, mut_vals, mut_Tells}
use denote.Signature.{plain}
use denote.Steps.{opens, closes, nothing}
use denote.Struct.Owning.{shape, to}
use denote.Struct.Struct.{within}
use denote.Triple.Entry.{on_entry}
use denote.Triple.Spec.{Meets, triple_of}
use denote.Triple.Table.{entered}
use denote.Triple.Walked.{Stays, stay_ref, walk_of, walked, walk_Meets, Goes-ref}
use mir.Raw.{raw as bare}
use Rattle.std.specs.Prelude.{Option, Some, None, is_some}
use Rattle.std.specs.Global.{Global}
use Rattle.std.proofs.raw_atomic.Walks.{leaves}
use Rattle.std.proofs.GlobalToken.{dealloc_token-Testable}
use Rattle.core.proofs.alloc.Calls.{token, handle_tells}
use Rattle.std_alloc.proofs.BoxSteps.Form.{X, P, B, D, τ, word}
use Rattle.std_alloc.proofs.BoxSteps.Steps.{box_out, box_in}
use Rattle.rcu_c.proofs.AsBox.{E}
use Rattle.rcu_c.specs.contracts.handle.Handle as Handle
use Rattle.rcu_c.specs.contracts.handle.Handle.is_open as F
use Rattle.rcu_c.specs.contracts.handle.Handle.is_open.Key.{name as #self}
use Rattle.rcu_c.proofs.handle.Handle.is_open.Statement as stated
use Rattle.rcu_c.proofs.handle.Handle.is_open.Code as code

abbrev L : RattleType
L = Handle.the_row

abbrev stayed : Stays (F.ended).signature.params (F.ended).kept
stayed = (stay_ref (0 ∷ []) tt (plain (λ _. L)), tt)

-- a closed handle as the machine has it
abbrev closed_word : Val → Val
closed_word hv = vstruct (vcons vnull (vcons hv vnil))

module _ {M : Type 1} {𝓤 : Ura M} (𝓛 : Logic 𝓤) (at_mem : Memory → SProp 𝓤) (run : Routine → Fun 𝓤)
    (κ : Lft) (q : Share) (rb ro : ℕ) (γ : GName) (p : Ptr) (al : Global) where
  open 𝓛 use {H}

  abbrev h : Option (X E) → L.Denot
  h m = record { at = p; alloc = al; contents = m }

  abbrev bound : Option (X E) → (walk_of 𝓛 F.ended stayed (F.clauses 𝓛 at_mem run)).Ghost
  bound m = (
    (
      (κ, tt),
      (q, tt),
      tt,
      (record { ref_ptr = (rb, ro); ghost_name = γ; now = h m }, tt),
      (vptr rb ro ∷ [], tt),
    ),
    tt,
  )

  abbrev Entry : Option (X E) → SProp 𝓤
  Entry m = on_entry 𝓛 F.signature (κ, tt) (q, tt)
      (record { ref_ptr = (rb, ro); ghost_name = γ; now = h m }, tt) (vptr rb ro ∷ [], tt)

  abbrev Post : Option (X E) → Val → SProp 𝓤
  Post m = (walk_of 𝓛 F.ended stayed (F.clauses 𝓛 at_mem run)).post (bound m)

  abbrev Cell : List Val → Fml
  Cell us = cell_at full_share L.mir us rb ro

  -- the end: the handle is as it was, and the result shows its contents
  exits : (m : Option (X E)) (y : Bool)
      → y ≡ is_some m
      → ent 𝓤
      (⋆ 𝓛
      (‵ (mut_at {X = L.Denot} (record { ref_ptr = (rb, ro); ghost_name = γ; now = h m })
      (vptr rb ro ∷ []))
      ∷ ‵ (fobs γ (L.coded.code (h m))) ∷ ‵ (fbor κ (Body (mem L) rb ro γ)) ∷ ‵ (flft κ q) ∷ []))
      (Post m (vbool y))
  exits m y told =
      qed 𝓛
      (‵ (mut_at {X = L.Denot} (record { ref_ptr = (rb, ro); ghost_name = γ; now = h m })
      (vptr rb ro ∷ []))
      ∷ ‵ (fobs γ (L.coded.code (h m))) ∷ ‵ (fbor κ (Body (mem L) rb ro γ)) ∷ ‵ (flft κ q) ∷ []) ∵
      fjoin3 ! $ nothing ! $ move ! (1 ∷ 0 ∷ []) $ fjoin ! $ nothing ! $ move ! (2 ∷ 0 ∷ []) $
      join ! $ use0 𝓛 (raw (fact 𝓤 (y ≡ is_some m))) (fact_i 𝓤 (y ≡ is_some m) (emp 𝓤) told) $
      use0 𝓛 (raw (fact 𝓤 (h m ≡ h m))) (fact_i 𝓤 (h m ≡ h m) (emp 𝓤) refl) $ move ! (1 ∷ 0 ∷ []) $
      join ! $ feq_i ! (List Val) (vbool y ∷ []) (vbool y ∷ []) refl $ move ! (2 ∷ 3 ∷ 0 ∷ 1 ∷ []) $
      by !
      (leaves 𝓛 F.ended stayed (F.clauses 𝓛 at_mem run) (bound m) (vbool y) y (h m, tt) (tt, tt))

  module _ (C : Calls 𝓤 H) (Λ : Loops 𝓤 H) where
    walk : (m : Option (X E))
        → ent 𝓤 (Entry m) (WpFn 𝓤 H C Λ code.function (vptr rb ro ∷ []) (Post m))
    walk None =
        let hn : L.Denot = h None in
        qed 𝓛
        ((‵ (flft κ q) ⊛ ‵ ftrue)
        ∷ ‵ (owns (MutRef (named 0) κ L ∷ [])
        (record { ref_ptr = (rb, ro); ghost_name = γ; now = hn }, tt) (vptr rb ro ∷ [], tt))
        ∷ []) ∵
        enter ! C Λ code.function (vptr rb ro ∷ []) _ $
        alloc_all ! (λ l.
        pass_all ! refl ((tt, tt), tt) $ move ! (1 ∷ []) $ fsplit ! $ fsplit3 ! $ move ! (4 ∷ []) $
        split ! $ move ! (3 ∷ 4 ∷ 0 ∷ []) $
        opens ! tt L {h = hn} rb ro (λ us.
        move ! (1 ∷ []) $ fsplit ! $
        fpick ! (λ vss.
        fsplit ! $
        feq_l ! (λ ev.
        fsplit ! $
        feq_l ! (λ ep.
        fsplit ! $
        handle_tells E.al ! al vss.1.0 (λ hv ea fa.
        move ! (1 ∷ []) $ drop ! $ move ! (1 ∷ []) $
        feq_l ! (λ en.
        let ws : us ≡ closed_word hv ∷ [] =
        subst (λ (r : Ptr). us ≡ vstruct (of_list (ptr_val r ∷ hv ∷ [])) ∷ []) en
        (subst (λ (ys : List Val). us ≡ vstruct (of_list (ptr_val p ∷ (ys ++ []))) ∷ []) ea
        (subst (λ (ps : List Val). us ≡ vstruct (of_list (ps ++ (vss.1.0 ++ []))) ∷ []) ep ev)) in
        rewrite ! 1 (λ (ys : List Val). ‵ (Cell ys)) ws refl $
        sets !
        (of_opd !
        (load ! (through ! refl (fld ! refl (stop !))) (look_in ! 1 (sub ! 0 refl (whole !)))))
        refl (tt, record { fits = lit< tt }) $
        sets ! (bin ! (get ! refl) (lit ! tt) (tests_null null_ptr (lit< tt))) refl (tt, tt) $
        sets ! (un ! (get ! refl) tt) refl (tt, tt) $
        let w : Val = closed_word hv in
        feq_i ! Ptr p null_ptr en $ nothing ! $ move ! (2 ∷ 0 ∷ []) $ fjoin ! $
        feq_i ! (List Val) (vnull ∷ []) (ptr_val p ∷ [])
        (ap (λ (r : Ptr). ptr_val r ∷ []) (sym en)) $ fjoin ! $
        feq_i ! (List Val) (w ∷ []) (w ∷ []) refl $ fjoin ! $
        fpack ! (Valss (RawPtr ∷ P E ∷ []))
        (within (shape Handle.the_type) (to Handle.the_type hn) (w ∷ []))
        (vnull ∷ [], (hv ∷ [], tt)) $ fjoin ! $ use1 𝓛 (‵ (L.own_val hn (w ∷ []))) (id⊢ 𝓤 _) $
        move ! (1 ∷ 0 ∷ []) $ closes ! tt L hn (w ∷ []) rb ro $ returns ! (look_at ! 0 refl) $
        free_all ! refl $ keep ! (4 ∷ 0 ∷ 1 ∷ 2 ∷ []) $ by ! (exits None false refl))))))))
    walk (Some x) =
        let v : D E = record { ptr = p; alloc = al; value = x } in
        let hs : L.Denot = h (Some x) in
        qed 𝓛
        ((‵ (flft κ q) ⊛ ‵ ftrue)
        ∷ ‵ (owns (MutRef (named 0) κ L ∷ [])
        (record { ref_ptr = (rb, ro); ghost_name = γ; now = hs }, tt) (vptr rb ro ∷ [], tt))
        ∷ []) ∵
        enter ! C Λ code.function (vptr rb ro ∷ []) _ $
        alloc_all ! (λ l.
        pass_all ! refl ((tt, tt), tt) $ move ! (1 ∷ []) $ fsplit ! $ fsplit3 ! $ move ! (4 ∷ []) $
        split ! $ move ! (3 ∷ 4 ∷ 0 ∷ []) $
        opens ! tt L {h = hs} rb ro (λ us.
        move ! (1 ∷ []) $ use1 𝓛 (‵ ((B E).own_val v us)) (id⊢ 𝓤 _) $
        box_out E ! v us (λ b o hv at_b ws fa.
        rewrite ! 3 (λ (ys : List Val). ‵ (Cell ys)) ws refl $
        let tok : Fml = token E.al al (bare (τ E)) (block_ptr b o) in
        move ! (1 ∷ []) $
        use1 𝓛 (given (Testable (block_ptr b o)) (‵ tok))
        (fact_use 𝓤 (Testable (block_ptr b o))
        (dealloc_token-Testable 𝓛 al (bare (τ E)) (block_ptr b o))
        (guard_i 𝓤 (Testable (block_ptr b o)) (sem 𝓛 tok))) $
        learn ! (λ t.
        sets !
        (of_opd !
        (load ! (through ! refl (fld ! refl (stop !))) (look_in ! 3 (sub ! 0 refl (whole !)))))
        refl (tt, tt) $
        sets ! (bin ! (get ! refl) (lit ! tt) (tests_null (block_ptr b o) t)) refl (tt, tt) $
        sets ! (un ! (get ! refl) tt) refl (tt, tt) $ move ! (1 ∷ 0 ∷ []) $
        box_in E ! v b o x at_b refl $ use1 𝓛 (‵ (L.own_val hs (word E hv b o ∷ []))) (id⊢ 𝓤 _) $
        move ! (1 ∷ 0 ∷ []) $ closes ! tt L hs (word E hv b o ∷ []) rb ro $
        returns ! (look_at ! 0 refl) $ free_all ! refl $ keep ! (4 ∷ 0 ∷ 1 ∷ 2 ∷ []) $
        by ! (exits (Some x) true refl)))))

meets : {M : Type 1} {𝓤 : Ura M} (𝓛 : Logic 𝓤) (at_mem : Memory → SProp 𝓤) (run : Routine → Fun 𝓤)
    (𝓣 : Tables 𝓤 𝓛.H)
    → Meets 𝓛 F.signature (WpFn 𝓤 𝓛.H 𝓣.C 𝓣.Λ code.function) (F.spec 𝓛 at_mem run)
meets {𝓤 = 𝓤} 𝓛 at_mem run 𝓣 =
    walk_Meets 𝓛 F.ended stayed (Goes-ref 𝓛 1 0 tt (plain (λ _. L)), tt) (F.clauses 𝓛 at_mem run)
    (WpFn 𝓤 𝓛.H 𝓣.C 𝓣.Λ code.function) (WpFn-mono 𝓤 𝓛.H 𝓛.laws 𝓣 code.function)
    (walked 𝓛 F.ended stayed (F.clauses 𝓛 at_mem run) (WpFn 𝓤 𝓛.H 𝓣.C 𝓣.Λ code.function)
    (λ κs. (mut_vals, tt)) (λ κs. (mut_Tells (named 0) κs.0 L, tt))
    (λ κs qs bounds a g are. via 𝓤 _ (fst∗ 𝓤 _ (emp 𝓤))
    (walk 𝓛 at_mem run κs.0 qs.0 a.0.ref_ptr.0 a.0.ref_ptr.1 a.0.ghost_name a.0.now.at a.0.now.alloc
    𝓣.C 𝓣.Λ a.0.now.contents)))

pub is_open_spec : {M : Type 1} → stated.statement M
unfolding tables_of
is_open_spec 𝓤 𝓛 𝓜 𝓡 wired =
    let 𝓣 : Tables 𝓤 𝓛.H = tables_of 𝓤 𝓛.H 𝓜 (tables 𝓤 𝓛.H 𝓜 𝓡 𝓡.env) in
    entered 𝓤 𝓛.H (triple_of 𝓛 F.signature (F.spec 𝓛 𝓜.mem 𝓡.returns)) 𝓣.C 𝓣.Λ #self code.function
    (code.unfolded 𝓤 𝓛.H 𝓜 𝓡 wired)
    (meets 𝓛 𝓜.mem 𝓡.returns 𝓣)
