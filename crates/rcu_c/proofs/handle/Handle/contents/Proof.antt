-- `held` lends the contents of the box behind an open handle, and the handle follows it.
use mathlib.Core.Path.{◌≡◌, refl}
use Prim.Native.Nat.{ℕ}
use mathlib.Core.List.{List, [], ◌∷◌}
use seplogic.Ra.Ura.{Ura}
use base.Fraction.{full_share}
use mir.Syntax.{named}
use mir.Val.{Val, vptr}
use base.Logic.{SProp, ent, sep, via, fst∗, id⊢}
use base.Fml.{Lft, GName, Share, Fml, ftrue, flft, fsep}
use prog.Memory.{Memory}
use prog.Routine.{Routine}
use prog.Wp.{Env, Calls, Loops, WpFn, Tables}
use types.Logic.{Logic, sem}
use sound.WpLaws.{WpFn-mono}
use contract.Monad.{Fun, fact}
use contract.Running.{tables, tables_of}
use types.Kit.{‵, ◌⊛◌, some, at_ret, ◌$◌, ◌∵◌, !, qed, by, move, keep, use1, drop, split, join}
use types.Kit.{pick, rewrite, fsplit, fsplit3, fjoin, suffices, frame, done, raw, later, await}
use types.Kit.{group, fpack}
use types.Part.{whole, sub, look_in}
use types.Run.{stop, fld, load, of_opd, first, blocks, exec, returns, enter, addr}
use types.ByLocal.{alloc_all, pass_all, free_all, look_at, get, through, sets, env, sets_last}
use denote.RattleType.{RattleType, owns}
use denote.Memory.{part_at, mem, cell_at, part_of}
use denote.RawPtr.{Ptr, block_ptr}
use denote.Ref.{MutRef, mut_vals, mut_Tells}
use denote.Signature.{plain, mut_ref_to}
use denote.Steps.{opens, heard, nothing}
use denote.Triple.Entry.{on_entry}
use denote.Triple.Spec.{Meets, triple_of}
use denote.Triple.Table.{entered}
use denote.Triple.Walked.{says, Stays, stay_dropped, walk_of, ends_at, walked, walk_Meets}
use denote.Triple.Walked.{Goes-spent_ref}
use denote.Exit.{no}
use denote.Follow.{follows, Part, lends_Part}
use mir.Raw.{raw as bare}
use Rattle.std.specs.Prelude.{Option, Some, None, IsSome}
use Rattle.std.specs.Global.{Global}
use Rattle.std.proofs.lemmas.Bool.{false≢true}
use Rattle.core.proofs.alloc.Calls.{token}
use Rattle.std_alloc.proofs.VecSteps.Shapes.{after}
use Rattle.std_alloc.proofs.BoxSteps.Form.{X, R, B, D, τ, word, handle}
use Rattle.std_alloc.proofs.BoxSteps.Steps.{box_out, box_in}
use Rattle.rcu_c.proofs.AsBox.{E}
use Rattle.rcu_c.specs.Lending.{with_contents}
use Rattle.rcu_c.specs.contracts.contents.Contents as Contents
use Rattle.rcu_c.specs.contracts.handle.Handle as Handle
use Rattle.rcu_c.specs.contracts.handle.Handle.contents as F
use Rattle.rcu_c.specs.contracts.handle.Handle.contents.Key.{name as #self}
use Rattle.rcu_c.proofs.handle.Handle.contents.Statement as stated
use Rattle.rcu_c.proofs.handle.Handle.contents.Code as code

abbrev L : RattleType
L = Handle.the_row

abbrev T : RattleType
T = Contents.the_row

abbrev stayed : Stays (F.ended).signature.params (F.ended).kept
stayed = (stay_dropped (mut_ref_to (0 ∷ []) tt (plain (λ _. L))) no, tt)

module _ {M : Type 1} {𝓤 : Ura M} (𝓛 : Logic 𝓤) (at_mem : Memory → SProp 𝓤) (run : Routine → Fun 𝓤)
    (κ : Lft) (q : Share) (rb ro : ℕ) (γ : GName) (p : Ptr) (al : Global) where
  open 𝓛 use {H, A}

  abbrev bound : Option (X E) → (walk_of 𝓛 F.ended stayed (F.clauses 𝓛 at_mem run)).Ghost
  bound m = (
    (
      (κ, tt),
      (q, tt),
      tt,
      (
        record {
          ref_ptr = (rb, ro);
          ghost_name = γ;
          now = record { at = p; alloc = al; contents = m };
        },
        tt,
      ),
      (vptr rb ro ∷ [], tt),
    ),
    tt,
  )

  abbrev Entry : Option (X E) → SProp 𝓤
  Entry m = on_entry 𝓛 F.signature (κ, tt) (q, tt) (
    record {
      ref_ptr = (rb, ro);
      ghost_name = γ;
      now = record { at = p; alloc = al; contents = m };
    },
    tt,
  )
      (vptr rb ro ∷ [], tt)

  abbrev Post : Option (X E) → Val → SProp 𝓤
  Post m = (walk_of 𝓛 F.ended stayed (F.clauses 𝓛 at_mem run)).post (bound m)

  module _ (x : X E) where
    abbrev h : L.Denot
    h = record { at = p; alloc = al; contents = Some x }

    abbrev v : D E
    v = record { ptr = p; alloc = al; value = x }

    module _ (b o : ℕ) (hv : Val) where
      -- all of the handle but its contents
      abbrev Rest : Fml
      Rest = fsep (fsep (token E.al al (bare (τ E)) (block_ptr b o)) (handle E al hv))
          (cell_at full_share L.mir (word E hv b o ∷ []) rb ro)

      back : p ≡ block_ptr b o
          → (w : X E)
          → ent 𝓤 (sep 𝓤 (sem 𝓛 ((mem T).own_at w b o)) (sem 𝓛 Rest))
          (sem 𝓛 ((mem L).own_at (with_contents h w) rb ro))
      unfolding part_of
      back at_b w =
          qed 𝓛 (‵ (part_at (R E) full_share w b o) ∷ ‵ Rest ∷ []) ∵
          move ! (1 ∷ []) $ fsplit ! $ fsplit ! $ move ! (3 ∷ []) $
          box_in E ! (record { ptr = p; alloc = al; value = w }) b o w at_b refl $
          move ! (1 ∷ 0 ∷ []) $ fjoin ! $
          fpack ! (List Val)
          (λ us. fsep (cell_at full_share L.mir us rb ro) (L.own_val (with_contents h w) us))
          (word E hv b o ∷ []) $ done !

      exits : (γ' : GName)
          → ent 𝓤
          (sep 𝓤
          (sem 𝓛
          ((MutRef (named 0) κ T).own_val (record { ref_ptr = (b, o); ghost_name = γ'; now = x })
          (vptr b o ∷ [])))
          (sep 𝓤 (A.lft κ q) (sem 𝓛 (follows L T γ γ' (with_contents h)))))
          (Post (Some x) (vptr b o))
      exits γ' =
          qed 𝓛
          (‵ ((MutRef (named 0) κ T).own_val (record { ref_ptr = (b, o); ghost_name = γ'; now = x })
          (vptr b o ∷ []))
          ∷ ‵ (flft κ q) ∷ ‵ (follows L T γ γ' (with_contents h)) ∷ []) ∵
          suffices ! _
          (ends_at 𝓛 F.ended stayed (F.clauses 𝓛 at_mem run) (bound (Some x)) (vptr b o)
          (record { ref_ptr = (b, o); ghost_name = γ'; now = x }) (tt, tt) (tt, tt)) $ nothing ! $
          nothing ! $ fjoin ! $ join ! $ nothing ! $ move ! (2 ∷ 0 ∷ []) $ join ! $ join ! $
          frame ! $ says ! refl $ done !

    module _ (C : Calls 𝓤 H) (Λ : Loops 𝓤 H) where
      walk : ent 𝓤 (Entry (Some x)) (WpFn 𝓤 H C Λ code.function (vptr rb ro ∷ []) (Post (Some x)))
      walk =
          qed 𝓛 ((‵ (flft κ q) ⊛ ‵ ftrue) ∷ ‵
          (owns (MutRef (named 0) κ L ∷ [])
          (record { ref_ptr = (rb, ro); ghost_name = γ; now = h }, tt)
          (vptr rb ro ∷ [], tt)) ∷ []) ∵
          enter ! C Λ code.function (vptr rb ro ∷ []) _ $
          alloc_all ! (λ l. pass_all ! refl ((tt, tt), tt) $
          let En : Env 𝓤 H = env (code.function).locals l in
          move ! (1 ∷ []) $ fsplit ! $ fsplit3 ! $ drop ! $ move ! (3 ∷ []) $ split ! $
          move ! (2 ∷ 3 ∷ 0 ∷ []) $
          opens ! tt L {h = h} rb ro (λ vs. move ! (1 ∷ []) $
          use1 𝓛 (‵ ((B E).own_val v vs)) (id⊢ 𝓤 _) $ box_out E ! v vs (λ b o hv at_b ws fa.
          move ! (1 ∷ 2 ∷ []) $ fjoin ! $ move ! (1 ∷ []) $
          rewrite ! 2 (λ (us : List Val). ‵ (cell_at full_share L.mir us rb ro)) ws refl $
          first ! $ blocks ! $
          sets ! (of_opd ! (load ! (through ! refl (fld ! refl (stop !)))
          (look_in ! 2 (sub ! 0 refl (whole !))))) refl
          (tt, tt) $
          -- the cast
          sets ! (of_opd ! (get ! refl)) refl (tt, tt) $
          sets_last ! (addr ! (through ! refl (stop !))) refl (tt, tt) $
          exec ! C Λ En (after 1 (code.function).body) (at_ret En (Post (Some x))) $
          sets ! (of_opd ! (get ! refl)) refl (tt, tt) $
          move ! (1 ∷ 2 ∷ []) $ fjoin ! $ move ! (2 ∷ 3 ∷ 4 ∷ 1 ∷ 0 ∷ []) $ group ! 5 $
          use1 𝓛 (later (some (λ (γ' : GName). raw
          (Part 𝓛 L T (with_contents h) (named 0) κ q rb ro b o γ (sem 𝓛 (Rest b o hv))
          (back b o hv at_b) x γ'))))
          (lends_Part 𝓛 L T (with_contents h) (named 0) κ q rb ro b o γ (sem 𝓛 (Rest b o hv))
          (back b o hv at_b) (L.coded.code h) (L.coded.code h) x) $ await ! tt $ pick ! (λ γ'.
          returns ! (look_at ! 0 refl) $ free_all ! refl $
          keep ! (0 ∷ []) $ by ! (exits b o hv γ')))))

  module _ (C : Calls 𝓤 H) (Λ : Loops 𝓤 H) where
    at_each : (m : Option (X E))
        → ent 𝓤 (sep 𝓤 (Entry m) (fact 𝓤 (IsSome m)))
        (WpFn 𝓤 H C Λ code.function (vptr rb ro ∷ []) (Post m))
    at_each None =
        qed 𝓛 (raw (Entry None) ∷ raw (fact 𝓤 (IsSome {T = X E} None)) ∷ []) ∵ move ! (1 ∷ []) $
        heard ! (IsSome {T = X E} None) (λ e. absurd (false≢true e))
    at_each (Some x) = via 𝓤 _ (fst∗ 𝓤 _ (fact 𝓤 (IsSome (Some x)))) (walk x C Λ)

meets : {M : Type 1} {𝓤 : Ura M} (𝓛 : Logic 𝓤) (at_mem : Memory → SProp 𝓤) (run : Routine → Fun 𝓤)
    (𝓣 : Tables 𝓤 𝓛.H)
    → Meets 𝓛 F.signature (WpFn 𝓤 𝓛.H 𝓣.C 𝓣.Λ code.function) (F.spec 𝓛 at_mem run)
meets {𝓤 = 𝓤} 𝓛 at_mem run 𝓣 =
    walk_Meets 𝓛 F.ended stayed (Goes-spent_ref 𝓛 1 (0 ∷ []) tt (plain (λ _. L)), tt)
    (F.clauses 𝓛 at_mem run) (WpFn 𝓤 𝓛.H 𝓣.C 𝓣.Λ code.function)
    (WpFn-mono 𝓤 𝓛.H 𝓛.laws 𝓣 code.function)
    (walked 𝓛 F.ended stayed (F.clauses 𝓛 at_mem run) (WpFn 𝓤 𝓛.H 𝓣.C 𝓣.Λ code.function)
    (λ κs. (mut_vals, tt)) (λ κs. (mut_Tells (named 0) κs.0 L, tt))
    (λ κs qs bounds a g are. at_each 𝓛 at_mem run κs.0 qs.0 a.0.ref_ptr.0 a.0.ref_ptr.1
    a.0.ghost_name a.0.now.at a.0.now.alloc 𝓣.C 𝓣.Λ a.0.now.contents))

pub contents_spec : {M : Type 1} → stated.statement M
unfolding tables_of
contents_spec 𝓤 𝓛 𝓜 𝓡 wired =
    let 𝓣 : Tables 𝓤 𝓛.H = tables_of 𝓤 𝓛.H 𝓜 (tables 𝓤 𝓛.H 𝓜 𝓡 𝓡.env) in
    entered 𝓤 𝓛.H (triple_of 𝓛 F.signature (F.spec 𝓛 𝓜.mem 𝓡.returns)) 𝓣.C 𝓣.Λ #self code.function
    (code.unfolded 𝓤 𝓛.H 𝓜 𝓡 wired)
    (meets 𝓛 𝓜.mem 𝓡.returns 𝓣)
