-- The consequences of the rule for a client: each open section may be open at the number, and a
-- processor has one seat.
use Rattle.std.proofs.Common.{◌≡◌, ℕ, zero, suc, ◌≤◌, List, [], ◌∷◌, Option, Some, get_or, map}
use Rattle.std.proofs.Common.{true, false, refl, sym, ap, ◌∙◌, arith}
use Rattle.std.proofs.lemmas.Bool.Decides.{nat_tests}
use mathlib.Core.Option.{some, some-injective, some-ne-none}
use lib.ListN.{get_elem?}
use Rattle.atomic_table.specs.Table.{State}
use Rattle.rcu_seq.specs.Numbers.{Number}
use Rattle.rcu_live.specs.Client.{AreLone, AreOpen, Views, ClientView}
use Rattle.rcu_live.specs.Numbers.{is_open_at, is_past}
use Rattle.rcu_live.specs.Rule.{Fits, IsKept}
use Rattle.rcu_live.specs.View.{if_cpu, client_view}
use Rattle.rcu_live.specs.declared.view.Role.{Role}
use Rattle.rcu_live.specs.declared.view.Role.TheVariants.{Asker, Cpu, Engine, Watcher}
use Rattle.rcu_live.specs.declared.view.View.{View}
use Rattle.rcu_live.proofs.Numbers.{open_at}

-- no grace period that began after a number has ended at it
pub not_past : (n : Number) → is_past n n ≡ false
not_past n = grind (arith, nat_tests)

-- a section that began by r is open at no number by which a grace period that began after r has
-- ended
pub not_open_past : (at r n : Number) → at ≤ r → is_past r n ≡ true → is_open_at n at ≡ false
not_open_past at r n up past = grind (arith, nat_tests)

-- a seat that shows a processor is a processor's seat
is_of_cpu : (role : Role) (o : Option ℕ) (a : ℕ) → if_cpu role o ≡ Some a
    → (role ≡ Cpu) × (o ≡ Some a)
is_of_cpu Cpu o a e = (refl, e)
is_of_cpu Watcher o a e = absurd (cc)
is_of_cpu Engine o a e = absurd (cc)
is_of_cpu Asker o a e = absurd (cc)

pub at_map_back : {A B : Type 0} (f : A → B) (l : List A) (j : ℕ) (b : B)
    → get_elem? (map f l) j ≡ some b → (a : A) × (get_elem? l j ≡ some a) × (f a ≡ b)
at_map_back f [] j b e = absurd (some-ne-none b (sym e))
at_map_back f (x ∷ xs) zero b e = (x, refl, some-injective _ _ e)
at_map_back f (x ∷ xs) (suc j) b e = at_map_back f xs j b e

the_same : {a b : ℕ} → Some a ≡ Some b → a ≡ b
the_same e = cc

module _ {C : Type 0} (holds : List ℕ → Views C → Type 0) where
  -- an open section may be open at the number
  pub are_open : (cpus : ℕ) (s : State (Unit {0}) (View C)) → IsKept holds cpus s
      → AreOpen (get_or s.words 0 0) (map client_view s.views)
  are_open cpus s k id at cpu c e =
      let t = at_map_back client_view s.views id (cpu, Some at, c) e in
      let v : View C = t.0 in
      let f : Fits cpus s.words k.owner k.engine k.own_word_loads id v = k.fits id v t.1 in
      let p = is_of_cpu v.role v.section at (ap (λ (x : ClientView C). x.1) t.2) in
      let sound = f.sound p.0 in
      let seen : v.seen ≤ get_or s.words 0 0 = f.seen in
      let began : at ≤ v.seen = sound.to_seen at p.1 in
      open_at (get_or s.words 0 0) at (omega (arith, seen, began)) (sound.current at p.1)

  owner_is : (cpus : ℕ) (s : State (Unit {0}) (View C)) (k : IsKept holds cpus s) (i cpu : ℕ)
      (o : Option ℕ)
      (c : C)
      → get_elem? (map client_view s.views) i ≡ some (Some cpu, o, c)
      → k.owner cpu ≡ i
  owner_is cpus s k i cpu o c e =
      let t = at_map_back client_view s.views i (Some cpu, o, c) e in
      let v : View C = t.0 in
      let f : Fits cpus s.words k.owner k.engine k.own_word_loads i v = k.fits i v t.1 in
      let r = is_of_cpu v.role (Some v.cpu) cpu (ap (λ (x : ClientView C). x.0) t.2) in
      ap k.owner (sym (the_same r.1)) ∙ f.own r.0

  -- a processor has one seat
  pub are_lone : (cpus : ℕ) (s : State (Unit {0}) (View C)) → IsKept holds cpus s
      → AreLone (map client_view s.views)
  are_lone cpus s k i j cpu o p c d e f =
      sym (owner_is cpus s k i cpu o c e) ∙ owner_is cpus s k j cpu p d f
