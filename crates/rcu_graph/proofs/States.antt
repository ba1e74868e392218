-- States of nodes: a section that may be on a node in one state may go on to a node in another,
-- also after a load of the number.
use Rattle.std.proofs.Common.{◌≡◌, ◌≤◌, Bool, true, false, refl, sym, ◌∙◌, arith}
use Rattle.std.specs.Prelude.{if◌then◌else◌}
use Rattle.std.proofs.lemmas.Bool.Decides.{nat_tests}
use Rattle.rcu_seq.specs.Numbers.{Number}
use Rattle.rcu_live.specs.Numbers.{is_open_at, is_past}
use Rattle.rcu_live.proofs.ClientLemmas.{not_open_past}
use Rattle.rcu_live.proofs.ClientRows.{open_began}
use Rattle.rcu_graph.specs.Nodes.{IsBy, IsUsed, MayRead, Outlives, reclaimed_state}
use Rattle.rcu_graph.specs.declared.node_state.NodeState.{NodeState}
use Rattle.rcu_graph.specs.declared.node_state.NodeState.TheVariants.{Free, Live, Retired, Unlinked}

pub not_unlinked : (state : NodeState) → state ≡ Live → state ≡ Unlinked → ⊥
not_unlinked state a b = cc

pub not_both : (state : NodeState) → state ≡ Live → state ≡ Free → ⊥
not_both state a b = cc

pub may_follow : (at : Number) (from to : NodeState) → Outlives from to → MayRead at from
    → MayRead at to
may_follow at Free to o may = absurd may
may_follow at Live Free o may = absurd o
may_follow at Live Live o may = tt
may_follow at Live Unlinked o may = tt
may_follow at Live (Retired b) o may = absurd o
may_follow at Unlinked Free o may = absurd o
may_follow at Unlinked Live o may = tt
may_follow at Unlinked Unlinked o may = tt
may_follow at Unlinked (Retired b) o may = absurd o
may_follow at (Retired a) Free o may = absurd o
may_follow at (Retired a) Live o may = tt
may_follow at (Retired a) Unlinked o may = tt
may_follow at (Retired a) (Retired b) o may =
    let h : at ≤ a = may in let k : a ≤ b = o in omega (arith, h, k)

pub may_is_used : (at : Number) (st : NodeState) → MayRead at st → IsUsed st
may_is_used at Free may = may
may_is_used at Live may = tt
may_is_used at Unlinked may = tt
may_is_used at (Retired a) may = tt

pub none_outlives : (from : NodeState) → IsUsed from → Outlives from Free → ⊥
none_outlives Free used o = used
none_outlives Live used o = o
none_outlives Unlinked used o = o
none_outlives (Retired a) used o = o

pub live_outlived : (to : NodeState) → Outlives Live to → to ≡ Live
live_outlived Free o = absurd o
live_outlived Live o = refl
live_outlived Unlinked o = absurd o
live_outlived (Retired b) o = absurd o

true_false : true ≡ false → ⊥
true_false e = cc

-- a grace period that ended after the second number ended after the first
past_before : (a b n : Number) → a ≤ b → is_past b n ≡ true → is_past a n ≡ true
past_before a b n up past = grind (arith, nat_tests)

pub used_reclaimed : (n m : Number) (st : NodeState) → IsUsed (reclaimed_state n m st) → IsUsed st
used_reclaimed n m Free used = used
used_reclaimed n m Live used = tt
used_reclaimed n m Unlinked used = tt
used_reclaimed n m (Retired a) used = tt

pub live_reclaimed : (n m : Number) (st : NodeState) → reclaimed_state n m st ≡ Live → st ≡ Live
live_reclaimed n m Free e = e
live_reclaimed n m Live e = refl
live_reclaimed n m Unlinked e = absurd (cc)
live_reclaimed n m (Retired a) e = past (is_past a n) e
  where
    past : (b : Bool) → (if b then Free else Retired a) ≡ Live → Retired a ≡ Live
    past true e = absurd (cc)
    past false e = e

pub by_reclaimed : (n m latest : Number) (st : NodeState) → latest ≤ m → IsBy latest st
    → IsBy m (reclaimed_state n m st)
by_reclaimed n m latest Free up by = tt
by_reclaimed n m latest Live up by = tt
by_reclaimed n m latest Unlinked up by = omega arith
by_reclaimed n m latest (Retired a) up by = past (is_past a n)
  where
    past : (b : Bool) → IsBy m (if b then Free else Retired a)
    past true = tt
    past false = let h : a ≤ latest = by in omega (arith, h, up)

-- the heart: a node that is not free yet leads to none that is
pub outlives_reclaimed : (n m latest : Number) (from to : NodeState)
    → latest ≤ m → IsBy latest from → Outlives from to → IsUsed (reclaimed_state n m from)
    → Outlives (reclaimed_state n m from) (reclaimed_state n m to)
outlives_reclaimed n m latest Free to up by o used = absurd used
outlives_reclaimed n m latest Live Free up by o used = o
outlives_reclaimed n m latest Live Live up by o used = tt
outlives_reclaimed n m latest Live Unlinked up by o used = absurd o
outlives_reclaimed n m latest Live (Retired b) up by o used = absurd o
outlives_reclaimed n m latest Unlinked Free up by o used = absurd o
outlives_reclaimed n m latest Unlinked Live up by o used = tt
outlives_reclaimed n m latest Unlinked Unlinked up by o used = omega arith
outlives_reclaimed n m latest Unlinked (Retired b) up by o used = absurd o
outlives_reclaimed n m latest (Retired a) Free up by o used = absurd o
outlives_reclaimed n m latest (Retired a) Live up by o used = past (is_past a n) used
  where
    past : (x : Bool) → IsUsed (if x then Free else Retired a)
        → Outlives (if x then Free else Retired a) Live
    past true used = tt
    past false used = tt
outlives_reclaimed n m latest (Retired a) Unlinked up by o used = past (is_past a n) used
  where
    past : (x : Bool) → IsUsed (if x then Free else Retired a)
        → Outlives (if x then Free else Retired a) (Retired m)
    past true used = tt
    past false used = let h : a ≤ latest = by in omega (arith, h, up)
outlives_reclaimed n m latest (Retired a) (Retired b) up by o used =
    past (is_past a n) (is_past b n) refl refl used
  where
    past : (x y : Bool) → is_past a n ≡ x → is_past b n ≡ y → IsUsed (if x then Free else Retired a)
        → Outlives (if x then Free else Retired a) (if y then Free else Retired b)
    past true y e f used = absurd used
    past false true e f used = absurd (true_false (sym (past_before a b n o f) ∙ e))
    past false false e f used = o

-- an open section may be on a node after a load of the number, if it might before
pub may_reclaimed : (at n m : Number) (st : NodeState) → n ≤ m → is_open_at n at ≡ true
    → MayRead at st
    → MayRead at (reclaimed_state n m st)
may_reclaimed at n m Free up o may = may
may_reclaimed at n m Live up o may = tt
may_reclaimed at n m Unlinked up o may = let h = open_began n at o in omega (arith, h, up)
may_reclaimed at n m (Retired a) up o may = past (is_past a n) refl
  where
    past : (b : Bool) → is_past a n ≡ b → MayRead at (if b then Free else Retired a)
    past true is = absurd (true_false (sym o ∙ not_open_past at a n may is))
    past false is = may
