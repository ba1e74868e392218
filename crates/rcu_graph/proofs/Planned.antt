-- A step that a rule without the plan allows is also allowed by the rule with it.
use Rattle.std.proofs.Common.{◌≡◌, ◌<◌, ℕ, zero, suc, List, [], ◌∷◌, Option, Some, refl}
use Rattle.std.proofs.Common.{sym, ap, ◌∙◌, subst, map}
use Rattle.std.proofs.lemmas.List.{map-set}
use Rattle.std.specs.Prelude.{slice_index, slice_set}
use mathlib.Core.Option.{some, some-injective, some-ne-none}
use lib.ListN.{get_elem?}
use Rattle.atomic_table.proofs.Lists.{at_map}
use Rattle.rcu_seq.specs.Numbers.{Number}
use Rattle.rcu_live.specs.Board.{Object}
use Rattle.rcu_live.specs.Client.{AllowsNumber, AllowsWord, AreLone, AreOpen, ClientView}
use Rattle.rcu_live.specs.Client.{Views}
use Rattle.rcu_live.proofs.ClientLemmas.{at_map_back}
use Rattle.rcu_graph.specs.Nodes.{IsOn, place_of}
use Rattle.rcu_graph.specs.Planned.{IsKeptBy, IsPlanned, knowing, tells_follow, tells_word}
use Rattle.rcu_graph.specs.Planned.{told_after, unplanned}
use Rattle.rcu_graph.specs.Rule.{IsKept}
use Rattle.rcu_graph.specs.Steps.{Followed, IsFollowed}
use Rattle.rcu_graph.specs.declared.known.Known.{Known}
use Rattle.rcu_graph.specs.declared.known.Planned.{Planned}
use Rattle.rcu_graph.specs.declared.plan.Plan.{Plan}

still_open : (number : Number) (xs : Views Planned) → AreOpen number xs
    → AreOpen number (map unplanned xs)
still_open number xs are id at cpu c e =
    let t = at_map_back unplanned xs id (cpu, Some at, c) e in
    let x : ClientView Planned = t.0 in
    are id at x.0 x.2
    (subst (λ (section : Option Number). get_elem? xs id ≡ some (x.0, section, x.2))
    (ap (λ (y : ClientView Known). y.1) t.2) t.1)

still_lone : (xs : Views Planned) → AreLone xs → AreLone (map unplanned xs)
still_lone xs lone i j cpu o p c d e f =
    let t = at_map_back unplanned xs i (Some cpu, o, c) e in
    let u = at_map_back unplanned xs j (Some cpu, p, d) f in
    let x : ClientView Planned = t.0 in
    let y : ClientView Planned = u.0 in
    lone i j cpu x.1 y.1 x.2 y.2
    (subst (λ (who : Option ℕ). get_elem? xs i ≡ some (who, x.1, x.2))
    (ap (λ (z : ClientView Known). z.0) t.2) t.1)
    (subst (λ (who : Option ℕ). get_elem? xs j ≡ some (who, y.1, y.2))
    (ap (λ (z : ClientView Known). z.0) u.2) u.1)

-- at first one seat knows the plan
pub told_first : (x : ClientView Planned) (id : ℕ) (y : ClientView Planned)
    → get_elem? (x ∷ []) id ≡ some y → y.2.plan ≡ x.2.plan
told_first x zero y e = ap (λ (z : ClientView Planned). z.2.plan) (sym (some-injective _ _ e))
told_first x (suc id) y e = absurd (some-ne-none y (sym e))

module _ (holds : List ℕ → Views Known → Type 0) (plan : Plan)
    (cpu section : Option ℕ) (was : Planned) where
  -- a seat knows something else of the nodes, by which the rule holds of these words
  knows_else : (words new : List ℕ) (xs : Views Planned) (id : ℕ)
      (known : Known)
      → IsPlanned holds plan words xs
      → get_elem? xs id ≡ some (cpu, section, was)
      → holds new (slice_set (map unplanned xs) id (cpu, section, known))
      → IsPlanned holds plan new (slice_set xs id (cpu, section, knowing was known))
  knows_else words new xs id known h at kept =
      let after : ClientView Planned = (cpu, section, knowing was known) in
      record {
        told = told_after holds plan xs id after h.told (h.told id (cpu, section, was) at);
        kept = subst (holds new) (sym (map-set unplanned xs id after)) kept;
      }

  pub allows_word : (place : ℕ) (change : ℕ → ℕ) (tells : ℕ → Known → Type 0)
      → AllowsWord holds cpu section was.known place change tells
      → AllowsWord (IsPlanned holds plan) cpu section was place change
      (λ x now. (now.plan ≡ was.plan) × tells x now.known)
  allows_word place change tells allowed number words xs id h are lone at =
      let r = allowed number words (map unplanned xs) id h.kept (still_open number xs are)
      (still_lone xs lone) (at_map unplanned xs id (cpu, section, was) at) in (
        knowing was r.0,
        knows_else words (slice_set words place (change (slice_index words place))) xs id r.0
            h at r.1,
        (refl, r.2),
      )

  pub allows_number : (tells : Number → Known → Type 0)
      → AllowsNumber holds cpu section was.known tells
      → AllowsNumber (IsPlanned holds plan) cpu section was
      (λ n now. (now.plan ≡ was.plan) × tells n now.known)
  allows_number tells allowed number words xs id h are lone at =
      let r = allowed number words (map unplanned xs) id h.kept (still_open number xs are)
      (still_lone xs lone) (at_map unplanned xs id (cpu, section, was) at) in
      (knowing was r.0, knows_else words words xs id r.0 h at r.1, (refl, r.2))

-- a graph has the size of its engine's plan
pub same_plan : (graph live : Object Plan) (plan : Plan)
    → live ≡ graph → live.plan ≡ plan → graph.plan ≡ plan
same_plan graph live plan view is = ap (λ (o : Object Plan). o.plan) (sym view) ∙ is

-- the relation of a step by the plan, if that is known
pub told_at : (tells : Plan → ℕ → Known → ℕ → Known → Type 0) (place : ℕ) (was : Planned) (x : ℕ)
    (now : Planned) (plan : Plan)
    → was.plan ≡ plan → tells_word tells place was x now → tells plan place was.known x now.known
told_at tells place was x now plan e told =
    subst (λ (q : Plan). tells q place was.known x now.known) e told.1

module _ (fits : Plan → List ℕ → Type 0) (joins : Plan → ℕ → List ℕ → List ℕ → Type 0)
    (first : Plan → ℕ → List ℕ) (cpu section : Option ℕ) (was : Planned) (plan : Plan)
    (is : was.plan ≡ plan) where
  -- the rule of the nodes, in a graph as large as the seat knows
  abbrev kept : List ℕ → Views Known → Type 0
  kept = IsKept (fits was.plan) (joins was.plan) (first was.plan) was.plan.roots was.plan.links
      was.plan.words was.plan.nodes

  -- a step of a seat that knows how large the graph is
  pub word_at : (place : ℕ) (change : ℕ → ℕ) (tells : ℕ → Known → Type 0)
      → AllowsWord kept cpu section was.known place change tells
      → AllowsWord (IsKeptBy fits joins first plan) cpu section was place change
      (λ x now. (now.plan ≡ was.plan) × tells x now.known)
  word_at place change tells allowed =
      subst (λ (q : Plan). AllowsWord (IsKeptBy fits joins first q) cpu section was place change
      (λ x now. (now.plan ≡ was.plan) × tells x now.known))
      is (allows_word kept was.plan cpu section was place change tells allowed)

  pub number_at : (tells : Number → Known → Type 0)
      → AllowsNumber kept cpu section was.known tells
      → AllowsNumber (IsKeptBy fits joins first plan) cpu section was
      (λ n now. (now.plan ≡ was.plan) × tells n now.known)
  number_at tells allowed =
      subst (λ (q : Plan). AllowsNumber (IsKeptBy fits joins first q) cpu section was
      (λ n now. (now.plan ≡ was.plan) × tells n now.known))
      is (allows_number kept was.plan cpu section was tells allowed)

-- the relation of a load of a link, in a graph of this plan
pub followed_of : (fits : Plan → List ℕ → Type 0) (joins : Plan → ℕ → List ℕ → List ℕ → Type 0)
    (first : Plan → ℕ → List ℕ) (plan : Plan) (was now : Planned) (i l place x : ℕ)
    (words : List ℕ)
    → was.plan ≡ plan
    → tells_follow fits joins first place was x now
    → l < plan.links
    → place ≡ place_of plan.roots plan.links plan.words i l
    → IsOn (first plan) plan.roots was.known i words
    → Followed (fits plan) (joins plan l words) plan.words plan.nodes was.known i l x now.known
followed_of fits joins first plan was now i l place x words planned told low at on = told_at
    (λ (p : Plan).
    IsFollowed (fits p) (joins p) (first p) p.roots p.links p.words p.nodes)
    place was x now plan planned told i l words low at on
