-- The plan of a graph, which each seat knows besides the nodes. A rule of the seats' knowledge
-- about the nodes becomes one of both.
use Rattle.std.specs.Prelude.{◌≡◌, ℕ, List, [], ◌∷◌, ◌++◌, None, Some, length, map, slice_set}
use Rattle.std.proofs.Common.{sym, ap, ◌∙◌, subst, ⊎_elim}
use Rattle.std.proofs.lemmas.List.{map-append, map-set}
use mathlib.Core.Option.{some}
use lib.ListN.{get_elem?}
use Rattle.atomic_table.proofs.Lists.{at_map}
use Rattle.rcu_live.specs.Client.{ClientView, IsStable, Views}
use Rattle.rcu_live.proofs.ClientRows.{reseat}
use Rattle.rcu_live.proofs.Deals.{at_end}
use Rattle.rcu_graph.specs.Rule.{IsKept}
use Rattle.rcu_graph.specs.Steps.{IsClaimed, IsFollowed, IsLinkWritten, IsLinked, IsMarkedUnlinked}
use Rattle.rcu_graph.specs.Steps.{IsPublished, IsRead, IsReclaimed, IsWritten}
use Rattle.rcu_graph.specs.declared.known.Known.{Known}
use Rattle.rcu_graph.specs.declared.known.Planned.{Planned}
use Rattle.rcu_graph.specs.declared.plan.Plan.{Plan}

-- this number of roots, links, words and nodes, and this seed
abbrev pub plan_of : ℕ → ℕ → ℕ → ℕ → ℕ → Plan
plan_of roots links width count seed = record {
  roots = roots;
  links = links;
  words = width;
  nodes = count;
  seed = seed;
}

-- it has this knowledge about a graph of this plan
abbrev pub of_plan : Plan → Known → Planned
of_plan plan known = record { plan = plan; known = known }

-- it has this knowledge now, about the same graph
abbrev pub knowing : Planned → Known → Planned
knowing was known = of_plan was.plan known

-- the shown part of a seat, without the plan
abbrev pub unplanned : ClientView Planned → ClientView Known
unplanned x = (x.0, x.1, x.2.known)

-- each seat knows this plan, and the rule holds for the rest of their knowledge
pub record IsPlanned (holds : List ℕ → Views Known → Type 0) (plan : Plan)
    (words : List ℕ) (xs : Views Planned) : Type 0 where
  pub told : (id : ℕ) (x : ClientView Planned) → get_elem? xs id ≡ some x → x.2.plan ≡ plan
  pub kept : holds words (map unplanned xs)

-- the rule of a graph of this plan
abbrev pub IsKeptBy : (Plan → List ℕ → Type 0)
    → (Plan → ℕ → List ℕ → List ℕ → Type 0) → (Plan → ℕ → List ℕ) → Plan → List ℕ
    → Views Planned → Type 0
IsKeptBy fits joins first plan = IsPlanned
    (IsKept (fits plan) (joins plan) (first plan) plan.roots plan.links plan.words plan.nodes) plan

-- a step on a word has this relation by the plan, which stays
abbrev pub tells_word : (Plan → ℕ → Known → ℕ → Known → Type 0) → ℕ → Planned → ℕ → Planned → Type 0
tells_word tells place was x now =
    (now.plan ≡ was.plan) × tells was.plan place was.known x now.known

-- and a load of the number has this one
abbrev pub tells_number : (Known → ℕ → Known → Type 0) → Planned → ℕ → Planned → Type 0
tells_number tells was n now = (now.plan ≡ was.plan) × tells was.known n now.known

-- the relation of each step by the plan
abbrev pub tells_follow : (Plan → List ℕ → Type 0)
    → (Plan → ℕ → List ℕ → List ℕ → Type 0) → (Plan → ℕ → List ℕ) → ℕ → Planned → ℕ → Planned
    → Type 0
tells_follow fits joins first = tells_word (λ plan.
    IsFollowed (fits plan) (joins plan) (first plan) plan.roots plan.links plan.words plan.nodes)

abbrev pub tells_read : (Plan → ℕ → List ℕ) → ℕ → Planned → ℕ → Planned → Type 0
tells_read first = tells_word (λ plan. IsRead (first plan) plan.roots plan.links plan.words)

abbrev pub tells_claim : (Plan → ℕ → List ℕ) → ℕ → Planned → ℕ → Planned → Type 0
tells_claim first = tells_word (λ plan place was x now.
    IsClaimed (first plan) plan.roots plan.links plan.words plan.nodes now)

abbrev pub tells_write : ℕ → Planned → ℕ → Planned → Type 0
tells_write = tells_word (λ plan. IsWritten plan.roots plan.links plan.words)

abbrev pub tells_write_link : ℕ → Planned → ℕ → Planned → Type 0
tells_write_link = tells_word (λ plan. IsLinkWritten plan.roots plan.links plan.words)

abbrev pub tells_link : ℕ → Planned → ℕ → Planned → Type 0
tells_link = tells_word (λ plan. IsLinked plan.roots plan.links plan.words)

abbrev pub tells_publish : ℕ → Planned → ℕ → Planned → Type 0
tells_publish = tells_word (λ plan. IsPublished plan.roots plan.links plan.words)

abbrev pub tells_mark_unlinked : ℕ → Planned → ℕ → Planned → Type 0
tells_mark_unlinked = tells_word (λ plan. IsMarkedUnlinked plan.roots plan.links plan.words)

abbrev pub tells_reclaim : Planned → ℕ → Planned → Type 0
tells_reclaim = tells_number IsReclaimed

module _ (holds : List ℕ → Views Known → Type 0) (plan : Plan) where
  -- one seat changes, and the plan stays
  pub told_after : (xs : Views Planned) (id : ℕ) (x : ClientView Planned)
      → ((j : ℕ) (y : ClientView Planned) → get_elem? xs j ≡ some y → y.2.plan ≡ plan)
      → x.2.plan ≡ plan
      → (j : ℕ) (y : ClientView Planned) → get_elem? (slice_set xs id x) j ≡ some y
      → y.2.plan ≡ plan
  told_after xs id x told same =
      reseat (λ j (y : ClientView Planned). y.2.plan ≡ plan) xs id x same
      (λ j y apart e. told j y e)

  told_at_end : (xs : Views Planned) (x : ClientView Planned)
      → ((j : ℕ) (y : ClientView Planned) → get_elem? xs j ≡ some y → y.2.plan ≡ plan)
      → x.2.plan ≡ plan
      → (j : ℕ) (y : ClientView Planned) → get_elem? (xs ++ x ∷ []) j ≡ some y
      → y.2.plan ≡ plan
  told_at_end xs x told same j y e =
      ⊎_elim (λ (old : get_elem? xs j ≡ some y). told j y old)
      (λ (last : (j ≡ length xs) × (x ≡ y)).
      subst (λ (z : ClientView Planned). z.2.plan ≡ plan) last.1 same)
      (at_end xs x y j e)

  -- the law of a client carries over to the rule with the plan
  pub planned_is_stable : (idle closed : Known → Known) → IsStable holds idle closed
      → IsStable (IsPlanned holds plan) (λ c. knowing c (idle c.known))
      (λ c. knowing c (closed c.known))
  planned_is_stable idle closed stable = record {
    opens = λ words xs id number cpu c h at. record {
      told = told_after xs id (cpu, Some number, c) h.told (h.told id (cpu, None, c) at);
      kept = subst (holds words) (sym (map-set unplanned xs id (cpu, Some number, c)))
          (stable.opens words (map unplanned xs) id number cpu c.known h.kept
          (at_map unplanned xs id (cpu, None, c) at));
    };
    closes = λ words xs id cpu section c h at.
        let after : ClientView Planned = (cpu, None, knowing c (closed c.known)) in
        record {
          told = told_after xs id after h.told (h.told id (cpu, section, c) at);
          kept = subst (holds words) (sym (map-set unplanned xs id after))
              (stable.closes words (map unplanned xs) id cpu section c.known h.kept
              (at_map unplanned xs id (cpu, section, c) at));
        };
    deals = λ words xs id who section c cpu h at.
        let new : ClientView Planned = (cpu, None, knowing c (idle c.known)) in
        record {
          told = told_at_end xs new h.told (h.told id (who, section, c) at);
          kept = subst (holds words) (sym (map-append unplanned xs (new ∷ [])))
              (stable.deals words (map unplanned xs) id who section c.known cpu h.kept
              (at_map unplanned xs id (who, section, c) at));
        };
    hands = λ words xs id c h at.
        let left : ClientView Planned = (None, None, knowing c (idle c.known)) in
        let new : ClientView Planned = (None, None, c) in
        let same = h.told id (None, None, c) at in
        record {
          told = told_at_end (slice_set xs id left) new (told_after xs id left h.told same) same;
          kept = subst (holds words)
              (sym (map-append unplanned (slice_set xs id left) (new ∷ [])
              ∙ ap (λ (l : Views Known). l ++ unplanned new ∷ []) (map-set unplanned xs id left)))
              (stable.hands words (map unplanned xs) id c.known h.kept
              (at_map unplanned xs id (None, None, c) at));
        };
  }
