-- A graph that joins an engine: the seat with the knowledge of the engine's own watcher about it is
-- its nodes' writer.
use Rattle.std.proofs.Common.{◌≡◌, ◌∙◌, ℕ, List, [], ap, refl, sym}
use Rattle.rcu_live.specs.Board.{Object}
use Rattle.rcu_live.specs.InPart.{engine_part, watcher_part}
use Rattle.rcu_live.specs.Several.{IsLens, Lens}
use Rattle.rcu_live.specs.Watcher.{IsWatcherOf, Watching, after_word_step, watcher_at_first}
use Rattle.rcu_live.proofs.InPart.{watcher_with}
use Rattle.rcu_graph.specs.Writer.{IsWriterOf}
use Rattle.rcu_graph.specs.Nodes.{first_nodes}
use Rattle.rcu_graph.specs.Opening.{claimed_first}
use Rattle.rcu_graph.specs.Planned.{knowing, of_plan}
use Rattle.rcu_graph.specs.declared.known.Known.{Known}
use Rattle.rcu_graph.specs.declared.known.Known.TheVariants.{Owner, Writer}
use Rattle.rcu_graph.specs.declared.known.Planned.{Planned}
use Rattle.rcu_graph.specs.declared.plan.Plan.{Plan}
use Rattle.rcu_graph.proofs.Keeping.{keeps_first}

module _ {D Q : Type 0} (lens : Lens D Planned) (idle closed : Planned → Planned)
    (idle_whole closed_whole : D → D) (is : IsLens lens idle closed idle_whole closed_whole)
    (own_plan : Q → Plan) (begins : ℕ → Q → ℕ) where
  -- so is the seat that got the knowledge, and claims the nodes
  pub joins : (engine : Object Q) (own new seat : Watching D) (first : ℕ → List ℕ)
      → IsWatcherOf (engine_part own_plan begins engine) (watcher_part lens own)
      → lens.get own.view.client ≡ of_plan (own_plan engine.plan) Owner
      → new ≡ watcher_at_first own.table own.view.base
      (lens.set (idle_whole own.view.client) (lens.get own.view.client))
      → seat ≡ after_word_step new (lens.set new.view.client
      (knowing (lens.get new.view.client)
      (Writer 0 (first_nodes (own_plan engine.plan).links (own_plan engine.plan).words first
      (own_plan engine.plan).roots (own_plan engine.plan).nodes) [])))
      → IsWriterOf (engine_part own_plan begins engine) (watcher_part lens seat)
  joins engine own new seat first watches owner handed claimed =
      let plan : Plan = own_plan engine.plan in
      let graph : Object Plan = engine_part own_plan begins engine in
      let d : D = own.view.client in
      let e : D = lens.set (idle_whole d) (lens.get d) in
      let kept : Known = Writer 0
      (first_nodes plan.links plan.words first plan.roots plan.nodes) [] in
      let known : Planned = knowing (lens.get new.view.client) kept in
      let base : lens.begins own.view.base e ≡ graph.base =
      is.stays own.view.base (idle_whole d) (lens.get d)
      ∙ is.stays_idle own.view.base d ∙ watches.1 in
      let knows : lens.get e ≡ of_plan plan Owner = is.got (idle_whole d) (lens.get d) ∙ owner in
      let is_new : watcher_part lens new
      ≡ watcher_at_first graph.table graph.base (of_plan plan Owner) =
      ap (watcher_part lens) handed
      ∙ (λ i. watcher_at_first (watches.0 i) (base i) (knows i)) in
      let got : lens.get seat.view.client ≡ known =
      ap (λ (w : Watching D). lens.get w.view.client) claimed ∙ is.got new.view.client known in
      let is_seat : watcher_part lens seat ≡ after_word_step (watcher_part lens new) known =
      watcher_with lens is.got is.stays new seat
      (claimed
      ∙ ap (λ (c : Planned). after_word_step new (lens.set new.view.client c)) (sym got))
      ∙ ap (after_word_step (watcher_part lens new)) got in
      keeps_first plan graph.base first graph (watcher_part lens new) (watcher_part lens seat) refl
      refl is_new is_seat

  -- for the rest it has the knowledge of a dealt seat
  pub joined_as : (own new seat : Watching D) (first : ℕ → List ℕ) (plan : Plan)
      → lens.get own.view.client ≡ of_plan plan Owner
      → new ≡ watcher_at_first own.table own.view.base
      (lens.set (idle_whole own.view.client) (lens.get own.view.client))
      → seat ≡ after_word_step new (lens.set new.view.client
      (knowing (lens.get new.view.client)
      (Writer 0 (first_nodes plan.links plan.words first plan.roots plan.nodes) [])))
      → seat ≡ watcher_at_first own.table own.view.base
      (lens.set (idle_whole own.view.client) (claimed_first first plan))
  joined_as own new seat first plan owner handed claimed =
      let d : D = own.view.client in
      let kept : Known = Writer 0
      (first_nodes plan.links plan.words first plan.roots plan.nodes) [] in
      let knows : lens.get (lens.set (idle_whole d) (lens.get d)) ≡ of_plan plan Owner =
      is.got (idle_whole d) (lens.get d) ∙ owner in
      claimed
      ∙ ap (λ (w : Watching D). after_word_step w (lens.set w.view.client
      (knowing (lens.get w.view.client) kept))) handed
      ∙ ap (watcher_at_first own.table own.view.base)
      (is.again (idle_whole d) (lens.get d)
      (knowing (lens.get (lens.set (idle_whole d) (lens.get d))) kept)
      ∙ ap (λ (c : Planned). lens.set (idle_whole d) (knowing c kept)) knows)
