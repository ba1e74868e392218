use Rattle.std.proofs.Common.{◌≡◌, ◌<◌, ◌-◌, ℕ, List, length, ap, refl, sym, ◌∙◌, subst, arith}
use Rattle.std.proofs.lemmas.List.FromFn.{length-map-range_with_len}
use Rattle.rcu_live.specs.Board.{Object}
use Rattle.rcu_live.specs.CpuSeat.{Seated, at_first}
use Rattle.rcu_live.specs.Watcher.{Watching, watcher_at_first}
use Rattle.rcu_live.specs.Words.{base_of}
use Rattle.rcu_live.proofs.RowLemmas.{one_more}
use Rattle.rcu_graph.specs.Planned.{of_plan}
use Rattle.rcu_graph.specs.declared.known.Known.TheVariants.{Idle}
use Rattle.rcu_graph.specs.declared.known.Planned.{Planned}
use Rattle.rcu_graph.specs.declared.plan.Plan.{Plan}
use Rattle.rcu_c.specs.Places.{place_at_first}
use Rattle.rcu_c.specs.Seats.{Shared, Words}
use Rattle.rcu_c.specs.declared.places.Place.{Place}
use Rattle.rcu_c.specs.declared.places.Place.TheVariants.{Fresh}
use Rattle.rcu_c.proofs.Dealt.{one_came, others_left}
use Rattle.rcu_c.proofs.making.make_places.Goals as goal

-- the place of these parts
abbrev place_of_parts : Seated Planned → Watching Planned → Place
place_of_parts cpu watcher = Fresh (record { cpu = cpu; watcher = watcher })

-- the processor's seat, and a watcher's, as they are dealt
abbrev first_seat : Words → ℕ → Seated Planned
first_seat w n = at_first w.table (base_of w.cpus) (of_plan w.plan Idle) n

abbrev first_watcher : Words → Watching Planned
first_watcher w = watcher_at_first w.table (base_of w.cpus) (of_plan w.plan Idle)

-- is the processor's as the engine is opened
as_opened : (w : Words) (cpu : Seated Planned) (watcher : Watching Planned) (n : ℕ)
    → cpu ≡ first_seat w n
    → watcher ≡ first_watcher w
    → place_of_parts cpu watcher ≡ place_at_first w n
as_opened w cpu watcher n is_cpu is_watcher =
    ap (λ x. place_of_parts x watcher) is_cpu
    ∙ ap (λ x. place_of_parts (first_seat w n) x) is_watcher

-- a seat as it is dealt may be stored
as_dealt : (w : Words) (cpu : Seated Planned) (n : ℕ) → cpu ≡ first_seat w n
    → cpu ≡ at_first cpu.table cpu.view.base cpu.view.client cpu.cpu
as_dealt w cpu n is =
    subst (λ (x : Seated Planned). x ≡ at_first x.table x.view.base x.view.client x.cpu) (sym is)
    refl

pub of-cpu-requires : goal.of-cpu-requires
of-cpu-requires c =
    let w = c.args.shared.now.words in
    let same =
    c.cpus-end.ensures
    ∙ ap (λ (o : Object Plan). o.cpus) (c.deref.ensures ∙ c.board.ensures)
    ∙ ap (λ (s : Shared). s.words.cpus) c.shared.view_is in
    let low : c.loop.counter < w.cpus = omega (arith, c.loop-test.true, same) in
    as_dealt w c.in-Some.seat c.loop.counter
    (one_came _ c.loop.counter w.cpus _ _ _ low c.loop.invariant.1 c.in-Some.ensures.items)

pub loop-preserved : goal.loop-preserved
loop-preserved c =
    let w = c.args.shared.now.words in
    let n = c.loop.counter in
    let i = c.loop.invariant in
    let same =
    c.cpus-end.ensures
    ∙ ap (λ (o : Object Plan). o.cpus) (c.deref.ensures ∙ c.board.ensures)
    ∙ ap (λ (s : Shared). s.words.cpus) c.shared.view_is in
    let low : n < w.cpus = omega (arith, c.loop-test.true, same) in
    let seat = one_came _ n w.cpus _ _ _ low i.1 c.in-Some.ensures.items in
    let watcher = one_came _ n w.cpus _ _ _ low i.2 c.in-Some-next.ensures.items in (
      one_more _ n _ _ _ i.0 c.in_ok-push.ensures.items
          (as_opened w c.of-cpu.result c.in-Some-next.watcher n (c.of-cpu.ensures ∙ seat) watcher),
      others_left _ n w.cpus _ _ _ low i.1 c.in-Some.ensures.items,
      others_left _ n w.cpus _ _ _ low i.2 c.in-Some-next.ensures.items,
    )

pub unreachable-requires : goal.unreachable-requires
unreachable-requires c =
    let w = c.args.shared.now.words in
    let same =
    c.cpus-end.ensures
    ∙ ap (λ (o : Object Plan). o.cpus) (c.deref.ensures ∙ c.board.ensures)
    ∙ ap (λ (s : Shared). s.words.cpus) c.shared.view_is in
    let low : c.loop.counter < w.cpus = omega (arith, c.loop-test.true, same) in
    let long : length c.loop.seats.rest.items ≡ w.cpus - c.loop.counter =
    ap (λ (l : List (Seated Planned)). length l) c.loop.invariant.1
    ∙ length-map-range_with_len (first_seat w) c.loop.counter (w.cpus - c.loop.counter) in
    let none : c.loop.seats.rest.len ≡ 0 = c.in_default.ensures.cases.0 in
    omega (arith, low, long, none, c.loop.seats.rest.ok.0)
