use Rattle.std.proofs.Common.{◌≡◌, ℕ, Some, ap, map, sym, ◌∙◌}
use Rattle.std.proofs.lemmas.Result.{err_from_is_err_and}
use Rattle.std.specs.List.{range_with_len}
use Rattle.atomic_table.specs.Seated.{TableId}
use Rattle.rcu_live.specs.CpuSeat.{at_first}
use Rattle.rcu_live.specs.Watcher.{watcher_at_first}
use Rattle.rcu_live.specs.Words.{base_of}
use Rattle.rcu_graph.specs.Opening.{writer_at_first}
use Rattle.rcu_graph.specs.Planned.{of_plan}
use Rattle.rcu_graph.specs.declared.known.Known.TheVariants.{Idle}
use Rattle.rcu_graph.specs.declared.plan.Plan.{Plan}
use Rattle.rcu_map.specs.Keys.{root_words}
use Rattle.rcu_request.specs.Requests.{Requesting}
use Rattle.rcu_c.specs.Seats.{Shared, seat_at_first}
use Rattle.rcu_c.specs.declared.identity.Identity.{Identity}
use Rattle.rcu_c.specs.MapSizes.{plan_of_sizes}
use Rattle.rcu_c.proofs.Opened.{opened}
use Rattle.rcu_c.proofs.Openings.{accepted_told, refused_told, unfit_told}
use Rattle.rcu_c.proofs.making.make_engine.Goals as goal

pub make_places-requires : goal.make_places-requires
make_places-requires c =
    let dealt = c.in_ok-live.ensures.dealt in
    let o = c.in_ok-live.field-0.map in
    let idle = of_plan o.plan Idle in
    record {
      seats =
          dealt.each_seat
          ∙ ap (λ (n : ℕ). map (at_first o.table (base_of n) idle) (range_with_len 0 n))
          (sym dealt.size.count);
      watchers =
          dealt.each_watcher
          ∙ ap (λ (n : ℕ).
          map (λ _. watcher_at_first o.table (base_of n) idle) (range_with_len 0 n))
          (sym dealt.size.count);
    }

pub returns-in_err-plan-clause-fault : goal.returns-in_err-plan-clause-fault
returns-in_err-plan-clause-fault c =
    let p = err_from_is_err_and c.from_residual.result
    c.from_residual.ensures.1 in
    rw (p.1, p.2, c.in_err-plan.ensures.fault)
    (unfit_told c.args.sizes c.args.cpus c.args.last c.in_err-plan.ensures.none)

pub returns-in_err-live-clause-fault : goal.returns-in_err-live-clause-fault
returns-in_err-live-clause-fault c =
    let p = err_from_is_err_and c.from_residual-in_err-live.result
    c.from_residual-in_err-live.ensures.1 in
    rw (p.1, p.2)
    (refused_told c.args.sizes c.args.cpus c.args.last c.in_ok-plan.plan c.open_planned.result
    c.in_ok-plan.ensures.plan c.in_ok-plan.ensures.some c.in_ok-plan.ensures.wide
    c.open_planned.ensures.bad_sizes c.open_planned.ensures.fault _ c.in_err-live.was)

pub returns-clause-fault : goal.returns-clause-fault
returns-clause-fault c =
    accepted_told c.args.sizes c.args.cpus c.args.last c.in_ok-plan.plan c.open_planned.result
    c.in_ok-plan.ensures.plan c.in_ok-plan.ensures.some c.in_ok-plan.ensures.wide
    c.open_planned.ensures.bad_sizes c.open_planned.ensures.fault _ c.in_ok-live.was

pub returns-clause-state : goal.returns-clause-state
returns-clause-state c =
    let e = c.in_ok-live.ensures in
    let planned = c.in_ok-plan.ensures.plan in
    let o = c.in_ok-live.field-0.map in
    let kept = c.new-seats.ensures in
    let same : c.new-seats.result.shared.identity ≡ c.args.identity =
    ap (λ (s : Shared). s.identity) kept.shared in
    let words : c.in-Ok.requester.words ≡ c.in-Ok.requests.words =
    ap (λ (w : Requesting). w.words) c.in-Ok.ensures.thread in
    opened c.args.identity o (plan_of_sizes c.args.sizes) c.args.cpus c.args.last
    c.in_ok-live.field-0.live c.new-seats.result.seats c.in-Ok.requests c.in_ok-live.field-0.writer
    c.new.result
    (c.new.ensures
    ∙ ap (λ (i : Identity). record {
      engine = c.in_ok-live.field-0.live;
      seats = c.new-seats.result.seats;
      requests = c.in-Ok.requests;
      identity = i;
      map = c.in_ok-live.field-0.writer;
    }) same)
    e.dealt.size.count (e.plan ∙ planned) e.engine
    (kept.seats
    ∙ ap (λ (w : TableId).
    map (λ cpu. Some (seat_at_first c.args.identity o.table w o.plan o.cpus cpu))
    (range_with_len 0 o.cpus)) words)
    c.in-Ok.ensures.driver
    (e.own
    ∙ ap (λ (p : Plan). writer_at_first (root_words p.words) o.table c.args.cpus p) planned)
