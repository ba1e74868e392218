-- An engine that is opened, from its parts.
use Rattle.std.proofs.Common.{◌≡◌, ℕ, List, map, Option, Some, sym, ap, ◌∙◌}
use Rattle.std.specs.List.{range_with_len}
use Rattle.rcu_live.specs.Board.{Object}
use Rattle.rcu_live.specs.Engine.{Locked}
use Rattle.rcu_live.specs.Opening.{engine_at_first}
use Rattle.rcu_live.specs.Watcher.{Watching}
use Rattle.rcu_graph.specs.Opening.{writer_at_first}
use Rattle.rcu_graph.specs.Planned.{of_plan}
use Rattle.rcu_graph.specs.declared.known.Known.TheVariants.{Idle}
use Rattle.rcu_graph.specs.declared.known.Planned.{Planned}
use Rattle.rcu_graph.specs.declared.plan.Plan.{Plan}
use Rattle.rcu_map.specs.Keys.{root_words}
use Rattle.rcu_request.specs.Requests.{Requesting, requests_at_first}
use Rattle.rcu_c.specs.Engines.{EngineAndSeats, most_in_c, opened_at_first}
use Rattle.rcu_c.specs.Seats.{Seat, seat_at_first}
use Rattle.rcu_c.specs.declared.identity.Identity.{Identity}

-- it is as it is opened
pub opened : (identity : Identity) (o : Object Plan) (plan : Plan) (cpus last : ℕ)
    (engine : Locked Planned ℕ)
    (seats : List (Option Seat)) (requests : Requesting) (writer : Watching Planned)
    (made : EngineAndSeats)
    → made
    ≡ record {
      engine = engine;
      seats = seats;
      requests = requests;
      identity = identity;
      map = writer;
    }
    → o.cpus ≡ cpus
    → o.plan ≡ plan
    → engine ≡ engine_at_first o.table cpus last most_in_c (of_plan o.plan Idle)
    → seats
    ≡ map (λ cpu. Some (seat_at_first identity o.table requests.words o.plan o.cpus cpu))
    (range_with_len 0 o.cpus)
    → requests ≡ requests_at_first requests.words
    → writer ≡ writer_at_first (root_words plan.words) o.table cpus plan
    → made ≡ opened_at_first identity made.engine.table made.requests.words plan cpus last
opened identity o plan cpus last engine seats requests writer made is same planned at_start each
    no_request keeps =
    let start : engine ≡ engine_at_first o.table cpus last most_in_c (of_plan plan Idle) =
    at_start
    ∙ ap (λ (p : Plan). engine_at_first o.table cpus last most_in_c (of_plan p Idle)) planned in
    let table : made.engine.table ≡ o.table =
    ap (λ (m : EngineAndSeats). m.engine.table) is
    ∙ ap (λ (e : Locked Planned ℕ). e.table) at_start in
    let words : made.requests.words ≡ requests.words =
    ap (λ (m : EngineAndSeats). m.requests.words) is in
    let all : seats
    ≡ map (λ cpu. Some (seat_at_first identity o.table requests.words plan cpus cpu))
    (range_with_len 0 cpus) =
    each
    ∙ ap (λ (p : Plan).
    map (λ cpu. Some (seat_at_first identity o.table requests.words p o.cpus cpu))
    (range_with_len 0 o.cpus))
    planned
    ∙ ap (λ (n : ℕ).
    map (λ cpu. Some (seat_at_first identity o.table requests.words plan n cpu))
    (range_with_len 0 n))
    same in
    let parts : made ≡ opened_at_first identity o.table requests.words plan cpus last =
    is
    ∙ (λ i. record {
      engine = start i;
      seats = all i;
      requests = no_request i;
      identity = identity;
      map = keeps i;
    }) in
    parts ∙ sym (ap (λ t. opened_at_first identity t requests.words plan cpus last) table)
    ∙ sym (ap (λ w. opened_at_first identity made.engine.table w plan cpus last) words)
