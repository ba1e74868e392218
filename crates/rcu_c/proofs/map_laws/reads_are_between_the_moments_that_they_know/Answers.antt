use Rattle.std.proofs.Common.{◌≡◌, ◌∙◌, ap, length}
use Rattle.rcu_graph.specs.declared.plan.Plan.{Plan}
use Rattle.rcu_live.specs.CpuSeat.{exit_refusal}
use Rattle.rcu_c.specs.Holding.{cpu_of}
use Rattle.rcu_c.specs.Maps.{map_plan}
use Rattle.rcu_c.specs.Refusals.{by_engine, seat_refusal}
use Rattle.rcu_c.proofs.MapLaws.{sized}
use Rattle.rcu_c.proofs.map_laws.reads_are_between_the_moments_that_they_know.Goals as goal

pub returns-clause-got : goal.returns-clause-got
returns-clause-got c = λ plan key first last before after room entry planned begins ends none got.
    record {
      planned = planned;
      begins = begins;
      ends = ends;
      sized =
          sized (map_plan before).words (length room) (seat_refusal before)
          (by_engine (exit_refusal (cpu_of before))) none
          ∙ ap (λ (p : Plan). p.words) planned;
      got = got;
    }

pub returns-clause-next : goal.returns-clause-next
returns-clause-next c = λ plan key first last before after room entry planned begins ends next.
    record { planned = planned; begins = begins; ends = ends; next = next }
