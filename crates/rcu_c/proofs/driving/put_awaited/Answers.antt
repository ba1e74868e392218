use Rattle.std.proofs.Common.{◌≡◌, ◌+◌, ◌<◌, drop, length, take, ap, sym, ◌∙◌, arith}
use Rattle.std.specs.Prelude.{filter}
use Rattle.std.specs.List.{range_with_len}
use Rattle.std.proofs.lemmas.List.{length-set}
use Rattle.rcu_node.specs.CpuSet.{is_in}
use Rattle.rcu_c.proofs.HandedOut.{rest_more}
use Rattle.rcu_c.proofs.Listed.{count_yes, listed_full, listed_no, listed_yes}
use Rattle.rcu_c.proofs.driving.put_awaited.Goals as goal
use Rattle.rcu_c.proofs.driving.put_awaited.Goals.{then-count-cpus+then-awaits, else-count-cpus}
use Rattle.rcu_c.proofs.driving.put_awaited.Goals.{else-count-cpus-via-then-count-cpus+else-awaits}
use Rattle.rcu_c.proofs.driving.put_awaited.Goals.{else-count-cpus-via-else-count-cpus}

pub loop-cpu-preserved : goal.loop-cpu-preserved
loop-cpu-preserved g c =
    let cpu = c.loop-cpu.cpu in
    let count = c.loop-cpu.count in
    let cpus = c.loop-cpu.cpus in
    let room = length c.args.cpus.now in
    let so_far = c.loop-cpu.invariant in
    let awaited = is_in (g.A.Awaited.awaited c.args.awaited.now) in
    elim c.if-count-cpus.branch [
      | then-count-cpus+then-awaits w ↦
          let inside : count < length cpus = omega (arith, w.if-count-cpus.true) in
          let free : count < room = omega (arith, w.if-count-cpus.true, so_far.same) in
          let is_awaited = sym w.awaits.ensures ∙ w.if-awaits.true in
          record {
            count = w.count-is ∙ count_yes awaited cpu room count is_awaited free so_far.count;
            head =
                ap (λ k. take k c.if-count-cpus.cpus) w.count-is
                ∙ ap (λ l. take (count + 1) l) w.cpus-is
                ∙ listed_yes awaited cpu room count cpus is_awaited free so_far.count so_far.head
                inside;
            rest =
                ap (λ k. drop k c.if-count-cpus.cpus) w.count-is
                ∙ ap (λ l. drop (count + 1) l) w.cpus-is
                ∙ rest_more count cpu c.args.cpus.now cpus so_far.rest
                ∙ ap (λ k. drop k c.args.cpus.now) (sym w.count-is);
            same = ap (λ l. length l) w.cpus-is ∙ length-set cpus count cpu ∙ so_far.same;
            few = omega (arith, w.count-is, so_far.few);
          }
      | else-count-cpus w ↦
          let listed =
          elim w.else-count-cpus.branch as
          (λ _.
          take room (filter awaited (range_with_len 0 (cpu + 1)))
          ≡ take room (filter awaited (range_with_len 0 cpu))) [
            | else-count-cpus-via-then-count-cpus+else-awaits v ↦
                listed_no awaited cpu room (sym v.awaits.ensures ∙ v.if-awaits.false)
            | else-count-cpus-via-else-count-cpus v ↦
                listed_full awaited cpu room
                (omega (arith, v.if-count-cpus.false, so_far.same, so_far.count))
          ] in
          record {
            count = w.count-is ∙ so_far.count ∙ ap (λ l. length l) (sym listed);
            head =
                ap (λ k. take k c.if-count-cpus.cpus) w.count-is
                ∙ ap (λ l. take count l) w.cpus-is
                ∙ so_far.head
                ∙ sym listed;
            rest =
                ap (λ k. drop k c.if-count-cpus.cpus) w.count-is
                ∙ ap (λ l. drop count l) w.cpus-is
                ∙ so_far.rest
                ∙ ap (λ k. drop k c.args.cpus.now) (sym w.count-is);
            same = ap (λ l. length l) w.cpus-is ∙ so_far.same;
            few = omega (arith, w.count-is, so_far.few);
          }
    ]
