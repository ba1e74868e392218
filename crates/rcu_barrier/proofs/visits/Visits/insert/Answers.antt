use Rattle.std.proofs.Common.{◌≡◌, ◌<◌, length, get_or, false, subst, sym, arith}
use Rattle.rcu_barrier.proofs.Markers.{unvisited_set}
use Rattle.rcu_barrier.proofs.visits.Visits.insert.Goals as goal

pub overflow_sub-self : goal.overflow_sub-self
overflow_sub-self c =
    let flags = c.self.inside.flags.items in
    let inside : c.args.cpu < length flags =
    subst (λ v. c.args.cpu < length v) (sym c.self.view_is) c.requires.0 in
    let off : get_or flags c.args.cpu false ≡ false =
    subst (λ v. get_or v c.args.cpu false ≡ false) (sym c.self.view_is) c.requires.1 in
    let fewer = unvisited_set flags c.args.cpu inside off in
    let kept = c.self.invariant in
    omega arith
