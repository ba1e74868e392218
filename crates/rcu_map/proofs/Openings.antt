-- The opening of a map: the words of the roots of all buckets, and why it is refused.
use Rattle.std.proofs.Common.{ℕ, ◌+◌, ◌*◌, ◌^◌, ◌<◌, ◌≤◌, List, arith}
use Rattle.std.specs.Prelude.{◌≡◌, Ok, Err}
use Rattle.std.proofs.Math.Nat.{le-mul_of_pos_right, mul_comm}
use Rattle.std.proofs.lemmas.Result.{IfErr-at_err}
use Rattle.rcu_graph.specs.Opening.{AreWhole, IsSized}
use Rattle.rcu_graph.specs.declared.plan.Plan.{Plan}
use Rattle.rcu_graph.specs.Planned.{plan_of}
use Rattle.rcu_map.specs.Chains.{HasSizes}
use Rattle.rcu_map.specs.Keys.{IsWhole, root_words}
use Rattle.rcu_map.proofs.Rows.{root_whole}

pub roots_are_whole : (holds : List ℕ → Type 0) (plan : Plan)
    → AreWhole (IsWhole holds plan.words) (root_words plan.words) plan
roots_are_whole holds plan = record {
  sized = λ i low. (root_whole holds plan.words i).sized;
  fit = λ i low. root_whole holds plan.words i;
}

-- an opened map was not refused
pub opened_is_sized : {A E : Type 0} (value : A) (error : E) → Ok value ≡ Err error → ⊥
opened_is_sized value error is = IfErr-at_err (λ _. ⊥) is tt

-- of a map with a bucket nothing but its graph can have bad sizes, whatever the seed is
pub has_sizes : (buckets width entries seed : ℕ) → 0 < buckets → 2 ≤ width
    → IsSized (plan_of buckets 1 width (buckets + entries + 1) seed)
    → HasSizes buckets width entries
has_sizes buckets width entries seed some wide s = record {
  some = some;
  wide = wide;
  graph = record { words = s.words; inside = s.inside; row = s.row; small = s.small };
}

pub is_sized : (buckets width entries seed : ℕ) → HasSizes buckets width entries
    → IsSized (plan_of buckets 1 width (buckets + entries + 1) seed)
is_sized buckets width entries seed has = let s = has.graph in record {
  words = s.words;
  inside = s.inside;
  row = s.row;
  small = s.small;
}

-- nodes that cannot be counted are too many
pub too_many : (buckets width entries : ℕ) → 2 ^ 64 ≤ buckets + entries + 1
    → HasSizes buckets width entries → ⊥
too_many buckets width entries large has =
    let small : (1 + width) * (buckets + entries + 1) ≤ 2 ^ 32 = has.graph.small in
    let most : buckets + entries + 1 ≤ (buckets + entries + 1) * (1 + width) =
    le-mul_of_pos_right (buckets + entries + 1) (omega arith) in
    let turned = mul_comm (1 + width) (buckets + entries + 1) in
    omega (arith, large, small, most, turned)
