use Rattle.std.proofs.Common.{◌≡◌, ◌<◌, ◌≤◌, ℕ, slice_index, bit_or}
use Rattle.rcu_node.proofs.cpu_set.merge.Given as goal

-- the words so far are merged, and the others are as they were
abbrev pub invariant-loop-place : goal.invariant-loop-place
invariant-loop-place l = record {
  merged : (k : ℕ) → k < l.place
      → slice_index l.words k ≡ bit_or (slice_index l.initial.words k) (slice_index l.others k);
  rest : (k : ℕ) → l.place ≤ k → slice_index l.words k ≡ slice_index l.initial.words k;
}
