use Rattle.std.proofs.Common.{◌≡◌, ◌≤◌, ◌+◌, length}
use Rattle.rcu_script.specs.PairLines.{named_cpus}
use Rattle.rcu_text.specs.Words.{words_of}
use Rattle.rcu_script.proofs.PairLineLemmas.{with_front}
use Rattle.rcu_script.proofs.pair.parse.parse_cpus.Given as goal

-- the processors so far come before those of the rest, and each took a byte
abbrev pub invariant-loop-word : goal.invariant-loop-word
invariant-loop-word l = record {
  listed : named_cpus (words_of l.words) ≡ with_front l.cpus (named_cpus (words_of l.rest));
  room : length l.cpus + length l.rest ≤ length l.words;
}

abbrev pub decreases-loop-word : goal.decreases-loop-word
decreases-loop-word l = length l.rest
