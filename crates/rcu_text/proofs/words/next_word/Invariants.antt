use Rattle.std.proofs.Common.{◌≡◌, ◌≤◌, length}
use Rattle.rcu_text.specs.Words.{words_of}
use Rattle.rcu_text.proofs.words.next_word.Given as goal

-- only spaces were skipped
abbrev pub invariant-loop-text : goal.invariant-loop-text
invariant-loop-text l = record {
  same : words_of l.line ≡ words_of l.text;
  fits : length l.text ≤ length l.line;
}

abbrev pub decreases-loop-text : goal.decreases-loop-text
decreases-loop-text l = length l.text
