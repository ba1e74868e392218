use Rattle.std.proofs.Common.{◌≡◌, ◌<◌, ◌^◌, length, take, true, ◌≤◌}
use Rattle.std.specs.List.{list_all}
use Rattle.rcu_text.specs.Words.{value_of, is_digit}
use Rattle.rcu_text.proofs.words.digits.Given as goal

-- the digits so far, and their value
abbrev pub invariant-loop-b : goal.invariant-loop-b
invariant-loop-b l = record {
  short : length l.word ≤ 19;
  value : l.value ≡ value_of (take l.b-index l.word);
  digits : list_all is_digit (take l.b-index l.word) ≡ true;
  small : l.value < 10 ^ l.b-index;
}
