use Rattle.std.proofs.Common.{rules, ◌∙◌}
use Rattle.rcu_request.proofs.Steps.{starts}
use Rattle.rcu_request.proofs.request_words.RequestWords.open.Goals as goal

pub new-requires-2 : goal.new-requires-2
new-requires-2 c = starts _ _ (c.as_slice.ensures.value ∙ c.in_ok-words.ensures) (search rules)
