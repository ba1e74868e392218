use Rattle.std.proofs.Common.{rules, ◌≡◌, ◌∙◌, ◌++◌, ◌+◌, List, ℕ, length, ap}
use Rattle.rcu_text.proofs.LineLemmas.{kept_more}
use Rattle.rcu_text.proofs.line_buffer.LineBuffer.extend.Goals as goal

pub returns : goal.returns
returns c =
    let grown : c.try_extend_from_slice.new.self.items
    ≡ c.args.self.now ++ c.split_at.result.0.now = search rules in
    let room : c.remaining_capacity.result + length c.args.self.now ≡ 81 = search rules in
    grown
    ∙ ap (λ (l : List ℕ). c.args.self.now ++ l) c.split_at.ensures.front
    ∙ kept_more c.args.self.now c.args.bytes.now c.remaining_capacity.result c.min-kept.result room
    c.min-kept.ensures
