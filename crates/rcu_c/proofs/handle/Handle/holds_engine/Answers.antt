use Rattle.std.proofs.Common.{rules}
use Rattle.rcu_c.proofs.WrittenBack.{as_it_was}
use Rattle.rcu_c.proofs.handle.Handle.holds_engine.Goals as goal

pub returns-in-Engine-clause-unchanged : goal.returns-in-Engine-clause-unchanged
returns-in-Engine-clause-unchanged c = as_it_was c.args.self.now c.is_open.new.self
    c.contents.result.now c.contents.ensures.value c.is_open.ensures.unchanged

pub returns-in_default : goal.returns-in_default
returns-in_default c = record {
  value = search rules;
  unchanged = as_it_was c.args.self.now c.is_open.new.self c.contents.result.now
      c.contents.ensures.value c.is_open.ensures.unchanged;
}
