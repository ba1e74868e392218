use Rattle.std.proofs.Common.{rules}
use Rattle.rcu_c.specs.Maps.{on_writer}
use Rattle.rcu_c.proofs.map_updates.rcu_map_wait_unfenced.Goals as goal

pub returns-then-has_free_node-clause-waited : goal.returns-then-has_free_node-clause-waited
returns-then-has_free_node-clause-waited c = λ held some. record {
  cookie = c.of-cookie.result.number;
  looked = on_writer (λ _. c.reclaim.new.self) c.args.rcu.now.contents;
  look = record {
    number = c.reclaim.result;
    state = search rules;
    later = search rules;
    bounded = search rules;
    cookie_of = search rules;
    entries = search rules;
  };
  at_once = search rules;
  driven = search rules;
}

pub returns-in-Ok-drive_for-clause-waited : goal.returns-in-Ok-drive_for-clause-waited
returns-in-Ok-drive_for-clause-waited c = λ held some. record {
  cookie = c.of-cookie.result.number;
  looked = on_writer (λ _. c.reclaim.new.self) c.args.rcu.now.contents;
  look = record {
    number = c.reclaim.result;
    state = search rules;
    later = search rules;
    bounded = search rules;
    cookie_of = search rules;
    entries = search rules;
  };
  at_once = search rules;
  driven = search rules;
}

pub returns-in-Err-drive_for-clause-waited : goal.returns-in-Err-drive_for-clause-waited
returns-in-Err-drive_for-clause-waited c = λ held some. record {
  cookie = c.of-cookie.result.number;
  looked = on_writer (λ _. c.reclaim.new.self) c.args.rcu.now.contents;
  look = record {
    number = c.reclaim.result;
    state = search rules;
    later = search rules;
    bounded = search rules;
    cookie_of = search rules;
    entries = search rules;
  };
  at_once = search rules;
  driven = search rules;
}
