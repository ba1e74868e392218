-- An engine, a seat and a watcher, as one of several clients sees them.
use Rattle.std.specs.Prelude.{ℕ}
use Rattle.rcu_live.specs.Board.{Object}
use Rattle.rcu_live.specs.CpuSeat.{Seated}
use Rattle.rcu_live.specs.Several.{Lens}
use Rattle.rcu_live.specs.Watcher.{Watching}
use Rattle.rcu_live.specs.declared.view.View.{View}

-- the engine, with the part's plan, and with the start of the part's words
abbrev pub engine_part : {P Q : Type 0} → (P → Q) → (ℕ → P → ℕ) → Object P → Object Q
engine_part own_plan begins engine = record {
  table = engine.table;
  plan = own_plan engine.plan;
  cpus = engine.cpus;
  base = begins engine.base engine.plan;
  last = engine.last;
  most = engine.most;
}

module _ {D C : Type 0} (lens : Lens D C) where
  -- the view of a seat
  abbrev pub view_part : View D → View C
  view_part v = record {
    role = v.role;
    cpu = v.cpu;
    seen = v.seen;
    loads = v.loads;
    stores = v.stores;
    looks = v.looks;
    answered = v.answered;
    own_word = v.own_word;
    section = v.section;
    own_word_loads = v.own_word_loads;
    announced = v.announced;
    base = lens.begins v.base v.client;
    client = lens.get v.client;
  }

  -- a processor's seat
  abbrev pub seat_part : Seated D → Seated C
  seat_part s = record {
    table = s.table;
    cpu = s.cpu;
    depth = s.depth;
    view = view_part s.view;
  }

  -- a watcher
  abbrev pub watcher_part : Watching D → Watching C
  watcher_part w = record { table = w.table; view = view_part w.view }
