-- Seats at the table of shared words: the condition of each kind of step, and the seat after it.
use Rattle.std.specs.Prelude.{◌≡◌, ℕ, ◌+◌, ◌<◌, ◌≤◌, ◌^◌, true, false, None}
use Rattle.atomic_table.specs.Seated.{TableId}
use Rattle.atomic_table.specs.declared.shared.Seat.{Seat}
use Rattle.rcu_seq.specs.Numbers.{Number, is_running}
use Rattle.rcu_live.specs.Numbers.{is_own_word, may_open}
use Rattle.rcu_live.specs.Rule.{AreCleared}
use Rattle.rcu_live.specs.declared.view.Role.TheVariants.{Cpu, Engine}
use Rattle.rcu_live.specs.declared.view.View.{View}

module _ {C : Type 0} where
  -- a seat is at this table, with this view
  pub record IsSeatAt (table : TableId) (view : View C) (seat : Seat (Unit {0}) (View C)) : Type 0
    where
      pub at_table : seat.table_id ≡ table
      pub has_view : seat.me.0 ≡ view

  -- a seat took a step: it is at its table and has its slots as before, and its two views are in
  -- the relation of the step
  pub record Stepped (tells : View C → View C → Type 0) (old new : Seat (Unit {0}) (View C)) : Type
      0 where
    pub table : new.table_id ≡ old.table_id
    pub slots : new.me.1 ≡ old.me.1
    pub told : tells old.me.0 new.me.0

  -- a seat was split: it keeps this view, and the dealt seat is at the same table, with that view
  pub record IsSplit (rest part : View C) (old new dealt : Seat (Unit {0}) (View C)) : Type 0 where
    pub table : new.table_id ≡ old.table_id
    pub left : new.me.0 ≡ rest
    pub view : dealt.me.0 ≡ part
    pub seat : dealt.table_id ≡ old.table_id

module _ {C : Type 0} where
  -- a section may be opened: by a processor's seat, whose processor is online and not idle, if none
  -- is open
  pub record MayOpen (v : View C) : Type 0 where
    pub cpu : v.role ≡ Cpu
    pub online : may_open v.own_word ≡ true
    pub shut : v.section ≡ None

  -- this may be stored as the own word of a processor: by its seat, if no section is open; the
  -- number seen allows it, that of processor 0 is never 0, and that of an offline one stays 0
  pub record MayStore (cpu word : ℕ) (v : View C) : Type 0 where
    pub role : v.role ≡ Cpu
    pub own : v.cpu ≡ cpu
    pub shut : v.section ≡ None
    pub bounded : is_own_word v.seen word ≡ true
    pub boot : cpu ≡ 0 → 0 < word
    pub still : 0 < word → 0 < v.own_word

  -- the store of this word may make the processor arrive: by its seat, if no section is open; the
  -- number seen allows it, and the processor's bit is set in its online mask
  pub record MayArrive (cpu word : ℕ) (v : View C) : Type 0 where
    pub role : v.role ≡ Cpu
    pub own : v.cpu ≡ cpu
    pub shut : v.section ≡ None
    pub bounded : is_own_word v.seen word ≡ true
    pub online : 0 < word
    pub announced : v.announced ≡ true

  -- the store of this number may begin a grace period: by the engine's seat, if none runs; it is
  -- the next number
  pub record MayBegin (number : Number) (v : View C) : Type 0 where
    pub engine : v.role ≡ Engine
    pub idle : is_running v.seen ≡ false
    pub next : number ≡ v.seen + 1
    pub bounded : number ≤ 2 ^ 62

  -- the store of this number may end the grace period: by the engine's seat, if one runs and each
  -- processor is cleared in it; it is the next number
  pub record MayEnd (cpus : ℕ) (number : Number) (v : View C) : Type 0 where
    pub engine : v.role ≡ Engine
    pub running : is_running v.seen ≡ true
    pub cleared : AreCleared cpus v.seen v.own_word_loads
    pub next : number ≡ v.seen + 3
