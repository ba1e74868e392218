-- The views of seats: at the start, as they are dealt, and after each kind of step.
use Rattle.std.specs.Prelude.{◌≡◌, ℕ, zero, suc, ◌+◌, ◌-◌, ◌/◌, ◌%◌, ◌^◌, ◌<◌, ◌≤◌, List, []}
use Rattle.std.specs.Prelude.{◌∷◌, Option, Some, None, Bool, true, false, not, length, min}
use Rattle.std.specs.Prelude.{if◌then◌else◌}
use Rattle.std.specs.Int.{trailing_zeros, w64}
use Rattle.rcu_seq.specs.Numbers.{Number}
use Rattle.rcu_live.specs.Client.{ClientView}
use Rattle.rcu_live.specs.Numbers.{is_number_word, is_past}
use Rattle.rcu_live.specs.Words.{base_of, first_own_word, own_word_index}
use Rattle.rcu_live.specs.declared.view.Role.{Role}
use Rattle.rcu_live.specs.declared.view.Role.TheVariants.{Cpu, Watcher, Engine, Asker}
use Rattle.rcu_live.specs.declared.view.View.{View}

-- this for a processor's seat, none for another
abbrev pub if_cpu : Role → Option ℕ → Option ℕ
if_cpu Cpu o = o
if_cpu Watcher o = None
if_cpu Engine o = None
if_cpu Asker o = None

-- how many processors from this one on, in a row, have no bit in their online mask, among the 64
-- that share it and the existing ones
abbrev pub absent_from : ℕ → ℕ → ℕ → ℕ
absent_from mask cpu cpus =
    min (trailing_zeros w64 (mask / 2 ^ (cpu % 64))) (min (64 - cpu % 64) (cpus - cpu))

-- after other loads of own words, those of this number of processors from one on, in turn, which
-- found 0
abbrev pub offline_loads : ℕ → ℕ → List (ℕ × ℕ) → List (ℕ × ℕ)
offline_loads from zero earlier = earlier
offline_loads from (suc more) earlier =
    (own_word_index (from + more), 0) ∷ offline_loads from more earlier

module _ {C : Type 0} where
  -- the part of a seat that a client is shown
  abbrev pub client_view : View C → ClientView C
  client_view v = (if_cpu v.role (Some v.cpu), if_cpu v.role v.section, v.client)

  -- a seat that has seen nothing
  abbrev pub fresh : Role → ℕ → ℕ → ℕ → C → View C
  fresh role cpu own_word base c = record {
    role = role;
    cpu = cpu;
    seen = 0;
    loads = 0;
    stores = 0;
    looks = 0;
    answered = false;
    own_word = own_word;
    section = None;
    own_word_loads = [];
    announced = false;
    base = base;
    client = c;
  }

  -- the engine's seat after the processors below n got theirs; the first seat of all has n = 0
  abbrev pub engine_seat : ℕ → ℕ → C → View C
  engine_seat cpus n c = fresh Engine n 0 (base_of cpus) c

  -- it is the engine's seat
  abbrev pub IsOfEngine : View C → Type 0
  IsOfEngine v = v.role ≡ Engine

  -- it is a watcher's seat
  abbrev pub IsOfWatcher : View C → Type 0
  IsOfWatcher v = v.role ≡ Watcher

  -- a processor's seat as it is dealt: its own word is as at the start
  abbrev pub cpu_seat : ℕ → ℕ → C → View C
  cpu_seat base cpu c = fresh Cpu cpu (first_own_word cpu) base c

  -- a watcher's seat as it is dealt
  abbrev pub watcher_seat : ℕ → C → View C
  watcher_seat base c = fresh Watcher 0 0 base c

  -- an asking of a processor whose seat had stored this often
  abbrev pub asking_of : ℕ → ℕ → ℕ → C → View C
  asking_of cpu stores base c = record (fresh Asker cpu 0 base c) { stores = stores }

  -- seat split: the engine's seat after the next processor's is dealt
  abbrev pub after_deal : View C → View C
  after_deal v = record v { cpu = v.cpu + 1 }

  -- and the seat that is dealt
  abbrev pub next_cpu_seat : C → View C → View C
  next_cpu_seat c v = cpu_seat v.base v.cpu c

  -- the knowledge about the client is handed over to a watcher's seat: the seat after that
  abbrev pub after_hand : C → View C → View C
  after_hand idle v = record v { client = idle }

  -- and the seat that has it
  abbrev pub handed_seat : View C → View C
  handed_seat v = watcher_seat v.base v.client

  -- after a number load that saw n
  abbrev pub after_load : View C → Number → View C
  after_load v n = record v { seen = n; loads = v.loads + 1 }

  -- after a section-opening load that saw n
  abbrev pub after_open : View C → Number → View C
  after_open v n = record v { seen = n; loads = v.loads + 1; section = Some n }

  -- after a section-closing load that saw n; the client keeps a part of its knowledge
  abbrev pub after_close : (C → C) → View C → Number → View C
  after_close closed v n = record v {
    seen = n;
    loads = v.loads + 1;
    section = None;
    client = closed v.client;
  }

  -- after a store of the own word: one store more, which no look has followed yet
  abbrev pub after_store : View C → ℕ → View C
  after_store v word = record v { stores = v.stores + 1; answered = false; own_word = word }

  -- after a load of which processor is asked, which found this seat's or not
  abbrev pub after_asked_load : View C → Bool → View C
  after_asked_load v is_asked = record v { looks = v.looks + 1; answered = not is_asked }

  -- after the seat took the asking of its processor back
  abbrev pub after_take_back : View C → View C
  after_take_back v = record v { answered = true }

  -- after what follows a store that reports: by an engine on which waiters sleep, one load of which
  -- processor is asked, and the asking is taken back if that load found this seat's
  abbrev pub after_waking : Bool → View C → View C
  after_waking wakes v = record v {
    looks = if wakes then v.looks + 1 else v.looks;
    answered = if wakes then true else v.answered;
  }

  -- after the processor's bit was set in its online mask
  abbrev pub after_announcement : View C → View C
  after_announcement v = record v { announced = true }

  -- after the store by which the processor arrives
  abbrev pub after_arrive_store : View C → ℕ → View C
  after_arrive_store v word = record (after_store v word) { announced = false }

  -- the relation of a number load: one more load, which saw n, a number that is at least all that
  -- the seat saw before; if a section is open then, it began no later than the seat saw, and no
  -- full grace period passed since
  pub record Loaded (v : View C) (n : Number) (w : View C) : Type 0 where
    pub view : w ≡ after_load v n
    pub later : v.seen ≤ n
    pub number : is_number_word n ≡ true
    pub began : v.role ≡ Cpu → (at : Number) → v.section ≡ Some at → at ≤ v.seen
    pub current : v.role ≡ Cpu → (at : Number) → v.section ≡ Some at → is_past at n ≡ false

  -- the relation of a section-opening load
  pub record Opened (v : View C) (n : Number) (w : View C) : Type 0 where
    pub view : w ≡ after_open v n
    pub later : v.seen ≤ n
    pub number : is_number_word n ≡ true

  -- the relation of a section-closing load
  pub record Closed (closed : C → C) (v : View C) (n : Number) (w : View C) : Type 0 where
    pub view : w ≡ after_close closed v n
    pub later : v.seen ≤ n
    pub number : is_number_word n ≡ true

  -- after a processor-word load: one more load, which found a word at a place
  abbrev pub after_own_word_load : View C → ℕ → ℕ → View C
  after_own_word_load v at word = record v {
    loads = v.loads + 1;
    own_word_loads = (at, word) ∷ v.own_word_loads;
  }

  -- after one load that found the own words of this number of processors from one on to be 0: it
  -- counts as a load of each
  abbrev pub found_offline : View C → ℕ → ℕ → View C
  found_offline v from more = record v {
    loads = v.loads + more;
    own_word_loads = offline_loads from more v.own_word_loads;
  }

  -- after a load of the online mask of the first processor whose own word was not loaded since the
  -- latest begin: the own words of the processors without a bit in it, from that one on in a row,
  -- are 0
  abbrev pub after_online_mask_load : View C → ℕ → View C
  after_online_mask_load v mask =
      let next = length v.own_word_loads in found_offline v next (absent_from mask next v.cpu)

  -- after a begin store of the number n: the words found before it are dropped
  abbrev pub after_begin_store : View C → Number → View C
  after_begin_store v n = record v { seen = n; own_word_loads = [] }

  -- after an end store of the number n
  abbrev pub after_end_store : View C → Number → View C
  after_end_store v n = record v { seen = n }

  -- the relation of a processor-word load: one more load, which found the word; that of processor 0
  -- is never 0
  pub record OwnWordLoaded (at : ℕ) (v : View C) (word : ℕ) (w : View C) : Type 0 where
    pub view : w ≡ after_own_word_load v at word
    pub boot : at ≡ own_word_index 0 → 0 < word

  -- with this knowledge about the client
  abbrev pub with_client : View C → C → View C
  with_client v c = record v { client = c }

  -- the relation of a client's step on the word at a place, which found or stored n: that of this
  -- word among the client's
  abbrev pub SteppedOnWord : (ℕ → C → ℕ → C → Type 0) → ℕ → View C → ℕ → View C → Type 0
  SteppedOnWord tells at v n w =
      (w ≡ with_client v w.client) × ((p : ℕ) → at ≡ v.base + p → tells p v.client n w.client)

  -- the relation of a client's load of the number
  abbrev pub SteppedOnNumber : (C → Number → C → Type 0) → View C → Number → View C → Type 0
  SteppedOnNumber tells v n w =
      (w ≡ with_client (after_load v n) w.client)
      × (v.seen ≤ n)
      × (is_number_word n ≡ true)
      × tells v.client n w.client
