-- The ends of the requests, and an end after a step.
use Rattle.std.specs.Prelude.{◌≡◌, ℕ, ◌≤◌, ◌==◌, nat_lt, Bool, true, false, if◌then◌else◌, List}
use Rattle.std.specs.Prelude.{replicate, slice_set, suc, Option, Some, None}
use Rattle.atomic_table.specs.Seated.{TableId}
use Rattle.rcu_request.specs.declared.knowledge.Knowledge.{Knowledge}

-- the places of the greatest request, of the word by which the driver says whether it sleeps, and
-- of the one by which it says for which processor: 128 bytes apart
abbrev pub greatest_index : ℕ
greatest_index = 0

abbrev pub asleep_index : ℕ
asleep_index = 16

abbrev pub cpu_index : ℕ
cpu_index = 32

-- the word for a driver that sleeps, or does not
abbrev pub asleep_word : Bool → ℕ
asleep_word asleep = if asleep then 1 else 0

-- the word for the processor for which a driver sleeps, or none
abbrev pub cpu_word : Option ℕ → ℕ
cpu_word None = 0
cpu_word (Some cpu) = suc cpu

-- the words at first: the greatest request is the cookie 1, and the driver does not sleep
abbrev pub first_words : List ℕ
first_words = slice_set (replicate 48 0) 0 1

-- the driver at first: nothing was requested but for the cookie 1, which is done at any number
abbrev pub driver_at_first : Knowledge
driver_at_first = record {
  drives = true;
  raised = 1;
  found = 1;
  asleep = false;
  has_looked = false;
  sleeps_for = 0;
}

-- a thread at first
abbrev pub thread_at_first : Knowledge
thread_at_first = record {
  drives = false;
  raised = 1;
  found = 1;
  asleep = false;
  has_looked = false;
  sleeps_for = 0;
}

-- after the driver said whether it sleeps
abbrev pub after_saying : Knowledge → ℕ → Knowledge
after_saying v word = record v { asleep = (word == 1); has_looked = false }

-- after the driver looked at the greatest request, which was n
abbrev pub after_finding : Knowledge → ℕ → Knowledge
after_finding v n = record v { found = n; has_looked = true }

-- the relation of that look: the greatest request never falls
pub record Found (v : Knowledge) (n : ℕ) (w : Knowledge) : Type 0 where
  pub state : w ≡ after_finding v n
  pub found : v.found ≤ n
  pub raised : v.raised ≤ n

-- after a thread raised the greatest request, which was n, to the cookie, if that is greater
abbrev pub after_raise : Knowledge → ℕ → ℕ → Knowledge
after_raise v cookie n =
    if nat_lt n cookie then record v { raised = cookie; found = n; has_looked = false }
    else record v { found = n }

-- the relation of that raise
pub record Raised (cookie : ℕ) (v : Knowledge) (n : ℕ) (w : Knowledge) : Type 0 where
  pub state : w ≡ after_raise v cookie n
  pub found : v.found ≤ n
  pub raised : v.raised ≤ n

-- after a thread looked whether the driver sleeps, and found this word
abbrev pub after_look_at_driver : Knowledge → ℕ → Knowledge
after_look_at_driver v word = record v { asleep = (word == 1); has_looked = true }

-- after the driver said for which processor it sleeps, or a thread looked at that
abbrev pub knowing_cpu : Knowledge → ℕ → Knowledge
knowing_cpu v word = record v { sleeps_for = word }

-- an end of the requests: its words, and its knowledge
pub record Requesting : Type 0 where
  pub words : TableId
  pub knows : Knowledge

-- after a thread requested the cookie, if the greatest request was n, and the driver slept or not
abbrev pub after_request : Requesting → ℕ → ℕ → Bool → Requesting
after_request w cookie n asleep = record w {
  knows = if nat_lt n cookie
      then record w.knows { raised = cookie; found = n; asleep = asleep; has_looked = true }
      else record w.knows { found = n };
}

-- after the driver said whether it sleeps, and found the greatest request, n
abbrev pub after_look : Requesting → Bool → ℕ → Requesting
after_look w sleeps n = record w {
  knows = record w.knows { found = n; asleep = sleeps; has_looked = true };
}

-- after the driver said for which processor it sleeps, or a thread found it
abbrev pub after_naming : Requesting → ℕ → Requesting
after_naming w word = record w { knows = knowing_cpu w.knows word }

-- the greatest request n is at least all that the end knew of
pub record IsNoLess (w : Requesting) (n : ℕ) : Type 0 where
  pub found : w.knows.found ≤ n
  pub raised : w.knows.raised ≤ n

-- the ends as they are opened
abbrev pub requests_at_first : TableId → Requesting
requests_at_first words = record { words = words; knows = driver_at_first }

abbrev pub requester_at_first : TableId → Requesting
requester_at_first words = record { words = words; knows = thread_at_first }
