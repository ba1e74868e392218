-- Updates of the map of an engine that are made if an entry is as it was read.
use Rattle.std.specs.Prelude.{◌≡◌, ℕ, List, Option, Some, Result, Ok, Err}
use Rattle.rcu_graph.specs.declared.writer.Full.{Full}
use Rattle.rcu_map.specs.Compared.{HasComparedToRemove, HasComparedToReplace, IsAsRead}
use Rattle.rcu_map.specs.Keys.{key_in}
use Rattle.rcu_map.specs.Words.{as_words}
use Rattle.rcu_c.specs.Holding.{writer_of}
use Rattle.rcu_c.specs.MapEntries.{IsKeyed, told}
use Rattle.rcu_c.specs.Maps.{map_buckets, map_nodes, on_writer}
use Rattle.rcu_c.specs.declared.contents.Contents.{Contents}

-- the entry of this key has these words, as when it was read
abbrev pub IsAsReadInC : Option Contents → ℕ → List ℕ → Type 0
IsAsReadInC h key read = IsAsRead (map_buckets h) (map_nodes h) key read

-- the writer had to replace the entry that was read like this by this one, and these are its result
-- and its effect: nothing else of the engine changed
pub record HasComparedInC (entry read : List ℕ) (h : Option Contents)
    (result : Result (Option (List ℕ)) Full) (now : Option Contents) : Type 0 where
  pub state : now ≡ on_writer (λ _. writer_of now) h
  pub replaced : HasComparedToReplace as_words IsKeyed key_in (key_in entry) read entry
      (writer_of h) result (writer_of now)

-- the entry of the key is as it was read, and it was replaced
pub record IsReplacedInC (entry read : List ℕ) (h now : Option Contents) : Type 0 where
  pub as_read : IsAsReadInC h (key_in entry) read
  pub by : HasComparedInC entry read h (Ok (Some read)) now

-- another entry has the key, or none has it, and the buffer of C shows that
pub record IsChangedInC (entry read old : List ℕ) (h now : Option Contents) : Type 0 where
  pub another : ¬ IsAsReadInC h (key_in entry) read
  pub had : Option (List ℕ)
  pub is_told : old ≡ told read had
  pub by : HasComparedInC entry read h (Ok had) now

-- the entry is as it was read, and no node is free yet
pub record IsNotReplacedInC (entry read : List ℕ) (h now : Option Contents) : Type 0 where
  pub full : Full
  pub by : HasComparedInC entry read h (Err full) now

-- the writer had to remove the entry that was read like this, and these are its result and its
-- effect: nothing else of the engine changed
pub record HasComparedToRemoveInC (read : List ℕ) (h : Option Contents) (had : Option (List ℕ))
    (now : Option Contents) : Type 0 where
  pub state : now ≡ on_writer (λ _. writer_of now) h
  pub removed : HasComparedToRemove as_words IsKeyed key_in (key_in read) read (writer_of h) had
      (writer_of now)

-- the entry of the key is as it was read, and it was removed
pub record IsRemovedInC (read : List ℕ) (h now : Option Contents) : Type 0 where
  pub as_read : IsAsReadInC h (key_in read) read
  pub by : HasComparedToRemoveInC read h (Some read) now

-- another entry has the key, or none has it, and the buffer of C shows that
pub record IsNotRemovedInC (read old : List ℕ) (h now : Option Contents) : Type 0 where
  pub another : ¬ IsAsReadInC h (key_in read) read
  pub had : Option (List ℕ)
  pub is_told : old ≡ told read had
  pub by : HasComparedToRemoveInC read h had now
